-- The numbers are the part's.
use Rattle.std.proofs.Common.{◌≡◌, length, ℤ, List, Option, IfOk, sym, ap, subst, arith}
use Rattle.segment_core.specs.Arrays.{ArrayForm, array_cells}
use Rattle.segment_core.specs.Fill.{AreCellsInRange}
use Rattle.segment_core.specs.CodedVector.{canonical_vector}
use Rattle.segment_core.proofs.ArrayLemmas.{part_of, part_cells_are, part_nulls_are}
use Rattle.segment_core.proofs.BuildLemmas.{part_in_range}
use Rattle.segment_core.proofs.arrays.CellArray.canonical_part.Goals as goal

pub overflow_mul-first : goal.overflow_mul-first
overflow_mul-first c =
    let same = ap (λ (a : ArrayForm). length a.values) c.self.view_is in
    omega (arith, same, c.requires.within)

pub canonical-requires-clause-nulls : goal.canonical-requires-clause-nulls
canonical-requires-clause-nulls c =
    part_nulls_are c.args.self.now c.args.k c.min-rows.result c.nulls_of-nulls.result c.put_numbers.new.values (part_of c.args.self.now (record { values = c.self.inside.values.now; valid = c.self.inside.valid.now }) c.args.k c.min-rows.result c.nulls_of-nulls.result c.put_numbers.new.values c.self.view_is c.min-rows.ensures c.requires.within c.nulls_of-nulls.ensures c.put_numbers.ensures)

pub canonical-requires-clause-fit : goal.canonical-requires-clause-fit
canonical-requires-clause-fit c =
    subst (AreCellsInRange c.args.lane_width) (sym (part_cells_are c.args.self.now c.args.k c.min-rows.result c.nulls_of-nulls.result c.put_numbers.new.values (part_of c.args.self.now (record { values = c.self.inside.values.now; valid = c.self.inside.valid.now }) c.args.k c.min-rows.result c.nulls_of-nulls.result c.put_numbers.new.values c.self.view_is c.min-rows.ensures c.requires.within c.nulls_of-nulls.ensures c.put_numbers.ensures)))
    (part_in_range c.args.lane_width (array_cells c.args.self.now) c.args.k c.requires.fit)

pub returns : goal.returns
returns c =
    subst (λ (cells : List (Option ℤ)). IfOk c.canonical.result (λ vector. vector ≡ canonical_vector c.args.lane_width cells))
    (part_cells_are c.args.self.now c.args.k c.min-rows.result c.nulls_of-nulls.result c.put_numbers.new.values (part_of c.args.self.now (record { values = c.self.inside.values.now; valid = c.self.inside.valid.now }) c.args.k c.min-rows.result c.nulls_of-nulls.result c.put_numbers.new.values c.self.view_is c.min-rows.ensures c.requires.within c.nulls_of-nulls.ensures c.put_numbers.ensures)) c.canonical.ensures
