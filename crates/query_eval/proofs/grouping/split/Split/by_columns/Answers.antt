-- The spans or slices, and then the rows that are left.
use Rattle.std.proofs.Common.{refl}
use Rattle.query_eval.proofs.SliceLemmas.{left_within, not_by_code, split_all}
use Rattle.query_eval.proofs.grouping.split.Split.by_columns.Goals as goal

pub returns-clause-codes : goal.returns-clause-codes
returns-clause-codes c = not_by_code _ refl

pub returns-clause-placed : goal.returns-clause-placed
returns-clause-placed c = λ by v shown h.
    let kept = c.args.self.now.kept in
    let middle = c.slice_rows.new.places.index.entries in
    let sliced = c.in_ok-left.ensures.sliced by v shown h in
    split_all by v kept c.args.places.now.index.entries middle c.place_each.new.places.index.entries _ sliced
    (c.in_ok-place_each.ensures.placed by v (λ n l on. shown n l (left_within by v middle kept c.in_ok-left.left _ sliced.parted n l on)) (c.in_ok-left.ensures.index h))
