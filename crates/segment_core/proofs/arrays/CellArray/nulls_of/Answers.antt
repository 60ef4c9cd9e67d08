-- The bytes are the part's, and no row past them is null.
use Rattle.std.proofs.Common.{◌≡◌, ◌+◌, ◌*◌, length, get_or, sym, ap, ◌∙◌, refl, arith}
use Rattle.std.proofs.lemmas.Bool.{eqb-true, eqb-false}
use Rattle.segment_core.specs.Arrays.{ArrayForm}
use Rattle.segment_core.proofs.ArrayLemmas.{HasBytesOf, front_of, nulls_from_bytes, no_nulls, bits_reach}
use Rattle.segment_core.proofs.arrays.CellArray.nulls_of.Goals as goal

pub returns-then-is_empty : goal.returns-then-is_empty
returns-then-is_empty c =
    let none : length c.args.self.now.valid ≡ 0 = ap (λ (a : ArrayForm). length a.valid) (sym c.self.view_is) ∙ eqb-true (length c.self.inside.valid.now) 0 (sym c.is_empty.ensures ∙ c.if-is_empty.true) in
    c.none.ensures ∙ no_nulls c.args.self.now c.args.k c.args.rows none

pub returns : goal.returns
returns c =
    let a : ArrayForm = c.args.self.now in
    let same : length c.self.inside.valid.now ≡ length a.valid = ap (λ (x : ArrayForm). length x.valid) c.self.view_is in
    let wide : length c.self.inside.values.now ≡ length a.values = ap (λ (x : ArrayForm). length x.values) c.self.view_is in
    let reach = bits_reach (record { values = c.self.inside.values.now; valid = c.self.inside.valid.now }) c.self.invariant c.if-is_empty.ensures in
    let bytes : HasBytesOf a c.args.k c.args.rows c.put_bytes.new.mask = record {
      some = λ e. eqb-false (length c.self.inside.valid.now) 0 (sym c.if-is_empty.ensures) (same ∙ e);
      few = c.requires.few;
      read = λ i l.
          front_of c.put_bytes.new.mask c.self.inside.valid.now (128 * c.args.k) (128 * c.args.k + c.div_ceil.result) c.div_ceil.result 0 refl (omega (arith, reach, wide, c.requires.within, c.div_ceil.ensures)) c.put_bytes.ensures i (omega (arith, c.div_ceil.ensures))
          ∙ ap (λ (x : ArrayForm). get_or x.valid (128 * c.args.k + i) 0) c.self.view_is;
    } in
    nulls_from_bytes a c.args.k c.args.rows c.put_bytes.new.mask c.from_le_bytes.result c.not-nulls.result c.set_range.new.self bytes c.from_le_bytes.ensures.value c.not-nulls.ensures c.set_range.ensures
