-- One row more.
use Rattle.std.proofs.Common.{rules, FitsSigned, w64, true, false, cond, pos, ◌≡◌, ◌+◌, ◌<◌, ◌∷◌, [], ℕ, ℤ, Bool, Option, None, Some, length, length-set, get_or, sym, subst, ap, ◌∙◌, arith}
use Rattle.std.proofs.lemmas.Int.{to_z-of_z}
use Rattle.transpose_order.specs.Mask.{has}
use Rattle.query_eval.specs.Places.{ArePlaced, IsIndex, IsTakenIn}
use Rattle.query_eval.specs.declared.grouping.places.Places.{Places}
use Rattle.query_eval.proofs.PlaceLemmas.{placed_left, placed_more}
use Rattle.query_eval.proofs.grouping.row_places.place_word.Goals as goal
use Rattle.query_eval.proofs.grouping.row_places.place_word.Goals.{then-is_set+in_ok-place, else-is_set}

pub loop-bit-preserved : goal.loop-bit-preserved
loop-bit-preserved c =
    let n = c.args.first + c.loop-bit.bit in
    let within : n < 1024 = omega (arith, c.requires, c.loop-bit-test.true) in
    let next : n + 1 ≡ c.args.first + (c.loop-bit.bit + 1) = omega arith in
    let values = c.args.values.now in
    let inv = c.loop-bit.invariant in
    elim c.if-is_set.branch [
      | then-is_set+in_ok-place w ↦
          let fits : FitsSigned w64 (get_or values n (pos 0)) = search rules in
          record {
            long = ap length w.out-is ∙ length-set c.loop-bit.out n w.in_ok-place.place ∙ inv.long;
            index = λ h. subst IsIndex (sym w.places-is) (w.in_ok-place.ensures.index (inv.index h));
            placed = λ by v mask nulls before shown bits null_bits h first.
                let on : has mask n ≡ true = sym (bits c.loop-bit.bit c.loop-bit-test.true) ∙ sym c.is_set.ensures ∙ w.if-is_set.true in
                let cell : Option ℤ = cond (has nulls n) None (Some (get_or values n (pos 0))) in
                let taken = subst (λ (b : Bool). IsTakenIn (cond b None (Some (get_or values n (pos 0))) ∷ []) w.in_ok-place.place c.loop-bit.places.index.entries w.of_row.new.self.index.entries) (w.is_set-null.ensures ∙ null_bits c.loop-bit.bit c.loop-bit-test.true)
                (subst (λ (z : ℤ). IsTakenIn (cond w.is_set-null.result None (Some z) ∷ []) w.in_ok-place.place c.loop-bit.places.index.entries w.of_row.new.self.index.entries) (to_z-of_z w64 (get_or values n (pos 0)) fits) (w.in_ok-place.ensures.taken (inv.index h))) in
                subst (λ (k : ℕ). ArePlaced k by v mask before c.if-is_set.places.index.entries c.if-is_set.out) next
                (subst (λ (p : Places). ArePlaced (n + 1) by v mask before p.index.entries c.if-is_set.out) (sym w.places-is)
                (placed_more n by v mask before c.loop-bit.places.index.entries c.loop-bit.out (inv.placed by v mask nulls before shown bits null_bits h first) w.of_row.new.self.index.entries (cell ∷ []) w.in_ok-place.place c.if-is_set.out on (shown n within on) taken (omega (arith, within, inv.long)) w.out-is));
          }
      | else-is_set w ↦
          record {
            long = ap length w.out-is ∙ inv.long;
            index = λ h. subst IsIndex (sym w.places-is) (inv.index h);
            placed = λ by v mask nulls before shown bits null_bits h first.
                let off : has mask n ≡ false = sym (bits c.loop-bit.bit c.loop-bit-test.true) ∙ sym c.is_set.ensures ∙ w.if-is_set.false in
                subst (λ (k : ℕ). ArePlaced k by v mask before c.if-is_set.places.index.entries c.if-is_set.out) next
                (subst (λ (p : Places). ArePlaced (n + 1) by v mask before p.index.entries c.if-is_set.out) (sym w.places-is)
                (subst (ArePlaced (n + 1) by v mask before c.loop-bit.places.index.entries) (sym w.out-is) (placed_left n by v mask before c.loop-bit.places.index.entries c.loop-bit.out (inv.placed by v mask nulls before shown bits null_bits h first) off)));
          }
    ]

pub returns-clause-placed : goal.returns-clause-placed
returns-clause-placed c = λ by v mask nulls before shown bits null_bits h first.
    let e : c.args.first + c.loop-bit.bit ≡ c.args.first + 64 = omega (arith, c.loop-bit-test.false, c.loop-bit.auto.bit-end) in
    subst (λ (k : ℕ). ArePlaced k by v mask before c.loop-bit.places.index.entries c.loop-bit.out) e (c.loop-bit.invariant.placed by v mask nulls before shown bits null_bits h first)
