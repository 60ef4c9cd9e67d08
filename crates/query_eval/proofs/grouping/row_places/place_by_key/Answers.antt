-- One row more.
use Rattle.std.proofs.Common.{true, false, ◌≡◌, ◌+◌, ℕ, length, length-set, sym, subst, ap, ◌∙◌, arith}
use Rattle.transpose_order.specs.Mask.{has}
use Rattle.query_eval.specs.Places.{ArePlaced, IsIndex}
use Rattle.query_eval.specs.declared.grouping.places.Places.{Places}
use Rattle.query_eval.proofs.PlaceLemmas.{placed_left, placed_more}
use Rattle.query_eval.proofs.grouping.row_places.place_by_key.Goals as goal
use Rattle.query_eval.proofs.grouping.row_places.place_by_key.Goals.{then-get+in_ok-read_key+in_ok-place, else-get}

pub loop-row-preserved : goal.loop-row-preserved
loop-row-preserved c =
    let n = c.loop-row.row in
    let mask = c.args.mask.now in
    let old = c.args.places.now.index.entries in
    let inv = c.loop-row.invariant in
    elim c.if-get.branch [
      | then-get+in_ok-read_key+in_ok-place w ↦
          let on : has mask n ≡ true = sym c.get.ensures ∙ w.if-get.true in
          record {
            long = ap length w.out-is ∙ length-set c.loop-row.out n w.in_ok-place.place ∙ inv.long;
            index = λ h. subst IsIndex (sym w.places-is) (w.in_ok-place.ensures.index (inv.index h));
            placed = λ by v shown h.
                subst (λ (p : Places). ArePlaced (n + 1) by v mask old p.index.entries c.if-get.out) (sym w.places-is)
                (placed_more n by v mask old c.loop-row.places.index.entries c.loop-row.out (inv.placed by v shown h) w.of_key.new.self.index.entries w.read_key.new.key w.in_ok-place.place c.if-get.out on (w.in_ok-read_key.ensures ∙ shown n c.loop-row-test.true on) (w.in_ok-place.ensures.taken) (omega (arith, c.loop-row-test.true, inv.long)) w.out-is);
          }
      | else-get w ↦
          let off : has mask n ≡ false = sym c.get.ensures ∙ w.if-get.false in
          record {
            long = ap length w.out-is ∙ inv.long;
            index = λ h. subst IsIndex (sym w.places-is) (inv.index h);
            placed = λ by v shown h.
                subst (λ (p : Places). ArePlaced (n + 1) by v mask old p.index.entries c.if-get.out) (sym w.places-is)
                (subst (ArePlaced (n + 1) by v mask old c.loop-row.places.index.entries) (sym w.out-is) (placed_left n by v mask old c.loop-row.places.index.entries c.loop-row.out (inv.placed by v shown h) off));
          }
    ]

pub returns-clause-placed : goal.returns-clause-placed
returns-clause-placed c = λ by v shown h.
    let e : c.loop-row.row ≡ 1024 = omega (arith, c.loop-row-test.false, c.loop-row.auto.row-end) in
    subst (λ (k : ℕ). ArePlaced k by v c.args.mask.now c.args.places.now.index.entries c.loop-row.places.index.entries c.loop-row.out) e (c.loop-row.invariant.placed by v shown h)
