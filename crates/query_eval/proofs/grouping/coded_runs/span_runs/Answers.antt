-- A run that has a row of the mask is one span more, and else the rows that are left stay the same.
use Rattle.std.proofs.Common.{rules, ◌+◌, ◌<◌, ◌≤◌, ◌∷◌, [], suc, ℤ, Bool, List, Some, get_or, pos, FitsSigned, w64, sym, ap, subst, ◌∙◌, arith}
use Rattle.std.proofs.lemmas.Int.{to_z-of_z}
use Rattle.transpose_order.specs.Mask.{has}
use Rattle.transpose_order.proofs.MaskLemmas.{count_below-le, count_below-zero}
use Rattle.query_eval.specs.Places.{IsIndex, IsTakenIn}
use Rattle.query_eval.specs.Slices.{AreSliced, slices_of_spans}
use Rattle.query_eval.specs.declared.grouping.places.Places.{Places}
use Rattle.query_eval.specs.declared.grouping.split.Span.{Span}
use Rattle.query_eval.proofs.SpanLemmas.{from_later, from_none, rows_from, run_next, run_steady, spanned_more, spanned_none}
use Rattle.query_eval.proofs.grouping.coded_runs.span_runs.Goals as goal
use Rattle.query_eval.proofs.grouping.coded_runs.span_runs.Goals.{then-row-end+in_ok-place+in_ok-push, else-row-end}

pub loop-run-init : goal.loop-run-init
loop-run-init c = record {
  order = c.next_true-row.ensures.order;
  within = c.next_true-row.ensures.within;
  here = c.next_true-row.ensures.here;
  none = c.next_true-row.ensures.none;
  run = λ l. count_below-zero (λ i. has c.args.starts.now (suc i));
  index = λ h. h;
  spanned = λ by v shown h. spanned_none by v c.args.mask.now c.args.places.now.index.entries c.clear.new.self.items c.keeps_1024_rows.ensures c.clear.ensures.items;
}

pub loop-run-preserved : goal.loop-run-preserved
loop-run-preserved c =
    let inv = c.loop-run.invariant in
    let mask = c.args.mask.now in
    let starts = c.args.starts.now in
    let values = c.args.values.now in
    let old = c.args.places.now.index.entries in
    let start = c.loop-run.start in
    let row = c.loop-run.row in
    let end = c.next_true-end.result in
    let begun : start < 1024 = omega (arith, inv.order, inv.within, c.if-row-eq1024.false) in
    let order : start < end = omega (arith, c.next_true-end.ensures.order) in
    elim c.if-row-end.branch [
      | then-row-end+in_ok-place+in_ok-push w ↦
          let next = w.next_true-row-then-row-end.ensures in
          let value = get_or values c.loop-run.run (pos 0) in
          let fits : FitsSigned w64 value = search rules in
          record {
            order = omega (arith, w.row-is, next.order);
            within = omega (arith, w.row-is, next.within);
            here = λ l. ap (has mask) w.row-is ∙ next.here (omega (arith, l, w.row-is));
            none = λ n a b. next.none n a (omega (arith, b, w.row-is));
            run = λ l. run_next starts start end order (c.next_true-end.ensures.here l) c.next_true-end.ensures.none ∙ ap (λ r. r + 1) (inv.run begun);
            index = λ h. subst IsIndex (sym w.places-is) (w.in_ok-place.ensures.index (inv.index h));
            spanned = λ by v shown h.
                subst (λ (p : Places). AreSliced by v mask (rows_from mask end) old p.index.entries (slices_of_spans mask c.if-row-end.spans.items)) (sym w.places-is)
                (spanned_more by v mask start row end (Some value ∷ []) inv.order w.if-row-end.true inv.none
                (λ n a b on. ap (λ r. Some (get_or values r (pos 0)) ∷ []) (sym (run_steady starts start end n (omega (arith, inv.order, a)) b c.next_true-end.ensures.none ∙ inv.run begun)) ∙ shown n (omega (arith, b, c.next_true-end.ensures.within)) on)
                old c.loop-run.places.index.entries w.of_row.new.self.index.entries c.loop-run.spans.items c.if-row-end.spans.items w.in_ok-place.place c.next_true-end.ensures.within (inv.here (omega (arith, inv.within, c.if-row-eq1024.false))) (inv.spanned by v shown h)
                (subst (λ (z : ℤ). IsTakenIn (Some z ∷ []) w.in_ok-place.place c.loop-run.places.index.entries w.of_row.new.self.index.entries) (to_z-of_z w64 value fits) (w.in_ok-place.ensures.taken (inv.index h)))
                (ap (λ s. s.items) w.spans-is ∙ w.in_ok-push.ensures.items));
          }
      | else-row-end w ↦
          let past : end ≤ row = omega (arith, w.if-row-end.false) in
          record {
            order = omega (arith, w.row-is, past);
            within = omega (arith, w.row-is, inv.within);
            here = λ l. ap (has mask) w.row-is ∙ inv.here (omega (arith, l, w.row-is));
            none = λ n a b. inv.none n (omega (arith, a, order)) (omega (arith, b, w.row-is));
            run = λ l. run_next starts start end order (c.next_true-end.ensures.here l) c.next_true-end.ensures.none ∙ ap (λ r. r + 1) (inv.run begun);
            index = λ h. subst IsIndex (sym w.places-is) (inv.index h);
            spanned = λ by v shown h.
                subst (λ (p : Places). AreSliced by v mask (rows_from mask end) old p.index.entries (slices_of_spans mask c.if-row-end.spans.items)) (sym w.places-is)
                (subst (λ (spans : List Span). AreSliced by v mask (rows_from mask end) old c.loop-run.places.index.entries (slices_of_spans mask spans)) (sym (ap (λ s. s.items) w.spans-is))
                (subst (λ (left : List Bool). AreSliced by v mask left old c.loop-run.places.index.entries (slices_of_spans mask c.loop-run.spans.items)) (from_later mask start end (omega (arith, order)) (λ n a b. inv.none n a (omega (arith, b, past))))
                (inv.spanned by v shown h)));
          }
    ]

-- once no row is left
pub returns-then-row-eq1024-clause-spanned : goal.returns-then-row-eq1024-clause-spanned
returns-then-row-eq1024-clause-spanned c = λ by v shown h.
    let inv = c.loop-run.invariant in
    subst (λ (left : List Bool). AreSliced by v c.args.mask.now left c.args.places.now.index.entries c.loop-run.places.index.entries (slices_of_spans c.args.mask.now c.loop-run.spans.items)) (from_none c.args.mask.now c.loop-run.start (λ n a b. inv.none n a (omega (arith, b, c.if-row-eq1024.true)))) (inv.spanned by v shown h)

-- there are no more runs than rows
pub returns-clause-spanned : goal.returns-clause-spanned
returns-clause-spanned c = λ by v shown h.
    let inv = c.loop-run.invariant in
    let most = count_below-le (λ i. has c.args.starts.now (suc i)) c.loop-run.start in
    subst (λ (left : List Bool). AreSliced by v c.args.mask.now left c.args.places.now.index.entries c.loop-run.places.index.entries (slices_of_spans c.args.mask.now c.loop-run.spans.items)) (from_none c.args.mask.now c.loop-run.start (λ n a b. absurd (omega (arith, a, b, most, inv.run (omega (arith, a, b)), c.loop-run-test.false)))) (inv.spanned by v shown h)
