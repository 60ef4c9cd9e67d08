-- One run more.
use Rattle.std.proofs.Common.{◌<◌, ◌∙◌, Bool, List, map, sym, subst, arith}
use Rattle.query_eval.specs.Keys.{key_cell}
use Rattle.query_eval.specs.Slices.{AreSliced, slices_of_spans}
use Rattle.query_eval.proofs.SliceLemmas.{run_same}
use Rattle.query_eval.proofs.SpanLemmas.{from_cut, from_none, spanned_more, spanned_none}
use Rattle.query_eval.proofs.grouping.slices.slice_runs.Goals as goal

pub loop-init : goal.loop-init
loop-init c = record {
  within = omega arith;
  index = λ h. h;
  spanned = λ by v shown h. spanned_none by v c.args.mask.now c.args.places.now.index.entries c.clear.new.self.items c.keeps_1024_rows.ensures c.clear.ensures.items;
}

pub returns-then-first-eq1024-clause-spanned : goal.returns-then-first-eq1024-clause-spanned
returns-then-first-eq1024-clause-spanned c = λ by v shown h.
    subst (λ (left : List Bool). AreSliced by v c.args.mask.now left c.args.places.now.index.entries c.loop.places.index.entries (slices_of_spans c.args.mask.now c.loop.spans.items))
    (from_none c.args.mask.now c.loop.start (λ n a b. c.next_true-first.ensures.none n a (omega (arith, b, c.if-first-eq1024.true))) ∙ sym c.none.ensures) (c.loop.invariant.spanned by v shown h)

pub loop-preserved : goal.loop-preserved
loop-preserved c =
    let inv = c.loop.invariant in
    let columns = c.args.columns.now in
    let first = c.next_true-first.result in
    let end = c.next_true-end.result in
    let inside : first < 1024 = omega (arith, c.next_true-first.ensures.within, c.if-first-eq1024.false) in
    record {
      within = c.next_true-end.ensures.within;
      index = λ h. c.in_ok-place.ensures.index (inv.index h);
      spanned = λ by v shown h.
          spanned_more by v c.args.mask.now c.loop.start first end (map (λ column. key_cell column first) columns) c.next_true-first.ensures.order (omega (arith, c.next_true-end.ensures.order)) c.next_true-first.ensures.none
          (λ n a b on. sym (run_same columns c.args.changes.now first end c.next_true-end.ensures.within c.requires c.next_true-end.ensures.none n a b) ∙ shown n (omega (arith, b, c.next_true-end.ensures.within)) on)
          c.args.places.now.index.entries c.loop.places.index.entries c.place_of.new.places.index.entries c.loop.spans.items c.push.new.self.items c.in_ok-place.place c.next_true-end.ensures.within (c.next_true-first.ensures.here inside) (inv.spanned by v shown h) (c.in_ok-place.ensures.taken (inv.index h))
          c.in_ok-push.ensures.items;
    }

pub returns-clause-spanned : goal.returns-clause-spanned
returns-clause-spanned c = λ by v shown h.
    subst (λ (left : List Bool). AreSliced by v c.args.mask.now left c.args.places.now.index.entries c.loop.places.index.entries (slices_of_spans c.args.mask.now c.loop.spans.items))
    (sym (c.set_range.ensures ∙ from_cut c.args.mask.now c.loop.start)) (c.loop.invariant.spanned by v shown h)
