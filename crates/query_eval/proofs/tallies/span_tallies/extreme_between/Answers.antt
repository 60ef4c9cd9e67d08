-- Where the greatest isn't the least number, or a row is there, it is that of some values.
use Rattle.std.proofs.Common.{rules, ◌≡◌, ◌≢◌, [], List, ℤ, Some, FitsSigned, w64, of_z, ap, ◌∙◌, arith}
use Rattle.std.proofs.lemmas.Int.{to_z-of_z}
use Rattle.table_model.specs.Extreme.{turned}
use Rattle.query_eval.specs.Forms.{least_number}
use Rattle.query_eval.specs.Slices.{rows_between, values_at}
use Rattle.query_eval.proofs.ExtremeLemmas.{extreme_none, extreme_some}
use Rattle.query_eval.proofs.SpanTallyLemmas.{none_between, some_between}
use Rattle.query_eval.proofs.tallies.span_tallies.extreme_between.Goals.{else-top-via-then-top+else-end-next_true, else-top-via-else-top}
use Rattle.query_eval.proofs.tallies.span_tallies.extreme_between.Goals as goal

pub returns-then-end-next_true : goal.returns-then-end-next_true
returns-then-end-next_true c = λ values are.
    extreme_none c.args.extreme (values_at (rows_between c.args.rows.now c.args.first c.args.end) values)
    (none_between c.args.rows.now c.args.first c.args.end c.requires.within c.requires.order values (λ n h l. c.next_true.ensures.none n h (omega (arith, l, c.if-end-next_true.true))))

pub returns : goal.returns
returns c = λ values are.
    let zs : List ℤ = values_at (rows_between c.args.rows.now c.args.first c.args.end) values in
    let top = c.top_between-top.result in
    let fits : FitsSigned w64 top = search rules in
    let now : FitsSigned w64 c.turned.result = search rules in
    let some : top ≡ least_number → zs ≢ [] =
    elim c.else-top.branch [
      | else-top-via-then-top+else-end-next_true w ↦
          λ m.
          some_between c.args.rows.now c.args.first c.args.end c.requires.within c.requires.order values w.next_true.result w.next_true.ensures.order w.if-end-next_true.false (w.next_true.ensures.here (omega (arith, w.if-end-next_true.false, c.requires.within)))
      | else-top-via-else-top w ↦ λ m e. absurd (w.if-top.false (ap (of_z w64) m))
    ] in
    ap Some (to_z-of_z w64 c.turned.result now ∙ c.turned.ensures ∙ ap (turned c.args.extreme) (to_z-of_z w64 top fits))
    ∙ extreme_some c.args.extreme zs top (c.top_between-top.ensures c.args.extreme c.args.rows.now values are) some
