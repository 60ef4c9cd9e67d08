-- One row more.
use Rattle.std.proofs.Common.{true, false, ◌≡◌, ◌+◌, ◌++◌, ℕ, cond, List, [], ◌∷◌, map, Option, Some, None, sym, ap, ◌∙◌, arith, append_assoc, append-nil}
use Rattle.std.specs.List.{range_with_len}
use Rattle.table_model.specs.Values.{present}
use Rattle.table_model.specs.declared.names.RowName.{RowName}
use Rattle.transpose_order.specs.Mask.{rows_of, has}
use Rattle.query_eval.specs.Kept.{names_at}
use Rattle.query_eval.proofs.RowsBelow.{present_more}
use Rattle.query_eval.proofs.filter.matches.push_names.Goals as goal
use Rattle.query_eval.proofs.filter.matches.push_names.Goals.{then-get+in_ok-push, else-get}

pub loop-row-preserved : goal.loop-row-preserved
loop-row-preserved c =
    let k = c.loop-row.row in
    let mask = c.args.rows.now in
    let name : ℕ → RowName = λ n. record { batch = c.args.batch; ordinal = c.args.first + n } in
    let item : ℕ → Option RowName = λ n. cond (has mask n) (Some (name n)) None in
    let old : List RowName = c.args.names.now.items in
    let front : List RowName = present (map item (range_with_len 0 k)) in
    elim c.if-get.branch [
      | then-get+in_ok-push w ↦
          let on : has mask k ≡ true = sym c.get.ensures ∙ w.if-get.true in
          let more = present_more item k true (name k) (ap (λ b. cond b (Some (name k)) None) on) in
          ap (λ v. v.items) w.names-is ∙ w.in_ok-push.ensures.items ∙ ap (λ l. l ++ (name k ∷ [])) c.loop-row.invariant ∙ append_assoc old front (name k ∷ []) ∙ ap (λ l. old ++ l) (sym more)
      | else-get w ↦
          let off : has mask k ≡ false = sym c.get.ensures ∙ w.if-get.false in
          let more = present_more item k false (name k) (ap (λ b. cond b (Some (name k)) None) off) in
          ap (λ v. v.items) w.names-is ∙ c.loop-row.invariant ∙ ap (λ l. old ++ l) (sym (append-nil front) ∙ sym more)
    ]

pub returns : goal.returns
unfolding names_at rows_of
returns c =
    let e : c.loop-row.row ≡ 1024 = omega (arith, c.loop-row-test.false, c.loop-row.auto.row-end) in
    let item : ℕ → Option RowName = λ n. cond (has c.args.rows.now n) (Some (record { batch = c.args.batch; ordinal = c.args.first + n })) None in
    c.loop-row.invariant ∙ ap (λ (k : ℕ). c.args.names.now.items ++ present (map item (range_with_len 0 k))) e
