-- One row more, whose value is put in or was put in at the row before, or isn't looked at.
use Rattle.std.proofs.Common.{◌≡◌, ◌||◌, cond, true, ℤ, Option, get_or, pos, FitsSigned, w64, rules, refl, sym, ap, subst, ◌∙◌, arith, List}
use Rattle.std.specs.Option.{IfSome}
use Rattle.std.proofs.lemmas.Int.{to_z-of_z}
use Rattle.std.proofs.lemmas.List.{take_all}
use Rattle.std.specs.List.{list_any}
use Rattle.std.specs.Ordering.{int_eq}
use Rattle.table_model.specs.Values.{present}
use Rattle.transpose_order.specs.Mask.{rows_of}
use Rattle.transpose_order.specs.MaskWords.{length-rows_of}
use Rattle.query_eval.specs.Seen.{SeenValues}
use Rattle.query_eval.proofs.DistinctLemmas.{picked, member-put, member-skip}
use Rattle.query_eval.proofs.tallies.distinct.add_values.Goals as goal
use Rattle.query_eval.proofs.tallies.distinct.add_values.Goals.{then-get+in_ok-add_after, else-get}

pub loop-row-preserved : goal.loop-row-preserved
loop-row-preserved c =
    let rows = c.args.rows.now in
    let values = c.args.values.now in
    let row = c.loop-row.row in
    record {
      values = λ z. elim c.if-get.branch [
        | then-get+in_ok-add_after w ↦
            let fits : FitsSigned w64 (get_or values row (pos 0)) = search rules in
            let put = w.in_ok-add_after.ensures.values z ∙ ap (λ (x : ℤ). cond (int_eq x z) true (list_any (int_eq z) c.loop-row.seen.values)) (to_z-of_z w64 (get_or values row (pos 0)) fits) in
            ap (λ (s : SeenValues). list_any (int_eq z) s.values) w.seen-is ∙ member-put rows values row z (get_or values row (pos 0)) _ _ (list_any (int_eq z) c.args.seen.now.values) c.loop-row-test.true (sym c.get.ensures ∙ w.if-get.true) refl (c.loop-row.invariant.values z) put
        | else-get w ↦
            ap (λ (s : SeenValues). list_any (int_eq z) s.values) w.seen-is ∙ member-skip rows values row z _ (list_any (int_eq z) c.args.seen.now.values) c.loop-row-test.true (sym c.get.ensures ∙ w.if-get.false) (c.loop-row.invariant.values z)
      ];
      before = elim c.if-get.branch [
        | then-get+in_ok-add_after w ↦
            subst (λ (o : Option ℤ). IfSome o (λ last. list_any (int_eq last) c.if-get.seen.values ≡ true)) (sym w.before-is) (subst (λ (s : SeenValues). list_any (int_eq _) s.values ≡ true) (sym w.seen-is) w.in_ok-add_after.ensures.there)
        | else-get w ↦
            subst (λ (o : Option ℤ). IfSome o (λ last. list_any (int_eq last) c.if-get.seen.values ≡ true)) (sym w.before-is)
            (subst (λ (s : SeenValues). IfSome c.loop-row.before (λ last. list_any (int_eq last) s.values ≡ true)) (sym w.seen-is) c.loop-row.invariant.before)
      ];
    }

pub returns : goal.returns
returns c = λ z.
    let all : List (Option ℤ) = rows_of (picked c.args.rows.now c.args.values.now) in
    c.loop-row.invariant.values z ∙ ap (λ (os : List (Option ℤ)). list_any (int_eq z) c.args.seen.now.values || list_any (int_eq z) (present os)) (take_all c.loop-row.row all (omega (arith, length-rows_of (picked c.args.rows.now c.args.values.now), c.loop-row-test.false)))
