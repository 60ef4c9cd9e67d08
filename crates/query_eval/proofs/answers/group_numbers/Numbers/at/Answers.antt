-- A null or a number more.
use Rattle.std.proofs.Common.{rules, ◌≡◌, ◌+◌, ◌<◌, false, ℕ, ℤ, FitsSigned, List, Bool, length, length-set, of_z, to_z, refl, sym, ap, subst, ◌∙◌, arith}
use Rattle.std.specs.Int.{w64, w128}
use Rattle.std.proofs.lemmas.Int.{to_z-of_z}
use Rattle.table_model.specs.declared.answer.Field.TheVariants.{Null, Whole}
use Rattle.transpose_order.specs.Mask.{has}
use Rattle.transpose_order.specs.MaskWords.{has-rows_of}
use Rattle.query_eval.specs.FieldPlaces.{field_in, group_at}
use Rattle.query_eval.proofs.NumberLemmas.{NoneFrom, NumbersBelow, null_clear, null_more, number_clear, number_more}
use Rattle.query_eval.proofs.answers.group_numbers.Numbers.at.Goals as goal
use Rattle.query_eval.proofs.answers.group_numbers.Numbers.at.Goals.{in-Null, in-Whole+in_ok-value-in-Whole}

pub loop-row-init : goal.loop-row-init
loop-row-init c = record {
  long = refl;
  done = λ n h. absurd (omega (arith, h));
  clear = λ n from h. ap (λ m. has m n) c.none-nulls.ensures ∙ has-rows_of (λ _. false) n h;
}

pub loop-row-preserved : goal.loop-row-preserved
loop-row-preserved c =
    let groups = c.args.groups.now in
    let place = c.args.place in
    let row : ℕ = c.loop-row.row in
    let nulls = c.loop-row.nulls in
    let values = c.loop-row.values in
    let inv = c.loop-row.invariant in
    let within : row < 1024 = c.loop-row-test.true in
    elim c.match-at.branch [
      | in-Null w ↦
          let is : field_in (group_at groups row) place ≡ Null = sym c.at.ensures ∙ w.in-Null.is in
          let more = w.set_range.new.self in
          record {
            long = ap length w.values-is ∙ inv.long;
            done = subst (λ (vs : List ℤ). NumbersBelow groups place (row + 1) c.match-at.nulls vs) (sym w.values-is) (subst (λ (ns : List Bool). NumbersBelow groups place (row + 1) ns values) (sym w.nulls-is) (null_more groups place row nulls values within inv.done inv.clear more w.set_range.ensures is));
            clear = subst (λ (ns : List Bool). NoneFrom (row + 1) ns) (sym w.nulls-is) (null_clear groups place row nulls values within inv.done inv.clear more w.set_range.ensures);
          }
      | in-Whole+in_ok-value-in-Whole w ↦
          let fits : FitsSigned w128 w.in-Whole.number = search rules in
          let fits_64 : FitsSigned w64 w.in_ok-value-in-Whole.value = search rules in
          let z : ℤ = to_z w64 (of_z w64 w.in_ok-value-in-Whole.value) in
          let same : z ≡ w.in-Whole.number = to_z-of_z w64 w.in_ok-value-in-Whole.value fits_64 ∙ w.in_ok-value-in-Whole.ensures.value ∙ to_z-of_z w128 w.in-Whole.number fits in
          let is : field_in (group_at groups row) place ≡ Whole z = sym c.at.ensures ∙ w.in-Whole.is ∙ ap (λ (n : ℤ). Whole n) (sym same) in
          record {
            long = ap length w.values-is ∙ length-set values row z ∙ inv.long;
            done = subst (λ (ns : List Bool). NumbersBelow groups place (row + 1) ns c.match-at.values) (sym w.nulls-is) (subst (λ (vs : List ℤ). NumbersBelow groups place (row + 1) nulls vs) (sym w.values-is) (number_more groups place row nulls values within inv.done inv.clear z inv.long is));
            clear = subst (λ (ns : List Bool). NoneFrom (row + 1) ns) (sym w.nulls-is) (number_clear groups place row nulls values within inv.done inv.clear);
          }
    ]
