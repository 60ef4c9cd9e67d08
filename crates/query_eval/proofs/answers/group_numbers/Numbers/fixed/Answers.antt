-- No group is null, and each has the number.
use Rattle.std.proofs.Common.{rules, ◌≡◌, false, cond, ℤ, FitsSigned, get_or, pos, replicate, of_z, to_z, Some, None, sym, ap, ◌∙◌}
use Rattle.std.specs.Int.{w64, w128}
use Rattle.std.proofs.lemmas.Int.{to_z-of_z}
use Rattle.std.proofs.lemmas.List.{get_or-replicate}
use Rattle.table_model.specs.Answer.{whole}
use Rattle.table_model.specs.declared.answer.Field.TheVariants.{Whole}
use Rattle.transpose_order.specs.Mask.{has}
use Rattle.transpose_order.specs.MaskWords.{has-rows_of}
use Rattle.query_eval.proofs.answers.group_numbers.Numbers.fixed.Goals as goal

pub returns : goal.returns
returns c = λ groups n h.
    let fits : FitsSigned w128 c.args.number = search rules in
    let fits_64 : FitsSigned w64 c.in_ok-value.value = search rules in
    let value : ℤ = to_z w64 (of_z w64 c.in_ok-value.value) in
    let is : value ≡ c.args.number = to_z-of_z w64 c.in_ok-value.value fits_64 ∙ c.in_ok-value.ensures.value ∙ to_z-of_z w128 c.args.number fits in
    let there : has c.none.result n ≡ false = ap (λ m. has m n) c.none.ensures ∙ has-rows_of (λ _. false) n h in
    sym (ap (λ b. whole (cond b None (Some (get_or (replicate 1024 value) n (pos 0))))) there ∙ ap (λ (z : ℤ). Whole z) (get_or-replicate 1024 n value (pos 0) h ∙ is))
