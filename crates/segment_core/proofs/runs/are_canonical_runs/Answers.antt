-- The runs start where the values change, so that no row that repeats is a start.
use Rattle.std.proofs.Common.{◌≡◌, ◌↔◌, ◌&&◌, IsTrue, Bool, true, false, ℕ, ◌<◌, ℤ, pos, List, w64, FitsSigned, refl, sym, ◌∙◌, ap, subst, rules, arith}
use Rattle.std.proofs.lemmas.Int.{to_z-of_z}
use Rattle.transpose_order.specs.Mask.{has}
use Rattle.transpose_order.specs.MaskWords.{has-rows_of}
use Rattle.run_dictionary.specs.Runs.{RunForm, run_values, least_runs}
use Rattle.segment_core.specs.declared.coded.Coded.TheVariants.{Runs as InRuns}
use Rattle.segment_core.proofs.CodedLemmas.{value_at-values_of}
use Rattle.segment_core.proofs.ChosenLemmas.{runs_repeat}
use Rattle.segment_core.proofs.runs.are_canonical_runs.Goals as goal

pub returns-then-not-allow_first : goal.returns-then-not-allow_first
returns-then-not-allow_first c =
    let form : RunForm = c.args.form.now in
    let fits : FitsSigned w64 c.value.result = search rules in
    let allow = subst (λ (z : ℤ). IsTrue false ↔ (c.args.repeating.now.valueless ≡ true → z ≡ pos 0)) (to_z-of_z w64 c.value.result fits) c.if-not-allow_first.ensures in (
      λ no. absurd (cc),
      λ h. allow.1 (λ v. c.value.ensures.value ∙ sym (value_at-values_of (InRuns form) 0 (omega arith)) ∙ h.filled.zero v),
    )

pub returns-then-next_true-lt1024 : goal.returns-then-next_true-lt1024
returns-then-next_true-lt1024 c =
    let form : RunForm = c.args.form.now in
    let rows : List Bool = c.args.repeating.now.rows in
    let n : ℕ = c.next_true.result in
    let least : form ≡ least_runs form.lane_width (run_values form) = c.if-not-is_least.ensures.0 refl in
    let starts : c.starts.result.now ≡ (least_runs form.lane_width (run_values form)).starts = c.starts.ensures.value ∙ ap (λ (f : RunForm). f.starts) least in
    let l : n < 1024 = c.if-next_true-lt1024.true in
    let both : has c.and-broken.result n ≡ (has rows n && has c.starts.result.now n) = ap (λ (m : List Bool). has m n) c.and-broken.ensures ∙ has-rows_of _ n l in (
      λ no. absurd (cc),
      λ h. sym ((runs_repeat form.lane_width rows (run_values form)).1 h.filled.each n l) ∙ sym (ap (λ (s : List Bool). has rows n && has s n) starts) ∙ sym both ∙ c.next_true.ensures.here l,
    )

pub returns : goal.returns
returns c =
    let form : RunForm = c.args.form.now in
    let rows : List Bool = c.args.repeating.now.rows in
    let fits : FitsSigned w64 c.value.result = search rules in
    let allow = subst (λ (z : ℤ). IsTrue true ↔ (c.args.repeating.now.valueless ≡ true → z ≡ pos 0)) (to_z-of_z w64 c.value.result fits) c.if-not-allow_first.ensures in
    let least : form ≡ least_runs form.lane_width (run_values form) = c.if-not-is_least.ensures.0 refl in
    let starts : c.starts.result.now ≡ (least_runs form.lane_width (run_values form)).starts = c.starts.ensures.value ∙ ap (λ (f : RunForm). f.starts) least in
    let none = (λ (n : ℕ) (l : n < 1024). sym (ap (λ (m : List Bool). has m n) c.and-broken.ensures ∙ has-rows_of _ n l ∙ ap (λ (s : List Bool). has rows n && has s n) starts) ∙ c.next_true.ensures.none n (omega arith) (omega (arith, c.if-next_true-lt1024.false))) in (
      λ yes. record {
        filled = record {
          each = (runs_repeat form.lane_width rows (run_values form)).0 none;
          zero = λ v. value_at-values_of (InRuns form) 0 (omega arith) ∙ sym c.value.ensures.value ∙ allow.0 refl v;
        };
        least = ap InRuns least;
        chosen = c.are_runs_chosen.ensures.0 yes;
      },
      λ h. c.are_runs_chosen.ensures.1 h.chosen,
    )
