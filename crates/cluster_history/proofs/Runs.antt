-- A run grows by one step at its end.
use Rattle.std.specs.Prelude.{◌≡◌, ℕ, ◌+◌, ◌<◌, List, [], ◌∷◌, ◌++◌, length, take, Result}
use Rattle.std.proofs.Common.{refl, sym, ap, ◌∙◌, subst, get_or, inl, inr}
use Rattle.std.proofs.lemmas.List.{take_more}
use Rattle.table_model.specs.declared.refusal.Refusal.{Refusal}
use Rattle.cluster_history.specs.Cluster.{ClusterParts}
use Rattle.cluster_history.specs.Run.{CodedStepTo, StepTo, Leads, answered}
use Rattle.cluster_history.specs.Segments.{ClusterForm}
use Rattle.cluster_history.specs.declared.reply.Reply.{Reply}
use Rattle.cluster_history.specs.declared.reply.Reply.TheVariants.{Refused}
use Rattle.cluster_history.specs.declared.step.Step.{Step}

-- a step that is answered or refused is one of a run, codings apart
pub step_parts : (old new : ClusterForm) (step : Step) (reply : Reply) → CodedStepTo old step reply new → StepTo old.parts step reply new.parts
step_parts old new step reply (inl made) = inl (ap (λ (m : Result (Reply × ClusterParts) Refusal). answered m old.parts) made.0)
step_parts old new step reply (inr refused) =
    let same : new.parts ≡ old.parts = ap (λ (c : ClusterForm). c.parts) refused.2.0 in
    elim refused.2.1 [
      | inl is ↦ inl (ap (λ (m : Result (Reply × ClusterParts) Refusal). answered m old.parts) is ∙ λ i. (sym refused.1 i, sym same i))
      | inr lack ↦ inr (refused.1 ∙ ap Refused lack.0, same, lack.1)
    ]

leads_more : {C : Type 0} (To : C → Step → Reply → C → Type 0) (old mid new : C) (steps : List Step) (replies : List Reply) (step : Step) (reply : Reply)
    → Leads To old steps replies mid → To mid step reply new → Leads To old (steps ++ (step ∷ [])) (replies ++ (reply ∷ [])) new
leads_more {C = C} To old mid new [] [] step reply run last = let P : C → Type 0 = λ c. To c step reply new in (new, subst P run last, refl)
leads_more To old mid new [] (r ∷ rs) step reply run last = absurd run
leads_more To old mid new (s ∷ ss) [] step reply run last = absurd run
leads_more To old mid new (s ∷ ss) (r ∷ rs) step reply run last = (run.0, run.1, leads_more To run.0 mid new ss rs step reply run.2 last)

-- the next step of a run over a list of steps
pub run_step : {C : Type 0} (To : C → Step → Reply → C → Type 0) (old mid new : C) (steps : List Step) (i : ℕ) (replies more : List Reply) (step : Step) (reply : Reply)
    → i < length steps → step ≡ get_or steps i step → more ≡ replies ++ (reply ∷ []) → Leads To old (take i steps) replies mid → To mid step reply new → Leads To old (take (i + 1) steps) more new
run_step To old mid new steps i replies more step reply below is pushed run last =
    let front : take i steps ++ (step ∷ []) ≡ take (i + 1) steps = ap (λ (s : Step). take i steps ++ (s ∷ [])) is ∙ sym (take_more steps i step below) in
    let P : List Step → Type 0 = λ ss. Leads To old ss (replies ++ (reply ∷ [])) new in
    let Q : List Reply → Type 0 = λ rs. Leads To old (take (i + 1) steps) rs new in
    subst Q (sym pushed) (subst P front (leads_more To old mid new (take i steps) replies step reply run last))
