-- What each command brings, as what a command brings.
use Rattle.std.specs.Prelude.{◌≡◌, ◌⊎◌, Bool, Result, Ok, Err}
use Rattle.std.proofs.Common.{refl, sym, ap, subst, ◌∙◌, inl, inr}
use Rattle.table_model.specs.declared.refusal.Refusal.{Refusal}
use Rattle.table_model.specs.declared.refusal.Refusal.TheVariants.{Memory}
use Rattle.replica_store.specs.Replica.{Replica, SaysChange, with_join}
use Rattle.replica_store.specs.Segments.{StoreForm}
use Rattle.replica_changes.specs.Brings.{BringsTo, IsMade}
use Rattle.replica_changes.specs.CommandForms.{AnswerForm, answer_of, has_changed, tagged}
use Rattle.replica_changes.specs.Commands.{Made}
use Rattle.replica_changes.specs.declared.command.Answer.{Answer}

module _ {X Y : Type 0} (view : X → Y) (changed : X → Bool) (tag : Y → AnswerForm) (held : StoreForm) (brings makes : Made Y) where
  pub tagged_done : (x : X) (answer : Answer) (own : StoreForm) → answer_of answer ≡ tag (view x) → has_changed answer ≡ changed x
      → BringsTo view changed (Ok (x, own)) held brings makes → BringsTo answer_of has_changed (Ok (answer, own)) held (tagged tag brings) (tagged tag makes)
  tagged_done x answer own same says (came, made) = (
    ap (tagged tag) came ∙ (λ i. let ok : Made AnswerForm = Ok (sym same i, own.replica) in ok),
    record {
      joined = ap (tagged tag) made.joined ∙ (λ i. let ok : Made AnswerForm = Ok (sym same i, with_join held.replica own.replica) in ok);
      more = subst (λ (b : Bool). SaysChange b held.replica (with_join held.replica own.replica)) (sym says) made.more;
      brought = made.brought;
    },
  )

  pub tagged_stopped : (e : Refusal) → BringsTo {X = X} view changed (Err e) held brings makes → BringsTo {X = Answer} answer_of has_changed (Err e) held (tagged tag brings) (tagged tag makes)
  tagged_stopped e (inl refused) = inl (ap (tagged tag) refused.0, ap (tagged tag) refused.1)
  tagged_stopped e (inr lack) = inr lack
