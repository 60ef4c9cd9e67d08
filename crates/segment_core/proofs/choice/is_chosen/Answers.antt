-- The chosen coding is the one or another.
use Rattle.std.proofs.Common.{◌≡◌, true, refl, sym, ◌∙◌, ap, rules}
use Rattle.segment_core.specs.declared.coding.Coding.{Coding}
use Rattle.segment_core.specs.declared.coding.Coding.TheVariants.{For, Delta, Runs, Dict}
use Rattle.segment_core.specs.contracts.coding.Coding.{the_type}
use denote.Enum.Bare.{sameb, same_true}
use Rattle.segment_core.proofs.choice.is_chosen.Goals as goal

same_as_itself : (k : Coding) → sameb the_type k k ≡ true
same_as_itself For = refl
same_as_itself Delta = refl
same_as_itself Runs = refl
same_as_itself Dict = refl

pub returns : goal.returns
returns c = (
  λ yes. sym c.choose.ensures.value ∙ same_true the_type (search rules) _ _ (sym c.eq.ensures ∙ yes),
  λ e. c.eq.ensures ∙ ap (λ k. sameb the_type k c.args.coding) (c.choose.ensures.value ∙ e) ∙ same_as_itself c.args.coding,
)
