-- One group moves from the rest to all.
use Rattle.std.specs.Prelude.{◌≡◌, Bool, true, false, cond, Option, Some, None}
use Rattle.std.proofs.Common.{refl, sym, ◌∙◌}
use Rattle.std.specs.Global.{Vec}
use Rattle.partial_answers.specs.PartialAnswer.{Tallies, either}
use Rattle.partial_answers.specs.Groups.{tallies_of_some}
use Rattle.partial_answers.specs.declared.kept.Kept.{Kept}

none_after : (o : Option Tallies) → either o None ≡ o
none_after None = refl
none_after (Some s) = refl

pub taken_out : (b : Bool) (o : Option (Vec Kept)) → tallies_of_some (cond b None o) ≡ cond b None (tallies_of_some o)
taken_out true o = refl
taken_out false o = refl

pub moved : (b : Bool) (all here rest : Option Tallies) (t : Tallies) → (b ≡ true → all ≡ here) → (b ≡ true → rest ≡ Some t) → either (cond b (either here (Some t)) all) (cond b None rest) ≡ either all rest
moved true all here rest t f g = none_after (either here (Some t)) ∙ sym (λ i. either (f refl i) (g refl i))
moved false all here rest t f g = refl

-- what is still there was there, at another key
pub left_there : (b : Bool) (old now : Option (Vec Kept)) (v : Vec Kept) → now ≡ cond b None old → now ≡ Some v → old ≡ Some v
left_there true old now v e h = absurd (none-some v (sym e ∙ h))
  where
    none-some : (v : Vec Kept) → None ≡ Some v → ⊥
    none-some v e = cc
left_there false old now v e h = sym e ∙ h

pub left_apart : (b : Bool) (old now : Option (Vec Kept)) (v : Vec Kept) → now ≡ cond b None old → now ≡ Some v → b ≡ false
left_apart true old now v e h = absurd (none-some v (sym e ∙ h))
  where
    none-some : (v : Vec Kept) → None ≡ Some v → ⊥
    none-some v e = cc
left_apart false old now v e h = refl
