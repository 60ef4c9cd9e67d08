-- One call is made: the part is read.
use Rattle.std.proofs.Common.{refl, ℕ, List}
use Rattle.folder_protocol.specs.Causes.{Fails, FindsNone}
use Rattle.folder_protocol.proofs.Causing.{has_now}
use Rattle.folder_protocol.proofs.Lines.{starts, goes_on}
use Rattle.folder_protocol.proofs.Linking.{plain_none, plain_on}
use Rattle.folder_protocol.proofs.ReadLines.{unopened}
use Rattle.folder_protocol.proofs.Removals.{removes_none, removes_on}
use Rattle.folder_parts.specs.Covers.{folder_parts}
use Rattle.folder_commands.proofs.gathering.gather_one.Goals as goal

pub returns-in-Ok-clause-in_turn : goal.returns-in-Ok-clause-in_turn
returns-in-Ok-clause-in_turn g c = goes_on folder_parts _ _ _ _ (starts folder_parts _) c.in-Ok-Some.ensures tt

pub returns-in-Ok-Some-clause-in_turn : goal.returns-in-Ok-Some-clause-in_turn
returns-in-Ok-Some-clause-in_turn g c = goes_on folder_parts _ _ _ _ (starts folder_parts _) c.in-Ok-Some.ensures tt

pub returns-in-Ok-None-clause-in_turn : goal.returns-in-Ok-None-clause-in_turn
returns-in-Ok-None-clause-in_turn g c = goes_on folder_parts _ _ _ _ (starts folder_parts _) c.in-Ok-None.ensures tt

pub returns-in-Ok-None-clause-cause : goal.returns-in-Ok-None-clause-cause
returns-in-Ok-None-clause-cause g c = (
  c.args.name.now,
  has_now (FindsNone c.args.name.now) _ _ _ (unopened _ c.in-Ok-None.field-0 c.args.name.now _ _ c.in-Ok-None.ensures c.in-Ok-None.field-0-is) (refl, refl),
)

pub returns-clause-in_turn : goal.returns-clause-in_turn
returns-clause-in_turn g c = goes_on folder_parts _ _ _ _ (starts folder_parts _) c.in-Err.ensures tt

pub returns-clause-cause : goal.returns-clause-cause
returns-clause-cause g c = has_now Fails _ _ _ c.in-Err.ensures refl

pub returns-in-Ok-clause-plain : goal.returns-in-Ok-clause-plain
returns-in-Ok-clause-plain g c = plain_on _ _ _ _ (plain_none _) c.in-Ok-Some.ensures tt

pub returns-in-Ok-Some-clause-plain : goal.returns-in-Ok-Some-clause-plain
returns-in-Ok-Some-clause-plain g c = plain_on _ _ _ _ (plain_none _) c.in-Ok-Some.ensures tt

pub returns-in-Ok-None-clause-plain : goal.returns-in-Ok-None-clause-plain
returns-in-Ok-None-clause-plain g c = plain_on _ _ _ _ (plain_none _) c.in-Ok-None.ensures tt

pub returns-clause-plain : goal.returns-clause-plain
returns-clause-plain g c = plain_on _ _ _ _ (plain_none _) c.in-Err.ensures tt

pub returns-in-Ok-clause-unremoved : goal.returns-in-Ok-clause-unremoved
returns-in-Ok-clause-unremoved g c = removes_on (λ (name : List ℕ). ⊥) _ _ _ _ (removes_none (λ (name : List ℕ). ⊥) _) c.in-Ok-Some.ensures tt

pub returns-in-Ok-Some-clause-unremoved : goal.returns-in-Ok-Some-clause-unremoved
returns-in-Ok-Some-clause-unremoved g c = removes_on (λ (name : List ℕ). ⊥) _ _ _ _ (removes_none (λ (name : List ℕ). ⊥) _) c.in-Ok-Some.ensures tt

pub returns-in-Ok-None-clause-unremoved : goal.returns-in-Ok-None-clause-unremoved
returns-in-Ok-None-clause-unremoved g c = removes_on (λ (name : List ℕ). ⊥) _ _ _ _ (removes_none (λ (name : List ℕ). ⊥) _) c.in-Ok-None.ensures tt

pub returns-clause-unremoved : goal.returns-clause-unremoved
returns-clause-unremoved g c = removes_on (λ (name : List ℕ). ⊥) _ _ _ _ (removes_none (λ (name : List ℕ). ⊥) _) c.in-Err.ensures tt
