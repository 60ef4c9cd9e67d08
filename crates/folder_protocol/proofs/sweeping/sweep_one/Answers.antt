use Rattle.std.proofs.Common.{◌≡◌, true, ℕ, List, refl, sym, inl, ◌∙◌}
use Rattle.folder_protocol.specs.Sweeping.{Tries}
use Rattle.folder_protocol.proofs.Causing.{follows_none, follows_on, has_now}
use Rattle.folder_protocol.proofs.Lines.{starts, goes_on}
use Rattle.folder_protocol.proofs.Linking.{plain_none, plain_on}
use Rattle.folder_protocol.specs.Temporary.{is_temporary}
use Rattle.folder_protocol.proofs.Removals.{removes_none, removes_on}
use Rattle.folder_protocol.proofs.sweeping.sweep_one.Goals as goal

pub returns-then-is_temporary-clause-in_turn : goal.returns-then-is_temporary-clause-in_turn
returns-then-is_temporary-clause-in_turn g c = λ parts none.
    goes_on parts _ _ _ _ (starts parts _) c.sweep.ensures.noted.1 (inl (none c.args.name.now (sym c.is_temporary.ensures ∙ c.if-is_temporary.true)))

pub returns-then-is_temporary-clause-follows : goal.returns-then-is_temporary-clause-follows
returns-then-is_temporary-clause-follows g c = follows_on _ _ _ _ (follows_none _) c.sweep.ensures.noted.1

pub returns-then-is_temporary-clause-swept : goal.returns-then-is_temporary-clause-swept
returns-then-is_temporary-clause-swept g c = λ is. has_now (Tries c.args.name.now) _ _ _ c.sweep.ensures.noted.1 refl

pub returns-then-is_temporary-clause-plain : goal.returns-then-is_temporary-clause-plain
returns-then-is_temporary-clause-plain g c = plain_on _ _ _ _ (plain_none _) c.sweep.ensures.noted.1 tt

pub returns-then-is_temporary-clause-only : goal.returns-then-is_temporary-clause-only
returns-then-is_temporary-clause-only g c =
    let P = λ (name : List ℕ). is_temporary name ≡ true in
    removes_on P _ _ _ _ (removes_none P _) c.sweep.ensures.noted.1 (sym c.is_temporary.ensures ∙ c.if-is_temporary.true)
