use Rattle.std.proofs.Common.{map, refl, ap, List, ℕ}
use Rattle.std.specs.String.{string_bytes}
use Rattle.folder_protocol.specs.Causes.{Fails}
use Rattle.folder_protocol.proofs.Causing.{follows_none, follows_on, has_now, on_err}
use Rattle.folder_protocol.proofs.Lines.{starts, goes_on}
use Rattle.folder_protocol.proofs.ReadLines.{lists_either, fails_to_list}
use Rattle.folder_model.specs.Call.{Call, lock_of}
use Rattle.folder_protocol.proofs.Linking.{links_none, links_on, links_more, lists_links_either}
use Rattle.folder_protocol.proofs.Removals.{removes_none, removes_on, removes_more, lists_remove_either}
use Rattle.folder_protocol.proofs.listing.list_names.Goals as goal

pub returns-in_err-lock_shared-clause-in_turn : goal.returns-in_err-lock_shared-clause-in_turn
returns-in_err-lock_shared-clause-in_turn g c = λ parts. goes_on parts _ _ _ _ (starts parts _) c.lock_shared.ensures tt

pub returns-in_err-lock_shared-clause-fails : goal.returns-in_err-lock_shared-clause-fails
returns-in_err-lock_shared-clause-fails g c = on_err c.from_residual.result (has_now Fails _ _ _ c.in_err-lock_shared.ensures refl)

pub returns-clause-in_turn : goal.returns-clause-in_turn
returns-clause-in_turn g c = λ parts.
    goes_on parts _ _ _ _ (lists_either parts (λ names. map string_bytes names.items) c.list-listed.result _ _ _ c.in_ok-lock_shared.ensures c.list-listed.ensures) c.unlock.ensures tt

pub returns-clause-fails : goal.returns-clause-fails
returns-clause-fails g c =
    fails_to_list (λ names. map string_bytes names.items) c.list-listed.result _ _ _ _ (follows_on _ _ _ _ (follows_none _) c.in_ok-lock_shared.ensures) c.list-listed.ensures c.unlock.ensures

pub returns-in_err-lock_shared-clause-unlocked : goal.returns-in_err-lock_shared-clause-unlocked
returns-in_err-lock_shared-clause-unlocked g c = ap lock_of c.in_err-lock_shared.ensures

pub returns-clause-unlocked : goal.returns-clause-unlocked
returns-clause-unlocked g c = ap lock_of c.unlock.ensures

pub returns-in_err-lock_shared-clause-unlinked : goal.returns-in_err-lock_shared-clause-unlinked
returns-in_err-lock_shared-clause-unlinked g c = links_on (λ (l : List Call). ⊥) _ _ _ _ (links_none (λ (l : List Call). ⊥) _) c.lock_shared.ensures tt

pub returns-clause-unlinked : goal.returns-clause-unlinked
returns-clause-unlinked g c =
    let P = λ (l : List Call). ⊥ in
    links_on P _ _ _ _ (links_more P _ _ _ (links_on P _ _ _ _ (links_none P _) c.in_ok-lock_shared.ensures tt)
    (lists_links_either P (λ names. map string_bytes names.items) c.list-listed.result _ _ c.list-listed.ensures)) c.unlock.ensures tt

pub returns-in_err-lock_shared-clause-unremoved : goal.returns-in_err-lock_shared-clause-unremoved
returns-in_err-lock_shared-clause-unremoved g c = removes_on (λ (name : List ℕ). ⊥) _ _ _ _ (removes_none (λ (name : List ℕ). ⊥) _) c.lock_shared.ensures tt

pub returns-clause-unremoved : goal.returns-clause-unremoved
returns-clause-unremoved g c =
    let P = λ (name : List ℕ). ⊥ in
    removes_on P _ _ _ _ (removes_more P _ _ _ (removes_on P _ _ _ _ (removes_none P _) c.in_ok-lock_shared.ensures tt)
    (lists_remove_either P (λ names. map string_bytes names.items) c.list-listed.result _ _ c.list-listed.ensures)) c.unlock.ensures tt
