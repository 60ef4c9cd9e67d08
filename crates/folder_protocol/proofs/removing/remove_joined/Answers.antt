use Rattle.std.proofs.Common.{refl, ap, List, [], ◌∷◌, true, map}
use Rattle.std.specs.String.{string_bytes}
use Rattle.folder_model.specs.Call.{Call, lock_of, Locked, Unlocked, Exclusive}
use Rattle.folder_protocol.specs.Causes.{Fails}
use Rattle.folder_protocol.proofs.Causing.{follows_none, follows_on, has_now, on_err, looks_later, looks_before, fails_later, fails_before}
use Rattle.folder_protocol.proofs.Lines.{starts, goes_on, joins, all_joined_later, answer_between}
use Rattle.folder_protocol.proofs.Removals.{once_none, once_on, once_more}
use Rattle.folder_protocol.specs.Removing.{IsReplaced}
use Rattle.folder_protocol.proofs.Linking.{plain_links, links_none, links_on, links_more, guarded_unlocked}
use Rattle.folder_protocol.proofs.removing.remove_joined.Goals as goal

pub returns-in_err-lock-clause-in_turn : goal.returns-in_err-lock-clause-in_turn
returns-in_err-lock-clause-in_turn g c = λ parts may. goes_on parts _ _ _ _ (starts parts _) c.lock.ensures tt

pub returns-clause-in_turn : goal.returns-clause-in_turn
returns-clause-in_turn g c = λ parts may.
    let locked = goes_on parts _ _ _ _ (starts parts _) c.in_ok-lock.ensures tt in
    let removed = joins parts _ _ _ locked (c.look_and_remove-outcome.ensures.in_turn parts (ap lock_of c.in_ok-lock.ensures) (may.0, all_joined_later parts _ _ _ _ locked may.1)) in
    goes_on parts _ _ _ _ removed c.unlock.ensures tt

pub returns-clause-gone : goal.returns-clause-gone
returns-clause-gone g c =
    answer_between c.look_and_remove-outcome.result _ (map string_bytes c.args.joined.now) _ _ _ _ (Locked Exclusive true ∷ []) (Unlocked ∷ []) c.in_ok-lock.ensures c.look_and_remove-outcome.ensures.gone c.unlock.ensures

pub returns-in_err-lock-clause-fails : goal.returns-in_err-lock-clause-fails
returns-in_err-lock-clause-fails g c = on_err c.from_residual.result (has_now Fails _ _ _ c.in_err-lock.ensures refl)

pub returns-clause-cause : goal.returns-clause-cause
returns-clause-cause g c =
    looks_before c.look_and_remove-outcome.result c.args.name.now c.args.bytes.now _ _ _ (follows_on _ _ _ _ (follows_none _) c.unlock.ensures)
    (looks_later c.look_and_remove-outcome.result c.args.name.now c.args.bytes.now _ _ _ (follows_on _ _ _ _ (follows_none _) c.in_ok-lock.ensures) c.look_and_remove-outcome.ensures.cause)

pub returns-clause-fails : goal.returns-clause-fails
returns-clause-fails g c =
    fails_before c.look_and_remove-outcome.result _ _ _ (follows_on _ _ _ _ (follows_none _) c.unlock.ensures)
    (fails_later c.look_and_remove-outcome.result _ _ _ (follows_on _ _ _ _ (follows_none _) c.in_ok-lock.ensures) c.look_and_remove-outcome.ensures.fails)

pub returns-clause-stored : goal.returns-clause-stored
returns-clause-stored g c = λ parts named.
    guarded_unlocked c.look_and_remove-outcome.result parts c.args.bytes.now (g.F.Folder.history c.look_and_remove-outcome.new.folder) _ c.unlock.ensures
    (c.look_and_remove-outcome.ensures.guarded parts named (ap lock_of c.in_ok-lock.ensures))

pub returns-in_err-lock-clause-unlinked : goal.returns-in_err-lock-clause-unlinked
returns-in_err-lock-clause-unlinked g c = links_on (λ (l : List Call). ⊥) _ _ _ _ (links_none (λ (l : List Call). ⊥) _) c.in_err-lock.ensures tt

pub returns-clause-unlinked : goal.returns-clause-unlinked
returns-clause-unlinked g c =
    let P = λ (l : List Call). ⊥ in
    links_on P _ _ _ _ (links_more P _ _ _ (links_on P _ _ _ _ (links_none P _) c.in_ok-lock.ensures tt) (plain_links P _ _ c.look_and_remove-outcome.ensures.plain)) c.unlock.ensures tt

pub returns-in_err-lock-clause-unlocked : goal.returns-in_err-lock-clause-unlocked
returns-in_err-lock-clause-unlocked g c = ap lock_of c.in_err-lock.ensures

pub returns-clause-unlocked : goal.returns-clause-unlocked
returns-clause-unlocked g c = ap lock_of c.unlock.ensures

pub returns-in_err-lock-clause-removes : goal.returns-in_err-lock-clause-removes
returns-in_err-lock-clause-removes g c = λ parts named.
    let P = IsReplaced parts c.args.bytes.now (map string_bytes c.args.joined.now) in
    once_on P _ _ _ _ (once_none P _) c.in_err-lock.ensures tt

pub returns-clause-removes : goal.returns-clause-removes
returns-clause-removes g c = λ parts named.
    let P = IsReplaced parts c.args.bytes.now (map string_bytes c.args.joined.now) in
    once_on P _ _ _ _ (once_more P _ _ _ (once_on P _ _ _ _ (once_none P _) c.in_ok-lock.ensures tt)
    (c.look_and_remove-outcome.ensures.removes parts named (ap lock_of c.in_ok-lock.ensures))) c.unlock.ensures tt
