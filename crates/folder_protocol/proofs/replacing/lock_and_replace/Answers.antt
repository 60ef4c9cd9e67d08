use Rattle.std.proofs.Common.{◌≡◌, Some, None, List, [], ◌∷◌, inl, true, refl, ap, map}
use Rattle.std.specs.String.{string_bytes}
use Rattle.folder_model.specs.Call.{Call, Locked, Unlocked, Exclusive, lock_of}
use Rattle.folder_protocol.specs.Causes.{Fails, Lacks}
use Rattle.folder_protocol.specs.declared.putting.Outcome.TheVariants.{OnDisk}
use Rattle.folder_protocol.proofs.Causing.{follows_none, follows_on, has_now, has_before, looked_later, looked_before, fails_later, fails_before, cause_between}
use Rattle.folder_protocol.proofs.Lines.{starts, goes_on, joins, all_joined_later, answer_between, ready_locked}
use Rattle.folder_protocol.specs.Linking.{Watches, HasEach, LacksOne}
use Rattle.folder_protocol.proofs.TakeLines.{stored_unlocked}
use Rattle.folder_protocol.proofs.Removals.{once_none, once_on, once_more}
use Rattle.folder_protocol.specs.Removing.{IsOwnOrReplaced}
use Rattle.folder_protocol.proofs.Linking.{links_none, links_on, links_more, all_links_between, all_was_between}
use Rattle.folder_protocol.proofs.replacing.lock_and_replace.Goals as goal

pub returns-in-Ok-clause-in_turn : goal.returns-in-Ok-clause-in_turn
returns-in-Ok-clause-in_turn g c = λ parts may.
    let locked = goes_on parts _ _ _ _ (starts parts _) c.in-Ok.ensures tt in
    let replaced = joins parts _ _ _ locked (c.look_and_replace-outcome.ensures.in_turn parts (ap lock_of c.in-Ok.ensures) ((may.0.0, ready_locked parts _ _ _ _ _ may.0.1 c.in-Ok.ensures), all_joined_later parts _ _ _ _ locked may.1)) in
    goes_on parts _ _ _ _ replaced c.unlock.ensures tt

pub returns-in-Ok-clause-gone : goal.returns-in-Ok-clause-gone
returns-in-Ok-clause-gone g c =
    answer_between c.look_and_replace-outcome.result (λ answer. answer ≡ Some OnDisk) (map string_bytes c.args.joined.now) _ _ _ _ (Locked Exclusive true ∷ []) (Unlocked ∷ []) c.in-Ok.ensures c.look_and_replace-outcome.ensures.gone c.unlock.ensures

pub returns-in-Ok-clause-cause : goal.returns-in-Ok-clause-cause
returns-in-Ok-clause-cause g c =
    looked_before c.look_and_replace-outcome.result c.args.name.now c.args.bytes.now _ _ _ (follows_on _ _ _ _ (follows_none _) c.unlock.ensures)
    (looked_later c.look_and_replace-outcome.result c.args.name.now c.args.bytes.now _ _ _ (follows_on _ _ _ _ (follows_none _) c.in-Ok.ensures) c.look_and_replace-outcome.ensures.cause)

pub returns-in-Ok-clause-fails : goal.returns-in-Ok-clause-fails
returns-in-Ok-clause-fails g c =
    fails_before c.look_and_replace-outcome.result _ _ _ (follows_on _ _ _ _ (follows_none _) c.unlock.ensures)
    (fails_later c.look_and_replace-outcome.result _ _ _ (follows_on _ _ _ _ (follows_none _) c.in-Ok.ensures) c.look_and_replace-outcome.ensures.fails)

pub returns-in-Err-clause-in_turn : goal.returns-in-Err-clause-in_turn
returns-in-Err-clause-in_turn g c = λ parts may.
    goes_on parts _ _ _ _ (goes_on parts _ _ _ _ (starts parts _) c.in-Err.ensures tt) c.remove.ensures (inl may.0.0.1)

pub returns-in-Err-clause-fails : goal.returns-in-Err-clause-fails
returns-in-Err-clause-fails g c = has_before Fails _ _ _ (follows_on _ _ _ _ (follows_none _) c.remove.ensures) (has_now Fails _ _ _ c.in-Err.ensures refl)

pub returns-in-Ok-clause-overtaken : goal.returns-in-Ok-clause-overtaken
returns-in-Ok-clause-overtaken g c =
    cause_between c.look_and_replace-outcome.result (λ answer. answer ≡ None) (Lacks (map string_bytes c.args.joined.now)) _ _ _ _ (follows_on _ _ _ _ (follows_none _) c.in-Ok.ensures)
    (follows_on _ _ _ _ (follows_none _) c.unlock.ensures) c.look_and_replace-outcome.ensures.overtaken

pub returns-in-Ok-clause-stored : goal.returns-in-Ok-clause-stored
returns-in-Ok-clause-stored g c = λ parts named.
    stored_unlocked c.look_and_replace-outcome.result parts c.args.bytes.now (g.F.Folder.history c.look_and_replace-outcome.new.folder) _ c.unlock.ensures
    (c.look_and_replace-outcome.ensures.stored parts named (ap lock_of c.in-Ok.ensures))

pub returns-in-Ok-clause-links : goal.returns-in-Ok-clause-links
returns-in-Ok-clause-links g c =
    let P = Watches (HasEach (map string_bytes c.args.joined.now)) in
    links_on P _ _ _ _ (links_more P _ _ _ (links_on P _ _ _ _ (links_none P _) c.in-Ok.ensures tt) (c.look_and_replace-outcome.ensures.links (ap lock_of c.in-Ok.ensures))) c.unlock.ensures tt

pub returns-in-Err-clause-links : goal.returns-in-Err-clause-links
returns-in-Err-clause-links g c =
    let P = Watches (HasEach (map string_bytes c.args.joined.now)) in
    links_on P _ _ _ _ (links_on P _ _ _ _ (links_none P _) c.in-Err.ensures tt) c.remove.ensures tt

pub returns-in-Ok-clause-lacked : goal.returns-in-Ok-clause-lacked
returns-in-Ok-clause-lacked g c =
    all_was_between c.look_and_replace-outcome.result (λ answer. answer ≡ None) (Watches (LacksOne (map string_bytes c.args.joined.now))) _ _ _ _ (follows_on _ _ _ _ (follows_none _) c.in-Ok.ensures) (follows_on _ _ _ _ (follows_none _) c.unlock.ensures)
    (c.look_and_replace-outcome.ensures.lacked (ap lock_of c.in-Ok.ensures))

pub returns-in-Ok-clause-unlinked : goal.returns-in-Ok-clause-unlinked
returns-in-Ok-clause-unlinked g c =
    let P = λ (l : List Call). ⊥ in
    all_links_between c.look_and_replace-outcome.result (λ answer. answer ≡ None) P _ _ _ _ (links_on P _ _ _ _ (links_none P _) c.in-Ok.ensures tt) (links_on P _ _ _ _ (links_none P _) c.unlock.ensures tt)
    c.look_and_replace-outcome.ensures.unlinked

pub returns-in-Ok-clause-removes : goal.returns-in-Ok-clause-removes
returns-in-Ok-clause-removes g c = λ parts named.
    let P = IsOwnOrReplaced parts c.args.temporary.now c.args.bytes.now (map string_bytes c.args.joined.now) in
    once_on P _ _ _ _ (once_more P _ _ _ (once_on P _ _ _ _ (once_none P _) c.in-Ok.ensures tt) (c.look_and_replace-outcome.ensures.removes parts named (ap lock_of c.in-Ok.ensures))) c.unlock.ensures tt

pub returns-in-Err-clause-removes : goal.returns-in-Err-clause-removes
returns-in-Err-clause-removes g c = λ parts named.
    let P = IsOwnOrReplaced parts c.args.temporary.now c.args.bytes.now (map string_bytes c.args.joined.now) in
    once_on P _ _ _ _ (once_on P _ _ _ _ (once_none P _) c.in-Err.ensures tt) c.remove.ensures (inl refl)
