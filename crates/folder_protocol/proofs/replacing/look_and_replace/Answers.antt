use Rattle.std.proofs.Common.{rules, ◌≡◌, List, Some, [], inl, refl, ◌∙◌, map}
use Rattle.std.specs.String.{string_bytes}
use Rattle.folder_protocol.specs.Causes.{Fails, Lacks}
use Rattle.folder_protocol.specs.declared.putting.Outcome.TheVariants.{OnDisk}
use Rattle.folder_protocol.proofs.Causing.{follows_none, follows_on, has_before, looked_later, fails_later}
use Rattle.folder_protocol.proofs.Lines.{goes_on, joins, all_joined_later, answer_between}
use Rattle.folder_model.specs.Call.{Call}
use Rattle.folder_protocol.specs.Linking.{Watches, HasEach, LacksOne}
use Rattle.folder_protocol.proofs.Removals.{once_never, once_on, once_more}
use Rattle.folder_protocol.specs.Removing.{IsOwnOrReplaced}
use Rattle.folder_protocol.proofs.Linking.{links_on, links_never, links_at, was_now, was_between, never_none}
use Rattle.folder_protocol.proofs.replacing.look_and_replace.Goals as goal

pub returns-in-Ok-true-clause-in_turn : goal.returns-in-Ok-true-clause-in_turn
returns-in-Ok-true-clause-in_turn g c = λ parts lock may.
    let looked = c.in-Ok-true.ensures.in_turn parts lock in
    joins parts _ _ _ looked (c.place_and_remove.ensures.in_turn parts (c.in-Ok-true.ensures.locked ∙ lock) ((may.0.0, c.in-Ok-true.ensures.stays parts ∙ may.0.1), all_joined_later parts _ _ _ _ looked may.1))

pub returns-in-Ok-true-clause-gone : goal.returns-in-Ok-true-clause-gone
returns-in-Ok-true-clause-gone g c =
    let looked = c.in-Ok-true.ensures.follows in
    answer_between c.place_and_remove.result (λ answer. answer ≡ Some OnDisk) (map string_bytes c.args.joined.now) _ _ _ _ looked.0 [] looked.1 c.place_and_remove.ensures.gone refl

pub returns-in-Ok-true-clause-cause : goal.returns-in-Ok-true-clause-cause
returns-in-Ok-true-clause-cause g c =
    looked_later c.place_and_remove.result c.args.name.now c.args.bytes.now _ _ _ c.in-Ok-true.ensures.follows c.place_and_remove.ensures.cause

pub returns-in-Ok-true-clause-fails : goal.returns-in-Ok-true-clause-fails
returns-in-Ok-true-clause-fails g c = fails_later c.place_and_remove.result _ _ _ c.in-Ok-true.ensures.follows c.place_and_remove.ensures.fails

pub returns-in-Ok-false-clause-in_turn : goal.returns-in-Ok-false-clause-in_turn
returns-in-Ok-false-clause-in_turn g c = λ parts lock may.
    goes_on parts _ _ _ _ (c.in-Ok-false.ensures.in_turn parts lock) c.remove.ensures (inl may.0.0.1)

pub returns-in-Err-clause-in_turn : goal.returns-in-Err-clause-in_turn
returns-in-Err-clause-in_turn g c = λ parts lock may.
    goes_on parts _ _ _ _ (c.in-Err.ensures.in_turn parts lock) c.remove-in-Err.ensures (inl may.0.0.1)

pub returns-in-Err-clause-fails : goal.returns-in-Err-clause-fails
returns-in-Err-clause-fails g c = has_before Fails _ _ _ (follows_on _ _ _ _ (follows_none _) c.remove-in-Err.ensures) c.in-Err.ensures.fails

pub returns-in-Ok-false-clause-overtaken : goal.returns-in-Ok-false-clause-overtaken
returns-in-Ok-false-clause-overtaken g c = λ _. has_before (Lacks (map string_bytes c.args.joined.now)) _ _ _ (follows_on _ _ _ _ (follows_none _) c.remove.ensures) (c.in-Ok-false.ensures.lacking (search rules))

pub returns-in-Ok-true-clause-stored : goal.returns-in-Ok-true-clause-stored
returns-in-Ok-true-clause-stored g c = λ parts named lock. c.place_and_remove.ensures.stored parts named (c.in-Ok-true.ensures.locked ∙ lock)

pub returns-in-Ok-true-clause-links : goal.returns-in-Ok-true-clause-links
returns-in-Ok-true-clause-links g c = λ lock.
    links_at (Watches (HasEach (map string_bytes c.args.joined.now))) _ _ _ c.in-Ok-true.ensures.links (c.in-Ok-true.ensures.watched lock (search rules)) c.place_and_remove.ensures.links

pub returns-in-Ok-false-clause-links : goal.returns-in-Ok-false-clause-links
returns-in-Ok-false-clause-links g c = λ lock.
    let P = Watches (HasEach (map string_bytes c.args.joined.now)) in
    links_on P _ _ _ _ (links_never P _ _ c.in-Ok-false.ensures.links) c.remove.ensures tt

pub returns-in-Err-clause-links : goal.returns-in-Err-clause-links
returns-in-Err-clause-links g c = λ lock.
    let P = Watches (HasEach (map string_bytes c.args.joined.now)) in
    links_on P _ _ _ _ (links_never P _ _ c.in-Err.ensures.links) c.remove-in-Err.ensures tt

pub returns-in-Ok-true-clause-lacked : goal.returns-in-Ok-true-clause-lacked
returns-in-Ok-true-clause-lacked g c = λ lock. never_none _ c.place_and_remove.result c.place_and_remove.ensures.some

pub returns-in-Ok-true-clause-unlinked : goal.returns-in-Ok-true-clause-unlinked
returns-in-Ok-true-clause-unlinked g c = never_none _ c.place_and_remove.result c.place_and_remove.ensures.some

pub returns-in-Ok-false-clause-lacked : goal.returns-in-Ok-false-clause-lacked
returns-in-Ok-false-clause-lacked g c = λ lock _.
    let P = Watches (LacksOne (map string_bytes c.args.joined.now)) in
    was_between P _ _ _ _ (follows_none _) (follows_on _ _ _ _ (follows_none _) c.remove.ensures) (was_now P _ _ c.in-Ok-false.ensures.follows (c.in-Ok-false.ensures.lacked lock (search rules)))

pub returns-in-Ok-false-clause-unlinked : goal.returns-in-Ok-false-clause-unlinked
returns-in-Ok-false-clause-unlinked g c = λ _. links_on (λ (l : List Call). ⊥) _ _ _ _ c.in-Ok-false.ensures.links c.remove.ensures tt

pub returns-in-Ok-true-clause-removes : goal.returns-in-Ok-true-clause-removes
returns-in-Ok-true-clause-removes g c = λ parts named lock.
    let P = IsOwnOrReplaced parts c.args.temporary.now c.args.bytes.now (map string_bytes c.args.joined.now) in
    once_more P _ _ _ (once_never P _ _ c.in-Ok-true.ensures.unremoved) (c.place_and_remove.ensures.removes parts named (c.in-Ok-true.ensures.locked ∙ lock))

pub returns-in-Ok-false-clause-removes : goal.returns-in-Ok-false-clause-removes
returns-in-Ok-false-clause-removes g c = λ parts named lock.
    let P = IsOwnOrReplaced parts c.args.temporary.now c.args.bytes.now (map string_bytes c.args.joined.now) in
    once_on P _ _ _ _ (once_never P _ _ c.in-Ok-false.ensures.unremoved) c.remove.ensures (inl refl)

pub returns-in-Err-clause-removes : goal.returns-in-Err-clause-removes
returns-in-Err-clause-removes g c = λ parts named lock.
    let P = IsOwnOrReplaced parts c.args.temporary.now c.args.bytes.now (map string_bytes c.args.joined.now) in
    once_on P _ _ _ _ (once_never P _ _ c.in-Err.ensures.unremoved) c.remove-in-Err.ensures (inl refl)
