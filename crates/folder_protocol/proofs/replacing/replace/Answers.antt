use Rattle.std.proofs.Common.{◌≡◌, ap, ◌∙◌, Some, None, List, [], inl, refl, map}
use Rattle.std.specs.String.{string_bytes}
use Rattle.folder_protocol.specs.Causes.{Fails, Lacks}
use Rattle.folder_protocol.specs.declared.putting.Outcome.TheVariants.{OnDisk}
use Rattle.folder_protocol.proofs.Causing.{follows_none, follows_on, has_before, looked_later, fails_later, cause_between, parts_without, no_part_of}
use Rattle.folder_protocol.proofs.Lines.{goes_on, joins, all_joined_later, answer_between}
use Rattle.folder_model.specs.Call.{Call, lock_of}
use Rattle.folder_protocol.specs.Linking.{Watches, HasEach, LacksOne}
use Rattle.folder_protocol.proofs.Removals.{once_never, once_on, once_more}
use Rattle.folder_protocol.specs.Removing.{IsOwnOrReplaced}
use Rattle.folder_protocol.proofs.Linking.{plain_follows, plain_lock, plain_links, links_none, links_on, links_more, all_links_between, all_was_between}
use Rattle.folder_protocol.proofs.replacing.replace.Goals as goal

pub returns-in-Ok-clause-in_turn : goal.returns-in-Ok-clause-in_turn
returns-in-Ok-clause-in_turn g c = λ parts may joined.
    let wrote = c.in-Ok.ensures.in_turn parts may.1 in
    joins parts _ _ _ wrote (c.lock_and_replace.ensures.in_turn parts ((may, c.in-Ok.ensures.ready parts), all_joined_later parts _ _ _ _ wrote joined))

pub returns-in-Ok-clause-gone : goal.returns-in-Ok-clause-gone
returns-in-Ok-clause-gone g c =
    let wrote = c.in-Ok.ensures.in_turn (parts_without c.args.temporary.now) (no_part_of c.args.temporary.now) in
    answer_between c.lock_and_replace.result (λ answer. answer ≡ Some OnDisk) (map string_bytes c.args.joined.now) _ _ _ _ wrote.0 [] wrote.1 c.lock_and_replace.ensures.gone refl

pub returns-in-Ok-clause-cause : goal.returns-in-Ok-clause-cause
returns-in-Ok-clause-cause g c =
    let wrote = c.in-Ok.ensures.in_turn (parts_without c.args.temporary.now) (no_part_of c.args.temporary.now) in
    looked_later c.lock_and_replace.result c.args.name.now c.args.bytes.now _ _ _ (wrote.0, wrote.1) c.lock_and_replace.ensures.cause

pub returns-in-Ok-clause-fails : goal.returns-in-Ok-clause-fails
returns-in-Ok-clause-fails g c =
    let wrote = c.in-Ok.ensures.in_turn (parts_without c.args.temporary.now) (no_part_of c.args.temporary.now) in
    fails_later c.lock_and_replace.result _ _ _ (wrote.0, wrote.1) c.lock_and_replace.ensures.fails

pub returns-in-Err-clause-in_turn : goal.returns-in-Err-clause-in_turn
returns-in-Err-clause-in_turn g c = λ parts may joined. goes_on parts _ _ _ _ (c.in-Err.ensures.in_turn parts may.1) c.remove.ensures (inl may.1)

pub returns-in-Err-clause-fails : goal.returns-in-Err-clause-fails
returns-in-Err-clause-fails g c = has_before Fails _ _ _ (follows_on _ _ _ _ (follows_none _) c.remove.ensures) c.in-Err.ensures.fails

pub returns-in-Ok-clause-overtaken : goal.returns-in-Ok-clause-overtaken
returns-in-Ok-clause-overtaken g c =
    let wrote = c.in-Ok.ensures.in_turn (parts_without c.args.temporary.now) (no_part_of c.args.temporary.now) in
    cause_between c.lock_and_replace.result (λ answer. answer ≡ None) (Lacks (map string_bytes c.args.joined.now)) _ _ _ _ (wrote.0, wrote.1) (follows_none _) c.lock_and_replace.ensures.overtaken

pub returns-in-Ok-clause-stored : goal.returns-in-Ok-clause-stored
returns-in-Ok-clause-stored g c = λ parts named. c.lock_and_replace.ensures.stored parts named

pub returns-in-Ok-clause-links : goal.returns-in-Ok-clause-links
returns-in-Ok-clause-links g c =
    let P = Watches (HasEach (map string_bytes c.args.joined.now)) in
    links_more P _ _ _ (plain_links P _ _ c.in-Ok.ensures.plain) c.lock_and_replace.ensures.links

pub returns-in-Err-clause-links : goal.returns-in-Err-clause-links
returns-in-Err-clause-links g c =
    let P = Watches (HasEach (map string_bytes c.args.joined.now)) in
    links_on P _ _ _ _ (plain_links P _ _ c.in-Err.ensures.plain) c.remove.ensures tt

pub returns-in-Ok-clause-lacked : goal.returns-in-Ok-clause-lacked
returns-in-Ok-clause-lacked g c =
    all_was_between c.lock_and_replace.result (λ answer. answer ≡ None) (Watches (LacksOne (map string_bytes c.args.joined.now))) _ _ _ _ (plain_follows _ _ c.in-Ok.ensures.plain) (follows_none _) c.lock_and_replace.ensures.lacked

pub returns-in-Ok-clause-unlinked : goal.returns-in-Ok-clause-unlinked
returns-in-Ok-clause-unlinked g c =
    let P = λ (l : List Call). ⊥ in
    all_links_between c.lock_and_replace.result (λ answer. answer ≡ None) P _ _ _ _ (plain_links P _ _ c.in-Ok.ensures.plain) (links_none P _) c.lock_and_replace.ensures.unlinked

pub returns-in-Err-clause-unlocked : goal.returns-in-Err-clause-unlocked
returns-in-Err-clause-unlocked g c = λ none. ap lock_of c.remove.ensures ∙ plain_lock _ _ c.in-Err.ensures.plain ∙ none

pub returns-in-Ok-clause-removes : goal.returns-in-Ok-clause-removes
returns-in-Ok-clause-removes g c = λ parts named.
    let P = IsOwnOrReplaced parts c.args.temporary.now c.args.bytes.now (map string_bytes c.args.joined.now) in
    once_more P _ _ _ (once_never P _ _ c.in-Ok.ensures.unremoved) (c.lock_and_replace.ensures.removes parts named)

pub returns-in-Err-clause-removes : goal.returns-in-Err-clause-removes
returns-in-Err-clause-removes g c = λ parts named.
    let P = IsOwnOrReplaced parts c.args.temporary.now c.args.bytes.now (map string_bytes c.args.joined.now) in
    once_on P _ _ _ _ (once_never P _ _ c.in-Err.ensures.unremoved) c.remove.ensures (inl refl)
