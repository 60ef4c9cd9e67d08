use Rattle.std.proofs.Common.{◌≡◌, List, [], inl, inr, refl, ap, ◌∙◌, map}
use Rattle.std.specs.String.{string_bytes}
use Rattle.folder_model.specs.Call.{Call, lock_of}
use Rattle.folder_protocol.specs.Causes.{Fails}
use Rattle.folder_protocol.proofs.Causing.{follows_none, follows_on, has_now, has_later, has_before, look_later}
use Rattle.folder_protocol.proofs.Lines.{starts, goes_on, joins, all_joined_later, removed_between, some_is}
use Rattle.folder_protocol.proofs.Removals.{once_none, once_on, once_more, once_map}
use Rattle.folder_protocol.specs.Removing.{IsReplaced, IsOwnOrReplaced}
use Rattle.folder_protocol.proofs.Linking.{plain_links, links_none, links_on, links_more}
use Rattle.folder_protocol.proofs.replacing.place_and_remove.Goals as goal

pub returns-in-Ok-look_and_remove-clause-in_turn : goal.returns-in-Ok-look_and_remove-clause-in_turn
returns-in-Ok-look_and_remove-clause-in_turn g c = λ parts lock may.
    let linked = goes_on parts _ _ _ _ (starts parts _) c.in-Ok.ensures (c.args.bytes.now, may.0.1, may.0.0.0) in
    let removed = goes_on parts _ _ _ _ linked c.remove.ensures (inl may.0.0.1) in
    joins parts _ _ _ removed (c.in-Ok-look_and_remove.ensures.in_turn parts (ap lock_of c.remove.ensures ∙ ap lock_of c.in-Ok.ensures ∙ lock) (may.0.0.0, all_joined_later parts _ _ _ _ removed may.1))

pub returns-in-Ok-look_and_remove-clause-gone : goal.returns-in-Ok-look_and_remove-clause-gone
returns-in-Ok-look_and_remove-clause-gone g c = λ is.
    let placed = follows_on _ _ _ _ (follows_on _ _ _ _ (follows_none _) c.in-Ok.ensures) c.remove.ensures in
    removed_between (map string_bytes c.args.joined.now) _ _ _ _ placed.0 [] placed.1 (c.in-Ok-look_and_remove.ensures.gone (some_is is)) refl

pub returns-in-Ok-look_and_remove-clause-cause : goal.returns-in-Ok-look_and_remove-clause-cause
returns-in-Ok-look_and_remove-clause-cause g c =
    look_later _ c.args.name.now c.args.bytes.now _ _ _ (follows_on _ _ _ _ (follows_on _ _ _ _ (follows_none _) c.in-Ok.ensures) c.remove.ensures) c.in-Ok-look_and_remove.ensures.cause

pub returns-in-Err-look_and_remove-clause-in_turn : goal.returns-in-Err-look_and_remove-clause-in_turn
returns-in-Err-look_and_remove-clause-in_turn g c = λ parts lock may.
    let linked = goes_on parts _ _ _ _ (starts parts _) c.in-Ok.ensures (c.args.bytes.now, may.0.1, may.0.0.0) in
    let removed = goes_on parts _ _ _ _ linked c.remove.ensures (inl may.0.0.1) in
    joins parts _ _ _ removed (c.in-Err-look_and_remove.ensures.in_turn parts (ap lock_of c.remove.ensures ∙ ap lock_of c.in-Ok.ensures ∙ lock) (may.0.0.0, all_joined_later parts _ _ _ _ removed may.1))

pub returns-in-Err-look_and_remove-clause-fails : goal.returns-in-Err-look_and_remove-clause-fails
returns-in-Err-look_and_remove-clause-fails g c =
    has_later Fails _ _ _ (follows_on _ _ _ _ (follows_on _ _ _ _ (follows_none _) c.in-Ok.ensures) c.remove.ensures) c.in-Err-look_and_remove.ensures.fails

pub returns-in-Err-clause-in_turn : goal.returns-in-Err-clause-in_turn
returns-in-Err-clause-in_turn g c = λ parts lock may.
    let linked = goes_on parts _ _ _ _ (starts parts _) c.in-Err.ensures (c.args.bytes.now, may.0.1, may.0.0.0) in
    goes_on parts _ _ _ _ linked c.remove.ensures (inl may.0.0.1)

pub returns-in-Err-clause-fails : goal.returns-in-Err-clause-fails
returns-in-Err-clause-fails g c = has_before Fails _ _ _ (follows_on _ _ _ _ (follows_none _) c.remove.ensures) (has_now Fails _ _ _ c.in-Err.ensures refl)

pub returns-in-Ok-look_and_remove-clause-stored : goal.returns-in-Ok-look_and_remove-clause-stored
returns-in-Ok-look_and_remove-clause-stored g c = λ parts named lock is.
    inr (c.in-Ok-look_and_remove.ensures.guarded parts named (ap lock_of c.remove.ensures ∙ ap lock_of c.in-Ok.ensures ∙ lock) (some_is is))

pub returns-in-Ok-look_and_remove-clause-links : goal.returns-in-Ok-look_and_remove-clause-links
returns-in-Ok-look_and_remove-clause-links g c =
    let P = λ (l : List Call). l ≡ g.F.Folder.history c.args.folder.now in
    links_more P _ _ _ (links_on P _ _ _ _ (links_on P _ _ _ _ (links_none P _) c.in-Ok.ensures refl) c.remove.ensures tt) (plain_links P _ _ c.look_and_remove.ensures.plain)

pub returns-in-Err-look_and_remove-clause-links : goal.returns-in-Err-look_and_remove-clause-links
returns-in-Err-look_and_remove-clause-links g c =
    let P = λ (l : List Call). l ≡ g.F.Folder.history c.args.folder.now in
    links_more P _ _ _ (links_on P _ _ _ _ (links_on P _ _ _ _ (links_none P _) c.in-Ok.ensures refl) c.remove.ensures tt) (plain_links P _ _ c.look_and_remove.ensures.plain)

pub returns-in-Err-clause-links : goal.returns-in-Err-clause-links
returns-in-Err-clause-links g c =
    let P = λ (l : List Call). l ≡ g.F.Folder.history c.args.folder.now in
    links_on P _ _ _ _ (links_on P _ _ _ _ (links_none P _) c.in-Err.ensures refl) c.remove.ensures tt

pub returns-in-Ok-look_and_remove-clause-removes : goal.returns-in-Ok-look_and_remove-clause-removes
returns-in-Ok-look_and_remove-clause-removes g c = λ parts named lock.
    let P = IsOwnOrReplaced parts c.args.temporary.now c.args.bytes.now (map string_bytes c.args.joined.now) in
    once_more P _ _ _ (once_on P _ _ _ _ (once_on P _ _ _ _ (once_none P _) c.in-Ok.ensures tt) c.remove.ensures (inl refl))
    (once_map (IsReplaced parts c.args.bytes.now (map string_bytes c.args.joined.now)) P (λ name l so. inr so) _ _
    (c.look_and_remove.ensures.removes parts named (ap lock_of c.remove.ensures ∙ ap lock_of c.in-Ok.ensures ∙ lock)))

pub returns-in-Err-look_and_remove-clause-removes : goal.returns-in-Err-look_and_remove-clause-removes
returns-in-Err-look_and_remove-clause-removes g c = λ parts named lock.
    let P = IsOwnOrReplaced parts c.args.temporary.now c.args.bytes.now (map string_bytes c.args.joined.now) in
    once_more P _ _ _ (once_on P _ _ _ _ (once_on P _ _ _ _ (once_none P _) c.in-Ok.ensures tt) c.remove.ensures (inl refl))
    (once_map (IsReplaced parts c.args.bytes.now (map string_bytes c.args.joined.now)) P (λ name l so. inr so) _ _
    (c.look_and_remove.ensures.removes parts named (ap lock_of c.remove.ensures ∙ ap lock_of c.in-Ok.ensures ∙ lock)))

pub returns-in-Err-clause-removes : goal.returns-in-Err-clause-removes
returns-in-Err-clause-removes g c = λ parts named lock.
    let P = IsOwnOrReplaced parts c.args.temporary.now c.args.bytes.now (map string_bytes c.args.joined.now) in
    once_on P _ _ _ _ (once_on P _ _ _ _ (once_none P _) c.in-Err.ensures tt) c.remove.ensures (inl refl)
