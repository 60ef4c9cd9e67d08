use Rattle.std.proofs.Common.{rules, inl, refl, ap, ◌∙◌, List, ◌≡◌, Bool, true, false, if◌then◌else◌}
use Rattle.folder_model.specs.Call.{Call, Done, Taken, lock_of}
use Rattle.folder_protocol.specs.Causes.{Fails, FailsToSync, AnswersLink}
use Rattle.folder_protocol.proofs.Causing.{follows_none, follows_on, has_now, has_later, has_before, looks_later, fails_later, all_named, parts_without}
use Rattle.folder_protocol.proofs.Lines.{starts, goes_on, joins, settles_on}
use Rattle.folder_protocol.proofs.Linking.{plain_follows, plain_lock, plain_links, links_none, links_on, links_more}
use Rattle.folder_protocol.specs.Sweeping.{Tries}
use Rattle.folder_protocol.proofs.putting.place.Goals as goal

pub returns-in-Ok-clause-in_turn : goal.returns-in-Ok-clause-in_turn
returns-in-Ok-clause-in_turn g c = λ parts may.
    let linked = goes_on parts _ _ _ _ (starts parts _) c.in-Ok-true.ensures (c.args.bytes.now, may.1, may.0.0) in
    let removed = goes_on parts _ _ _ _ linked c.remove.ensures (inl may.0.1) in
    settles_on parts c.settle.result _ _ _ removed c.settle.ensures.noted c.settle.ensures.clean

pub returns-in-Err-settle-clause-in_turn : goal.returns-in-Err-settle-clause-in_turn
returns-in-Err-settle-clause-in_turn g c = λ parts may.
    let linked = goes_on parts _ _ _ _ (starts parts _) c.in-Ok-true.ensures (c.args.bytes.now, may.1, may.0.0) in
    let removed = goes_on parts _ _ _ _ linked c.remove.ensures (inl may.0.1) in
    settles_on parts c.settle.result _ _ _ removed c.settle.ensures.noted c.settle.ensures.clean

pub returns-in-Ok-false-clause-in_turn : goal.returns-in-Ok-false-clause-in_turn
returns-in-Ok-false-clause-in_turn g c = λ parts may.
    let linked = goes_on parts _ _ _ _ (starts parts _) c.in-Ok-false.ensures (c.args.bytes.now, may.1, may.0.0) in
    let removed = goes_on parts _ _ _ _ linked c.remove.ensures (inl may.0.1) in
    joins parts _ _ _ removed (c.keep.ensures.in_turn parts)

pub returns-in-Err-clause-in_turn : goal.returns-in-Err-clause-in_turn
returns-in-Err-clause-in_turn g c = λ parts may.
    let linked = goes_on parts _ _ _ _ (starts parts _) c.in-Err.ensures (c.args.bytes.now, may.1, may.0.0) in
    goes_on parts _ _ _ _ linked c.remove.ensures (inl may.0.1)

pub returns-in-Err-settle-clause-cause : goal.returns-in-Err-settle-clause-cause
returns-in-Err-settle-clause-cause g c =
    has_later FailsToSync _ _ _ (follows_on _ _ _ _ (follows_on _ _ _ _ (follows_none _) c.in-Ok-true.ensures) c.remove.ensures) (has_now FailsToSync _ _ _ c.in-Err-settle.ensures.noted refl)

pub returns-in-Err-settle-clause-named : goal.returns-in-Err-settle-clause-named
returns-in-Err-settle-clause-named g c =
    let yes : c.in-Ok-true.field-0 ≡ true = search rules in
    inl (has_before (AnswersLink c.args.name.now Done) _ _ _ (follows_on _ _ _ _ (follows_on _ _ _ _ (follows_none _) c.remove.ensures) c.settle.ensures.noted) (has_now (AnswersLink c.args.name.now Done) _ _ _ c.in-Ok-true.ensures (refl, ap (λ (b : Bool). if b then Done else Taken) yes)))

pub returns-in-Ok-false-clause-cause : goal.returns-in-Ok-false-clause-cause
returns-in-Ok-false-clause-cause g c =
    looks_later c.keep.result c.args.name.now c.args.bytes.now _ _ _ (follows_on _ _ _ _ (follows_on _ _ _ _ (follows_none _) c.in-Ok-false.ensures) c.remove.ensures) c.keep.ensures.cause

pub returns-in-Ok-false-clause-fails : goal.returns-in-Ok-false-clause-fails
returns-in-Ok-false-clause-fails g c =
    fails_later c.keep.result _ _ _ (follows_on _ _ _ _ (follows_on _ _ _ _ (follows_none _) c.in-Ok-false.ensures) c.remove.ensures) c.keep.ensures.fails

pub returns-in-Ok-false-clause-named : goal.returns-in-Ok-false-clause-named
returns-in-Ok-false-clause-named g c =
    let no : c.in-Ok-false.field-0 ≡ false = search rules in
    let kept = c.keep.ensures.in_turn (parts_without c.args.temporary.now) in
    all_named c.keep.result c.args.name.now _ _ (has_before (AnswersLink c.args.name.now Taken) _ _ _ (kept.0, kept.1)
    (has_before (AnswersLink c.args.name.now Taken) _ _ _ (follows_on _ _ _ _ (follows_none _) c.remove.ensures) (has_now (AnswersLink c.args.name.now Taken) _ _ _ c.in-Ok-false.ensures (refl, ap (λ (b : Bool). if b then Done else Taken) no))))

pub returns-in-Err-clause-fails : goal.returns-in-Err-clause-fails
returns-in-Err-clause-fails g c = has_before Fails _ _ _ (follows_on _ _ _ _ (follows_none _) c.remove.ensures) (has_now Fails _ _ _ c.in-Err.ensures refl)

pub returns-in-Ok-clause-links : goal.returns-in-Ok-clause-links
returns-in-Ok-clause-links g c =
    let P = λ (l : List Call). l ≡ g.F.Folder.history c.args.folder.now in
    links_on P _ _ _ _ (links_on P _ _ _ _ (links_on P _ _ _ _ (links_none P _) c.in-Ok-true.ensures refl) c.remove.ensures tt) c.settle.ensures.noted tt

pub returns-in-Err-settle-clause-links : goal.returns-in-Err-settle-clause-links
returns-in-Err-settle-clause-links g c =
    let P = λ (l : List Call). l ≡ g.F.Folder.history c.args.folder.now in
    links_on P _ _ _ _ (links_on P _ _ _ _ (links_on P _ _ _ _ (links_none P _) c.in-Ok-true.ensures refl) c.remove.ensures tt) c.settle.ensures.noted tt

pub returns-in-Ok-false-clause-links : goal.returns-in-Ok-false-clause-links
returns-in-Ok-false-clause-links g c =
    let P = λ (l : List Call). l ≡ g.F.Folder.history c.args.folder.now in
    links_more P _ _ _ (links_on P _ _ _ _ (links_on P _ _ _ _ (links_none P _) c.in-Ok-false.ensures refl) c.remove.ensures tt) (plain_links P _ _ c.keep.ensures.plain)

pub returns-in-Err-clause-links : goal.returns-in-Err-clause-links
returns-in-Err-clause-links g c =
    let P = λ (l : List Call). l ≡ g.F.Folder.history c.args.folder.now in
    links_on P _ _ _ _ (links_on P _ _ _ _ (links_none P _) c.in-Err.ensures refl) c.remove.ensures tt

pub returns-in-Ok-clause-locks : goal.returns-in-Ok-clause-locks
returns-in-Ok-clause-locks g c = ap lock_of c.settle.ensures.noted ∙ ap lock_of c.remove.ensures ∙ ap lock_of c.in-Ok-true.ensures

pub returns-in-Err-settle-clause-locks : goal.returns-in-Err-settle-clause-locks
returns-in-Err-settle-clause-locks g c = ap lock_of c.settle.ensures.noted ∙ ap lock_of c.remove.ensures ∙ ap lock_of c.in-Ok-true.ensures

pub returns-in-Ok-false-clause-locks : goal.returns-in-Ok-false-clause-locks
returns-in-Ok-false-clause-locks g c = plain_lock _ _ c.keep.ensures.plain ∙ ap lock_of c.remove.ensures ∙ ap lock_of c.in-Ok-false.ensures

pub returns-in-Err-clause-locks : goal.returns-in-Err-clause-locks
returns-in-Err-clause-locks g c = ap lock_of c.remove.ensures ∙ ap lock_of c.in-Err.ensures

pub returns-in-Ok-clause-cleaned : goal.returns-in-Ok-clause-cleaned
returns-in-Ok-clause-cleaned g c =
    let T = Tries c.args.temporary.now in
    has_later T _ _ _ (follows_on _ _ _ _ (follows_none _) c.in-Ok-true.ensures) (has_before T _ _ _ (follows_on _ _ _ _ (follows_none _) c.settle.ensures.noted) (has_now T _ _ _ c.remove.ensures refl))

pub returns-in-Err-settle-clause-cleaned : goal.returns-in-Err-settle-clause-cleaned
returns-in-Err-settle-clause-cleaned g c =
    let T = Tries c.args.temporary.now in
    has_later T _ _ _ (follows_on _ _ _ _ (follows_none _) c.in-Ok-true.ensures) (has_before T _ _ _ (follows_on _ _ _ _ (follows_none _) c.settle.ensures.noted) (has_now T _ _ _ c.remove.ensures refl))

pub returns-in-Ok-false-clause-cleaned : goal.returns-in-Ok-false-clause-cleaned
returns-in-Ok-false-clause-cleaned g c =
    let T = Tries c.args.temporary.now in
    has_later T _ _ _ (follows_on _ _ _ _ (follows_none _) c.in-Ok-false.ensures) (has_before T _ _ _ (plain_follows _ _ c.keep.ensures.plain) (has_now T _ _ _ c.remove.ensures refl))

pub returns-in-Err-clause-cleaned : goal.returns-in-Err-clause-cleaned
returns-in-Err-clause-cleaned g c =
    let T = Tries c.args.temporary.now in
    has_later T _ _ _ (follows_on _ _ _ _ (follows_none _) c.in-Err.ensures) (has_before T _ _ _ (follows_none _) (has_now T _ _ _ c.remove.ensures refl))
