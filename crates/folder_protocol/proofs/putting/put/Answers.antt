use Rattle.std.proofs.Common.{inl, refl, ap, ◌∙◌}
use Rattle.folder_protocol.specs.Causes.{Fails}
use Rattle.folder_protocol.proofs.Causing.{follows_none, follows_on, has_now, has_later, has_before, looks_later, fails_later, all_named_later, parts_without, no_part_of}
use Rattle.folder_protocol.proofs.Lines.{goes_on, joins}
use Rattle.folder_model.specs.Call.{lock_of}
use Rattle.folder_protocol.proofs.Linking.{plain_follows, plain_lock}
use Rattle.folder_protocol.specs.Sweeping.{Tries}
use Rattle.folder_protocol.proofs.putting.put.Goals as goal

pub returns-in-Ok-clause-in_turn : goal.returns-in-Ok-clause-in_turn
returns-in-Ok-clause-in_turn g c = λ parts may.
    joins parts _ _ _ (c.in-Ok.ensures.in_turn parts may.1) (c.place.ensures.in_turn parts (may, c.in-Ok.ensures.ready parts))

pub returns-in-Err-clause-in_turn : goal.returns-in-Err-clause-in_turn
returns-in-Err-clause-in_turn g c = λ parts may. goes_on parts _ _ _ _ (c.in-Err.ensures.in_turn parts may.1) c.remove.ensures (inl may.1)

pub returns-in-Ok-clause-cause : goal.returns-in-Ok-clause-cause
returns-in-Ok-clause-cause g c =
    let wrote = c.in-Ok.ensures.in_turn (parts_without c.args.temporary.now) (no_part_of c.args.temporary.now) in
    looks_later c.place.result c.args.name.now c.args.bytes.now _ _ _ (wrote.0, wrote.1) c.place.ensures.cause

pub returns-in-Ok-clause-fails : goal.returns-in-Ok-clause-fails
returns-in-Ok-clause-fails g c =
    let wrote = c.in-Ok.ensures.in_turn (parts_without c.args.temporary.now) (no_part_of c.args.temporary.now) in
    fails_later c.place.result _ _ _ (wrote.0, wrote.1) c.place.ensures.fails

pub returns-in-Ok-clause-named : goal.returns-in-Ok-clause-named
returns-in-Ok-clause-named g c =
    let wrote = c.in-Ok.ensures.in_turn (parts_without c.args.temporary.now) (no_part_of c.args.temporary.now) in
    all_named_later c.place.result c.args.name.now _ _ _ (wrote.0, wrote.1) c.place.ensures.named

pub returns-in-Err-clause-fails : goal.returns-in-Err-clause-fails
returns-in-Err-clause-fails g c = has_before Fails _ _ _ (follows_on _ _ _ _ (follows_none _) c.remove.ensures) c.in-Err.ensures.fails

pub returns-in-Ok-clause-locks : goal.returns-in-Ok-clause-locks
returns-in-Ok-clause-locks g c = c.place.ensures.locks ∙ plain_lock _ _ c.in-Ok.ensures.plain

pub returns-in-Err-clause-locks : goal.returns-in-Err-clause-locks
returns-in-Err-clause-locks g c = ap lock_of c.remove.ensures ∙ plain_lock _ _ c.in-Err.ensures.plain

pub returns-in-Ok-clause-cleaned : goal.returns-in-Ok-clause-cleaned
returns-in-Ok-clause-cleaned g c = has_later (Tries c.args.temporary.now) _ _ _ (plain_follows _ _ c.in-Ok.ensures.plain) c.place.ensures.cleaned

pub returns-in-Err-clause-cleaned : goal.returns-in-Err-clause-cleaned
returns-in-Err-clause-cleaned g c =
    let T = Tries c.args.temporary.now in
    has_later T _ _ _ (plain_follows _ _ c.in-Err.ensures.plain) (has_now T _ _ _ c.remove.ensures refl)
