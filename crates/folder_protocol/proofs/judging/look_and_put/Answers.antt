use Rattle.std.proofs.Common.{rules, inl, ◌∙◌, List}
use Rattle.folder_protocol.specs.Causes.{Fails}
use Rattle.folder_protocol.proofs.Causing.{follows_none, follows_on, has_later, has_before, look_later, named_later}
use Rattle.folder_protocol.proofs.Lines.{goes_on, joins}
use Rattle.folder_model.specs.Call.{Call}
use Rattle.folder_protocol.specs.Linking.{Watches, Each, One}
use Rattle.folder_protocol.proofs.Linking.{links_on, links_never, links_at, was_now, was_between}
use Rattle.folder_protocol.proofs.judging.look_and_put.Goals as goal

pub returns-in-Ok-clause-in_turn : goal.returns-in-Ok-clause-in_turn
returns-in-Ok-clause-in_turn g c = λ parts may lock.
    joins parts _ _ _ (c.in-Ok-true.ensures.in_turn parts lock) (c.place.ensures.in_turn parts (may.0, c.in-Ok-true.ensures.stays parts ∙ may.1))

pub returns-in-Err-place-clause-in_turn : goal.returns-in-Err-place-clause-in_turn
returns-in-Err-place-clause-in_turn g c = λ parts may lock.
    joins parts _ _ _ (c.in-Ok-true.ensures.in_turn parts lock) (c.place.ensures.in_turn parts (may.0, c.in-Ok-true.ensures.stays parts ∙ may.1))

pub returns-in-Ok-clause-cause : goal.returns-in-Ok-clause-cause
returns-in-Ok-clause-cause g c = look_later _ c.args.name.now c.args.bytes.now _ _ _ c.in-Ok-true.ensures.follows c.in-Ok.ensures.cause

pub returns-in-Ok-clause-named : goal.returns-in-Ok-clause-named
returns-in-Ok-clause-named g c = named_later _ c.args.name.now _ _ _ c.in-Ok-true.ensures.follows c.in-Ok.ensures.named

pub returns-in-Err-place-clause-fails : goal.returns-in-Err-place-clause-fails
returns-in-Err-place-clause-fails g c = has_later Fails _ _ _ c.in-Ok-true.ensures.follows c.in-Err-place.ensures.fails

pub returns-in-Ok-false-clause-in_turn : goal.returns-in-Ok-false-clause-in_turn
returns-in-Ok-false-clause-in_turn g c = λ parts may lock.
    goes_on parts _ _ _ _ (c.in-Ok-false.ensures.in_turn parts lock) c.remove.ensures (inl may.0.1)

pub returns-in-Err-clause-in_turn : goal.returns-in-Err-clause-in_turn
returns-in-Err-clause-in_turn g c = λ parts may lock.
    goes_on parts _ _ _ _ (c.in-Err.ensures.in_turn parts lock) c.remove-in-Err.ensures (inl may.0.1)

pub returns-in-Err-clause-fails : goal.returns-in-Err-clause-fails
returns-in-Err-clause-fails g c = has_before Fails _ _ _ (follows_on _ _ _ _ (follows_none _) c.remove-in-Err.ensures) c.in-Err.ensures.fails

pub returns-in-Ok-clause-links : goal.returns-in-Ok-clause-links
returns-in-Ok-clause-links g c = λ lock.
    links_at (Watches (Each (g.T.Taker.passes c.args.judge.now))) _ _ _ c.in-Ok-true.ensures.links (c.in-Ok-true.ensures.watched lock (search rules)) c.place.ensures.links

pub returns-in-Err-place-clause-links : goal.returns-in-Err-place-clause-links
returns-in-Err-place-clause-links g c = λ lock.
    links_at (Watches (Each (g.T.Taker.passes c.args.judge.now))) _ _ _ c.in-Ok-true.ensures.links (c.in-Ok-true.ensures.watched lock (search rules)) c.place.ensures.links

pub returns-in-Ok-false-clause-links : goal.returns-in-Ok-false-clause-links
returns-in-Ok-false-clause-links g c = λ lock.
    let P = Watches (Each (g.T.Taker.passes c.args.judge.now)) in
    links_on P _ _ _ _ (links_never P _ _ c.in-Ok-false.ensures.links) c.remove.ensures tt

pub returns-in-Err-clause-links : goal.returns-in-Err-clause-links
returns-in-Err-clause-links g c = λ lock.
    let P = Watches (Each (g.T.Taker.passes c.args.judge.now)) in
    links_on P _ _ _ _ (links_never P _ _ c.in-Err.ensures.links) c.remove-in-Err.ensures tt

pub returns-in-Ok-clause-watched : goal.returns-in-Ok-clause-watched
returns-in-Ok-clause-watched g c = λ lock.
    let P = Watches (Each (g.T.Taker.passes c.args.judge.now)) in
    was_between P _ _ _ _ (follows_none _) (c.place.ensures.links.0, c.place.ensures.links.1) (was_now P _ _ c.in-Ok-true.ensures.follows (c.in-Ok-true.ensures.watched lock (search rules)))

pub returns-in-Ok-false-clause-wanted : goal.returns-in-Ok-false-clause-wanted
returns-in-Ok-false-clause-wanted g c = λ lock _.
    let P = Watches (One (g.T.Taker.wanted c.args.judge.now)) in
    was_between P _ _ _ _ (follows_none _) (follows_on _ _ _ _ (follows_none _) c.remove.ensures) (was_now P _ _ c.in-Ok-false.ensures.follows (c.in-Ok-false.ensures.wanted lock (search rules)))

pub returns-in-Ok-false-clause-unlinked : goal.returns-in-Ok-false-clause-unlinked
returns-in-Ok-false-clause-unlinked g c = λ _. links_on (λ (l : List Call). ⊥) _ _ _ _ c.in-Ok-false.ensures.links c.remove.ensures tt
