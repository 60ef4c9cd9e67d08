use Rattle.std.proofs.Common.{inl, ap, ◌∙◌, ◌≡◌, List, None}
use Rattle.folder_protocol.specs.Causes.{Fails}
use Rattle.folder_protocol.proofs.Causing.{follows_none, follows_on, has_before, looked_later, some_named_between, fails_later, parts_without, no_part_of}
use Rattle.folder_protocol.proofs.Lines.{goes_on, joins}
use Rattle.folder_model.specs.Call.{Call, lock_of}
use Rattle.folder_protocol.specs.Linking.{Watches, Each, One}
use Rattle.folder_protocol.proofs.Linking.{plain_follows, plain_lock, plain_links, links_none, links_on, links_more, all_links_between, all_was_between, some_was_between}
use Rattle.folder_protocol.proofs.judging.put_judged.Goals as goal

pub returns-in-Ok-clause-in_turn : goal.returns-in-Ok-clause-in_turn
returns-in-Ok-clause-in_turn g c = λ parts may.
    joins parts _ _ _ (c.in-Ok.ensures.in_turn parts may.1) (c.lock_and_put.ensures.in_turn parts (may, c.in-Ok.ensures.ready parts))

pub returns-in-Ok-clause-cause : goal.returns-in-Ok-clause-cause
returns-in-Ok-clause-cause g c =
    let wrote = c.in-Ok.ensures.in_turn (parts_without c.args.temporary.now) (no_part_of c.args.temporary.now) in
    looked_later c.lock_and_put.result c.args.name.now c.args.bytes.now _ _ _ (wrote.0, wrote.1) c.lock_and_put.ensures.cause

pub returns-in-Ok-clause-named : goal.returns-in-Ok-clause-named
returns-in-Ok-clause-named g c =
    some_named_between c.lock_and_put.result c.args.name.now _ _ _ _ (plain_follows _ _ c.in-Ok.ensures.plain) (follows_none _) c.lock_and_put.ensures.named

pub returns-in-Ok-clause-fails : goal.returns-in-Ok-clause-fails
returns-in-Ok-clause-fails g c =
    let wrote = c.in-Ok.ensures.in_turn (parts_without c.args.temporary.now) (no_part_of c.args.temporary.now) in
    fails_later c.lock_and_put.result _ _ _ (wrote.0, wrote.1) c.lock_and_put.ensures.fails

pub returns-in-Err-clause-in_turn : goal.returns-in-Err-clause-in_turn
returns-in-Err-clause-in_turn g c = λ parts may. goes_on parts _ _ _ _ (c.in-Err.ensures.in_turn parts may.1) c.remove.ensures (inl may.1)

pub returns-in-Err-clause-fails : goal.returns-in-Err-clause-fails
returns-in-Err-clause-fails g c = has_before Fails _ _ _ (follows_on _ _ _ _ (follows_none _) c.remove.ensures) c.in-Err.ensures.fails

pub returns-in-Ok-clause-links : goal.returns-in-Ok-clause-links
returns-in-Ok-clause-links g c =
    let P = Watches (Each (g.T.Taker.passes c.args.judge.now)) in
    links_more P _ _ _ (plain_links P _ _ c.in-Ok.ensures.plain) c.lock_and_put.ensures.links

pub returns-in-Err-clause-links : goal.returns-in-Err-clause-links
returns-in-Err-clause-links g c =
    let P = Watches (Each (g.T.Taker.passes c.args.judge.now)) in
    links_on P _ _ _ _ (plain_links P _ _ c.in-Err.ensures.plain) c.remove.ensures tt

pub returns-in-Ok-clause-watched : goal.returns-in-Ok-clause-watched
returns-in-Ok-clause-watched g c =
    some_was_between c.lock_and_put.result (Watches (Each (g.T.Taker.passes c.args.judge.now))) _ _ _ _ (plain_follows _ _ c.in-Ok.ensures.plain) (follows_none _) c.lock_and_put.ensures.watched

pub returns-in-Ok-clause-wanted : goal.returns-in-Ok-clause-wanted
returns-in-Ok-clause-wanted g c =
    all_was_between c.lock_and_put.result (λ answer. answer ≡ None) (Watches (One (g.T.Taker.wanted c.args.judge.now))) _ _ _ _ (plain_follows _ _ c.in-Ok.ensures.plain) (follows_none _) c.lock_and_put.ensures.wanted

pub returns-in-Ok-clause-unlinked : goal.returns-in-Ok-clause-unlinked
returns-in-Ok-clause-unlinked g c =
    let P = λ (l : List Call). ⊥ in
    all_links_between c.lock_and_put.result (λ answer. answer ≡ None) P _ _ _ _ (plain_links P _ _ c.in-Ok.ensures.plain) (links_none P _) c.lock_and_put.ensures.unlinked

pub returns-in-Err-clause-unlocked : goal.returns-in-Err-clause-unlocked
returns-in-Err-clause-unlocked g c = λ none. ap lock_of c.remove.ensures ∙ plain_lock _ _ c.in-Err.ensures.plain ∙ none
