use Rattle.std.proofs.Common.{inl, refl, ap, ◌≡◌, List, None}
use Rattle.folder_model.specs.Call.{Call, lock_of}
use Rattle.folder_protocol.specs.Causes.{Fails}
use Rattle.folder_protocol.proofs.Causing.{follows_none, follows_on, has_now, has_before, looked_later, looked_before, some_named_between, fails_later, fails_before}
use Rattle.folder_protocol.proofs.Lines.{starts, goes_on, joins, ready_locked}
use Rattle.folder_protocol.proofs.TakeLines.{stored_unlocked}
use Rattle.folder_protocol.specs.Linking.{Watches, Each, One}
use Rattle.folder_protocol.proofs.Linking.{links_none, links_on, links_more, all_links_between, all_was_between, some_was_between}
use Rattle.folder_protocol.proofs.judging.lock_and_put.Goals as goal

pub returns-in-Ok-clause-in_turn : goal.returns-in-Ok-clause-in_turn
returns-in-Ok-clause-in_turn g c = λ parts may.
    let locked = goes_on parts _ _ _ _ (starts parts _) c.in-Ok.ensures tt in
    let put = joins parts _ _ _ locked (c.look_and_put-outcome.ensures.in_turn parts (may.0, ready_locked parts _ _ _ _ _ may.1 c.in-Ok.ensures) (ap lock_of c.in-Ok.ensures)) in
    goes_on parts _ _ _ _ put c.unlock.ensures tt

pub returns-in-Ok-clause-stored : goal.returns-in-Ok-clause-stored
returns-in-Ok-clause-stored g c = λ parts named ready.
    stored_unlocked c.look_and_put-outcome.result parts c.args.bytes.now (g.F.Folder.history c.look_and_put-outcome.new.folder) _ c.unlock.ensures
    (c.look_and_put-outcome.ensures.stored parts named (ready_locked parts _ _ _ _ _ ready c.in-Ok.ensures))

pub returns-in-Ok-clause-cause : goal.returns-in-Ok-clause-cause
returns-in-Ok-clause-cause g c =
    looked_before c.look_and_put-outcome.result c.args.name.now c.args.bytes.now _ _ _ (follows_on _ _ _ _ (follows_none _) c.unlock.ensures)
    (looked_later c.look_and_put-outcome.result c.args.name.now c.args.bytes.now _ _ _ (follows_on _ _ _ _ (follows_none _) c.in-Ok.ensures) c.look_and_put-outcome.ensures.cause)

pub returns-in-Ok-clause-named : goal.returns-in-Ok-clause-named
returns-in-Ok-clause-named g c =
    some_named_between c.look_and_put-outcome.result c.args.name.now _ _ _ _ (follows_on _ _ _ _ (follows_none _) c.in-Ok.ensures) (follows_on _ _ _ _ (follows_none _) c.unlock.ensures) c.look_and_put-outcome.ensures.named

pub returns-in-Ok-clause-fails : goal.returns-in-Ok-clause-fails
returns-in-Ok-clause-fails g c =
    fails_before c.look_and_put-outcome.result _ _ _ (follows_on _ _ _ _ (follows_none _) c.unlock.ensures)
    (fails_later c.look_and_put-outcome.result _ _ _ (follows_on _ _ _ _ (follows_none _) c.in-Ok.ensures) c.look_and_put-outcome.ensures.fails)

pub returns-in-Err-clause-in_turn : goal.returns-in-Err-clause-in_turn
returns-in-Err-clause-in_turn g c = λ parts may.
    goes_on parts _ _ _ _ (goes_on parts _ _ _ _ (starts parts _) c.in-Err.ensures tt) c.remove.ensures (inl may.0.1)

pub returns-in-Err-clause-fails : goal.returns-in-Err-clause-fails
returns-in-Err-clause-fails g c = has_before Fails _ _ _ (follows_on _ _ _ _ (follows_none _) c.remove.ensures) (has_now Fails _ _ _ c.in-Err.ensures refl)

pub returns-in-Ok-clause-links : goal.returns-in-Ok-clause-links
returns-in-Ok-clause-links g c =
    let P = Watches (Each (g.T.Taker.passes c.args.judge.now)) in
    links_on P _ _ _ _ (links_more P _ _ _ (links_on P _ _ _ _ (links_none P _) c.in-Ok.ensures tt) (c.look_and_put-outcome.ensures.links (ap lock_of c.in-Ok.ensures))) c.unlock.ensures tt

pub returns-in-Err-clause-links : goal.returns-in-Err-clause-links
returns-in-Err-clause-links g c =
    let P = Watches (Each (g.T.Taker.passes c.args.judge.now)) in
    links_on P _ _ _ _ (links_on P _ _ _ _ (links_none P _) c.in-Err.ensures tt) c.remove.ensures tt

pub returns-in-Ok-clause-watched : goal.returns-in-Ok-clause-watched
returns-in-Ok-clause-watched g c =
    some_was_between c.look_and_put-outcome.result (Watches (Each (g.T.Taker.passes c.args.judge.now))) _ _ _ _ (follows_on _ _ _ _ (follows_none _) c.in-Ok.ensures) (follows_on _ _ _ _ (follows_none _) c.unlock.ensures)
    (c.look_and_put-outcome.ensures.watched (ap lock_of c.in-Ok.ensures))

pub returns-in-Ok-clause-wanted : goal.returns-in-Ok-clause-wanted
returns-in-Ok-clause-wanted g c =
    all_was_between c.look_and_put-outcome.result (λ answer. answer ≡ None) (Watches (One (g.T.Taker.wanted c.args.judge.now))) _ _ _ _ (follows_on _ _ _ _ (follows_none _) c.in-Ok.ensures) (follows_on _ _ _ _ (follows_none _) c.unlock.ensures)
    (c.look_and_put-outcome.ensures.wanted (ap lock_of c.in-Ok.ensures))

pub returns-in-Ok-clause-unlinked : goal.returns-in-Ok-clause-unlinked
returns-in-Ok-clause-unlinked g c =
    let P = λ (l : List Call). ⊥ in
    all_links_between c.look_and_put-outcome.result (λ answer. answer ≡ None) P _ _ _ _ (links_on P _ _ _ _ (links_none P _) c.in-Ok.ensures tt) (links_on P _ _ _ _ (links_none P _) c.unlock.ensures tt)
    c.look_and_put-outcome.ensures.unlinked
