-- What it relies on is kept, and then the part is put if none is wanted.
use Rattle.std.specs.Prelude.{◌≡◌, List, None, map, string_bytes}
use Rattle.std.proofs.Common.{◌∙◌}
use Rattle.folder_model.specs.Call.{Call}
use Rattle.folder_protocol.proofs.Causing.{fails_later, follows_none, looked_later, some_named_between}
use Rattle.folder_protocol.proofs.Lines.{joins}
use Rattle.folder_protocol.proofs.Linking.{plain_follows, plain_lock, plain_links, links_none, links_more, all_links_between, all_was_between, some_was_between}
use Rattle.folder_protocol.specs.Linking.{Watches, Each, One}
use Rattle.folder_protocol.proofs.Kept.{any_parts, kept_first, kept_later, on_ok, relied_later}
use Rattle.folder_protocol.specs.Keeping.{AreKept}
use Rattle.folder_protocol.proofs.relying.keep_and_put_judged.Goals as goal

pub returns-clause-in_turn : goal.returns-clause-in_turn
returns-clause-in_turn g c = λ parts may. joins parts _ _ _ (c.keep_relied.ensures.in_turn parts) (c.put_judged.ensures.in_turn parts may)

pub returns-clause-kept : goal.returns-clause-kept
returns-clause-kept g c = λ parts may.
    let puts = c.put_judged.ensures.in_turn parts may in
    on_ok c.put_judged.result (kept_later parts (map string_bytes c.args.relied.now) _ _ _ (puts.0, puts.1) (c.in_ok-keep_relied.ensures.kept parts))

pub returns-clause-cause : goal.returns-clause-cause
returns-clause-cause g c =
    let keeps = c.keep_relied.ensures.in_turn any_parts in
    looked_later c.put_judged.result c.args.name.now c.args.bytes.now _ _ _ (keeps.0, keeps.1) c.put_judged.ensures.cause

pub returns-clause-fails : goal.returns-clause-fails
returns-clause-fails g c =
    let keeps = c.keep_relied.ensures.in_turn any_parts in
    fails_later c.put_judged.result _ _ _ (keeps.0, keeps.1) c.put_judged.ensures.fails

pub returns-clause-named : goal.returns-clause-named
returns-clause-named g c = some_named_between c.put_judged.result c.args.name.now _ _ _ _ (plain_follows _ _ c.keep_relied.ensures.plain) (follows_none _) c.put_judged.ensures.named

pub returns-in_err-keep_relied-clause-links : goal.returns-in_err-keep_relied-clause-links
returns-in_err-keep_relied-clause-links g c = plain_links (Watches (Each (g.T.Taker.passes c.args.judge.now))) _ _ c.keep_relied.ensures.plain

pub returns-clause-links : goal.returns-clause-links
returns-clause-links g c =
    let P = Watches (Each (g.T.Taker.passes c.args.judge.now)) in
    links_more P _ _ _ (plain_links P _ _ c.keep_relied.ensures.plain) c.put_judged.ensures.links

pub returns-clause-watched : goal.returns-clause-watched
returns-clause-watched g c =
    some_was_between c.put_judged.result (Watches (Each (g.T.Taker.passes c.args.judge.now))) _ _ _ _ (plain_follows _ _ c.keep_relied.ensures.plain) (follows_none _) c.put_judged.ensures.watched

pub returns-clause-wanted : goal.returns-clause-wanted
returns-clause-wanted g c =
    all_was_between c.put_judged.result (λ answer. answer ≡ None) (Watches (One (g.T.Taker.wanted c.args.judge.now))) _ _ _ _ (plain_follows _ _ c.keep_relied.ensures.plain) (follows_none _)
    c.put_judged.ensures.wanted

pub returns-clause-unlinked : goal.returns-clause-unlinked
returns-clause-unlinked g c =
    let P = λ (l : List Call). ⊥ in
    all_links_between c.put_judged.result (λ answer. answer ≡ None) P _ _ _ _ (plain_links P _ _ c.keep_relied.ensures.plain) (links_none P _) c.put_judged.ensures.unlinked

pub returns-in_err-keep_relied-clause-unlocked : goal.returns-in_err-keep_relied-clause-unlocked
returns-in_err-keep_relied-clause-unlocked g c = λ none. plain_lock _ _ c.keep_relied.ensures.plain ∙ none

pub returns-clause-unlocked : goal.returns-clause-unlocked
returns-clause-unlocked g c = λ none. c.put_judged.ensures.unlocked (plain_lock _ _ c.keep_relied.ensures.plain ∙ none)

pub returns-clause-safe : goal.returns-clause-safe
returns-clause-safe g c = λ parts may.
    let puts = c.put_judged.ensures.in_turn parts may in
    on_ok c.put_judged.result (relied_later parts (map string_bytes c.args.relied.now) (g.F.Folder.history c.args.folder.now) _ _ (puts.0, puts.1) (c.in_ok-keep_relied.ensures.safe parts))

pub returns-in_err-keep_relied-clause-first : goal.returns-in_err-keep_relied-clause-first
returns-in_err-keep_relied-clause-first g c = λ parts may. plain_links (AreKept parts (map string_bytes c.args.relied.now) _) _ _ c.keep_relied.ensures.plain

pub returns-clause-first : goal.returns-clause-first
returns-clause-first g c = λ parts may.
    let puts = c.put_judged.ensures.in_turn parts may in
    let P = AreKept parts (map string_bytes c.args.relied.now) (g.F.Folder.history c.args.folder.now) in
    links_more P _ _ _ (plain_links P _ _ c.keep_relied.ensures.plain) (kept_first parts (map string_bytes c.args.relied.now) _ _ _ (puts.0, puts.1) (c.in_ok-keep_relied.ensures.kept parts))
