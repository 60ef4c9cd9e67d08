-- What it relies on is kept, and then the part is put.
use Rattle.std.specs.Prelude.{map, string_bytes}
use Rattle.std.proofs.Common.{◌∙◌}
use Rattle.folder_protocol.proofs.Causing.{all_named_later, fails_later, looks_later}
use Rattle.folder_protocol.proofs.Lines.{joins}
use Rattle.folder_protocol.proofs.Linking.{links_more, plain_links, plain_lock}
use Rattle.folder_protocol.proofs.Kept.{any_parts, kept_first, kept_later, on_ok, relied_later}
use Rattle.folder_protocol.specs.Keeping.{AreKept}
use Rattle.folder_protocol.proofs.relying.keep_and_put.Goals as goal

pub returns-clause-in_turn : goal.returns-clause-in_turn
returns-clause-in_turn g c = λ parts may. joins parts _ _ _ (c.keep_relied.ensures.in_turn parts) (c.put.ensures.in_turn parts may)

pub returns-clause-kept : goal.returns-clause-kept
returns-clause-kept g c = λ parts may.
    let puts = c.put.ensures.in_turn parts may in
    on_ok c.put.result (kept_later parts (map string_bytes c.args.relied.now) _ _ _ (puts.0, puts.1) (c.in_ok-keep_relied.ensures.kept parts))

pub returns-clause-cause : goal.returns-clause-cause
returns-clause-cause g c =
    let keeps = c.keep_relied.ensures.in_turn any_parts in
    looks_later c.put.result c.args.name.now c.args.bytes.now _ _ _ (keeps.0, keeps.1) c.put.ensures.cause

pub returns-clause-fails : goal.returns-clause-fails
returns-clause-fails g c =
    let keeps = c.keep_relied.ensures.in_turn any_parts in
    fails_later c.put.result _ _ _ (keeps.0, keeps.1) c.put.ensures.fails

pub returns-clause-named : goal.returns-clause-named
returns-clause-named g c =
    let keeps = c.keep_relied.ensures.in_turn any_parts in
    all_named_later c.put.result c.args.name.now _ _ _ (keeps.0, keeps.1) c.put.ensures.named

pub returns-in_err-keep_relied-clause-locks : goal.returns-in_err-keep_relied-clause-locks
returns-in_err-keep_relied-clause-locks g c = plain_lock _ _ c.keep_relied.ensures.plain

pub returns-clause-locks : goal.returns-clause-locks
returns-clause-locks g c = c.put.ensures.locks ∙ plain_lock _ _ c.keep_relied.ensures.plain

pub returns-clause-safe : goal.returns-clause-safe
returns-clause-safe g c = λ parts may.
    let puts = c.put.ensures.in_turn parts may in
    on_ok c.put.result (relied_later parts (map string_bytes c.args.relied.now) (g.F.Folder.history c.args.folder.now) _ _ (puts.0, puts.1) (c.in_ok-keep_relied.ensures.safe parts))

pub returns-in_err-keep_relied-clause-first : goal.returns-in_err-keep_relied-clause-first
returns-in_err-keep_relied-clause-first g c = λ parts may. plain_links (AreKept parts (map string_bytes c.args.relied.now) _) _ _ c.keep_relied.ensures.plain

pub returns-clause-first : goal.returns-clause-first
returns-clause-first g c = λ parts may.
    let puts = c.put.ensures.in_turn parts may in
    let P = AreKept parts (map string_bytes c.args.relied.now) (g.F.Folder.history c.args.folder.now) in
    links_more P _ _ _ (plain_links P _ _ c.keep_relied.ensures.plain) (kept_first parts (map string_bytes c.args.relied.now) _ _ _ (puts.0, puts.1) (c.in_ok-keep_relied.ensures.kept parts))
