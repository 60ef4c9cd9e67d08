-- The file of what was read covers each part that was.
use Rattle.std.specs.Prelude.{List, [], Option, map, string_bytes, option_map}
use Rattle.std.proofs.Common.{ap, ◌∙◌}
use Rattle.folder_model.specs.Call.{Call}
use Rattle.folder_protocol.proofs.Lines.{joins}
use Rattle.folder_protocol.proofs.Linking.{plain_links, plain_lock}
use Rattle.folder_protocol.proofs.TakeLines.{untaken_later}
use Rattle.replica_store.specs.declared.store.Store.{Store}
use Rattle.folder_parts.specs.Covers.{folder_parts}
use Rattle.folder_commands.proofs.Commands.{pack_covers, packs}
use Rattle.folder_commands.proofs.Temporaries.{no_temporary}
use Rattle.folder_commands.proofs.packing.pack.Goals as goal

pub returns-in-Ok-replace_read-clause-in_turn : goal.returns-in-Ok-replace_read-clause-in_turn
returns-in-Ok-replace_read-clause-in_turn g c = λ temp.
    let held = λ (o : Option Store). option_map (λ (s : Store). s.replica) o in
    let mid = g.F.Folder.history c.read_named.new.folder in
    let covered = pack_covers [] (map string_bytes c.args.names.now) (held c.in-Ok-Some.field-0) c.in-Ok-Some.store.replica c.as_slice.result.now mid (ap held c.in-Ok-Some.field-0-is) c.in-Ok-Some.ensures.read
    (c.as_slice.ensures.value ∙ c.in-Ok.ensures.file, c.in-Ok.ensures.read) in
    joins folder_parts _ _ _ c.read_named.ensures.in_turn (c.replace_read.ensures.in_turn temp covered)

pub returns-in-Ok-replace_read-clause-packed : goal.returns-in-Ok-replace_read-clause-packed
returns-in-Ok-replace_read-clause-packed g c =
    let held = λ (o : Option Store). option_map (λ (s : Store). s.replica) o in
    let before = g.F.Folder.history c.args.folder.now in
    let mid = g.F.Folder.history c.read_named.new.folder in
    let after = g.F.Folder.history c.replace_read.new.folder in
    packs (map string_bytes c.args.names.now) (held c.in-Ok-Some.field-0) c.in-Ok-Some.store.replica c.as_slice.result.now (string_bytes c.in-Ok-replace_read.done.name) (map string_bytes c.in-Ok-replace_read.done.gone.items)
    c.in-Ok-replace_read.done.outcome before mid after (ap held c.in-Ok-Some.field-0-is) c.in-Ok-Some.ensures.read (c.as_slice.ensures.value ∙ c.in-Ok.ensures.file, c.in-Ok.ensures.read)
    c.read_named.ensures.in_turn (plain_links (λ (l : List Call). ⊥) _ _ c.read_named.ensures.plain) c.in-Ok-replace_read.ensures.replaces

pub returns-clause-in_turn : goal.returns-clause-in_turn
returns-clause-in_turn g c = λ temp.
    let held = λ (o : Option Store). option_map (λ (s : Store). s.replica) o in
    let mid = g.F.Folder.history c.read_named.new.folder in
    let covered = pack_covers [] (map string_bytes c.args.names.now) (held c.in-Ok-Some.field-0) c.in-Ok-Some.store.replica c.as_slice.result.now mid (ap held c.in-Ok-Some.field-0-is) c.in-Ok-Some.ensures.read
    (c.as_slice.ensures.value ∙ c.in-Ok.ensures.file, c.in-Ok.ensures.read) in
    joins folder_parts _ _ _ c.read_named.ensures.in_turn (c.replace_read.ensures.in_turn temp covered)

pub returns-clause-cause : goal.returns-clause-cause
returns-clause-cause g c =
    let lists = c.read_named.ensures.in_turn in
    untaken_later c.in-Err-replace_read.fault _ _ _ (lists.0, lists.1) c.in-Err-replace_read.ensures.cause

pub returns-in-Ok-replace_read-clause-in_turn_named : goal.returns-in-Ok-replace_read-clause-in_turn_named
returns-in-Ok-replace_read-clause-in_turn_named g c = λ is. returns-in-Ok-replace_read-clause-in_turn g c (no_temporary c.args.temporary.now is)

pub returns-clause-in_turn_named : goal.returns-clause-in_turn_named
returns-clause-in_turn_named g c = λ is. returns-clause-in_turn g c (no_temporary c.args.temporary.now is)

pub returns-in-Ok-replace_read-clause-unlocked : goal.returns-in-Ok-replace_read-clause-unlocked
returns-in-Ok-replace_read-clause-unlocked g c = λ none. c.replace_read.ensures.unlocked (plain_lock _ _ c.read_named.ensures.plain ∙ none)

pub returns-clause-unlocked : goal.returns-clause-unlocked
returns-clause-unlocked g c = λ none. c.replace_read.ensures.unlocked (plain_lock _ _ c.read_named.ensures.plain ∙ none)

pub returns-in-Ok-None-clause-unlocked : goal.returns-in-Ok-None-clause-unlocked
returns-in-Ok-None-clause-unlocked g c = λ none. plain_lock _ _ c.read_named.ensures.plain ∙ none

pub returns-in-Err-clause-unlocked : goal.returns-in-Err-clause-unlocked
returns-in-Err-clause-unlocked g c = λ none. plain_lock _ _ c.read_named.ensures.plain ∙ none

pub returns-in-Err-file_of-clause-unlocked : goal.returns-in-Err-file_of-clause-unlocked
returns-in-Err-file_of-clause-unlocked g c = λ none. plain_lock _ _ c.read_named.ensures.plain ∙ none
