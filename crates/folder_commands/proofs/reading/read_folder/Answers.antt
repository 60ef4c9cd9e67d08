-- The names are listed, and then read.
use Rattle.std.specs.Prelude.{ℕ, List, map, string_bytes}
use Rattle.std.proofs.Common.{sym, ap, subst, ◌∙◌}
use Rattle.folder_model.specs.Call.{Call}
use Rattle.folder_model.specs.Turn.{Gave}
use Rattle.folder_protocol.proofs.Lines.{joins}
use Rattle.folder_protocol.proofs.Linking.{links_more, plain_links, plain_lock}
use Rattle.folder_protocol.proofs.Removals.{removes_more}
use Rattle.folder_protocol.proofs.TakeLines.{untaken_later}
use Rattle.folder_parts.specs.Covers.{folder_parts}
use Rattle.folder_parts.specs.declared.fault.PartRefusal.{PartRefusal}
use Rattle.folder_commands.specs.ReadParts.{IfRefused}
use Rattle.folder_commands.specs.Refusals.{IsFolderRefused, IsReadRefused}
use Rattle.folder_commands.proofs.Commands.{were_given}
use Rattle.folder_commands.proofs.ReadParts.{if_refused}
use Rattle.folder_commands.proofs.Refused.{folder_refused}
use Rattle.folder_commands.proofs.reading.read_folder.Goals as goal

pub returns-in-Ok-Some-clause-in_turn : goal.returns-in-Ok-Some-clause-in_turn
returns-in-Ok-Some-clause-in_turn g c = joins folder_parts _ _ _ (c.list_names.ensures.in_turn folder_parts) c.join_named.ensures.in_turn

pub returns-in-Ok-None-clause-in_turn : goal.returns-in-Ok-None-clause-in_turn
returns-in-Ok-None-clause-in_turn g c = joins folder_parts _ _ _ (c.list_names.ensures.in_turn folder_parts) c.join_named.ensures.in_turn

pub returns-in-Err-join_named-clause-in_turn : goal.returns-in-Err-join_named-clause-in_turn
returns-in-Err-join_named-clause-in_turn g c = joins folder_parts _ _ _ (c.list_names.ensures.in_turn folder_parts) c.join_named.ensures.in_turn

pub returns-in-Err-join_named-clause-refused : goal.returns-in-Err-join_named-clause-refused
returns-in-Err-join_named-clause-refused g c =
    let lists = c.list_names.ensures.in_turn folder_parts in
    let joined = c.join_named.ensures.in_turn in
    let passed = map string_bytes c.args.passed.now in
    let names = map string_bytes c.as_slice.result.now in
    let before = g.F.Folder.history c.args.folder.now in
    let mid = g.F.Folder.history c.list_names.new.folder in
    let after = g.F.Folder.history c.join_named.new.folder in
    let given = were_given names before mid after (lists.0, lists.1) (joined.0, joined.1) (c.in-Ok.ensures.listed ∙ ap (λ l. Gave (map string_bytes l)) (sym c.as_slice.ensures.value)) in
    if_refused c.in-Err-join_named.fault (λ (r : PartRefusal). IsReadRefused r passed names mid after) (λ (r : PartRefusal). IsFolderRefused r passed before after)
    (λ r is. folder_refused r passed names before mid after (lists.0, lists.1) given is)
    c.in-Err-join_named.ensures.refused

pub returns-in-Err-join_named-clause-cause : goal.returns-in-Err-join_named-clause-cause
returns-in-Err-join_named-clause-cause g c =
    let lists = c.list_names.ensures.in_turn folder_parts in
    untaken_later c.in-Err-join_named.fault _ _ _ (lists.0, lists.1) c.in-Err-join_named.ensures.cause

pub returns-in-Ok-Some-clause-unlocked : goal.returns-in-Ok-Some-clause-unlocked
returns-in-Ok-Some-clause-unlocked g c = plain_lock _ _ c.join_named.ensures.plain ∙ c.list_names.ensures.unlocked

pub returns-in-Ok-None-clause-unlocked : goal.returns-in-Ok-None-clause-unlocked
returns-in-Ok-None-clause-unlocked g c = plain_lock _ _ c.join_named.ensures.plain ∙ c.list_names.ensures.unlocked

pub returns-in-Err-join_named-clause-unlocked : goal.returns-in-Err-join_named-clause-unlocked
returns-in-Err-join_named-clause-unlocked g c = plain_lock _ _ c.join_named.ensures.plain ∙ c.list_names.ensures.unlocked

pub returns-in-Ok-Some-clause-unlinked : goal.returns-in-Ok-Some-clause-unlinked
returns-in-Ok-Some-clause-unlinked g c = links_more (λ (l : List Call). ⊥) _ _ _ c.list_names.ensures.unlinked (plain_links (λ (l : List Call). ⊥) _ _ c.join_named.ensures.plain)

pub returns-in-Ok-Some-clause-unremoved : goal.returns-in-Ok-Some-clause-unremoved
returns-in-Ok-Some-clause-unremoved g c = removes_more (λ (name : List ℕ). ⊥) _ _ _ c.list_names.ensures.unremoved c.join_named.ensures.unremoved

pub returns-in-Ok-None-clause-unlinked : goal.returns-in-Ok-None-clause-unlinked
returns-in-Ok-None-clause-unlinked g c = links_more (λ (l : List Call). ⊥) _ _ _ c.list_names.ensures.unlinked (plain_links (λ (l : List Call). ⊥) _ _ c.join_named.ensures.plain)

pub returns-in-Ok-None-clause-unremoved : goal.returns-in-Ok-None-clause-unremoved
returns-in-Ok-None-clause-unremoved g c = removes_more (λ (name : List ℕ). ⊥) _ _ _ c.list_names.ensures.unremoved c.join_named.ensures.unremoved

pub returns-in-Err-join_named-clause-unlinked : goal.returns-in-Err-join_named-clause-unlinked
returns-in-Err-join_named-clause-unlinked g c = links_more (λ (l : List Call). ⊥) _ _ _ c.list_names.ensures.unlinked (plain_links (λ (l : List Call). ⊥) _ _ c.join_named.ensures.plain)

pub returns-in-Err-join_named-clause-unremoved : goal.returns-in-Err-join_named-clause-unremoved
returns-in-Err-join_named-clause-unremoved g c = removes_more (λ (name : List ℕ). ⊥) _ _ _ c.list_names.ensures.unremoved c.join_named.ensures.unremoved
