-- The names are listed, and then their parts are skimmed.
use Rattle.std.specs.Prelude.{ℕ, List, Option, Ok, IfSome, filter, map, string_bytes}
use Rattle.std.proofs.Common.{Global, String, Vec, sym, ap, subst, ◌∙◌}
use Rattle.folder_model.specs.Turn.{Gave}
use Rattle.folder_protocol.proofs.Lines.{joins}
use Rattle.folder_protocol.proofs.Removals.{removes_more}
use Rattle.folder_protocol.proofs.TakeLines.{untaken_later}
use Rattle.folder_parts.specs.Covers.{folder_parts}
use Rattle.folder_parts.specs.declared.fault.PartRefusal.{PartRefusal}
use Rattle.folder_parts.specs.declared.skimming.SkimmedParts.{SkimmedParts}
use Rattle.folder_commands.specs.Joined.{AreUnwanted}
use Rattle.folder_commands.specs.Relying.{AreReadRelied}
use Rattle.folder_commands.specs.Skims.{AreSkimmed, IsSkimRefused}
use Rattle.folder_commands.specs.Wanted.{is_wanted}
use Rattle.folder_commands.specs.declared.reliance.Reliance.TheVariants.{Load}
use Rattle.folder_commands.proofs.Commands.{were_given}
use Rattle.folder_commands.proofs.ReadParts.{if_refused}
use Rattle.folder_commands.proofs.Relied.{relied_later}
use Rattle.folder_commands.proofs.Skims.{refused_later, skimmed_later}
use Rattle.folder_commands.proofs.skimming.skim_folder.Goals as goal

pub returns-in-Ok-Some-clause-in_turn : goal.returns-in-Ok-Some-clause-in_turn
returns-in-Ok-Some-clause-in_turn g c = joins folder_parts _ _ _ (c.list_names.ensures.in_turn folder_parts) c.skim_named.ensures.in_turn

pub returns-in-Ok-Some-clause-listed : goal.returns-in-Ok-Some-clause-listed
returns-in-Ok-Some-clause-listed g c =
    let lists = c.list_names.ensures.in_turn folder_parts in
    let skims = c.skim_named.ensures.in_turn in
    were_given (map string_bytes c.in-Ok.listed.items) (g.F.Folder.history c.args.folder.now) (g.F.Folder.history c.list_names.new.folder) (g.F.Folder.history c.skim_named.new.folder) (lists.0, lists.1) (skims.0, skims.1) c.in-Ok.ensures.listed

pub returns-in-Ok-Some-clause-answers : goal.returns-in-Ok-Some-clause-answers
returns-in-Ok-Some-clause-answers g c =
    let lists = c.list_names.ensures.in_turn folder_parts in
    let passed = map string_bytes c.args.passed.now in
    let first = c.args.names.first in
    let count = c.args.names.count in
    let before = g.F.Folder.history c.args.folder.now in
    let mid = g.F.Folder.history c.list_names.new.folder in
    let after = g.F.Folder.history c.skim_named.new.folder in
    let there = subst (λ (o : Option (SkimmedParts × Vec (String Global) Global)). IfSome o (λ both. AreSkimmed {X = SkimmedParts} (λ p. p.held.replica) (λ p. p.batches) (Ok both.0) passed (map string_bytes c.as_slice.result.now) first count mid after))
    c.in-Ok-Some.field-0-is c.in-Ok-Some.ensures.answers in
    skimmed_later {X = SkimmedParts} (λ p. p.held.replica) (λ p. p.batches) (Ok c.in-Ok-Some.held) passed (map string_bytes c.in-Ok.listed.items) first count before mid after (lists.0, lists.1)
    (subst (λ l. AreSkimmed {X = SkimmedParts} (λ p. p.held.replica) (λ p. p.batches) (Ok c.in-Ok-Some.held) passed (map string_bytes l) first count mid after) c.as_slice.ensures.value there)

pub returns-in-Ok-Some-clause-relied : goal.returns-in-Ok-Some-clause-relied
returns-in-Ok-Some-clause-relied g c =
    let lists = c.list_names.ensures.in_turn folder_parts in
    let wanted = is_wanted (map string_bytes c.args.passed.now) in
    let load = Load c.args.names in
    let before = g.F.Folder.history c.args.folder.now in
    let mid = g.F.Folder.history c.list_names.new.folder in
    let after = g.F.Folder.history c.skim_named.new.folder in
    let there = subst (λ (o : Option (SkimmedParts × Vec (String Global) Global)). IfSome o (λ both. AreReadRelied load (map string_bytes both.1.items) (filter wanted (map string_bytes c.as_slice.result.now)) mid after))
    c.in-Ok-Some.field-0-is c.in-Ok-Some.ensures.relied in
    relied_later load (map string_bytes c.in-Ok-Some.relied.items) (filter wanted (map string_bytes c.in-Ok.listed.items)) before mid after (lists.0, lists.1)
    (subst (λ l. AreReadRelied load (map string_bytes c.in-Ok-Some.relied.items) (filter wanted (map string_bytes l)) mid after) c.as_slice.ensures.value there)

pub returns-in-Ok-None-clause-in_turn : goal.returns-in-Ok-None-clause-in_turn
returns-in-Ok-None-clause-in_turn g c = joins folder_parts _ _ _ (c.list_names.ensures.in_turn folder_parts) c.skim_named.ensures.in_turn

pub returns-in-Ok-None-clause-none : goal.returns-in-Ok-None-clause-none
returns-in-Ok-None-clause-none g c = λ none.
    let lists = c.list_names.ensures.in_turn folder_parts in
    let skims = c.skim_named.ensures.in_turn in
    let names = map string_bytes c.in-Ok.listed.items in (
      names,
      were_given names (g.F.Folder.history c.args.folder.now) (g.F.Folder.history c.list_names.new.folder) (g.F.Folder.history c.skim_named.new.folder) (lists.0, lists.1) (skims.0, skims.1) c.in-Ok.ensures.listed,
      subst (λ l. AreUnwanted (map string_bytes c.args.passed.now) (map string_bytes l)) c.as_slice.ensures.value (c.in-Ok-None.ensures.none c.in-Ok-None.field-0-is),
    )

pub returns-in-Err-skim_named-clause-in_turn : goal.returns-in-Err-skim_named-clause-in_turn
returns-in-Err-skim_named-clause-in_turn g c = joins folder_parts _ _ _ (c.list_names.ensures.in_turn folder_parts) c.skim_named.ensures.in_turn

pub returns-in-Err-skim_named-clause-refused : goal.returns-in-Err-skim_named-clause-refused
returns-in-Err-skim_named-clause-refused g c =
    let lists = c.list_names.ensures.in_turn folder_parts in
    let passed = map string_bytes c.args.passed.now in
    let first = c.args.names.first in
    let count = c.args.names.count in
    let before = g.F.Folder.history c.args.folder.now in
    let mid = g.F.Folder.history c.list_names.new.folder in
    let after = g.F.Folder.history c.skim_named.new.folder in
    if_refused c.in-Err-skim_named.fault (λ (r : PartRefusal). IsSkimRefused r passed first count mid after) (λ (r : PartRefusal). IsSkimRefused r passed first count before after)
    (λ r so. refused_later r passed first count before mid after (lists.0, lists.1) so)
    (c.in-Err-skim_named.ensures.refused (c.in-Ok.ensures.listed ∙ ap (λ l. Gave (map string_bytes l)) (sym c.as_slice.ensures.value)))

pub returns-in-Err-skim_named-clause-cause : goal.returns-in-Err-skim_named-clause-cause
returns-in-Err-skim_named-clause-cause g c =
    let lists = c.list_names.ensures.in_turn folder_parts in
    untaken_later c.in-Err-skim_named.fault _ _ _ (lists.0, lists.1) c.in-Err-skim_named.ensures.cause

pub returns-in-Ok-Some-clause-unremoved : goal.returns-in-Ok-Some-clause-unremoved
returns-in-Ok-Some-clause-unremoved g c = removes_more (λ (name : List ℕ). ⊥) _ _ _ c.list_names.ensures.unremoved c.skim_named.ensures.unremoved

pub returns-in-Ok-None-clause-unremoved : goal.returns-in-Ok-None-clause-unremoved
returns-in-Ok-None-clause-unremoved g c = removes_more (λ (name : List ℕ). ⊥) _ _ _ c.list_names.ensures.unremoved c.skim_named.ensures.unremoved

pub returns-in-Err-skim_named-clause-unremoved : goal.returns-in-Err-skim_named-clause-unremoved
returns-in-Err-skim_named-clause-unremoved g c = removes_more (λ (name : List ℕ). ⊥) _ _ _ c.list_names.ensures.unremoved c.skim_named.ensures.unremoved
