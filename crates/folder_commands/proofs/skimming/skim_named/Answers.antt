-- What was read of all parts answers loads.
use Rattle.std.specs.Prelude.{ℕ, List, Option, Some, Ok, Err, filter, map, string_bytes}
use Rattle.std.proofs.Common.{refl, sym, ap, subst}
use Rattle.table_model.specs.declared.refusal.Refusal.{Refusal}
use Rattle.folder_protocol.specs.declared.taking.Untaken.{Untaken}
use Rattle.folder_protocol.proofs.Causing.{follows_none}
use Rattle.replica_store.specs.Replica.{Replica}
use Rattle.folder_parts.specs.PartReads.{IsListed, is_refusal_of_part}
use Rattle.folder_parts.specs.Parts.{PartForm}
use Rattle.folder_parts.specs.declared.fault.PartFault.TheVariants.{Refused}
use Rattle.folder_parts.specs.declared.fault.PartRefusal.{PartRefusal}
use Rattle.folder_parts.specs.declared.skimming.SkimmedParts.{SkimmedParts}
use Rattle.folder_commands.specs.ReadParts.{AreReadSoFar, IfRefused, StopsReading}
use Rattle.folder_commands.specs.Relying.{AreRelied}
use Rattle.folder_commands.specs.Skims.{IsSkimOf, IsSkimRefused, SkimsRead}
use Rattle.folder_commands.specs.Wanted.{is_wanted}
use Rattle.folder_commands.specs.declared.reliance.Reliance.TheVariants.{Load}
use Rattle.folder_commands.proofs.Commands.{were_given}
use Rattle.folder_commands.proofs.ReadParts.{if_refused, read_so}
use Rattle.folder_commands.proofs.Skims.{all_lack, all_skimmed, none_wanted, one_refused}
use Rattle.folder_commands.proofs.skimming.skim_named.Goals as goal

pub returns-in_default-clause-none : goal.returns-in_default-clause-none
returns-in_default-clause-none g c = λ none.
    let first = c.args.names.first in
    let count = c.args.names.count in
    let passed = map string_bytes c.args.passed.now in
    let listed = map string_bytes c.args.listed.now in
    let before = g.F.Folder.history c.args.folder.now in
    let after = g.F.Folder.history c.gather_each.new.folder in
    let relied = map string_bytes c.in-Ok.skimming.relied.items in
    let skim = c.in-Ok.skimming.skim in
    let read = c.in-Ok.ensures.read (refl, λ part item among. absurd among) in
    none_wanted skim read.0 passed listed first count before after c.in_default.is
    (read_so (λ parts. IsSkimOf skim first count parts × AreRelied (Load c.args.names) relied parts) (IsSkimOf skim first count) (λ parts so. so.0) read.0 (filter (is_wanted passed) listed) before after read.1)

pub returns-in-Ok-into_parts-clause-answers : goal.returns-in-Ok-into_parts-clause-answers
returns-in-Ok-into_parts-clause-answers g c =
    let first = c.args.names.first in
    let count = c.args.names.count in
    let passed = map string_bytes c.args.passed.now in
    let listed = map string_bytes c.args.listed.now in
    let before = g.F.Folder.history c.args.folder.now in
    let after = g.F.Folder.history c.gather_each.new.folder in
    let relied = map string_bytes c.in-Ok.skimming.relied.items in
    let skim = c.in-Ok.skimming.skim in
    let read = c.in-Ok.ensures.read (refl, λ part item among. absurd among) in
    let so = read_so (λ parts. IsSkimOf skim first count parts × AreRelied (Load c.args.names) relied parts) (IsSkimOf skim first count) (λ parts so. so.0) read.0 (filter (is_wanted passed) listed) before after read.1 in
    all_skimmed (λ (p : SkimmedParts). p.held.replica) (λ p. p.batches) c.in-Ok-into_parts.parts c.in-Some.skim read.0 passed listed first count before after
    (subst (λ (o : Option (Replica × ℕ)). AreReadSoFar (IsSkimOf o first count) read.0 (filter (is_wanted passed) listed) before after) c.in-Some.is so)
    (c.in-Ok-into_parts.ensures.answers first count)

pub returns-in-Ok-into_parts-clause-relied : goal.returns-in-Ok-into_parts-clause-relied
returns-in-Ok-into_parts-clause-relied g c =
    let first = c.args.names.first in
    let count = c.args.names.count in
    let passed = map string_bytes c.args.passed.now in
    let listed = map string_bytes c.args.listed.now in
    let before = g.F.Folder.history c.args.folder.now in
    let after = g.F.Folder.history c.gather_each.new.folder in
    let relied = map string_bytes c.in-Ok.skimming.relied.items in
    let skim = c.in-Ok.skimming.skim in
    let read = c.in-Ok.ensures.read (refl, λ part item among. absurd among) in (
      read.0,
      read_so (λ parts. IsSkimOf skim first count parts × AreRelied (Load c.args.names) relied parts) (AreRelied (Load c.args.names) relied) (λ parts so. so.1) read.0 (filter (is_wanted passed) listed) before after read.1,
    )

pub returns-in-Err-clause-refused : goal.returns-in-Err-clause-refused
returns-in-Err-clause-refused g c = λ gave.
    let first = c.args.names.first in
    let count = c.args.names.count in
    let passed = map string_bytes c.args.passed.now in
    let listed = map string_bytes c.args.listed.now in
    let before = g.F.Folder.history c.args.folder.now in
    let after = g.F.Folder.history c.gather_each.new.folder in
    let goes = c.gather_each.ensures.in_turn in
    if_refused c.in-Err.fault (λ (r : PartRefusal). StopsReading (λ parts. SkimsRead (Err r.fault) first count parts × IsListed is_refusal_of_part r.fault) r (filter (is_wanted passed) listed) before after)
    (λ (r : PartRefusal). IsSkimRefused r passed first count before after)
    (λ r so. one_refused r passed listed first count before after so (were_given listed before before after (follows_none before) (goes.0, goes.1) gave))
    (c.in-Err.ensures.refused (refl, λ part item among. absurd among))

pub returns-in-Err-into_parts-clause-refused : goal.returns-in-Err-into_parts-clause-refused
returns-in-Err-into_parts-clause-refused g c = λ gave.
    let first = c.args.names.first in
    let count = c.args.names.count in
    let passed = map string_bytes c.args.passed.now in
    let listed = map string_bytes c.args.listed.now in
    let before = g.F.Folder.history c.args.folder.now in
    let after = g.F.Folder.history c.gather_each.new.folder in
    let relied = map string_bytes c.in-Ok.skimming.relied.items in
    let skim = c.in-Ok.skimming.skim in
    let read = c.in-Ok.ensures.read (refl, λ part item among. absurd among) in
    let so = read_so (λ parts. IsSkimOf skim first count parts × AreRelied (Load c.args.names) relied parts) (IsSkimOf skim first count) (λ parts so. so.0) read.0 (filter (is_wanted passed) listed) before after read.1 in
    let goes = c.gather_each.ensures.in_turn in
    let refusal : PartRefusal = record { part = 0; fault = Refused c.in-Err-into_parts.refusal } in
    subst (λ (u : Untaken PartRefusal). IfRefused u (λ r. IsSkimRefused r passed first count before after)) (sym c.refused.ensures)
    (all_lack refusal c.in-Some.skim read.0 passed listed first count before after
    (subst (λ (o : Option (Replica × ℕ)). AreReadSoFar (IsSkimOf o first count) read.0 (filter (is_wanted passed) listed) before after) c.in-Some.is so)
    (ap (λ (e : Refusal). let r : PartRefusal = record { part = 0; fault = Refused e } in r) c.in-Err-into_parts.ensures.refused)
    (were_given listed before before after (follows_none before) (goes.0, goes.1) gave))
