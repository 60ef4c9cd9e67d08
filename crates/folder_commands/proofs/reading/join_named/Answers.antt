-- What was joined is the join of what was read.
use Rattle.std.specs.Prelude.{ℕ, List, [], Option, Some, None, filter, map, string_bytes}
use Rattle.std.proofs.Common.{refl, sym, ap, subst, ◌∙◌, inl, inr}
use Rattle.folder_model.specs.Call.{Call}
use Rattle.folder_model.specs.Turn.{Gave}
use Rattle.folder_protocol.specs.declared.taking.Untaken.{Untaken}
use Rattle.replica_store.specs.Replica.{Replica}
use Rattle.replica_store.proofs.Limits.{same_Ok}
use Rattle.folder_parts.specs.Parts.{PartForm}
use Rattle.folder_parts.specs.declared.fault.PartRefusal.{PartRefusal}
use Rattle.folder_commands.specs.Joined.{IsJoinedOf, IsStopped}
use Rattle.folder_commands.specs.ReadParts.{AreReadSoFar, IfRefused, StopsReading}
use Rattle.folder_commands.specs.Refusals.{IsReadRefused}
use Rattle.folder_commands.specs.Relying.{AreAllRelied, AreRelied}
use Rattle.folder_commands.specs.Wanted.{is_wanted}
use Rattle.folder_commands.proofs.Joins.{all_listed, all_read, part_at_fault}
use Rattle.folder_commands.proofs.ReadParts.{if_refused}
use Rattle.folder_commands.proofs.Refused.{lacks}
use Rattle.folder_commands.proofs.Relied.{all_relied}
use Rattle.folder_commands.proofs.reading.join_named.Goals as goal

pub returns-in-Err-clause-refused : goal.returns-in-Err-clause-refused
returns-in-Err-clause-refused g c =
    let passed = map string_bytes c.args.passed.now in
    let names = map string_bytes c.args.names.now in
    let before = g.F.Folder.history c.args.folder.now in
    let after = g.F.Folder.history c.gather_each.new.folder in
    if_refused c.in-Err.fault (λ (r : PartRefusal). StopsReading (IsStopped r.fault) r (filter (is_wanted passed) names) before after) (λ (r : PartRefusal). IsReadRefused r passed names before after)
    (λ r so. inl (part_at_fault r passed names before after so))
    (c.in-Err.ensures.refused (subst (λ (o : Option Replica). IsJoinedOf o []) (sym c.new-start.ensures) refl, λ part item among. absurd among))

pub returns-in_default-clause-read : goal.returns-in_default-clause-read
returns-in_default-clause-read g c =
    let read = c.in-Ok.ensures.read (subst (λ (o : Option Replica). IsJoinedOf o []) (sym c.new-start.ensures) refl, λ part item among. absurd among) in
    all_read (map string_bytes c.args.passed.now) (map string_bytes c.args.names.now) c.in-Ok.joining.join (AreRelied c.args.reliance.now (map string_bytes c.in-Ok.joining.relied.items)) read.0
    (g.F.Folder.history c.args.folder.now) (g.F.Folder.history c.gather_each.new.folder) read.1 None (sym c.in_default.is)

pub returns-in_default-clause-since : goal.returns-in_default-clause-since
returns-in_default-clause-since g c = λ listed gave none same.
    let read = c.in-Ok.ensures.read (subst (λ (o : Option Replica). IsJoinedOf o []) (sym c.new-start.ensures) refl, λ part item among. absurd among) in
    all_listed (map string_bytes c.args.passed.now) (map string_bytes c.args.names.now) c.in-Ok.joining.join (AreRelied c.args.reliance.now (map string_bytes c.in-Ok.joining.relied.items)) read.0
    (g.F.Folder.history c.args.folder.now) (g.F.Folder.history c.gather_each.new.folder) read.1 (c.gather_each.ensures.listing ∙ gave ∙ ap Gave same) none

pub returns-in-Ok-into_store-clause-read : goal.returns-in-Ok-into_store-clause-read
returns-in-Ok-into_store-clause-read g c =
    let read = c.in-Ok.ensures.read (subst (λ (o : Option Replica). IsJoinedOf o []) (sym c.new-start.ensures) refl, λ part item among. absurd among) in
    let is = same_Ok c.in-Some.join c.in-Ok-into_store.store.replica c.in-Ok-into_store.ensures.store in
    all_read (map string_bytes c.args.passed.now) (map string_bytes c.args.names.now) c.in-Ok.joining.join (AreRelied c.args.reliance.now (map string_bytes c.in-Ok.joining.relied.items)) read.0
    (g.F.Folder.history c.args.folder.now) (g.F.Folder.history c.gather_each.new.folder) read.1 (Some c.in-Ok-into_store.store.replica) (ap (λ (r : Replica). Some r) (sym is) ∙ sym c.in-Some.is)

pub returns-in-Ok-into_store-clause-since : goal.returns-in-Ok-into_store-clause-since
returns-in-Ok-into_store-clause-since g c = λ listed gave none same.
    let read = c.in-Ok.ensures.read (subst (λ (o : Option Replica). IsJoinedOf o []) (sym c.new-start.ensures) refl, λ part item among. absurd among) in
    all_listed (map string_bytes c.args.passed.now) (map string_bytes c.args.names.now) c.in-Ok.joining.join (AreRelied c.args.reliance.now (map string_bytes c.in-Ok.joining.relied.items)) read.0
    (g.F.Folder.history c.args.folder.now) (g.F.Folder.history c.gather_each.new.folder) read.1 (c.gather_each.ensures.listing ∙ gave ∙ ap Gave same) none

pub returns-in-Ok-into_store-clause-relied : goal.returns-in-Ok-into_store-clause-relied
returns-in-Ok-into_store-clause-relied g c =
    let reliance = c.args.reliance.now in
    let relied = map string_bytes c.in-Ok.joining.relied.items in
    let wanted = filter (is_wanted (map string_bytes c.args.passed.now)) (map string_bytes c.args.names.now) in
    let before = g.F.Folder.history c.args.folder.now in
    let after = g.F.Folder.history c.gather_each.new.folder in
    let read = c.in-Ok.ensures.read (subst (λ (o : Option Replica). IsJoinedOf o []) (sym c.new-start.ensures) refl, λ part item among. absurd among) in
    let is = same_Ok c.in-Some.join c.in-Ok-into_store.store.replica c.in-Ok-into_store.ensures.store in
    let there = subst (λ (o : Option Replica). AreReadSoFar (λ parts. IsJoinedOf o parts × AreRelied reliance relied parts) read.0 wanted before after) c.in-Some.is read.1 in
    subst (λ (r : Replica). AreAllRelied reliance relied r after) is (all_relied reliance relied c.in-Some.join read.0 wanted before after there)
