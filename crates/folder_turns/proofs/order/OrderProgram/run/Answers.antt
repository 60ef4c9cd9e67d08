-- What the end of each task says, by what the protocol says.
use Rattle.std.proofs.Common.{ap, map, List}
use Rattle.std.specs.String.{string_bytes}
use Rattle.folder_model.specs.Call.{Call}
use Rattle.folder_protocol.proofs.Linking.{plain_links}
use Rattle.folder_protocol.specs.Goes.{GoesInTurn}
use Rattle.folder_turns.specs.Orders.{Matter, matter_of}
use Rattle.folder_turns.specs.declared.order.Task.TheVariants as tasks
use Rattle.folder_turns.proofs.Ends.{put_says, keep_says, removed_says, goes_for, goes_own, in_task, replaced_says, listed_says, kept_says, judged_says, keeping_says, relying_says, of_task, same_matter}
use Rattle.folder_turns.proofs.order.OrderProgram.run.Goals as goal

pub returns-in-Put-clause-said : goal.returns-in-Put-clause-said
returns-in-Put-clause-said g c = λ parts.
    let m : Matter = record { temporary = c.as_str-temporary.result.now; name = c.as_str-name.result.now; bytes = c.as_slice-bytes.result.now; names = map string_bytes c.as_slice-names.result.now; relied = map string_bytes c.as_slice-relied.result.now } in
    of_task (matter_of c.args.self.now) parts (g.F.Folder.history c.args.folder.now) (g.F.Folder.history c.put.new.folder) c.args.self.now.task tasks.Put c.came.result _ m c.in-Put.is c.came.ensures
    (same_matter (matter_of c.args.self.now) m.temporary m.name m.bytes m.names m.relied c.as_str-temporary.ensures.value c.as_str-name.ensures.value c.as_slice-bytes.ensures.value (ap (map string_bytes) c.as_slice-names.ensures.value) (ap (map string_bytes) c.as_slice-relied.ensures.value))
    (λ may. put_says m parts (g.F.Folder.history c.args.folder.now) (g.F.Folder.history c.put.new.folder) c.put.result (c.put.ensures.stored parts may.1.0) c.put.ensures.cause c.put.ensures.fails)

pub returns-in-Keep-clause-said : goal.returns-in-Keep-clause-said
returns-in-Keep-clause-said g c = λ parts.
    let m : Matter = record { temporary = c.as_str-temporary.result.now; name = c.as_str-name.result.now; bytes = c.as_slice-bytes.result.now; names = map string_bytes c.as_slice-names.result.now; relied = map string_bytes c.as_slice-relied.result.now } in
    of_task (matter_of c.args.self.now) parts (g.F.Folder.history c.args.folder.now) (g.F.Folder.history c.keep.new.folder) c.args.self.now.task tasks.Keep c.came-in-Keep.result _ m c.in-Keep.is c.came-in-Keep.ensures
    (same_matter (matter_of c.args.self.now) m.temporary m.name m.bytes m.names m.relied c.as_str-temporary.ensures.value c.as_str-name.ensures.value c.as_slice-bytes.ensures.value (ap (map string_bytes) c.as_slice-names.ensures.value) (ap (map string_bytes) c.as_slice-relied.ensures.value))
    (λ may. keep_says m parts (g.F.Folder.history c.args.folder.now) (g.F.Folder.history c.keep.new.folder) c.keep.result (c.keep.ensures.stored parts may.1) c.keep.ensures.cause c.keep.ensures.fails (plain_links (λ (l : List Call). ⊥) _ _ c.keep.ensures.plain) c.keep.ensures.unremoved)

pub returns-in-Replace-clause-said : goal.returns-in-Replace-clause-said
returns-in-Replace-clause-said g c = λ parts.
    let m : Matter = record { temporary = c.as_str-temporary.result.now; name = c.as_str-name.result.now; bytes = c.as_slice-bytes.result.now; names = map string_bytes c.as_slice-names.result.now; relied = map string_bytes c.as_slice-relied.result.now } in
    of_task (matter_of c.args.self.now) parts (g.F.Folder.history c.args.folder.now) (g.F.Folder.history c.replace.new.folder) c.args.self.now.task tasks.Replace c.replaced.result _ m c.in-Replace.is c.replaced.ensures
    (same_matter (matter_of c.args.self.now) m.temporary m.name m.bytes m.names m.relied c.as_str-temporary.ensures.value c.as_str-name.ensures.value c.as_slice-bytes.ensures.value (ap (map string_bytes) c.as_slice-names.ensures.value) (ap (map string_bytes) c.as_slice-relied.ensures.value))
    (λ may. replaced_says m parts (g.F.Folder.history c.args.folder.now) (g.F.Folder.history c.replace.new.folder) c.replace.result c.replace.ensures.gone (c.replace.ensures.stored parts may.1.0.0) c.replace.ensures.cause c.replace.ensures.overtaken c.replace.ensures.fails c.replace.ensures.links
    (goes_own m parts (g.F.Folder.history c.args.folder.now) (g.F.Folder.history c.replace.new.folder) may.1.1 (c.replace.ensures.removes parts may.1.0.0)))

pub returns-in-Remove-clause-said : goal.returns-in-Remove-clause-said
returns-in-Remove-clause-said g c = λ parts.
    let m : Matter = record { temporary = c.as_str-temporary.result.now; name = c.as_str-name.result.now; bytes = c.as_slice-bytes.result.now; names = map string_bytes c.as_slice-names.result.now; relied = map string_bytes c.as_slice-relied.result.now } in
    of_task (matter_of c.args.self.now) parts (g.F.Folder.history c.args.folder.now) (g.F.Folder.history c.remove_joined.new.folder) c.args.self.now.task tasks.Remove c.came-in-Remove.result _ m c.in-Remove.is c.came-in-Remove.ensures
    (same_matter (matter_of c.args.self.now) m.temporary m.name m.bytes m.names m.relied c.as_str-temporary.ensures.value c.as_str-name.ensures.value c.as_slice-bytes.ensures.value (ap (map string_bytes) c.as_slice-names.ensures.value) (ap (map string_bytes) c.as_slice-relied.ensures.value))
    (λ may. removed_says m parts (g.F.Folder.history c.args.folder.now) (g.F.Folder.history c.remove_joined.new.folder) c.remove_joined.result c.remove_joined.ensures.gone (c.remove_joined.ensures.stored parts may.1.0) c.remove_joined.ensures.cause c.remove_joined.ensures.fails
    c.remove_joined.ensures.unlinked (goes_for m parts (g.F.Folder.history c.args.folder.now) (g.F.Folder.history c.remove_joined.new.folder) may.1.1 (c.remove_joined.ensures.removes parts may.1.0)))

pub returns-in-List-clause-said : goal.returns-in-List-clause-said
returns-in-List-clause-said g c = λ parts.
    let m : Matter = record { temporary = c.as_str-temporary.result.now; name = c.as_str-name.result.now; bytes = c.as_slice-bytes.result.now; names = map string_bytes c.as_slice-names.result.now; relied = map string_bytes c.as_slice-relied.result.now } in
    of_task (matter_of c.args.self.now) parts (g.F.Folder.history c.args.folder.now) (g.F.Folder.history c.list_names.new.folder) c.args.self.now.task tasks.List c.listed.result _ m c.in-List.is c.listed.ensures
    (same_matter (matter_of c.args.self.now) m.temporary m.name m.bytes m.names m.relied c.as_str-temporary.ensures.value c.as_str-name.ensures.value c.as_slice-bytes.ensures.value (ap (map string_bytes) c.as_slice-names.ensures.value) (ap (map string_bytes) c.as_slice-relied.ensures.value))
    (λ may. listed_says m parts (g.F.Folder.history c.args.folder.now) (g.F.Folder.history c.list_names.new.folder) c.list_names.result c.list_names.ensures.listed c.list_names.ensures.fails c.list_names.ensures.unlinked c.list_names.ensures.unremoved)

pub returns-in-KeepAll-clause-said : goal.returns-in-KeepAll-clause-said
returns-in-KeepAll-clause-said g c = λ parts.
    let m : Matter = record { temporary = c.as_str-temporary.result.now; name = c.as_str-name.result.now; bytes = c.as_slice-bytes.result.now; names = map string_bytes c.as_slice-names.result.now; relied = map string_bytes c.as_slice-relied.result.now } in
    of_task (matter_of c.args.self.now) parts (g.F.Folder.history c.args.folder.now) (g.F.Folder.history c.keep_all.new.folder) c.args.self.now.task tasks.KeepAll c.kept.result _ m c.in-KeepAll.is c.kept.ensures
    (same_matter (matter_of c.args.self.now) m.temporary m.name m.bytes m.names m.relied c.as_str-temporary.ensures.value c.as_str-name.ensures.value c.as_slice-bytes.ensures.value (ap (map string_bytes) c.as_slice-names.ensures.value) (ap (map string_bytes) c.as_slice-relied.ensures.value))
    (λ may. kept_says m parts (g.F.Folder.history c.args.folder.now) (g.F.Folder.history c.keep_all.new.folder) c.keep_all.result (c.keep_all.ensures.kept parts) c.keep_all.ensures.fails (plain_links (λ (l : List Call). ⊥) _ _ c.keep_all.ensures.plain) (c.keep_all.ensures.safe parts))

pub returns-in-PutJudged-clause-said : goal.returns-in-PutJudged-clause-said
returns-in-PutJudged-clause-said g c = λ parts.
    let m : Matter = record { temporary = c.as_str-temporary.result.now; name = c.as_str-name.result.now; bytes = c.as_slice-bytes.result.now; names = map string_bytes c.as_slice-names.result.now; relied = map string_bytes c.as_slice-relied.result.now } in
    of_task (matter_of c.args.self.now) parts (g.F.Folder.history c.args.folder.now) (g.F.Folder.history c.put_judged.new.folder) c.args.self.now.task tasks.PutJudged c.judged.result _ m c.in-PutJudged.is c.judged.ensures
    (same_matter (matter_of c.args.self.now) m.temporary m.name m.bytes m.names m.relied c.as_str-temporary.ensures.value c.as_str-name.ensures.value c.as_slice-bytes.ensures.value (ap (map string_bytes) c.as_slice-names.ensures.value) (ap (map string_bytes) c.as_slice-relied.ensures.value))
    (λ may. judged_says m parts (g.F.Folder.history c.args.folder.now) (g.F.Folder.history c.put_judged.new.folder) c.put_judged.result (c.put_judged.ensures.stored parts may.1) c.put_judged.ensures.watched c.put_judged.ensures.cause c.put_judged.ensures.wanted c.put_judged.ensures.fails c.put_judged.ensures.links)

pub returns-in-KeepAndPut-clause-said : goal.returns-in-KeepAndPut-clause-said
returns-in-KeepAndPut-clause-said g c = λ parts.
    let m : Matter = record { temporary = c.as_str-temporary.result.now; name = c.as_str-name.result.now; bytes = c.as_slice-bytes.result.now; names = map string_bytes c.as_slice-names.result.now; relied = map string_bytes c.as_slice-relied.result.now } in
    of_task (matter_of c.args.self.now) parts (g.F.Folder.history c.args.folder.now) (g.F.Folder.history c.keep_and_put.new.folder) c.args.self.now.task tasks.KeepAndPut c.came-in-KeepAndPut.result _ m c.in-KeepAndPut.is c.came-in-KeepAndPut.ensures
    (same_matter (matter_of c.args.self.now) m.temporary m.name m.bytes m.names m.relied c.as_str-temporary.ensures.value c.as_str-name.ensures.value c.as_slice-bytes.ensures.value (ap (map string_bytes) c.as_slice-names.ensures.value) (ap (map string_bytes) c.as_slice-relied.ensures.value))
    (λ may. keeping_says m parts (g.F.Folder.history c.args.folder.now) (g.F.Folder.history c.keep_and_put.new.folder) c.keep_and_put.result (c.keep_and_put.ensures.kept parts may.1) (c.keep_and_put.ensures.stored parts may.1.0) c.keep_and_put.ensures.cause c.keep_and_put.ensures.fails (c.keep_and_put.ensures.first parts may.1) (c.keep_and_put.ensures.safe parts may.1))

pub returns-in-KeepAndPutJudged-clause-said : goal.returns-in-KeepAndPutJudged-clause-said
returns-in-KeepAndPutJudged-clause-said g c = λ parts.
    let m : Matter = record { temporary = c.as_str-temporary.result.now; name = c.as_str-name.result.now; bytes = c.as_slice-bytes.result.now; names = map string_bytes c.as_slice-names.result.now; relied = map string_bytes c.as_slice-relied.result.now } in
    of_task (matter_of c.args.self.now) parts (g.F.Folder.history c.args.folder.now) (g.F.Folder.history c.keep_and_put_judged.new.folder) c.args.self.now.task tasks.KeepAndPutJudged c.judged-in-KeepAndPutJudged.result _ m c.in-KeepAndPutJudged.is c.judged-in-KeepAndPutJudged.ensures
    (same_matter (matter_of c.args.self.now) m.temporary m.name m.bytes m.names m.relied c.as_str-temporary.ensures.value c.as_str-name.ensures.value c.as_slice-bytes.ensures.value (ap (map string_bytes) c.as_slice-names.ensures.value) (ap (map string_bytes) c.as_slice-relied.ensures.value))
    (λ may. relying_says m parts (g.F.Folder.history c.args.folder.now) (g.F.Folder.history c.keep_and_put_judged.new.folder) c.keep_and_put_judged.result (c.keep_and_put_judged.ensures.kept parts may.1) (c.keep_and_put_judged.ensures.stored parts may.1) c.keep_and_put_judged.ensures.watched c.keep_and_put_judged.ensures.cause c.keep_and_put_judged.ensures.wanted c.keep_and_put_judged.ensures.fails c.keep_and_put_judged.ensures.links (c.keep_and_put_judged.ensures.first parts may.1) (c.keep_and_put_judged.ensures.safe parts may.1))

pub returns-in-Replace-clause-in_turn : goal.returns-in-Replace-clause-in_turn
returns-in-Replace-clause-in_turn g c = λ parts.
    let m : Matter = record { temporary = c.as_str-temporary.result.now; name = c.as_str-name.result.now; bytes = c.as_slice-bytes.result.now; names = map string_bytes c.as_slice-names.result.now; relied = map string_bytes c.as_slice-relied.result.now } in
    in_task c.args.self.now.task tasks.Replace (matter_of c.args.self.now) m parts (g.F.Folder.history c.args.folder.now) (GoesInTurn parts (g.F.Folder.history c.args.folder.now) (g.F.Folder.history c.replace.new.folder)) c.in-Replace.is
    (same_matter (matter_of c.args.self.now) m.temporary m.name m.bytes m.names m.relied c.as_str-temporary.ensures.value c.as_str-name.ensures.value c.as_slice-bytes.ensures.value (ap (map string_bytes) c.as_slice-names.ensures.value) (ap (map string_bytes) c.as_slice-relied.ensures.value))
    (λ may. c.replace.ensures.in_turn parts may.1.0 may.1.1)

pub returns-in-Remove-clause-in_turn : goal.returns-in-Remove-clause-in_turn
returns-in-Remove-clause-in_turn g c = λ parts.
    let m : Matter = record { temporary = c.as_str-temporary.result.now; name = c.as_str-name.result.now; bytes = c.as_slice-bytes.result.now; names = map string_bytes c.as_slice-names.result.now; relied = map string_bytes c.as_slice-relied.result.now } in
    in_task c.args.self.now.task tasks.Remove (matter_of c.args.self.now) m parts (g.F.Folder.history c.args.folder.now) (GoesInTurn parts (g.F.Folder.history c.args.folder.now) (g.F.Folder.history c.remove_joined.new.folder)) c.in-Remove.is
    (same_matter (matter_of c.args.self.now) m.temporary m.name m.bytes m.names m.relied c.as_str-temporary.ensures.value c.as_str-name.ensures.value c.as_slice-bytes.ensures.value (ap (map string_bytes) c.as_slice-names.ensures.value) (ap (map string_bytes) c.as_slice-relied.ensures.value))
    (λ may. c.remove_joined.ensures.in_turn parts may.1)
