-- The search goes over the other segments, part by part, and their rows are the other batches.
use Rattle.std.specs.Prelude.{◌++◌, List}
use Rattle.std.proofs.Common.{sym, ap, ◌∙◌}
use Rattle.replica_store.specs.Replica.{conflict_with}
use Rattle.replica_store.specs.Segments.{Entry, rows_in, rows_entries}
use Rattle.replica_store.proofs.InParts.{conflict-front, conflict-back}
use Rattle.replica_store.proofs.Maps.{as_map, entries-as_map}
use Rattle.replica_store.proofs.RowsIn.{conflict-rows, entries-rows_in}
use Rattle.replica_store.proofs.batches.Batches.conflict_with.Goals as goal

pub returns-in-Some : goal.returns-in-Some
returns-in-Some c =
    let es : List Entry = c.args.first.now ++ c.args.second.now in
    sym (conflict-front (rows_in c.args.self.now.segments) c.args.first.now c.args.second.now c.in-Some.name (sym c.first_conflict.ensures ∙ c.in-Some.is))
    ∙ conflict-rows (rows_in c.args.self.now.segments) es
    ∙ ap (conflict_with (rows_in c.args.self.now.segments)) (sym (entries-rows_in (as_map es) ∙ ap rows_entries (entries-as_map es c.requires)))

pub returns-in-None : goal.returns-in-None
returns-in-None c =
    let es : List Entry = c.args.first.now ++ c.args.second.now in
    c.first_conflict-in-None.ensures
    ∙ sym (conflict-back (rows_in c.args.self.now.segments) c.args.first.now c.args.second.now (sym c.first_conflict.ensures ∙ c.in-None.is))
    ∙ conflict-rows (rows_in c.args.self.now.segments) es
    ∙ ap (conflict_with (rows_in c.args.self.now.segments)) (sym (entries-rows_in (as_map es) ∙ ap rows_entries (entries-as_map es c.requires)))
