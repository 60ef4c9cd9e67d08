-- The heading is written, and then the rows.
use Rattle.std.proofs.Common.{◌≡◌, ◌∙◌, ap, subst, List, ℕ}
use Rattle.std.specs.Prelude.{Ok, Err}
use Rattle.std.proofs.lemmas.Result.{err_from_is_err_and}
use Rattle.table_model.specs.State.{State}
use Rattle.table_model.specs.Table.{Table}
use Rattle.replica_store.specs.Replica.{Replica}
use Rattle.replica_store.specs.Segments.{StoreForm}
use Rattle.store_view.specs.View.{ViewForm}
use Rattle.live_columns.specs.Choices.{ChoiceForm}
use Rattle.replica_reports.specs.Dumps.{WritesLines, dumped_rows, heading_at}
use Rattle.replica_reports.proofs.DumpLines.{dump_stops, dump_goes, rows_text}
use Rattle.replica_reports.proofs.dumping.dump_where.Goals as goal

pub returns-in_err-heading : goal.returns-in_err-heading
returns-in_err-heading g c =
    let r : Replica = c.args.file.now.replica in
    let choice : ChoiceForm = record { condition = c.args.choice.now.condition; places = c.args.choice.now.places.items } in
    let p = err_from_is_err_and c.from_residual.result c.from_residual.ensures.1 in
    let schema : c.schema.result.now ≡ r.schema = c.schema.ensures ∙ ap (λ (s : StoreForm). s.replica.schema) c.store-store.ensures.value in
    let P : Table → Type 0 = λ t. WritesLines (Err c.in_err-heading.field-0.0) (g.W.Write.contents c.args.writer.now.0) (g.W.Write.contents c.heading.new.writer.0) c.args.writer.now.1 c.heading.new.writer.1 (heading_at c.args.has_names t c.as_slice.result.now) in
    let Q : List ℕ → Type 0 = λ l. WritesLines (Err c.in_err-heading.field-0.0) (g.W.Write.contents c.args.writer.now.0) (g.W.Write.contents c.heading.new.writer.0) c.args.writer.now.1 c.heading.new.writer.1 (heading_at c.args.has_names r.schema l) in
    let stops = dump_stops r choice c.in_err-heading.field-0.0 (g.W.Write.contents c.args.writer.now.0) (g.W.Write.contents c.heading.new.writer.0) c.args.writer.now.1 c.heading.new.writer.1 c.args.has_names
    (subst Q c.as_slice.ensures.value (subst P schema c.in_err-heading.ensures.text)) in
    rw (p.1, p.2) (record { text = stops })

pub returns : goal.returns
returns g c =
    let r : Replica = c.args.file.now.replica in
    let choice : ChoiceForm = record { condition = c.args.choice.now.condition; places = c.args.choice.now.places.items } in
    let schema : c.schema.result.now ≡ r.schema = c.schema.ensures ∙ ap (λ (s : StoreForm). s.replica.schema) c.store-store.ensures.value in
    let table : c.new-3.result.table ≡ r.schema = ap (λ (v : ViewForm). v.table) c.new-3.ensures ∙ ap (λ (s : StoreForm). s.replica.schema) c.store-store.ensures.value in
    let state : c.new-3.result.state ≡ r.state = ap (λ (v : ViewForm). v.state) c.new-3.ensures ∙ ap (λ (s : StoreForm). s.replica.state) c.store-store.ensures.value in
    let P : Table → Type 0 = λ t. WritesLines (Ok c.in_ok-heading.field-0) (g.W.Write.contents c.args.writer.now.0) (g.W.Write.contents c.heading.new.writer.0) c.args.writer.now.1 c.heading.new.writer.1 (heading_at c.args.has_names t c.as_slice.result.now) in
    let Q : List ℕ → Type 0 = λ l. WritesLines (Ok c.in_ok-heading.field-0) (g.W.Write.contents c.args.writer.now.0) (g.W.Write.contents c.heading.new.writer.0) c.args.writer.now.1 c.heading.new.writer.1 (heading_at c.args.has_names r.schema l) in
    let R : Table → Type 0 = λ t. WritesLines c.chosen.result (g.W.Write.contents c.heading.new.writer.0) (g.W.Write.contents c.chosen.new.writer.0) c.heading.new.writer.1 c.chosen.new.writer.1 (rows_text c.heading.new.self.has_names (dumped_rows choice t c.new-3.result.state)) in
    let S : State → Type 0 = λ s. WritesLines c.chosen.result (g.W.Write.contents c.heading.new.writer.0) (g.W.Write.contents c.chosen.new.writer.0) c.heading.new.writer.1 c.chosen.new.writer.1 (rows_text c.heading.new.self.has_names (dumped_rows choice r.schema s)) in
    record {
      text = dump_goes r choice c.in_ok-heading.field-0 c.chosen.result (g.W.Write.contents c.args.writer.now.0) (g.W.Write.contents c.heading.new.writer.0) (g.W.Write.contents c.chosen.new.writer.0) c.args.writer.now.1 c.heading.new.writer.1 c.chosen.new.writer.1 c.args.has_names c.heading.new.self.has_names
          c.in_ok-heading.ensures.names (subst Q c.as_slice.ensures.value (subst P schema c.in_ok-heading.ensures.text)) (subst S state (subst R table c.chosen.ensures.text));
    }
