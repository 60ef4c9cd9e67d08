-- The fields are those of the one row; each live row is null in the column or has a value there.
use Rattle.std.proofs.Common.{rules, ◌≡◌, ◌∙◌, List, ℕ, length, get_or, ◌+◌, ap, arith}
use Rattle.std.specs.Prelude.{pos, FitsSigned}
use Rattle.std.proofs.lemmas.Grind.{common_steps}
use Rattle.std.specs.Int.{w128}
use Rattle.std.proofs.lemmas.Int.{to_z-of_z}
use Rattle.table_model.specs.Group.{values_in}
use Rattle.table_model.specs.State.{State, Cells}
use Rattle.table_model.specs.declared.answer.Field.{Field}
use Rattle.table_model.specs.declared.answer.Field.TheVariants.{Null}
use Rattle.store_view.specs.View.{ViewForm}
use Rattle.replica_reports.specs.ColumnFigures.{figure_fields, live_cells, nulls_in, whole_or_zero}
use Rattle.replica_reports.proofs.FiguresAsked.{difference, nulls_and_values}
use Rattle.replica_reports.proofs.live_figures.LiveFigures.of.Goals as goal

pub returns : goal.returns
returns c =
    let rows : List Cells = live_cells c.args.store.now.replica.state in
    let n : ℕ = length rows in
    let m : ℕ = length (values_in c.args.place rows) in
    let k : ℕ = nulls_in c.args.place rows in
    let parts : n ≡ k + m = nulls_and_values c.args.place rows in
    let state : c.new.result.state ≡ c.args.store.now.replica.state = ap (λ (v : ViewForm). v.state) c.new.ensures in
    let seen : c.fields-fields.result.now ≡ figure_fields (live_cells c.new.result.state) c.args.place = grind (arith, common_steps) in
    let fields : c.fields-fields.result.now ≡ figure_fields rows c.args.place = seen ∙ ap (λ (s : State). figure_fields (live_cells s) c.args.place) state in
    let count : c.whole_or_zero-rows.result ≡ pos n = c.whole_or_zero-rows.ensures ∙ ap whole_or_zero (c.field_at.ensures ∙ ap (λ (fs : List Field). get_or fs 0 Null) fields) in
    let some : c.whole_or_zero-values.result ≡ pos m = c.whole_or_zero-values.ensures ∙ ap whole_or_zero (c.field_at-2.ensures ∙ ap (λ (fs : List Field). get_or fs 1 Null) fields) in
    let fits_count : FitsSigned w128 c.whole_or_zero-rows.result = search rules in
    let fits_some : FitsSigned w128 c.whole_or_zero-values.result = search rules in
    λ i. record {
      nulls = difference c.whole_or_zero-rows.result c.whole_or_zero-values.result n m k count some parts fits_count fits_some i;
      values = (to_z-of_z w128 c.whole_or_zero-values.result fits_some ∙ some) i;
      least = (c.field_at-3.ensures ∙ ap (λ (fs : List Field). get_or fs 2 Null) fields) i;
      greatest = (c.field_at-4.ensures ∙ ap (λ (fs : List Field). get_or fs 3 Null) fields) i;
    }
