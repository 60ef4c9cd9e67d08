-- What is chosen is dumped; or it isn't known, or memory lacks.
use Rattle.std.specs.Prelude.{ℕ, Ok, Err}
use Rattle.std.specs.Global.{Vec}
use Rattle.std.proofs.Common.{ap, subst, ◌∙◌}
use Rattle.std.proofs.lemmas.Result.{err_from_is_err_and}
use Rattle.table_model.specs.Table.{Table as Schema}
use Rattle.lanes_c.specs.ColumnCalls.{ReadsChoice}
use Rattle.lanes_c.specs.Rooms.{given_by}
use Rattle.lanes_c.proofs.ChosenDumps.{choice_dumped, choice_refused}
use Rattle.lanes_c.proofs.dump_choice.chosen_rows.Goals as goal

pub returns-in_err-choice : goal.returns-in_err-choice
returns-in_err-choice c =
    let p = err_from_is_err_and c.from_residual.result c.from_residual.ensures.1 in
    rw (p.1, p.2) (choice_refused c.in_err-choice.field-0.0 c.args.has_names c.args.names.now c.args.condition.now c.args.file.now.replica (subst (λ (t : Schema). ReadsChoice (Err c.in_err-choice.field-0.0) c.args.names.now c.args.condition.now t) c.schema.ensures c.in_err-choice.ensures.read))

pub returns : goal.returns
returns c =
    choice_dumped (given_by c.taken.result) c.args.has_names c.args.names.now c.args.condition.now c.args.file.now.replica c.in_ok-choice.choice c.dump_where-done.result _ _ _ _
    (subst (λ (t : Schema). ReadsChoice (Ok c.in_ok-choice.choice) c.args.names.now c.args.condition.now t) c.schema.ensures c.in_ok-choice.ensures.read) c.taken.ensures
    (ap (λ (w : Vec ℕ × ℕ). w.0.items) c.new-writer.ensures ∙ c.new.ensures.items) c.dump_where-done.ensures.text
