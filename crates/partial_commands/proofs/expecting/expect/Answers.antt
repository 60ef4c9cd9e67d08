-- All summaries are of the table, and no batch is missing.
use Rattle.std.proofs.Common.{◌≡◌, ◌∙◌, true, Option, refl, rules, subst, sym, ap}
use Rattle.std.proofs.lemmas.Result.{err_from_is_err_and}
use Rattle.table_model.specs.Table.{Table}
use Rattle.table_model.specs.declared.names.BatchName.{BatchName}
use Rattle.partial_answers.specs.Counted.{Names}
use Rattle.partial_commands.specs.Expecting.{IsFirstMissing, are_of_table}
use Rattle.partial_commands.proofs.expecting.expect.Goals as goal

pub returns-in-None-clause-covered : goal.returns-in-None-clause-covered
returns-in-None-clause-covered c =
    let p = c.args.partial.now in
    let expected = c.args.summaries.now in
    let on : c.are_of_table.result ≡ true = search rules in
    record {
      tables = sym (ap (λ (t : Table). are_of_table t expected) c.schema.ensures) ∙ sym c.are_of_table.ensures ∙ on;
      names = subst (λ (o : Option BatchName). IsFirstMissing p.held expected o) c.in-None.is (subst (λ (held : Names). IsFirstMissing held expected c.in_ok-missing.missing) c.held.ensures c.in_ok-missing.ensures);
    }

pub returns-in-Some-clause-refused : goal.returns-in-Some-clause-refused
returns-in-Some-clause-refused c =
    let p = c.args.partial.now in
    let expected = c.args.summaries.now in
    let on : c.are_of_table.result ≡ true = search rules in (
      sym (ap (λ (t : Table). are_of_table t expected) c.schema.ensures) ∙ sym c.are_of_table.ensures ∙ on,
      subst (λ (o : Option BatchName). IsFirstMissing p.held expected o) c.in-Some.is (subst (λ (held : Names). IsFirstMissing held expected c.in_ok-missing.missing) c.held.ensures c.in_ok-missing.ensures),
    )

pub returns-in_err-missing-clause-refused : goal.returns-in_err-missing-clause-refused
returns-in_err-missing-clause-refused c =
    let p = err_from_is_err_and c.from_residual.result c.from_residual.ensures.1 in
    rw (p.1, p.2) refl
