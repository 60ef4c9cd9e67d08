-- Where no row has a fault, each row fits; where one has, some row doesn't.
use Rattle.std.proofs.Common.{◌≡◌, length, ◌≤◌, Some, None, arith, sym, ap, ◌∙◌, refl}
use Rattle.std.proofs.lemmas.Bool.Decides.{nat_tests}
use Rattle.table_model.specs.Table.{Table, first_fault, row_limit, IsBatch}
use Rattle.table_model.proofs.Batches.{IsBatch-fault, fault-IsBatch}
use Rattle.table_model.proofs.check.check_rows.Goals as goal

pub returns-in-None-clause-accepts : goal.returns-in-None-clause-accepts
returns-in-None-clause-accepts c =
    let table : Table = c.args.schema.now in
    let some : 1 ≤ length c.args.rows.now = grind (arith, nat_tests, c.if-is_empty.ensures) in
    let few : length c.args.rows.now ≤ row_limit = let most = c.if-len-gt-MAX_ROWS.false in let count = c.len.ensures in omega arith in
    let found : first_fault table.columns 0 c.args.rows.now ≡ None = ap (λ cs. first_fault cs 0 c.args.rows.now) (sym c.column_list.ensures.list) ∙ sym c.first_fault.ensures ∙ c.in-None.is in
    ((λ _. IsBatch-fault table c.args.rows.now some few found), (λ _. refl))

pub returns-in-Some-clause-accepts : goal.returns-in-Some-clause-accepts
returns-in-Some-clause-accepts c =
    let table : Table = c.args.schema.now in
    let found : first_fault table.columns 0 c.args.rows.now ≡ Some c.in-Some.fault = ap (λ cs. first_fault cs 0 c.args.rows.now) (sym c.column_list.ensures.list) ∙ sym c.first_fault.ensures ∙ c.in-Some.is in
    ((λ e. cc), (λ (h : IsBatch table c.args.rows.now). let none : first_fault table.columns 0 c.args.rows.now ≡ None = fault-IsBatch table c.args.rows.now h in let both : Some c.in-Some.fault ≡ None = sym found ∙ none in cc))
