-- What is answered over the store is answered over the file.
use Rattle.std.proofs.lemmas.Result.{err_from_is_err_and}
use Rattle.lanes_c.proofs.QueryRuns.{all_given, none_given}
use Rattle.lanes_c.proofs.queries.answered_all.Goals as goal

pub returns-in_err-answers : goal.returns-in_err-answers
returns-in_err-answers c =
    let p = err_from_is_err_and c.from_residual-in_err-answers.result c.from_residual-in_err-answers.ensures.1 in
    rw (p.1, p.2) (none_given c.in_err-answers.field-0.0 c.args.sqls.now c.args.file.now c.args.ends.now c.in_ok-store.store.replica c.as_slice.result.now c.in_ok-queries.queries.items
    c.in_ok-store.ensures.held c.as_slice.ensures.value c.in_ok-queries.ensures c.in_err-answers.ensures.refused)

pub returns : goal.returns
returns c =
    all_given c.args.sqls.now c.args.file.now c.in_ok-answers.answers.bytes.items c.in_ok-answers.answers.ends.items c.as_slice-2.result.now c.args.ends.now c.fill.new.room
    c.in_ok-store.store.replica c.as_slice.result.now c.in_ok-queries.queries.items
    c.in_ok-store.ensures.held c.as_slice.ensures.value c.in_ok-queries.ensures c.in_ok-answers.ensures.answered c.as_slice-2.ensures.value c.fill.ensures
