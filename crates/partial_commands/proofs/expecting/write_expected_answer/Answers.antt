-- The answer is written once what is expected was seen to be covered; before that nothing is.
use Rattle.std.proofs.Common.{List, ℕ, subst}
use Rattle.std.specs.Io.KnownBytes.{Appends}
use Rattle.std.proofs.lemmas.Result.{err_from_is_err_and}
use Rattle.table_model.specs.Faults.{AppendsFront}
use Rattle.partial_commands.proofs.ExpectedAnswers.{uncovered_counts, uncovered_told, unfinished_counts, unfinished_told, unwritten_counts, unwritten_told}
use Rattle.partial_commands.proofs.expecting.write_expected_answer.Goals as goal

pub returns-in_err-expect-clause-told : goal.returns-in_err-expect-clause-told
returns-in_err-expect-clause-told g c =
    let p = err_from_is_err_and c.from_residual.result c.from_residual.ensures.1 in
    rw (p.1, p.2) (uncovered_told c.args.format c.in_err-expect.field-0.0 c.args.partial c.args.summaries.now (g.W.Write.contents c.args.writer.now.0) c.in_err-expect.ensures.refused)

pub returns-in_err-expect-clause-fault : goal.returns-in_err-expect-clause-fault
returns-in_err-expect-clause-fault g c =
    let p = err_from_is_err_and c.from_residual.result c.from_residual.ensures.1 in
    rw (p.1, p.2) (uncovered_counts c.in_err-expect.field-0.0 c.args.partial c.args.summaries.now c.args.writer.now.1 c.in_err-expect.ensures.refused)

pub returns-in_err-text-clause-told : goal.returns-in_err-text-clause-told
returns-in_err-text-clause-told g c =
    let p = err_from_is_err_and c.from_residual-in_err-text.result c.from_residual-in_err-text.ensures.1 in
    rw (p.1, p.2) (unfinished_told c.args.format c.in_err-text.field-0.0 c.args.partial c.args.summaries.now (g.W.Write.contents c.args.writer.now.0) c.in_ok-expect.ensures.covered c.in_err-text.ensures.refused)

pub returns-in_err-text-clause-fault : goal.returns-in_err-text-clause-fault
returns-in_err-text-clause-fault g c =
    let p = err_from_is_err_and c.from_residual-in_err-text.result c.from_residual-in_err-text.ensures.1 in
    rw (p.1, p.2) (unfinished_counts c.in_err-text.field-0.0 c.args.partial c.args.writer.now.1 c.in_err-text.ensures.refused)

pub returns-in_err-write_whole-clause-told : goal.returns-in_err-write_whole-clause-told
returns-in_err-write_whole-clause-told g c =
    let p = err_from_is_err_and c.from_residual-in_err-write_whole.result c.from_residual-in_err-write_whole.ensures.1 in
    let front = subst (λ (bytes : List ℕ). AppendsFront (g.W.Write.contents c.args.writer.now.0) (g.W.Write.contents c.write_whole.new.self.0) bytes) c.as_slice.ensures.value c.in_err-write_whole.ensures.front in
    rw (p.1, p.2) (unwritten_told c.args.format c.in_err-write_whole.field-0.0 c.args.partial c.args.summaries.now (g.W.Write.contents c.args.writer.now.0) (g.W.Write.contents c.write_whole.new.self.0) c.in_ok-text.text.items
    c.in_ok-expect.ensures.covered c.in_ok-text.ensures.text c.in_err-write_whole.ensures.fault.0 front)

pub returns-in_err-write_whole-clause-fault : goal.returns-in_err-write_whole-clause-fault
returns-in_err-write_whole-clause-fault g c =
    let p = err_from_is_err_and c.from_residual-in_err-write_whole.result c.from_residual-in_err-write_whole.ensures.1 in
    rw (p.1, p.2) (unwritten_counts c.in_err-write_whole.field-0.0 c.args.writer.now.1 c.write_whole.new.self.1 c.in_err-write_whole.ensures.fault.0 c.in_err-write_whole.ensures.fault.1)

pub returns-clause-told : goal.returns-clause-told
returns-clause-told g c =
    let whole = subst (λ (bytes : List ℕ). Appends (g.W.Write.contents c.args.writer.now.0) (g.W.Write.contents c.write_whole.new.self.0) bytes) c.as_slice.ensures.value c.in_ok-write_whole.ensures.ok in
    (c.in_ok-expect.ensures.covered, (c.in_ok-text.text.items, c.in_ok-text.ensures.text, whole))
