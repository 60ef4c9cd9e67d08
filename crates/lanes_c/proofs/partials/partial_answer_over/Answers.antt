-- The bytes of the partial answer that is meant are given.
use Rattle.lanes_c.specs.Rooms.{given_by}
use Rattle.partial_commands.specs.StorePartialAnswer.{query_partial_answer}
use Rattle.lanes_c.proofs.PartialAnswerGivings.{partial_answer_given}
use Rattle.lanes_c.proofs.partials.partial_answer_over.Goals as goal

pub returns : goal.returns
returns c = partial_answer_given (given_by c.bytes_of.result) c.in_ok-partial.partial (query_partial_answer c.args.sql.now c.args.store.now.replica.schema c.args.store.now.replica.state) c.in_ok-partial.ensures.read c.bytes_of.ensures
