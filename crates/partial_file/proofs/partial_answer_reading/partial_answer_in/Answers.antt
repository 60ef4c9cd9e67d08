use Rattle.partial_file.proofs.PartialAnswersRead.{reads_form}
use Rattle.partial_file.proofs.partial_answer_reading.partial_answer_in.Goals as goal

pub returns : goal.returns
returns c = reads_form c.read_partial_answer_bytes.result c.args.bytes.now c.read_partial_answer_bytes.ensures
