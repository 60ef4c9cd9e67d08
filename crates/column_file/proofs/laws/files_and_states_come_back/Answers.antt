use Rattle.column_file.proofs.FileLaws.{files_open, files_open_to_one, same_file_same_state}
use Rattle.column_file.proofs.laws.files_and_states_come_back.Goals as goal

pub returns : goal.returns
returns c = record { opens = files_open; same = same_file_same_state; one = files_open_to_one }
