-- Bit by bit.
use Rattle.bit_interleave.proofs.WordBytesLemmas.{words_come_back_from_bytes, bytes_come_back_from_words}
use Rattle.bit_interleave.proofs.laws.words_and_bytes_come_back.Goals as goal

pub returns-clause-words : goal.returns-clause-words
returns-clause-words c = words_come_back_from_bytes

pub returns-clause-bytes : goal.returns-clause-bytes
returns-clause-bytes c = bytes_come_back_from_words
