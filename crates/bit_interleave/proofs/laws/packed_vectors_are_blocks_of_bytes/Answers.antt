-- By the widths.
use Rattle.bit_interleave.proofs.WordBytesLemmas.{length-bytes_of-packed, HasWidth-words_of_bytes}
use Rattle.bit_interleave.proofs.laws.packed_vectors_are_blocks_of_bytes.Goals as goal

pub returns-clause-bytes : goal.returns-clause-bytes
returns-clause-bytes c = length-bytes_of-packed

pub returns-clause-words : goal.returns-clause-words
returns-clause-words c = HasWidth-words_of_bytes
