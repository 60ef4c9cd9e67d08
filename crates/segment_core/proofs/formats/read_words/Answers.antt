use Rattle.std.proofs.Common.{◌∙◌, ◌%◌, ◌/◌, ℕ, ap}
use Rattle.bit_interleave.proofs.WordBytesLemmas.{HasWidth-words_of_bytes}
use Rattle.segment_core.proofs.VectorLaws.{whole_words}
use Rattle.segment_core.proofs.formats.read_words.Goals as goal

pub from_le_bytes-requires-clause-whole : goal.from_le_bytes-requires-clause-whole
from_le_bytes-requires-clause-whole c =
    ap (λ (k : ℕ). k % (c.args.lane_width / 8)) (c.split_at.ensures.front_len) ∙ whole_words c.args.lane_width c.args.width c.requires.lane_width

pub returns-clause-width : goal.returns-clause-width
returns-clause-width c =
    rw c.in_ok-from_le_bytes.ensures.value (HasWidth-words_of_bytes c.args.lane_width c.args.width c.split_at.result.0.now c.requires.lane_width c.requires.width c.split_at.ensures.front_len)
