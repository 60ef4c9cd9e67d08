-- Words of the four types as numbers.
use Rattle.bit_interleave.specs.PackedWords.{PackedWords}
use Rattle.bit_interleave.specs.declared.words.Stored.{Stored}
use Rattle.bit_interleave.specs.declared.words.Stored.TheVariants.{U8, U16, U32, U64}

-- the numbers of a vector of words, with their width
abbrev pub numbers_of : Stored → PackedWords
numbers_of (U8 words) = record { lane_width = 8; numbers = words.items }
numbers_of (U16 words) = record { lane_width = 16; numbers = words.items }
numbers_of (U32 words) = record { lane_width = 32; numbers = words.items }
numbers_of (U64 words) = record { lane_width = 64; numbers = words.items }
