-- What a keyed hasher computes.
use Rattle.std.specs.Prelude.{ℕ, ◌*◌, ◌-◌, ◌/◌, ◌^◌, List, fold, bit_and, bit_or, bit_xor}
use Rattle.std.specs.Hash as fed
use Rattle.std.specs.Hash.FoldHasher as folding
use Rattle.query_eval.specs.declared.hash_key.HashKey.{HashKey}
use Rattle.query_eval.specs.declared.hash_key.KeyedHasher.{KeyedHasher}

-- the two halves of the 128 bits of a * b, joined by xor
unfoldable pub folded : ℕ → ℕ → ℕ
folded a b = bit_xor (bit_and (a * b) (2 ^ 64 - 1)) (a * b / 2 ^ 64)

-- the key of two words: the first is written into the fold before anything else, the second is the factor, made odd
abbrev pub key_of_words : ℕ → ℕ → HashKey
key_of_words first second = record { start = fold folding.write folding.initial (fed.u64 first); factor = bit_or second 1 }

-- the hasher that a key makes
abbrev pub keyed_hasher : HashKey → KeyedHasher
keyed_hasher key = record { folding = key.start; factor = key.factor }

-- the hasher after one write
abbrev pub keyed_write : KeyedHasher → List ℕ → KeyedHasher
keyed_write h bytes = record h { folding = folding.write h.folding bytes }

-- what it answers
abbrev pub keyed_finish : KeyedHasher → ℕ
keyed_finish h = folded (folding.finish h.folding) h.factor
