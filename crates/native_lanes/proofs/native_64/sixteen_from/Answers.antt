-- The slice has the words from the index on.
use Rattle.std.proofs.Common.{◌≡◌, ℕ, ◌+◌, ◌-◌, length, slice_index, ap, ◌∙◌, arith}
use Rattle.std.specs.Simd.Lanes.{chunk}
use Rattle.std.proofs.lemmas.Simd.{length-chunk, get_or-chunk}
use Rattle.native_lanes.proofs.native_64.sixteen_from.Goals as goal

pub returns-clause-count : goal.returns-clause-count
returns-clause-count c =
    let sixteen : c.args.at + 16 - c.args.at ≡ 16 = omega arith in
    ap (λ (n : ℕ). length (chunk c.args.at n c.args.words.now)) sixteen ∙ length-chunk c.args.at 16 c.args.words.now c.requires

pub returns-clause-words : goal.returns-clause-words
returns-clause-words c = λ i h.
    let sixteen : c.args.at + 16 - c.args.at ≡ 16 = omega arith in
    ap (λ (n : ℕ). slice_index (chunk c.args.at n c.args.words.now) i) sixteen ∙ get_or-chunk c.args.at 16 c.args.words.now i 0 h
