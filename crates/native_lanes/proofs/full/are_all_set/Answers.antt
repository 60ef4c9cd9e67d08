-- Words that are equal to 2^64 - 1 have all bits, and words that have all bits are equal to it.
use Rattle.std.proofs.Common.{rules, ◌≡◌, ℕ, ◌^◌, ◌<◌, slice_index, length, replicate, ap, ◌∙◌}
use Rattle.std.specs.Int.{bit_at}
use Rattle.std.proofs.lemmas.Bool.Decides.{Decides-eqb}
use Rattle.std.proofs.lemmas.List.{get_or-replicate}
use Rattle.std.proofs.lemmas.Nat.Bits.{bit_at_ones}
use Rattle.std.proofs.lemmas.Slice.Eq.{slice_eq-Decides}
use Rattle.native_lanes.proofs.FullLemmas.{words_of_ones}
use Rattle.native_lanes.proofs.full.are_all_set.Goals as goal

pub returns-clause-all : goal.returns-clause-all
returns-clause-all c same j p h l =
    let words = (slice_eq-Decides Decides-eqb c.args.words.now (replicate 16 18446744073709551615) c.eq.result c.eq.ensures).0 same in
    ap (λ xs. bit_at (slice_index xs j) p) words ∙ ap (λ n. bit_at n p) (get_or-replicate 16 j 18446744073709551615 0 h) ∙ bit_at_ones 64 p l

pub returns-clause-answers : goal.returns-clause-answers
returns-clause-answers c ones =
    let long : length c.args.words.now ≡ 16 = search rules in
    let fit : (j : ℕ) → j < 16 → slice_index c.args.words.now j < 2 ^ 64 = (λ j h. search rules) in
    (slice_eq-Decides Decides-eqb c.args.words.now (replicate 16 18446744073709551615) c.eq.result c.eq.ensures).1
    (words_of_ones c.args.words.now long fit ones)
