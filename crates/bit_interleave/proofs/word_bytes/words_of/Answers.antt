-- The words are those that the bytes are, in order.
use Rattle.std.proofs.Common.{rules, ℕ, ◌/◌, ◌<◌, ◌^◌, ◌≡◌, List, map, length, sym, ap, subst, ◌∙◌, arith}
use Rattle.std.specs.List.{All, range_with_len}
use Rattle.std.proofs.lemmas.List.Elements.{All-from_get_or}
use Rattle.bit_interleave.specs.PackedBytes.{bytes_of, word_of_bytes}
use Rattle.bit_interleave.specs.PackedWords.{PackedWords}
use Rattle.bit_interleave.proofs.WordsLemmas.{whole_slice_written}
use Rattle.bit_interleave.proofs.WordBytesLemmas.{All-words_of_bytes, bytes_come_back_from_words}
use Rattle.bit_interleave.proofs.word_bytes.words_of.Goals as goal

pub returns-clause-value : goal.returns-clause-value
returns-clause-value g c =
    let t = g.U.LaneWord.BITS in
    let bytes = c.args.bytes.now in
    let made = c.in_ok-words.words.items in
    let whole = whole_slice_written made c.read_into.new.words c.in_ok-words.words.len (omega (arith, c.in_ok-words.words.ok.0)) (omega (arith, c.as_mut_slice.ensures.value, c.read_into.auto.words)) in
    let count : length c.as_mut_slice.result.now ≡ length bytes / (t / 8) = search rules in
    ap (λ (ns : List ℕ). of_width t ns) (ap (map g.U.LaneWord.number) whole ∙ c.read_into.ensures ∙ ap (λ n. map (word_of_bytes t bytes) (range_with_len 0 n)) count)
  where
    of_width : ℕ → List ℕ → PackedWords
    of_width t ns = record { lane_width = t; numbers = ns }

pub returns-clause-back : goal.returns-clause-back
returns-clause-back g c =
    ap bytes_of (returns-clause-value g c)
    ∙ bytes_come_back_from_words g.U.LaneWord.BITS c.args.bytes.now g.met.U.LaneWord.is_lane_width c.requires
    (All-from_get_or (λ b. b < 2 ^ 8) c.args.bytes.now 0 (λ i _. omega (arith, c.type_inv.bytes i)))

pub returns-clause-fit : goal.returns-clause-fit
returns-clause-fit g c =
    let t = g.U.LaneWord.BITS in
    let whole = whole_slice_written c.in_ok-words.words.items c.read_into.new.words c.in_ok-words.words.len (omega (arith, c.in_ok-words.words.ok.0)) (omega (arith, c.as_mut_slice.ensures.value, c.read_into.auto.words)) in
    subst (λ ys. All (λ n. n < 2 ^ t) (map g.U.LaneWord.number ys)) (sym whole)
    (subst (λ (ns : List ℕ). All (λ n. n < 2 ^ t) ns) (sym c.read_into.ensures) (All-words_of_bytes t c.args.bytes.now (length c.as_mut_slice.result.now)))
