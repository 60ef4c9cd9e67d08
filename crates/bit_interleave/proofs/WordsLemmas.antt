-- Words of any of the four types are those that pack their values.
use Rattle.std.proofs.Common.{◌≡◌, ℕ, ◌+◌, ◌*◌, ◌/◌, ◌%◌, ◌^◌, ◌<◌, ◌≤◌, List, ◌++◌, length, take, drop, get_or, refl, sym, ap, ◌∙◌, subst, inl, inr, arith}
use Rattle.std.specs.List.{All}
use Rattle.std.proofs.lemmas.List.Elements.{All-from_get_or}
use Rattle.std.proofs.lemmas.List.FromFn.{get_or-map-range_with_len, length-map-range_with_len}
use Rattle.std.proofs.lemmas.List.{take-append-le, take_all}
use Rattle.std.proofs.lemmas.Nat.Bits.{bit_at-lt}
use Rattle.transpose_order.specs.Place.{IsLaneWidth, row_at}
use Rattle.transpose_order.specs.MaskWords.{number_of_bits-below}
use Rattle.bit_interleave.specs.Packing.{unpacked, value_bit, packed_word, packed}
use Rattle.bit_interleave.specs.PackedWords.{PackedWords, words_packing, HasWidth, FitLanes}
use Rattle.bit_interleave.specs.StoredWords.{numbers_of}
use Rattle.bit_interleave.specs.declared.words.Stored.{Stored}
use Rattle.bit_interleave.specs.declared.words.Stored.TheVariants.{U8, U16, U32, U64}
use Rattle.bit_interleave.proofs.RoundTrip.{packed-unpacked}

-- a packed word fits its lane
pub packed_word-below : (t w : ℕ) (values : List ℕ) (lane k : ℕ) → packed_word t w values lane k < 2 ^ t
unfolding packed_word value_bit
packed_word-below t w values lane k =
    number_of_bits-below t (λ b. value_bit t w values lane (k * t + b)) (λ b _. bit_at-lt (get_or values (row_at t lane ((k * t + b) / w)) 0) ((k * t + b) % w))

pub All-packed : (t w : ℕ) (values : List ℕ) → All (λ n. n < 2 ^ t) (packed t w values)
unfolding packed
All-packed t w values =
    let f : ℕ → ℕ = λ i. packed_word t w values (i % (1024 / t)) (i / (1024 / t)) in
    All-from_get_or (λ n. n < 2 ^ t) (packed t w values) 0
    (λ i h. subst (λ (n : ℕ). n < 2 ^ t) (sym (get_or-map-range_with_len f 0 (w * (1024 / t)) i i 0 (omega (arith, length-map-range_with_len f 0 (w * (1024 / t)))) (omega arith))) (packed_word-below t w values (i % (1024 / t)) (i / (1024 / t))))

pub lane_width_of : (stored : Stored) → IsLaneWidth (numbers_of stored).lane_width
lane_width_of (U8 words) = inl refl
lane_width_of (U16 words) = inr (inl refl)
lane_width_of (U32 words) = inr (inr (inl refl))
lane_width_of (U64 words) = inr (inr (inr refl))

pub words_come_back : (stored : Stored) (words : PackedWords) (w : ℕ) → numbers_of stored ≡ words → FitLanes (numbers_of stored) → HasWidth words w → words ≡ words_packing words.lane_width w (unpacked words.lane_width w words.numbers)
words_come_back stored words w is fit has =
    let width = subst (λ (p : PackedWords). IsLaneWidth p.lane_width) is (lane_width_of stored) in
    let small = subst FitLanes is fit in
    sym (ap (λ (ns : List ℕ). same_width words ns) (packed-unpacked words.lane_width w words.numbers width has.count small))
  where
    same_width : PackedWords → List ℕ → PackedWords
    same_width p ns = record { lane_width = p.lane_width; numbers = ns }

-- what a write through a slice of the whole leaves
pub whole_slice_written : {X : Type 0} → (xs new : List X) (n : ℕ) → n ≡ length xs → length new ≡ length xs → take n (new ++ drop (length new) xs) ≡ new
whole_slice_written xs new n e long =
    let within : n ≤ length new = omega arith in
    take-append-le n new (drop (length new) xs) within ∙ take_all n new (omega arith)
