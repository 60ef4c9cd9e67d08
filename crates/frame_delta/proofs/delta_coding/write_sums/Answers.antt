-- The sums at each step wrap to the values there; each piece is written to its rows.
use Rattle.std.proofs.Common.{◌≡◌, ◌≢◌, ℕ, suc, ◌+◌, ◌*◌, ◌/◌, ◌%◌, ◌<◌, ◌^◌, ℤ, pos, ◌+ℤ◌, of_z, to_z, List, map, length, get_or, sym, ap, ◌∙◌, subst, arith, rules, FitsSigned}
use Rattle.std.specs.Int.{w64, int_wrap}
use Rattle.std.proofs.lemmas.Int.{to_z-of_z}
use Rattle.transpose_order.specs.Place.{IsLaneWidth, place_of}
use Rattle.bit_interleave.specs.Arithmetic.{integer_width}
use Rattle.bit_interleave.specs.Packing.{packed_value}
use Rattle.bit_interleave.proofs.SixteenLemmas.{get_or-sixteen_of}
use Rattle.bit_interleave.proofs.WrapLemmas.{fits_wide}
use Rattle.bit_interleave.specs.Range.{AreInRange, value_at}
use Rattle.frame_delta.specs.Delta.{DeltaForm, sum_to, delta_at, delta_value, delta_values}
use Rattle.frame_delta.proofs.PieceRows.{blocks_more, each_of_four, rows_from_pieces}
use Rattle.frame_delta.proofs.DeltaLemmas.{at_start_or_on, sums_step, sums_start, next_block, group_is_there, AreInRange-delta_values}
use Rattle.frame_delta.proofs.FrameLemmas.{column_fits}
use Rattle.frame_delta.proofs.delta_coding.write_sums.Goals as goal

pub loop-block-preserved : goal.loop-block-preserved
loop-block-preserved g c =
    let t = c.BITS-bits.result in
    let block = c.loop-block.block in
    let q = 4 * block in
    let r = to_z w64 (of_z w64 c.args.least) in
    let w = c.args.width in
    let words = map g.U.LaneWord.number c.args.words.now in
    let bases : List ℤ = c.args.bases.now.values in
    let width : IsLaneWidth t = subst IsLaneWidth (sym c.BITS-bits.ensures) g.met.U.LaneWord.is_lane_width in
    let f : ℕ → ℕ → ℤ = λ l s. r +ℤ pos (packed_value t w words l s) in
    let value : ℕ → ℕ → ℤ = λ l s. int_wrap (integer_width t) (value_at bases l +ℤ sum_to (suc s) (f l)) in
    let fits : FitsSigned w64 r = search rules in
    let count : length bases ≡ 1024 / t = c.requires.base_count ∙ ap (λ (n : ℕ). 1024 / n) (sym c.BITS-bits.ensures) in
    let group = group_is_there t q width (omega (arith, c.loop-block-test.true)) in
    let new = c.put_four.new.values in
    let places : c.place_in_word-places.result / 4 ≡ place_of t q / 4 = ap (λ n. n / 4) c.place_in_word-places.ensures in
    let base_fits : (i : ℕ) → i < 16 → FitsSigned w64 (value_at bases (16 * (q / t) + i)) =
    λ i h. fits_wide g.U.LaneWord.BITS (value_at bases (16 * (q / t) + i)) g.met.U.LaneWord.is_lane_width (column_fits g.U.LaneWord.BITS bases (16 * (q / t) + i) (omega (arith, count, group)) c.requires.bases) in
    let start : q % t ≡ 0 → (i : ℕ) → i < 16 → int_wrap (integer_width t) (pos (get_or c.lanes_before-before.result i 0)) ≡ int_wrap (integer_width t) (value_at bases (16 * (q / t) + i) +ℤ sum_to (q % t) (f (16 * (q / t) + i))) =
    λ e i h.
    ap (λ x. int_wrap (integer_width t) (pos x)) (c.lanes_before-before.ensures.first e i h)
    ∙ sums_start t (value_at bases (16 * (q / t) + i)) (f (16 * (q / t) + i)) width (base_fits i h)
    ∙ ap (λ k. int_wrap (integer_width t) (value_at bases (16 * (q / t) + i) +ℤ sum_to k (f (16 * (q / t) + i)))) (sym e) in
    let on : q % t ≢ 0 → (i : ℕ) → i < 16 → int_wrap (integer_width t) (pos (get_or c.lanes_before-before.result i 0)) ≡ int_wrap (integer_width t) (value_at bases (16 * (q / t) + i) +ℤ sum_to (q % t) (f (16 * (q / t) + i))) =
    λ e i h. ap (λ xs. int_wrap (integer_width t) (pos (get_or xs i 0))) (c.lanes_before-before.ensures.later e) ∙ c.loop-block.invariant.sums e i h in
    let before : (i : ℕ) → i < 16 → int_wrap (integer_width t) (pos (get_or c.lanes_before-before.result i 0)) ≡ int_wrap (integer_width t) (value_at bases (16 * (q / t) + i) +ℤ sum_to (q % t) (f (16 * (q / t) + i))) =
    λ i h. at_start_or_on (q % t) _ (λ e. start e i h) (λ e. on e i h) in
    let lane0 : (i : ℕ) → i < 16 → get_or c.step_at.result i 0 ≡ packed_value t w words (16 * (q / t) + i) (q % t) =
    λ i h. ap (λ xs. get_or xs i 0) c.step_at.ensures.values ∙ get_or-sixteen_of (λ j. packed_value g.U.LaneWord.BITS w words (16 * (q / t) + j) (q % t)) i 0 h ∙ ap (λ n. packed_value n w words (16 * (q / t) + i) (q % t)) (sym c.BITS-bits.ensures) in
    let now0 : (i : ℕ) → i < 16 → int_wrap (integer_width t) (pos (get_or c.added-a.result i 0)) ≡ value (16 * (q / t) + i) (q % t) =
    λ i h.
    ap (λ x. int_wrap (integer_width t) (pos x)) (c.added-a.ensures.lanes i h ∙ ap (λ x. (x + get_or c.step_at.result i 0) % 2 ^ 64) (c.raised.ensures.lanes i h ∙ ap (λ x. (get_or c.lanes_before-before.result i 0 + x) % 2 ^ 64) c.cast_unsigned-by.ensures))
    ∙ sums_step t (get_or c.lanes_before-before.result i 0) (get_or c.step_at.result i 0) (q % t) (value_at bases (16 * (q / t) + i)) r (f (16 * (q / t) + i)) width fits (before i h) (ap (λ x. r +ℤ pos x) (sym (lane0 i h))) in
    let at0 : (i : ℕ) → i < 16 → value_at new (64 * i + 4 * (place_of t q / 4) + 0) ≡ value (16 * (q / t) + i) (q % t + 0) =
    λ i h.
    let row : 64 * i + 4 * (place_of t q / 4) + 0 ≡ 64 * i + 4 * (c.place_in_word-places.result / 4) = omega (arith, places) in
    let step : q % t ≡ q % t + 0 = omega arith in
    ap (value_at new) row ∙ c.put_four.ensures.first i h ∙ now0 i h ∙ ap (value (16 * (q / t) + i)) step in
    let next1 : suc (q % t) ≡ q % t + 1 = omega arith in
    let lane1 : (i : ℕ) → i < 16 → get_or c.step_at-in-loop-block.result i 0 ≡ packed_value t w words (16 * (q / t) + i) (q % t + 1) =
    λ i h. ap (λ xs. get_or xs i 0) c.step_at-in-loop-block.ensures.values ∙ get_or-sixteen_of (λ j. packed_value g.U.LaneWord.BITS w words (16 * (q / t) + j) (q % t + 1)) i 0 h ∙ ap (λ n. packed_value n w words (16 * (q / t) + i) (q % t + 1)) (sym c.BITS-bits.ensures) in
    let now1 : (i : ℕ) → i < 16 → int_wrap (integer_width t) (pos (get_or c.added-b.result i 0)) ≡ value (16 * (q / t) + i) (q % t + 1) =
    λ i h.
    ap (λ x. int_wrap (integer_width t) (pos x)) (c.added-b.ensures.lanes i h ∙ ap (λ x. (x + get_or c.step_at-in-loop-block.result i 0) % 2 ^ 64) (c.raised-in-loop-block.ensures.lanes i h ∙ ap (λ x. (get_or c.added-a.result i 0 + x) % 2 ^ 64) c.cast_unsigned-by.ensures))
    ∙ sums_step t (get_or c.added-a.result i 0) (get_or c.step_at-in-loop-block.result i 0) (q % t + 1) (value_at bases (16 * (q / t) + i)) r (f (16 * (q / t) + i)) width fits (now0 i h ∙ ap (λ n. int_wrap (integer_width t) (value_at bases (16 * (q / t) + i) +ℤ sum_to n (f (16 * (q / t) + i)))) (next1)) (ap (λ x. r +ℤ pos x) (sym (lane1 i h))) in
    let at1 : (i : ℕ) → i < 16 → value_at new (64 * i + 4 * (place_of t q / 4) + 1) ≡ value (16 * (q / t) + i) (q % t + 1) =
    λ i h.
    let row : 64 * i + 4 * (place_of t q / 4) + 1 ≡ 64 * i + 4 * (c.place_in_word-places.result / 4) + 1 = omega (arith, places) in
    let step : q % t + 1 ≡ q % t + 1 = omega arith in
    ap (value_at new) row ∙ c.put_four.ensures.second i h ∙ now1 i h ∙ ap (value (16 * (q / t) + i)) step in
    let next2 : suc (q % t + 1) ≡ q % t + 2 = omega arith in
    let lane2 : (i : ℕ) → i < 16 → get_or c.step_at-in-loop-block-2.result i 0 ≡ packed_value t w words (16 * (q / t) + i) (q % t + 2) =
    λ i h. ap (λ xs. get_or xs i 0) c.step_at-in-loop-block-2.ensures.values ∙ get_or-sixteen_of (λ j. packed_value g.U.LaneWord.BITS w words (16 * (q / t) + j) (q % t + 2)) i 0 h ∙ ap (λ n. packed_value n w words (16 * (q / t) + i) (q % t + 2)) (sym c.BITS-bits.ensures) in
    let now2 : (i : ℕ) → i < 16 → int_wrap (integer_width t) (pos (get_or c.added-c.result i 0)) ≡ value (16 * (q / t) + i) (q % t + 2) =
    λ i h.
    ap (λ x. int_wrap (integer_width t) (pos x)) (c.added-c.ensures.lanes i h ∙ ap (λ x. (x + get_or c.step_at-in-loop-block-2.result i 0) % 2 ^ 64) (c.raised-in-loop-block-2.ensures.lanes i h ∙ ap (λ x. (get_or c.added-b.result i 0 + x) % 2 ^ 64) c.cast_unsigned-by.ensures))
    ∙ sums_step t (get_or c.added-b.result i 0) (get_or c.step_at-in-loop-block-2.result i 0) (q % t + 2) (value_at bases (16 * (q / t) + i)) r (f (16 * (q / t) + i)) width fits (now1 i h ∙ ap (λ n. int_wrap (integer_width t) (value_at bases (16 * (q / t) + i) +ℤ sum_to n (f (16 * (q / t) + i)))) (next2)) (ap (λ x. r +ℤ pos x) (sym (lane2 i h))) in
    let at2 : (i : ℕ) → i < 16 → value_at new (64 * i + 4 * (place_of t q / 4) + 2) ≡ value (16 * (q / t) + i) (q % t + 2) =
    λ i h.
    let row : 64 * i + 4 * (place_of t q / 4) + 2 ≡ 64 * i + 4 * (c.place_in_word-places.result / 4) + 2 = omega (arith, places) in
    let step : q % t + 2 ≡ q % t + 2 = omega arith in
    ap (value_at new) row ∙ c.put_four.ensures.third i h ∙ now2 i h ∙ ap (value (16 * (q / t) + i)) step in
    let next3 : suc (q % t + 2) ≡ q % t + 3 = omega arith in
    let lane3 : (i : ℕ) → i < 16 → get_or c.step_at-in-loop-block-3.result i 0 ≡ packed_value t w words (16 * (q / t) + i) (q % t + 3) =
    λ i h. ap (λ xs. get_or xs i 0) c.step_at-in-loop-block-3.ensures.values ∙ get_or-sixteen_of (λ j. packed_value g.U.LaneWord.BITS w words (16 * (q / t) + j) (q % t + 3)) i 0 h ∙ ap (λ n. packed_value n w words (16 * (q / t) + i) (q % t + 3)) (sym c.BITS-bits.ensures) in
    let now3 : (i : ℕ) → i < 16 → int_wrap (integer_width t) (pos (get_or c.added-d.result i 0)) ≡ value (16 * (q / t) + i) (q % t + 3) =
    λ i h.
    ap (λ x. int_wrap (integer_width t) (pos x)) (c.added-d.ensures.lanes i h ∙ ap (λ x. (x + get_or c.step_at-in-loop-block-3.result i 0) % 2 ^ 64) (c.raised-in-loop-block-3.ensures.lanes i h ∙ ap (λ x. (get_or c.added-c.result i 0 + x) % 2 ^ 64) c.cast_unsigned-by.ensures))
    ∙ sums_step t (get_or c.added-c.result i 0) (get_or c.step_at-in-loop-block-3.result i 0) (q % t + 3) (value_at bases (16 * (q / t) + i)) r (f (16 * (q / t) + i)) width fits (now2 i h ∙ ap (λ n. int_wrap (integer_width t) (value_at bases (16 * (q / t) + i) +ℤ sum_to n (f (16 * (q / t) + i)))) (next3)) (ap (λ x. r +ℤ pos x) (sym (lane3 i h))) in
    let at3 : (i : ℕ) → i < 16 → value_at new (64 * i + 4 * (place_of t q / 4) + 3) ≡ value (16 * (q / t) + i) (q % t + 3) =
    λ i h.
    let row : 64 * i + 4 * (place_of t q / 4) + 3 ≡ 64 * i + 4 * (c.place_in_word-places.result / 4) + 3 = omega (arith, places) in
    let step : q % t + 3 ≡ q % t + 3 = omega arith in
    ap (value_at new) row ∙ c.put_four.ensures.fourth i h ∙ now3 i h ∙ ap (value (16 * (q / t) + i)) step in
    record {
      long = c.put_four.ensures.long;
      sums_long = c.added-d.ensures.long;
      sums = λ e i h.
          let next = next_block t block width e in
          now3 i h
          ∙ ap (λ a. int_wrap (integer_width t) (value_at bases (16 * a + i) +ℤ sum_to (suc (q % t + 3)) (f (16 * a + i)))) (sym next.0)
          ∙ ap (λ b. int_wrap (integer_width t) (value_at bases (16 * (4 * (block + 1) / t) + i) +ℤ sum_to b (f (16 * (4 * (block + 1) / t) + i)))) (sym next.1);
      done = λ p i h near. blocks_more t block value c.loop-block.values new width c.loop-block-test.true c.loop-block.invariant.done
          (λ k i small l. each_of_four (λ k. value_at new (64 * i + 4 * (place_of t q / 4) + k) ≡ value (16 * (q / t) + i) (q % t + k)) (at0 i l) (at1 i l) (at2 i l) (at3 i l) k small)
          (λ n apart. c.put_four.ensures.others n (λ e. apart (e ∙ places))) p i h near;
    }

pub returns-clause-values : goal.returns-clause-values
unfolding delta_values delta_value delta_at
returns-clause-values g c =
    let t = c.BITS-bits.result in
    let r = to_z w64 (of_z w64 c.args.least) in
    let w = c.args.width in
    let words = map g.U.LaneWord.number c.args.words.now in
    let bases = c.args.bases.now.values in
    let width : IsLaneWidth t = subst IsLaneWidth (sym c.BITS-bits.ensures) g.met.U.LaneWord.is_lane_width in
    let form : ℕ → ℤ → DeltaForm = λ n z. record { lane_width = n; width = w; least = z; bases = bases; words = record { lane_width = n; numbers = words } } in
    rows_from_pieces t (λ l s. int_wrap (integer_width t) (value_at bases l +ℤ sum_to (suc s) (λ k. r +ℤ pos (packed_value t w words l k)))) c.loop-block.values width c.loop-block.invariant.long
    (λ q i h near. c.loop-block.invariant.done q i (omega arith) near)
    ∙ ap (λ (n : ℕ). delta_values (form n r)) c.BITS-bits.ensures
    ∙ ap (λ (z : ℤ). delta_values (form g.U.LaneWord.BITS z)) (to_z-of_z w64 c.args.least c.ranges.least)

pub returns-clause-fit : goal.returns-clause-fit
returns-clause-fit g c =
    let form : DeltaForm = record { lane_width = g.U.LaneWord.BITS; width = c.args.width; least = c.args.least; bases = c.args.bases.now.values; words = record { lane_width = g.U.LaneWord.BITS; numbers = map g.U.LaneWord.number c.args.words.now } } in
    subst (λ (xs : List ℤ). AreInRange g.U.LaneWord.BITS xs) (sym (returns-clause-values g c)) (AreInRange-delta_values form)
