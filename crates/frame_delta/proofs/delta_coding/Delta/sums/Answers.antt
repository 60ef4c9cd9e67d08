-- The sums at a step wrap to the values there.
use Rattle.std.proofs.Common.{◌≡◌, ◌≢◌, ℕ, suc, ◌+◌, ◌-◌, ◌*◌, ◌/◌, ◌%◌, ◌<◌, ◌^◌, ℤ, pos, ◌+ℤ◌, List, length, get_or, sym, ap, ◌∙◌, subst, arith, rules, FitsSigned}
use Rattle.std.specs.Int.{w64, int_wrap, cast_unsigned}
use Rattle.std.proofs.lemmas.Int.{to_z-of_z}
use Rattle.transpose_order.specs.Place.{IsLaneWidth}
use Rattle.bit_interleave.specs.Arithmetic.{integer_width}
use Rattle.bit_interleave.specs.Packing.{packed_value}
use Rattle.bit_interleave.specs.PackedWords.{packed_width}
use Rattle.bit_interleave.proofs.SixteenLemmas.{get_or-sixteen_of}
use Rattle.bit_interleave.proofs.WrapLemmas.{fits_wide}
use Rattle.bit_interleave.specs.Range.{value_at}
use Rattle.frame_delta.specs.Delta.{DeltaForm, sum_to, delta_at, AreSums}
use Rattle.frame_delta.proofs.DeltaLemmas.{at_start_or_on, sums_step, sums_start, next_piece, group_is_there}
use Rattle.frame_delta.proofs.FrameLemmas.{column_fits}
use Rattle.frame_delta.proofs.delta_coding.Delta.sums.Goals as goal

-- the sums of the piece before are those up to this step
carried : (c : DeltaForm) (q : ℕ) (sums : List ℕ) → IsLaneWidth c.lane_width → q % c.lane_width ≢ 0 → AreSums c (q - 1) sums → (i : ℕ) → i < 16 → int_wrap (integer_width c.lane_width) (pos (get_or sums i 0)) ≡ int_wrap (integer_width c.lane_width) (value_at c.bases (16 * (q / c.lane_width) + i) +ℤ sum_to (q % c.lane_width) (λ s. c.least +ℤ pos (packed_value c.lane_width c.width c.words.numbers (16 * (q / c.lane_width) + i) s)))
unfolding delta_at
carried c q sums width later are i h =
    let t = c.lane_width in
    let numbers = c.words.numbers in
    let up : q - 1 + 1 ≡ q = (let some : q ≢ 0 = (λ e. later (ap (λ (n : ℕ). n % t) e ∙ omega arith)) in omega arith) in
    let next = next_piece t (q - 1) width (λ e. later (ap (λ n. n % t) (sym up) ∙ e)) in
    let group : (q - 1) / t ≡ q / t = sym next.0 ∙ ap (λ (n : ℕ). n / t) up in
    let step : suc ((q - 1) % t) ≡ q % t = sym next.1 ∙ ap (λ (n : ℕ). n % t) up in
    are.lanes i h
    ∙ ap (λ a. int_wrap (integer_width t) (value_at c.bases (16 * a + i) +ℤ sum_to (suc ((q - 1) % t)) (λ s. c.least +ℤ pos (packed_value t c.width numbers (16 * a + i) s)))) group
    ∙ ap (λ b. int_wrap (integer_width t) (value_at c.bases (16 * (q / t) + i) +ℤ sum_to b (λ s. c.least +ℤ pos (packed_value t c.width numbers (16 * (q / t) + i) s)))) step

pub returns : goal.returns
unfolding delta_at
returns c =
    let t = c.lane_width-lane_width.result in
    let q = c.args.piece in
    let r = c.self.inside.least in
    let words = c.self.inside.words in
    let w = packed_width words in
    let bases : List ℤ = c.self.inside.bases.values in
    let form : ℕ → DeltaForm = λ n. record { lane_width = n; width = w; least = r; bases = bases; words = words } in
    let width = c.lane_width-lane_width.ensures.width in
    let g : ℕ → ℕ → ℤ = λ l s. r +ℤ pos (packed_value t w words.numbers l s) in
    let fits : FitsSigned w64 r = search rules in
    let bits = c.cast_unsigned.ensures ∙ ap (cast_unsigned w64) (to_z-of_z w64 r fits) in
    let same = c.lane_width-lane_width.ensures.value in
    let count : length bases ≡ 1024 / t = c.self.invariant.0.base_count ∙ ap (λ (n : ℕ). 1024 / n) (sym same) in
    let group = group_is_there t q width c.requires.piece in
    let lane : (i : ℕ) → i < 16 → get_or c.step-numbers.result i 0 ≡ packed_value t w words.numbers (16 * (q / t) + i) (q % t) =
    λ i h. ap (λ xs. get_or xs i 0) c.step-numbers.ensures.values ∙ get_or-sixteen_of (λ k. packed_value words.lane_width c.packed_width-width.result words.numbers (16 * (q / t) + k) (q % t)) i 0 h ∙ ap (λ v. packed_value words.lane_width v words.numbers (16 * (q / t) + i) (q % t)) c.packed_width-width.ensures ∙ ap (λ n. packed_value n w words.numbers (16 * (q / t) + i) (q % t)) (sym same) in
    let base_fits : (i : ℕ) → i < 16 → FitsSigned w64 (value_at bases (16 * (q / t) + i)) =
    λ i h. fits_wide words.lane_width (value_at bases (16 * (q / t) + i)) c.self.invariant.0.lane_width (column_fits words.lane_width bases (16 * (q / t) + i) (omega (arith, count, group)) c.self.invariant.0.bases) in
    let view : form t ≡ c.args.self.now = ap form same ∙ c.self.view_is in
    let earlier : q % t ≢ 0 → AreSums (form t) (q - 1) c.args.before =
    λ e. subst (λ f. AreSums f (q - 1) c.args.before) (sym view) (c.requires.before (λ z. e (ap (λ f. q % f.lane_width) view ∙ z))) in
    let start : q % t ≡ 0 → (i : ℕ) → i < 16 → int_wrap (integer_width t) (pos (get_or c.lanes_before-from.result i 0)) ≡ int_wrap (integer_width t) (value_at bases (16 * (q / t) + i) +ℤ sum_to (q % t) (g (16 * (q / t) + i))) =
    λ e i h.
    ap (λ x. int_wrap (integer_width t) (pos x)) (c.lanes_before-from.ensures.first e i h)
    ∙ sums_start t (value_at bases (16 * (q / t) + i)) (g (16 * (q / t) + i)) width (base_fits i h)
    ∙ ap (λ k. int_wrap (integer_width t) (value_at bases (16 * (q / t) + i) +ℤ sum_to k (g (16 * (q / t) + i)))) (sym e) in
    let on : q % t ≢ 0 → (i : ℕ) → i < 16 → int_wrap (integer_width t) (pos (get_or c.lanes_before-from.result i 0)) ≡ int_wrap (integer_width t) (value_at bases (16 * (q / t) + i) +ℤ sum_to (q % t) (g (16 * (q / t) + i))) =
    λ e i h. ap (λ xs. int_wrap (integer_width t) (pos (get_or xs i 0))) (c.lanes_before-from.ensures.later e) ∙ carried (form t) q c.args.before width e (earlier e) i h in
    let before : (i : ℕ) → i < 16 → int_wrap (integer_width t) (pos (get_or c.lanes_before-from.result i 0)) ≡ int_wrap (integer_width t) (value_at bases (16 * (q / t) + i) +ℤ sum_to (q % t) (g (16 * (q / t) + i))) =
    λ i h. at_start_or_on (q % t) _ (λ e. start e i h) (λ e. on e i h) in
    let done : AreSums (form t) q c.added.result = record {
      long = c.added.ensures.long;
      lanes = λ i h.
          ap (λ x. int_wrap (integer_width t) (pos x)) (c.added.ensures.lanes i h ∙ ap (λ x. (x + get_or c.step-numbers.result i 0) % 2 ^ 64) (c.raised.ensures.lanes i h ∙ ap (λ x. (get_or c.lanes_before-from.result i 0 + x) % 2 ^ 64) bits))
          ∙ sums_step t (get_or c.lanes_before-from.result i 0) (get_or c.step-numbers.result i 0) (q % t) (value_at bases (16 * (q / t) + i)) r (g (16 * (q / t) + i)) width fits (before i h) (ap (λ x. r +ℤ pos x) (sym (lane i h)));
    } in
    subst (λ f. AreSums f q c.added.result) view done
