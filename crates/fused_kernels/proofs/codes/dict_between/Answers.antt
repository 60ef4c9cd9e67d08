-- The values in the range are those of the codes from the first place up to the end.
use Rattle.std.proofs.Common.{◌≡◌, ℕ, ◌<◌, ◌&&◌, ◌-◌, nat_le, true, false, List, length, to_z, of_z, sym, ap, ◌∙◌, subst, arith}
use Rattle.std.specs.Int.{w64}
use Rattle.transpose_order.specs.Place.{lane_of, step_of}
use Rattle.transpose_order.specs.MaskWords.{rows_of-like}
use Rattle.bit_interleave.specs.LaneValues.{LaneValues}
use Rattle.bit_interleave.specs.Packing.{packed_value}
use Rattle.bit_interleave.specs.PackedWords.{PackedWords}
use Rattle.run_dictionary.specs.Dict.{dict_value, code_at}
use Rattle.fused_kernels.specs.Seen.{between}
use Rattle.native_lanes.proofs.PackedLemmas.{passed_between}
use Rattle.fused_kernels.proofs.CodeRangeLemmas.{no_code, each_code, code_in_range, code_is}
use Rattle.fused_kernels.proofs.codes.dict_between.Goals as goal

pub returns-then-end-first : goal.returns-then-end-first
returns-then-end-first c =
    let form = c.args.form.now in
    let low = to_z w64 (of_z w64 c.args.low) in
    let high = to_z w64 (of_z w64 c.args.high) in
    c.none.ensures
    ∙ rows_of-like (λ _. false) (λ n. between c.args.low c.args.high (dict_value form n))
    (λ n h. sym (sym (passed_between c.args.low c.args.high (dict_value form n) c.ranges.low c.ranges.high) ∙ no_code low high (dict_value form n) c.places_between-first.result.0 c.places_between-first.result.1 (code_at form n) c.if-end-first.true (c.places_between-first.ensures.rows n h)))

pub returns-then-end-len : goal.returns-then-end-len
returns-then-end-len c =
    let form = c.args.form.now in
    let low = to_z w64 (of_z w64 c.args.low) in
    let high = to_z w64 (of_z w64 c.args.high) in
    let end : c.places_between-first.result.1 ≡ length form.values = c.if-end-len.true ∙ c.len.ensures ∙ ap (λ (x : LaneValues). length x.values) c.values.ensures.value in
    c.all.ensures
    ∙ rows_of-like (λ _. true) (λ n. between c.args.low c.args.high (dict_value form n))
    (λ n h.
    let below : code_at form n < c.places_between-first.result.1 = subst (λ (k : ℕ). code_at form n < k) (sym end) (c.values.ensures.form.codes n h) in
    sym (sym (passed_between c.args.low c.args.high (dict_value form n) c.ranges.low c.ranges.high) ∙ each_code low high (dict_value form n) c.places_between-first.result.0 c.places_between-first.result.1 (code_at form n) c.if-first-eq0.true below (c.places_between-first.ensures.rows n h)))

pub returns : goal.returns
returns c =
    let form = c.args.form.now in
    let low = to_z w64 (of_z w64 c.args.low) in
    let high = to_z w64 (of_z w64 c.args.high) in
    let first = c.places_between-first.result.0 in
    let end = c.places_between-first.result.1 in
    let some : 0 < end = omega (arith, c.if-end-first.false) in
    let number : ℕ → ℕ = λ n. packed_value 16 c.width.result c.words_16.result.now (lane_of 16 n) (step_of 16 n) in
    c.rows_between_16.ensures
    ∙ rows_of-like (λ n. nat_le first (number n) && nat_le (number n) (end - 1)) (λ n. between c.args.low c.args.high (dict_value form n))
    (λ n h.
    let code : number n ≡ code_at form n =
    ap (λ (w : ℕ). packed_value 16 w c.words_16.result.now (lane_of 16 n) (step_of 16 n)) c.width.ensures.value
    ∙ ap (λ (xs : List ℕ). packed_value 16 form.width xs (lane_of 16 n) (step_of 16 n)) (c.words_16.ensures ∙ ap (λ (x : PackedWords). x.numbers) c.codes.ensures.words)
    ∙ code_is form.width form.codes n in
    ap (λ (k : ℕ). nat_le first k && nat_le k (end - 1)) code
    ∙ code_in_range low high (dict_value form n) first end (code_at form n) some (c.places_between-first.ensures.rows n h)
    ∙ passed_between c.args.low c.args.high (dict_value form n) c.ranges.low c.ranges.high)
