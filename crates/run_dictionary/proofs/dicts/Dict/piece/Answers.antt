-- The codes of a piece are those of its rows.
use Rattle.std.proofs.Common.{ℕ, ◌+◌, ◌*◌, ◌/◌, ◌%◌, pos, length, slice_index, ap, ◌∙◌, arith}
use Rattle.transpose_order.specs.Place.{place_of}
use Rattle.bit_interleave.specs.PackedWords.{packed_width}
use Rattle.bit_interleave.specs.Packing.{packed_value, sixteen_of}
use Rattle.bit_interleave.specs.Range.{value_at}
use Rattle.bit_interleave.proofs.SixteenLemmas.{length-sixteen_of, sixteen_of-like}
use Rattle.run_dictionary.specs.Dict.{DictForm, dict_value}
use Rattle.run_dictionary.proofs.RangeLemmas.{read_back}
use Rattle.run_dictionary.proofs.DictLemmas.{codes_in_piece}
use Rattle.run_dictionary.proofs.dicts.Dict.piece.Goals as goal

pub values_at-requires : goal.values_at-requires
values_at-requires c = λ i h.
    let codes = c.self.inside.codes in
    let told = c.step-codes.ensures.values ∙ ap (λ (w : ℕ). sixteen_of (λ k. packed_value codes.lane_width w codes.numbers (16 * (c.args.piece / 16) + k) (c.args.piece % 16))) c.packed_width-width.ensures in
    let code = codes_in_piece _ c.self.invariant c.args.piece c.step-codes.result c.requires told i h in
    omega (arith, code.1, c.self.invariant.codes (64 * i + place_of 16 c.args.piece) code.0)

pub returns : goal.returns
returns c =
    let codes = c.self.inside.codes in
    let dictionary = c.self.inside.values.values in
    let form : DictForm = record { lane_width = c.self.inside.values.lane_width; width = packed_width codes; values = dictionary; codes = codes } in
    let told = c.step-codes.ensures.values ∙ ap (λ (w : ℕ). sixteen_of (λ k. packed_value codes.lane_width w codes.numbers (16 * (c.args.piece / 16) + k) (c.args.piece % 16))) c.packed_width-width.ensures in
    read_back c.values_at.result (λ i h. c.values_at.ensures.fit i (omega (arith, ap length c.values_at.ensures.values, length-sixteen_of (λ i. value_at dictionary (slice_index c.step-codes.result i)))))
    ∙ c.values_at.ensures.values
    ∙ sixteen_of-like (λ i. value_at dictionary (slice_index c.step-codes.result i)) (λ i. dict_value form (64 * i + place_of 16 c.args.piece)) (pos 0)
    (λ i h. ap (value_at form.values) (codes_in_piece form c.self.invariant c.args.piece c.step-codes.result c.requires told i h).1)
    ∙ ap (λ f. sixteen_of (λ i. dict_value f (64 * i + place_of 16 c.args.piece))) c.self.view_is
