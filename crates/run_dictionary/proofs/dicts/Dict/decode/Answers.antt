-- The unpacked codes are looked up.
use Rattle.std.proofs.Common.{ℕ, ℤ, List, pos, length, slice_index, sym, ap, ◌∙◌, subst, arith}
use Rattle.transpose_order.specs.MaskWords.{rows_of-same, get_or-rows_of, length-rows_of}
use Rattle.bit_interleave.specs.PackedWords.{packed_width}
use Rattle.bit_interleave.specs.Packing.{unpacked}
use Rattle.bit_interleave.specs.Range.{AreInRange, value_at}
use Rattle.run_dictionary.specs.Dict.{DictForm, dict_value, dict_values}
use Rattle.run_dictionary.proofs.DictLemmas.{codes_read}
use Rattle.run_dictionary.proofs.RangeLemmas.{AreInRange-dict_values}
use Rattle.run_dictionary.proofs.dicts.Dict.decode.Goals as goal

pub in_room-requires : goal.in_room-requires
in_room-requires c = c.self.invariant.many

pub write_values-requires : goal.write_values-requires
write_values-requires c = λ n h.
    let codes = c.self.inside.codes in
    let read = c.unpack.ensures.values ∙ ap (λ (w : ℕ). unpacked codes.lane_width w codes.numbers) c.packed_width.ensures in
    omega (arith, codes_read _ c.self.invariant c.unpack.new.values read n h, c.self.invariant.codes n h, ap length c.in_room.ensures.values)

pub returns-clause-values : goal.returns-clause-values
unfolding dict_values
returns-clause-values c =
    let codes = c.self.inside.codes in
    let form : DictForm = record { lane_width = c.self.inside.values.lane_width; width = packed_width codes; values = c.self.inside.values.values; codes = codes } in
    let read = c.unpack.ensures.values ∙ ap (λ (w : ℕ). unpacked codes.lane_width w codes.numbers) c.packed_width.ensures in
    c.write_values.ensures
    ∙ rows_of-same (dict_value form) _ (pos 0) (length-rows_of (λ n. value_at c.in_room.result.now (slice_index c.unpack.new.values n)))
    (λ n h. get_or-rows_of (λ n. value_at c.in_room.result.now (slice_index c.unpack.new.values n)) n (pos 0) h
    ∙ ap (λ xs. value_at xs (slice_index c.unpack.new.values n)) c.in_room.ensures.values
    ∙ ap (value_at form.values) (codes_read form c.self.invariant c.unpack.new.values read n h))
    ∙ ap (λ f. dict_values f) c.self.view_is

pub returns-clause-fit : goal.returns-clause-fit
returns-clause-fit c =
    let written = returns-clause-values c in
    subst (λ (xs : List ℤ). AreInRange c.args.self.now.lane_width xs) (sym written)
    (subst (λ (f : DictForm). AreInRange f.lane_width (dict_values f)) c.self.view_is (AreInRange-dict_values _ c.self.invariant))
