-- The codes of all rows are unpacked.
use Rattle.std.proofs.Common.{◌+◌, ◌*◌, ◌/◌, ◌%◌, ◌^◌, ◌<◌, ◌≤◌, ◌⊎◌, inl, inr, refl, arith}
use Rattle.std.proofs.lemmas.Bool.{cases_lt}
use Rattle.std.proofs.Math.Nat.{div-eq_of_lt}
use Rattle.std.proofs.lemmas.List.Elements.{All-from_get_or}
use Rattle.transpose_order.specs.Place.{lane_of, step_of}
use Rattle.bit_interleave.proofs.StepLemmas.{packed_value-below}
use Rattle.bit_interleave.specs.Places.{row_of_index}
use Rattle.bit_interleave.proofs.PlacesLemmas.{index_of_row-below, row_of_index-below, by_place-row_of_index}
use Rattle.run_dictionary.specs.Dict.{packed_code}
use Rattle.run_dictionary.proofs.DictLemmas.{codes_by_place}
use Rattle.run_dictionary.proofs.dicts.Dict.codes_fit.Goals as goal

pub returns-then-count-width-ne0 : goal.returns-then-count-width-ne0
unfolding packed_code
returns-then-count-width-ne0 c =
    let most : 2 ^ c.args.width ≤ c.args.count = not_below (cases_lt c.args.count (2 ^ c.args.width)) in (
      λ _ n _. omega (arith, most, packed_value-below 16 c.args.width c.args.codes.now.numbers (lane_of 16 n) (step_of 16 n)),
      λ _. refl,
    )
  where
    not_below : (c.args.count < 2 ^ c.args.width) ⊎ (2 ^ c.args.width ≤ c.args.count) → 2 ^ c.args.width ≤ c.args.count
    not_below (inr most) = most
    not_below (inl less) = absurd (c.if-count-width-ne0.true (div-eq_of_lt less))

pub returns : goal.returns
returns c =
    let xs = c.unpack_by_places.new.numbers in
    let read = codes_by_place c.args.width c.args.codes.now xs c.requires.words c.unpack_by_places.ensures.numbers in (
      λ t n h. omega (arith, read n h, c.are_below.ensures.0 t (16 * (n % 64) + n / 64) 0 (omega (arith, index_of_row-below n h, c.unpack_by_places.array_long))),
      λ below. c.are_below.ensures.1 (All-from_get_or (λ code. code < c.args.count) xs 0
          (λ q h.
          let within : q < 1024 = omega (arith, c.unpack_by_places.array_long, h) in
          let row = row_of_index-below q within in
          omega (arith, by_place-row_of_index xs q within, read (row_of_index q) row, below (row_of_index q) row))),
    )
