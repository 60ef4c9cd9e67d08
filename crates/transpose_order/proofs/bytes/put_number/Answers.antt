-- A byte of a number is a shift and a mask.
use Rattle.std.proofs.Common.{◌≢◌, ℕ, ◌+◌, ◌*◌, ◌/◌, ◌^◌, ◌<◌, ◌≤◌, ◌⊎◌, inl, inr, length, get_or, ◌∙◌, below_more, get_or-set_same, get_or-set_other, arith}
use Rattle.std.proofs.lemmas.Nat.{and_mask}
use Rattle.transpose_order.specs.Bytes.{byte_of}
use Rattle.transpose_order.proofs.ByteLemmas.{byte_of-bit_at}
use Rattle.transpose_order.proofs.bytes.put_number.Goals as goal

-- a place outside the first i + 1 bytes is outside the first i, and isn't the last of them
outside : (k at i : ℕ) → (k < at) ⊎ (at + (i + 1) ≤ k) → (k ≢ at + i) × ((k < at) ⊎ (at + i ≤ k))
outside k at i (inl h) = (omega arith, inl h)
outside k at i (inr h) = (omega arith, inr (omega arith))

pub loop-i-preserved : goal.loop-i-preserved
loop-i-preserved c = record {
  written = below_more _ _
      (λ k h. let ne : c.args.at + k ≢ c.args.at + c.loop-i.i = omega arith in rw get_or-set_other (c.loop-i.invariant.written k h))
      (let lt : c.args.at + c.loop-i.i < length c.loop-i.bytes = omega arith in rw get_or-set_same (and_mask (c.args.number / 2 ^ (8 * c.loop-i.i)) 8 ∙ byte_of-bit_at c.args.number c.loop-i.i));
  others = λ k h. let far = outside k c.args.at c.loop-i.i h in let ne : k ≢ c.args.at + c.loop-i.i = far.0 in rw get_or-set_other (c.loop-i.invariant.others k far.1);
}
