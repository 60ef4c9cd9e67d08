-- A bit is set where that is asked.
use Rattle.std.proofs.Common.{◌==◌, ◌*◌, ◌%◌, ◌^◌, bit_or, ap, ◌∙◌}
use Rattle.std.specs.Int.{bit_at, w32}
use Rattle.native_lanes.proofs.MarkLemmas.{set_bit_if}
use Rattle.native_lanes.proofs.native_32.with_step.Goals as goal

pub returns : goal.returns
returns c = λ r h.
    ap (λ n. bit_at (bit_or c.args.bits (n * 2 ^ c.args.step % 2 ^ 32)) r == 1) c.from.ensures
    ∙ set_bit_if w32 c.args.bits c.args.step r c.args.set c.requires h
