-- A bit is set where that is asked.
use Rattle.std.proofs.Common.{◌==◌, ◌&&◌, ◌||◌, Bool, true, sym, ap, ◌∙◌}
use Rattle.std.specs.Int.{bit_at, w64}
use Rattle.native_lanes.proofs.MarkLemmas.{set_bit_if}
use Rattle.native_lanes.proofs.native_64.with_bit.Goals as goal

pub returns-then-set : goal.returns-then-set
returns-then-set c = λ p h.
    set_bit_if w64 c.args.word c.args.place p true c.requires h
    ∙ ap (λ (b : Bool). (b && (p == c.args.place)) || (bit_at c.args.word p == 1)) (sym c.if-set.true)

pub returns-else-set : goal.returns-else-set
returns-else-set c = λ p h.
    sym (ap (λ (b : Bool). (b && (p == c.args.place)) || (bit_at c.args.word p == 1)) c.if-set.false)
