-- Each part is counted in its turn.
use Rattle.std.proofs.Common.{◌≤◌, arith, sym}
use Rattle.folder_parts.proofs.PackedSoFar.{packed_none, packed_next, packed_all}
use Rattle.folder_parts.proofs.packing.packed_prefix.Goals as goal

pub loop-index-init : goal.loop-index-init
loop-index-init c = packed_none c.args.sizes.now

pub overflow_add-before : goal.overflow_add-before
overflow_add-before c =
    let so = c.loop-index.invariant.fits in
    let one = c.type_inv.sizes c.loop-index.index in
    omega (arith, so, one, c.from-before.ensures, c.loop-index-test.true)

pub loop-index-preserved : goal.loop-index-preserved
loop-index-preserved c =
    let one = c.type_inv.sizes c.loop-index.index in
    let fit : c.from-before.result ≤ 18446744073709551615 = omega (arith, one, c.from-before.ensures) in
    rw c.packed_up_to-count.ensures (rw (sym c.from-before.ensures) (packed_next c.args.sizes.now c.loop-index.index c.loop-index.count c.loop-index.before c.from-before.result c.loop-index.invariant c.loop-index-test.true c.from-before.ensures fit))

pub returns : goal.returns
returns c = packed_all c.args.sizes.now c.loop-index.index c.loop-index.count c.loop-index.before c.loop-index.invariant (omega (arith, c.loop-index.auto.index-end, c.loop-index-test.false))
