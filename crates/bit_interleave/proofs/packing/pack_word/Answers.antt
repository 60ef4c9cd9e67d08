-- A word is written at its lane's place, which is no other's.
use Rattle.std.proofs.Common.{◌≡◌, ◌≢◌, ◌+◌, ◌*◌, ◌/◌, ◌<◌, length, arith, sym, ap, ◌∙◌, below_more}
use Rattle.std.proofs.lemmas.Nat.{row_fits}
use Rattle.bit_interleave.proofs.WriteLemmas.{written_there, written_elsewhere}
use Rattle.bit_interleave.proofs.packing.pack_word.Goals as goal

pub loop-lane-preserved : goal.loop-lane-preserved
loop-lane-preserved g c =
    let lanes = 1024 / c.BITS-bits.result in
    let lane = c.loop-lane.lane in
    let at = c.args.word * lanes in
    let long : length c.loop-lane.words ≡ c.args.width * lanes = c.loop-lane.auto.words ∙ c.requires.words ∙ ap (λ n. c.args.width * (1024 / n)) (sym c.BITS-bits.ensures) in
    let there : at + lane < length c.loop-lane.words = omega (arith, long, row_fits c.args.word lanes c.args.width lanes c.requires.word (omega arith)) in
    record {
      written = below_more _ _
          (λ k h. let apart : at + k ≢ at + lane = omega arith in written_elsewhere g.U.LaneWord.number c.loop-lane.words (at + lane) (at + k) c.from_u64.result apart ∙ c.loop-lane.invariant.written k h)
          (written_there g.U.LaneWord.number c.loop-lane.words (at + lane) (at + lane) c.from_u64.result _ (omega arith) there (c.from_u64.ensures ∙ c.word_of-number.ensures.value));
      before = λ i h. let apart : i ≢ at + lane = omega arith in written_elsewhere g.U.LaneWord.number c.loop-lane.words (at + lane) i c.from_u64.result apart ∙ c.loop-lane.invariant.before i h;
    }
