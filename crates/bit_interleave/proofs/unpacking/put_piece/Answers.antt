-- A lane is written at its row, which is no other lane's.
use Rattle.std.proofs.Common.{◌≢◌, ◌+◌, ◌*◌, arith, ◌∙◌, below_more}
use Rattle.std.proofs.lemmas.List.{length-set}
use Rattle.bit_interleave.proofs.WriteLemmas.{written_there, written_elsewhere}
use Rattle.bit_interleave.proofs.unpacking.put_piece.Goals as goal

pub loop-i-preserved : goal.loop-i-preserved
loop-i-preserved g c =
    let i = c.loop-i.i in
    let place = c.args.place in
    record {
      long = length-set c.loop-i.values (64 * i + place) c.from_u64.result ∙ c.loop-i.invariant.long;
      written = below_more _ _
          (λ k h. let apart : 64 * k + place ≢ 64 * i + place = omega arith in written_elsewhere g.V.LaneWord.number c.loop-i.values (64 * i + place) (64 * k + place) c.from_u64.result apart ∙ c.loop-i.invariant.written k h)
          (written_there g.V.LaneWord.number c.loop-i.values (64 * i + place) (64 * i + place) c.from_u64.result _ (omega arith) (omega arith) c.from_u64.ensures);
      others = λ n h. let apart : n ≢ 64 * i + place = λ e. h (omega (arith, e, c.requires.place)) in written_elsewhere g.V.LaneWord.number c.loop-i.values (64 * i + place) n c.from_u64.result apart ∙ c.loop-i.invariant.others n h;
    }
