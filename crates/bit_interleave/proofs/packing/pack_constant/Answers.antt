-- Each word of the vector is one of its lane's.
use Rattle.std.proofs.Common.{◌≡◌, ◌*◌, ◌/◌, ◌%◌, map, arith, ap, ◌∙◌}
use Rattle.std.proofs.lemmas.List.{length-map}
use Rattle.std.proofs.lemmas.List.FromFn.{fill_by_all}
use Rattle.bit_interleave.specs.Packing.{packed_word, packed}
use Rattle.bit_interleave.proofs.packing.pack_constant.Goals as goal

pub returns : goal.returns
unfolding packed
returns g c =
    let lanes = 1024 / g.U.LaneWord.BITS in
    let all : c.loop-word.word ≡ g.row.W = omega arith in
    fill_by_all (λ i. packed_word g.U.LaneWord.BITS g.row.W (map g.V.LaneWord.number c.args.values.now) (i % lanes) (i / lanes)) (map g.U.LaneWord.number c.loop-word.words) (g.row.W * lanes) 0
    (length-map c.loop-word.words g.U.LaneWord.number ∙ c.loop-word.auto.words ∙ c.requires.words)
    (λ i h. c.loop-word.invariant i (omega (arith, ap (λ n. n * lanes) all)))
