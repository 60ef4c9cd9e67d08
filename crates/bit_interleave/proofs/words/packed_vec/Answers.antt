-- Each packed word fits its lane.
use Rattle.std.proofs.Common.{ℕ, ◌<◌, ◌^◌, List, map, sym, subst, arith}
use Rattle.std.specs.List.{All}
use Rattle.bit_interleave.proofs.WordsLemmas.{All-packed, whole_slice_written}
use Rattle.bit_interleave.proofs.words.packed_vec.Goals as goal

pub returns-clause-fit : goal.returns-clause-fit
returns-clause-fit g c =
    let whole = whole_slice_written c.in_ok-words.words.items c.pack_from.new.words c.in_ok-words.words.len (omega (arith, c.in_ok-words.words.ok.0)) (omega (arith, c.as_mut_slice.ensures.value, c.pack_from.auto.words)) in
    subst (λ ys. All (λ n. n < 2 ^ g.U.LaneWord.BITS) (map g.U.LaneWord.number ys)) (sym whole)
    (subst (λ (ns : List ℕ). All (λ n. n < 2 ^ g.U.LaneWord.BITS) ns) (sym c.pack_from.ensures) (All-packed g.U.LaneWord.BITS c.args.width (map (λ (n : ℕ). n) c.args.values.now)))
