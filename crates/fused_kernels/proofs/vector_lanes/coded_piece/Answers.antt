-- Each coding gives the values at the rows of the piece.
use Rattle.std.proofs.Common.{◌≡◌, ℕ, ◌+◌, ◌*◌, ◌<◌, ℤ, List, map, to_z, of_z, sym, ap, ◌∙◌, subst}
use Rattle.std.specs.Int.{w64}
use Rattle.transpose_order.specs.Place.{place_of}
use Rattle.bit_interleave.specs.Packing.{sixteen_of}
use Rattle.frame_delta.specs.Delta.{DeltaForm, delta_value}
use Rattle.frame_delta.specs.Frame.{FrameForm, frame_value}
use Rattle.run_dictionary.specs.Runs.{RunForm, run_value}
use Rattle.run_dictionary.specs.Dict.{DictForm, dict_value}
use Rattle.segment_core.specs.Coded.{value_in, IsCodedForm}
use Rattle.segment_core.specs.declared.coded.Coded.{Coded}
use Rattle.segment_core.specs.declared.coded.Coded.TheVariants.{For, Delta, Runs, Dict}
use Rattle.fused_kernels.specs.VectorSeen.{piece_width}
use Rattle.fused_kernels.proofs.VectorLemmas.{piece_read}
use Rattle.fused_kernels.proofs.vector_lanes.coded_piece.Goals.{in-For, in-Delta, in-Runs, in-Dict}
use Rattle.fused_kernels.proofs.vector_lanes.coded_piece.Goals as goal

by_coding : (coded k : Coded) (q : ℕ) (lanes : List ℤ) (result : List ℕ) → IsCodedForm coded → q < 64 → coded ≡ k → result ≡ map (of_z w64) lanes → lanes ≡ sixteen_of (λ i. value_in k (64 * i + place_of (piece_width k) q)) → map (to_z w64) result ≡ sixteen_of (λ i. value_in coded (64 * i + place_of (piece_width coded) q))
by_coding coded k q lanes result form h is bits made =
    ap (map (to_z w64)) bits ∙ piece_read k q lanes (subst IsCodedForm is form) h made
    ∙ ap (λ (x : Coded). sixteen_of (λ i. value_in x (64 * i + place_of (piece_width x) q))) (sym is)

pub returns-clause-values : goal.returns-clause-values
returns-clause-values c =
    let q = c.args.piece in
    let form = c.requires.form in
    elim c.match-coded.branch [
      | in-For w ↦ by_coding c.args.coded.now (For w.in-For.form) q w.piece.result c.match-coded.result form c.requires.piece w.in-For.is w.result-is (w.piece.ensures ∙ ap (λ (x : FrameForm). sixteen_of (λ i. frame_value x (64 * i + place_of x.lane_width q))) w.get.ensures)
      | in-Delta w ↦ by_coding c.args.coded.now (Delta w.in-Delta.form) q w.delta_piece.result c.match-coded.result form c.requires.piece w.in-Delta.is w.result-is (w.delta_piece.ensures.values ∙ ap (λ (x : DeltaForm). sixteen_of (λ i. delta_value x (64 * i + place_of x.lane_width q))) w.get-in-Delta.ensures)
      | in-Runs w ↦ by_coding c.args.coded.now (Runs w.in-Runs.form) q w.run_piece.result c.match-coded.result form c.requires.piece w.in-Runs.is w.result-is (w.run_piece.ensures.values ∙ ap (λ (x : RunForm). sixteen_of (λ i. run_value x (64 * i + place_of x.lane_width q))) w.get-in-Runs.ensures)
      | in-Dict w ↦ by_coding c.args.coded.now (Dict w.in-Dict.form) q w.piece-in-Dict.result c.match-coded.result form c.requires.piece w.in-Dict.is w.result-is (w.piece-in-Dict.ensures ∙ ap (λ (x : DictForm). sixteen_of (λ i. dict_value x (64 * i + place_of 16 q))) w.get-in-Dict.ensures)
    ]
