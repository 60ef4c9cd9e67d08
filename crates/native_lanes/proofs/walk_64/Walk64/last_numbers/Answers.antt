-- A step takes each lane from its number before it to that at it.
use Rattle.std.proofs.Common.{◌+◌, ◌≡◌, ap, ◌∙◌, arith}
use Rattle.native_lanes.specs.Walks.{Walk, number_before}
use Rattle.native_lanes.proofs.WalkLemmas.{number_before-zero}
use Rattle.native_lanes.proofs.walk_64.Walk64.last_numbers.Goals as goal

pub loop-step-init : goal.loop-step-init
loop-step-init c =
    let inside = c.self.inside in
    record {
      numbers = λ lane h.
          number_before-zero (record { lane_width = 64; width = inside.width; words = inside.words.now; carried = inside.carried; starts = inside.starts; added = inside.added }) lane
          ∙ ap (λ (w : Walk). number_before w lane 0) c.self.view_is;
    }

pub loop-step-preserved : goal.loop-step-preserved
loop-step-preserved c = record { numbers = λ lane h. c.go.ensures lane h }

pub returns : goal.returns
returns c lane h =
    let all : c.loop-step.step ≡ 63 + 1 = omega arith in
    c.loop-step.invariant.numbers lane h ∙ ap (number_before c.args.self.now lane) all
