-- Each of the two masks has a row, or one of them has none.
use Rattle.std.proofs.Common.{ℕ, ◌<◌, ◌≤◌, nat_lt, arith}
use Rattle.std.proofs.lemmas.Bool.{true_from_ne_false}
use Rattle.std.proofs.lemmas.Bool.Decides.{nat_tests}
use Rattle.segment_core.proofs.MixedRows.{is_mixed, none_had, none_lacked}
use Rattle.segment_core.proofs.runs.are_mixed_within.Goals as goal

pub returns-then-next_true-lt1024 : goal.returns-then-next_true-lt1024
returns-then-next_true-lt1024 c =
    let t : ℕ = c.args.lane_width in
    let i : ℕ = c.next_true.result in
    let j : ℕ = c.next_true-then-next_true-lt1024.result in (
      λ yes. let l : j < 1024 = grind (arith, nat_tests) in
          is_mixed t c.args.mask.now c.later_rows-later.result c.and-had.result c.and_not-lacked.result c.later_rows-later.ensures c.and-had.ensures c.and_not-lacked.ensures
          i j c.if-next_true-lt1024.true (c.next_true.ensures.here c.if-next_true-lt1024.true) l (c.next_true-then-next_true-lt1024.ensures.here l),
      λ h. true_from_ne_false (nat_lt j 1024) (λ no. let past : 1024 ≤ j = grind (arith, nat_tests) in
          none_lacked t c.args.mask.now c.later_rows-later.result c.and-had.result c.and_not-lacked.result c.later_rows-later.ensures c.and-had.ensures c.and_not-lacked.ensures
          (λ n l. c.next_true-then-next_true-lt1024.ensures.none n (omega arith) (omega arith)) h),
    )

pub returns-else-next_true-lt1024 : goal.returns-else-next_true-lt1024
returns-else-next_true-lt1024 c =
    let t : ℕ = c.args.lane_width in
    let i : ℕ = c.next_true.result in
    let past : 1024 ≤ i = c.if-next_true-lt1024.false in (
      λ yes. let l : i < 1024 = grind (arith, nat_tests) in absurd (omega arith),
      λ h. absurd (none_had t c.args.mask.now c.later_rows-later.result c.and-had.result c.and_not-lacked.result c.later_rows-later.ensures c.and-had.ensures c.and_not-lacked.ensures
          (λ n l. c.next_true.ensures.none n (omega arith) (omega arith)) h),
    )
