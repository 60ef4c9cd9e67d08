-- All places of the other ranges so far are in the set.
use Rattle.std.proofs.Common.{◌≡◌, ℕ, true, take}
use Rattle.catalogue_join.specs.Span.{among}
use Rattle.catalogue_join.proofs.ranges.Ranges.has_all.Given as goal

abbrev pub invariant-loop-range : goal.invariant-loop-range
invariant-loop-range g l = (p : ℕ) → among g.S.Span.shape (take l.range-index l.range-items) p ≡ true → among g.S.Span.shape l.self p ≡ true
