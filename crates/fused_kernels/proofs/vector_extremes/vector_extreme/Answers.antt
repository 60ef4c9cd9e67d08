-- Each extreme is answered by a call of its own.
use Rattle.std.proofs.Common.{◌≡◌, sym, subst}
use Rattle.table_model.specs.declared.extreme.Extreme.{Extreme}
use Rattle.table_model.specs.Extreme.{extreme_of}
use Rattle.fused_kernels.specs.Seen.{values_looked_at}
use Rattle.fused_kernels.specs.VectorSeen.{vector_seen}
use Rattle.fused_kernels.proofs.vector_extremes.vector_extreme.Goals as goal

pub returns-in-Least-clause-value : goal.returns-in-Least-clause-value
returns-in-Least-clause-value c = subst (λ (side : Extreme). c.extreme_by_any.result ≡ extreme_of side (values_looked_at (vector_seen c.args.vector.now 0) c.args.mask.now)) (sym c.in-Least.is) c.extreme_by_any.ensures.value

pub returns-in-Greatest-clause-value : goal.returns-in-Greatest-clause-value
returns-in-Greatest-clause-value c = subst (λ (side : Extreme). c.extreme_by_any-in-Greatest.result ≡ extreme_of side (values_looked_at (vector_seen c.args.vector.now 0) c.args.mask.now)) (sym c.in-Greatest.is) c.extreme_by_any-in-Greatest.ensures.value
