-- No cell is null, or each that is gets its bit cleared.
use Rattle.std.proofs.Common.{◌≡◌, ℕ, Bool, List, count_by, sym, ◌∙◌, arith}
use Rattle.transpose_order.specs.Mask.{has}
use Rattle.query_eval.proofs.KeptLemmas.{no_true}
use Rattle.live_columns.specs.Chosen.{picked}
use Rattle.live_columns.proofs.BitSteps.{marked-values}
use Rattle.live_columns.proofs.CellSteps.{both-count}
use Rattle.live_columns.proofs.bits.clear_nulls.Goals as goal

pub returns-then-count-eq0-clause-marked : goal.returns-then-count-eq0-clause-marked
returns-then-count-eq0-clause-marked c = λ before cells first h.
    let flags : List Bool = picked c.args.rows.now (has c.args.nulls.now) in
    let none : count_by (λ b. b) flags ≡ 0 = sym (both-count c.args.rows.now c.args.nulls.now c.and-both.result c.and-both.ensures) ∙ sym c.count-count.ensures ∙ c.if-count-eq0.true in
    marked-values before cells flags c.args.valid.now (λ i. no_true flags i none) h

pub returns-then-count-eq0-clause-count : goal.returns-then-count-eq0-clause-count
returns-then-count-eq0-clause-count c = sym c.if-count-eq0.true ∙ c.count-count.ensures ∙ both-count c.args.rows.now c.args.nulls.now c.and-both.result c.and-both.ensures

pub returns-clause-count : goal.returns-clause-count
returns-clause-count c = c.count-count.ensures ∙ both-count c.args.rows.now c.args.nulls.now c.and-both.result c.and-both.ensures
