-- The run begins with a greater name.
use Rattle.std.proofs.Common.{◌≡◌, ◌-◌, true, List, length, get_or, ap, sym, subst, ◌∙◌, arith}
use Rattle.std.specs.Ordering.{is_lt}
use Rattle.table_model.specs.Name.{name_cmp}
use Rattle.table_model.specs.declared.names.BatchName.{BatchName}
use Rattle.table_spread.proofs.RunBounds.{before_run}
use Rattle.table_spread.proofs.name_runs.NameRuns.is_before.Goals as goal

pub returns : goal.returns
returns c = λ e.
    let first : BatchName = c.index.result.now in
    let at : first ≡ get_or c.args.self.now (c.args.index - 1) first = c.index.ensures ∙ ap (λ (firsts : List BatchName). get_or firsts (c.args.index - 1) first) c.self.view_is in
    before_run c.args.self.now c.args.name first c.args.index (omega (arith, c.if-index-eq0.false)) (omega (arith, c.if-index-len.false, c.len.ensures, ap length c.self.view_is))
    (subst (λ (n : BatchName). is_lt (name_cmp c.args.name n) ≡ true) at (sym c.is_less.ensures ∙ e))
