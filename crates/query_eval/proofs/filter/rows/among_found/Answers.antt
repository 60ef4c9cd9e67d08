-- A null is unknown beside each literal, and false beside none.
use Rattle.std.proofs.Common.{◌∙◌, arith}
use Rattle.std.proofs.lemmas.Bool.Decides.{nat_tests}
use Rattle.query_eval.proofs.AmongLemmas.{pair_among, pair_among_none}
use Rattle.query_eval.proofs.filter.rows.among_found.Goals.{then-is_empty, else-is_empty}
use Rattle.query_eval.proofs.filter.rows.among_found.Goals as goal

pub returns : goal.returns
returns c = λ values e.
    elim c.if-is_empty.branch [
      | then-is_empty w ↦ pair_among_none c.args.nulls.now c.args.mask.now c.if-is_empty.known c.args.found.now values _ c.and.ensures c.and_not.ensures c.args.literals.now (grind (arith, nat_tests, c.is_empty.ensures, w.if-is_empty.true)) e w.known-is
      | else-is_empty w ↦ pair_among c.args.nulls.now c.args.mask.now c.if-is_empty.known c.args.found.now values _ c.and.ensures c.and_not.ensures c.args.literals.now (λ h. grind (arith, nat_tests, h, c.is_empty.ensures, w.if-is_empty.false)) e (w.known-is ∙ w.and_not-known.ensures)
    ]
