use Rattle.std.proofs.Common.{sym, ◌∙◌, subst, ℕ, List, ⊎_elim, arith}
use Rattle.std.specs.String.{string_bytes}
use Rattle.folder_protocol.proofs.Lines.{among_map}
use Rattle.folder_protocol.proofs.ReadLines.{among_more, among_all}
use Rattle.folder_protocol.proofs.judging.wants_none.Goals as goal

pub loop-at-preserved : goal.loop-at-preserved
loop-at-preserved g c = record {
  within = let below = c.loop-at-test.true in omega (arith, below);
  passed = λ name among. ⊎_elim
      (λ before. c.loop-at.invariant.passed name before)
      (λ last. subst (λ (n : List ℕ). g.T.Taker.passes c.args.judge.now n) (sym (last ∙ sym c.as_str.ensures.value)) (c.wants.ensures.passing c.if-wants.false))
      (among_more string_bytes c.args.names.now c.loop-at.at c.index-names-at.result name c.loop-at-test.true (sym c.index-names-at.is) among);
}

pub returns-clause-passing : goal.returns-clause-passing
returns-clause-passing g c = λ _ name among. c.loop-at.invariant.passed name (among_all string_bytes c.args.names.now c.loop-at.at name (let above = c.loop-at-test.false in omega (arith, above)) among)

pub returns-then-wants-clause-wanting : goal.returns-then-wants-clause-wanting
returns-then-wants-clause-wanting g c = λ _. (
  string_bytes c.index-names-at.result,
  among_map string_bytes c.args.names.now c.loop-at.at c.index-names-at.result c.loop-at-test.true (sym c.index-names-at.is),
  subst (λ (n : List ℕ). g.T.Taker.wanted c.args.judge.now n) c.as_str.ensures.value (c.wants.ensures.wanting c.if-wants.true),
)
