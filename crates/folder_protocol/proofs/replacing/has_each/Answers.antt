use Rattle.std.proofs.Common.{List, ℕ, map, sym, ◌∙◌, subst, ⊎_elim, arith}
use Rattle.std.specs.String.{string_bytes}
use Rattle.folder_model.specs.Disk.{Among}
use Rattle.folder_protocol.proofs.Lines.{among_map}
use Rattle.folder_protocol.proofs.ReadLines.{among_more, among_all}
use Rattle.folder_protocol.proofs.replacing.has_each.Goals as goal

pub returns-then-not-has_name-clause-lacking : goal.returns-then-not-has_name-clause-lacking
returns-then-not-has_name-clause-lacking c = λ _. (
  string_bytes c.index-names-at.result,
  among_map string_bytes c.args.names.now c.loop-at.at c.index-names-at.result c.loop-at-test.true (sym c.index-names-at.is),
  subst (λ (n : List ℕ). Among n (map string_bytes c.args.listed.now) → ⊥) c.as_str.ensures.value (c.has_name.ensures.lacking c.if-not-has_name.true),
)

pub loop-at-preserved : goal.loop-at-preserved
loop-at-preserved c = record {
  within = let below = c.loop-at-test.true in omega (arith, below);
  each = λ name among. ⊎_elim
      (λ before. c.loop-at.invariant.each name before)
      (λ is. subst (λ (n : List ℕ). Among n (map string_bytes c.args.listed.now)) (sym (is ∙ sym c.as_str.ensures.value)) (c.has_name.ensures.having c.if-not-has_name.false))
      (among_more string_bytes c.args.names.now c.loop-at.at c.index-names-at.result name c.loop-at-test.true (sym c.index-names-at.is) among);
}

pub returns-clause-having : goal.returns-clause-having
returns-clause-having c = λ _ name among. c.loop-at.invariant.each name (among_all string_bytes c.args.names.now c.loop-at.at name (let above = c.loop-at-test.false in omega (arith, above)) among)
