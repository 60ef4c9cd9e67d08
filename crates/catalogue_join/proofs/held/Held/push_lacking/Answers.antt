-- A run that is held is skipped, and a name that isn't held is taken.
use Rattle.std.proofs.Common.{◌≡◌, ◌∙◌, ℕ, ◌+◌, ◌-◌, ◌<◌, ◌≤◌, true, false, List, [], ◌∷◌, ◌++◌, sym, ap, subst, rules, arith}
use Rattle.std.proofs.lemmas.List.{append_assoc}
use Rattle.std.specs.List.{filter}
use Rattle.table_model.specs.declared.names.BatchName.{BatchName}
use Rattle.catalogue_join.specs.Span.{among, IsRangeAt}
use Rattle.catalogue_join.specs.Run.{run_shape, name_at, names_from}
use Rattle.catalogue_join.specs.Held.{lacks}
use Rattle.catalogue_join.proofs.NameLists.{skip_held, take_lacked, found_holds, missed_lacks}
use Rattle.catalogue_join.proofs.held.Held.push_lacking.Goals as goal

pub loop-number-preserved-in-Some : goal.loop-number-preserved-in-Some
loop-number-preserved-in-Some c =
    let origin = c.args.run.first.origin in
    let n = c.loop-number.number in
    let last = c.args.run.last.0 in
    let next = c.from-number-in-Some.result + 1 in
    let runs = c.self.inside.runs in
    let small : c.args.run.first.origin.0 < 4294967296 = search rules in
    let fits : c.args.run.last.0 < 4294967296 = search rules in
    let at = subst (λ x. IsRangeAt run_shape runs (run_shape.low x) c.in-Some.held) c.run_of.ensures c.in-Some.ensures in
    let holds = found_holds runs origin n c.in-Some.held c.self.invariant small at (omega (arith, c.loop-number-test.true, c.from.ensures)) in
    let has = subst (λ s. (k : ℕ) → n ≤ k → k < c.in-Some.held.last.0 + 1 → lacks s (name_at origin k) ≡ false) c.self.view_is holds.1 in
    let order : n ≤ next = omega (arith, holds.0, c.from-number-in-Some.ensures) in
    let count : last + 1 - next ≡ n + (last + 1 - n) - next = omega (arith, c.loop-number-test.true, c.from.ensures) in
    let skipped = skip_held c.args.self.now origin (last + 1 - n) n next (last + 1 - next) order count (λ k from to. has k from (omega (arith, c.from-number-in-Some.ensures))) in
    ap (λ (xs : List BatchName). c.loop-number.names.items ++ xs) (sym skipped) ∙ c.loop-number.invariant

pub loop-number-preserved : goal.loop-number-preserved
loop-number-preserved c =
    let origin = c.args.run.first.origin in
    let n = c.loop-number.number in
    let last = c.args.run.last.0 in
    let name = name_at origin n in
    let runs = c.self.inside.runs in
    let none = subst (λ x. among run_shape runs (run_shape.low x) ≡ false) c.run_of.ensures c.in-None.ensures in
    let lacked = subst (λ s. lacks s name ≡ true) c.self.view_is (missed_lacks runs name c.self.invariant none) in
    let count : last + 1 - n ≡ last + 1 - (n + 1) + 1 = omega (arith, c.loop-number-test.true, c.from.ensures) in
    let taken = take_lacked c.args.self.now origin n (last + 1 - n) (last + 1 - (n + 1)) count lacked in
    let rest = filter (lacks c.args.self.now) (names_from origin (n + 1) (last + 1 - (n + 1))) in
    ap (λ (xs : List BatchName). xs ++ rest) c.in_ok-push-in-None.ensures.items
    ∙ append_assoc c.loop-number.names.items (name ∷ []) rest
    ∙ ap (λ (xs : List BatchName). c.loop-number.names.items ++ xs) (sym taken)
    ∙ c.loop-number.invariant
