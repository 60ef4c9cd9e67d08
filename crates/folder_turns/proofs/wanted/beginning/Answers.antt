use Rattle.std.proofs.Common.{rules, ◌≡◌, ◌+◌, drop, length}
use Rattle.folder_turns.proofs.Straying.{begins_nowhere}
use Rattle.folder_turns.proofs.wanted.beginning.Goals as goal

pub returns-else-eq-clause-none : goal.returns-else-eq-clause-none
returns-else-eq-clause-none c = λ _ from same.
    let both : c.in_ok-from.from + length c.args.bytes.now ≡ length c.args.whole.now = search rules in
    let other : drop c.in_ok-from.from c.args.whole.now ≡ c.args.bytes.now → ⊥ = search rules in
    begins_nowhere c.args.whole.now c.args.bytes.now c.in_ok-from.from from both other same
