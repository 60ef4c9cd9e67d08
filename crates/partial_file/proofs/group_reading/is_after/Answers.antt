use Rattle.std.proofs.Common.{◌∙◌, ℕ, zero, suc, ◌≡◌, ◌<◌, refl, sym, ap, arith}
use Rattle.std.proofs.lemmas.Bool.{false≢true}
use Rattle.std.specs.Ordering.{is_lt}
use Rattle.partial_file.proofs.GroupLists.{after_none, after_some}
use Rattle.partial_file.proofs.group_reading.is_after.Goals as goal

no_length : (n : ℕ) → (0 < n → ⊥) → n ≡ 0
no_length zero none = refl
no_length (suc n) none = absurd (none (omega arith))

pub returns-in-None : goal.returns-in-None
returns-in-None c measures = sym (after_none c.args.groups.now.entries (c.args.key.now, measures) (no_length _ (λ some. false≢true (c.in-None.ensures.variant.1 some))))

pub returns-in-Some : goal.returns-in-Some
returns-in-Some c measures = c.is_lt.ensures ∙ ap is_lt c.cmp.ensures ∙ sym (after_some c.args.groups.now.entries _ (c.args.key.now, measures) c.in-Some.ensures.last)
