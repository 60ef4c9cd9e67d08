-- Both parts are 0, of which the second is 1 exactly where a marked row differs.
use Rattle.std.proofs.Common.{◌≡◌, ◌↔◌, ℕ, zero, suc, ◌<◌, Bool, true, false, not, nat_eq, bit_and, bit_or, refl, sym, ◌∙◌, ap, arith}
use Rattle.std.proofs.lemmas.Bool.Decides.{nat_tests}
use Rattle.std.proofs.lemmas.Nat.{le_or_l, le_or_r}
use Rattle.std.specs.Int.Bits.{and_zero_l, and_zero_r, and_self, or_zero_r}
use mir.Val.{bool_byte}
use Rattle.segment_core.proofs.repeats.with_break.Goals as goal

marked_break : (marked : ℕ) (b : Bool) → marked < 2 → (bit_and marked (bool_byte (not b)) ≡ 0) ↔ (marked ≡ 1 → b ≡ true)
marked_break zero b l = (λ _ e. absurd (cc), λ _. and_zero_l (bool_byte (not b)))
marked_break (suc zero) true l = (λ _ _. refl, λ _. and_zero_r 1)
marked_break (suc zero) false l = (λ e. absurd (let s : bit_and 1 1 ≡ 1 = and_self 1 in omega arith), λ h. absurd (let e = h refl in cc))
marked_break (suc (suc m)) b l = absurd (omega arith)

both_zero : (a b : ℕ) → (bit_or a b ≡ 0) ↔ ((a ≡ 0) × (b ≡ 0))
both_zero a b = (
  λ e. (let l = le_or_l a b in omega arith, let r = le_or_r a b in omega arith),
  λ h. ap (λ x. bit_or x b) h.0 ∙ ap (bit_or 0) h.1 ∙ or_zero_r 0,
)

pub returns : goal.returns
returns c =
    let same : Bool = nat_eq c.args.number c.args.before in
    let part : bit_and c.args.marked c.from.result ≡ bit_and c.args.marked (bool_byte (not (nat_eq c.args.number c.args.before))) = ap (bit_and c.args.marked) c.from.ensures in
    let breaks = marked_break c.args.marked (nat_eq c.args.number c.args.before) c.requires in
    let both = both_zero c.args.breaks (bit_and c.args.marked c.from.result) in (
      λ e. ((both.0 e).0, λ m. let t : nat_eq c.args.number c.args.before ≡ true = breaks.0 (sym part ∙ (both.0 e).1) m in grind (arith, nat_tests)),
      λ h. both.1 (h.0, part ∙ breaks.1 (λ m. let e = h.1 m in grind (arith, nat_tests))),
    )
