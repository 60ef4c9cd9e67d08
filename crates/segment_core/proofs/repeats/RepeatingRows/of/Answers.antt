-- The mask has the rows up to the first that has a value, and those that have none.
use Rattle.std.proofs.Common.{◌≡◌, ℕ, ◌<◌, ◌≤◌, Bool, true, false, not, cond, ◌&&◌, ◌||◌, nat_le, nat_lt, nat_eq, List, refl, sym, ◌∙◌, ap, arith}
use Rattle.std.proofs.lemmas.Bool.Decides.{nat_tests}
use Rattle.transpose_order.specs.Mask.{has, rows_of}
use Rattle.transpose_order.specs.MaskWords.{has-rows_of}
use Rattle.segment_core.proofs.FillLemmas.{full_is_filled}
use Rattle.segment_core.proofs.RepeatLemmas.{is_hole, IsRepeating, filled_where_repeats}
use Rattle.segment_core.proofs.repeats.RepeatingRows.of.Goals as goal

nothing_marked : (mask : List Bool) (n : ℕ) → mask ≡ rows_of (λ _. false) → n < 1024 → has mask n ≡ false
nothing_marked mask n e l = ap (λ (m : List Bool). has m n) e ∙ has-rows_of (λ _. false) n l

pub returns-then-is_full : goal.returns-then-is_full
returns-then-is_full c values long = (
  λ _. record {
    each = λ n some l m. absurd (let f : has c.none.result n ≡ false = nothing_marked c.none.result n c.none.ensures l in cc);
    zero = λ e. absurd (cc);
  },
  λ _. full_is_filled c.args.rows c.args.nulls.now values long (c.if-is_full.ensures.0 refl),
)

by_test : (a null : Bool) → cond (a && true) true null ≡ (a || null)
by_test true null = refl
by_test false null = refl

-- the rows past the vector's own, and those that are null
in_range : (rows n : ℕ) (null : Bool) → n < 1024 → cond (nat_le rows n && nat_lt n 1024) true null ≡ (nat_le rows n || null)
in_range rows n null l = let t : nat_lt n 1024 ≡ true = grind (arith, nat_tests) in ap (λ b. cond (nat_le rows n && b) true null) t ∙ by_test (nat_le rows n) null

by_or : (a b : Bool) → cond a true b ≡ (a || b)
by_or true b = refl
by_or false b = refl

upto : (first end n : ℕ) (hole : Bool) → n < 1024 → (n < end → n ≤ first) → (n ≤ first → n < end) → cond (nat_le 0 n && nat_lt n end) true hole ≡ (nat_le n first || hole)
upto first end n hole l a b = let t : nat_le 0 n ≡ true = grind (arith, nat_tests) in let u : nat_lt n end ≡ nat_le n first = grind (arith, nat_tests) in ap (λ x. cond (x && nat_lt n end) true hole) t ∙ ap (λ x. cond x true hole) u ∙ by_or (nat_le n first) hole

not_false : (b : Bool) → not b ≡ false → b ≡ true
not_false true e = refl
not_false false e = absurd (cc)

not_true : (b : Bool) → not b ≡ true → b ≡ false
not_true true e = absurd (cc)
not_true false e = refl

pub returns : goal.returns
returns c =
    let rows : ℕ = c.args.rows in
    let nulls : List Bool = c.args.nulls.now in
    let first : ℕ = c.next_true-first.result in
    let found = c.next_true-first.ensures in
    let holes_are = (λ (n : ℕ) (l : n < 1024). ap (λ (m : List Bool). has m n) c.set_range.ensures ∙ has-rows_of _ n l ∙ in_range rows n (has nulls n) l) in
    let others_are = (λ (n : ℕ) (l : n < 1024). ap (λ (m : List Bool). has m n) c.not.ensures ∙ has-rows_of _ n l ∙ ap not (holes_are n l)) in
    let are : IsRepeating rows nulls c.set_range-2.new.self first =
    record {
      limit = c.requires;
      within = found.within;
      holes = λ n l. let m : n < 1024 = omega (arith, found.within) in
          not_false (is_hole rows nulls n) (sym (others_are n m) ∙ found.none n (omega arith) l);
      here = λ l. not_true (is_hole rows nulls first) (sym (others_are first l) ∙ found.here l);
      mask_is = λ n l. ap (λ (m : List Bool). has m n) c.set_range-2.ensures ∙ has-rows_of _ n l
          ∙ upto first c.min.result n (has c.set_range.new.self n) l (λ a. omega (arith, c.min.ensures)) (λ a. omega (arith, c.min.ensures, found.within))
          ∙ ap (λ b. nat_le n first || b) (holes_are n l);
    } in
    filled_where_repeats rows nulls c.set_range-2.new.self (nat_eq first 1024) first are (λ e. grind (arith, nat_tests)) (λ e. grind (arith, nat_tests))
