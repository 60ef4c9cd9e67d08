-- Lane by lane, by its bit.
use Rattle.std.proofs.Common.{◌≡◌, ◌==◌, ◌<◌, ◌^◌, ℕ, Bool, true, false, cond, nat_eq, bit_and, List, [], ◌∷◌, get_or, refl, ap, ◌∙◌, arith}
use Rattle.std.specs.Int.{bit_at}
use Rattle.std.specs.Simd.Lanes.{sel_l, top}
use Rattle.std.proofs.lemmas.Simd.{get_or-sel_l}
use Rattle.query_eval.proofs.MaskedLemmas.{at_eight, bit_alone}
use Rattle.query_eval.proofs.tallies.masked_folds.lanes_if.Goals as goal

pub returns-clause-value : goal.returns-clause-value
returns-clause-value c =
    at_eight (λ lane. get_or (sel_l ms c.args.lanes zeros) lane 0 ≡ cond (bit_at c.args.bits lane == 1) (get_or c.args.lanes lane 0) 0)
    (at 0 (omega arith) refl) (at 1 (omega arith) refl) (at 2 (omega arith) refl) (at 3 (omega arith) refl) (at 4 (omega arith) refl) (at 5 (omega arith) refl) (at 6 (omega arith) refl) (at 7 (omega arith) refl)
  where
    on : ℕ → Bool
    on n = top 63 (cond (nat_eq (bit_and c.args.bits n) n) 18446744073709551615 0)

    ms : List Bool
    ms = on 1 ∷ on 2 ∷ on 4 ∷ on 8 ∷ on 16 ∷ on 32 ∷ on 64 ∷ on 128 ∷ []

    zeros : List ℕ
    zeros = 0 ∷ 0 ∷ 0 ∷ 0 ∷ 0 ∷ 0 ∷ 0 ∷ 0 ∷ []

    top_is : (b : Bool) → top 63 (cond b 18446744073709551615 0) ≡ b
    top_is true = refl
    top_is false = refl

    at : (lane : ℕ) → lane < 8 → get_or ms lane false ≡ on (2 ^ lane) → get_or (sel_l ms c.args.lanes zeros) lane 0 ≡ cond (bit_at c.args.bits lane == 1) (get_or c.args.lanes lane 0) 0
    at lane h e =
        get_or-sel_l ms c.args.lanes zeros lane 0 h (omega (arith, c.requires)) h
        ∙ ap (λ b. cond b (get_or c.args.lanes lane 0) (get_or zeros lane 0)) (e ∙ top_is (nat_eq (bit_and c.args.bits (2 ^ lane)) (2 ^ lane)) ∙ bit_alone c.args.bits lane)
        ∙ ap (λ z. cond (bit_at c.args.bits lane == 1) (get_or c.args.lanes lane 0) z) (at_eight (λ l. get_or zeros l 0 ≡ 0) refl refl refl refl refl refl refl refl lane h)
