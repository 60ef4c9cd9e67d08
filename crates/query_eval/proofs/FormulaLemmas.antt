-- One term or factor more.
use Rattle.std.proofs.Common.{◌≡◌, ℕ, ◌+◌, ◌<◌, Bool, List, length, get_or, take, sym, ap, ◌∙◌, subst}
use Rattle.std.proofs.lemmas.List.Sums.{fold_more}
use Rattle.table_model.specs.Formula.{Formula, both, either, no_factor, no_term}
use Rattle.table_model.specs.Query.{formula_of_terms, formula_of_term, formula_of_factors, formula_of_factor}
use Rattle.table_model.specs.State.{State}
use Rattle.table_model.specs.Table.{Table}
use Rattle.table_model.specs.declared.query.Factor.{Factor}
use Rattle.table_model.specs.declared.query.Term.{Term}
use Rattle.query_eval.specs.Pairs.{yes_of}
use Rattle.query_eval.specs.Vector.{vector_at}
use Rattle.query_eval.specs.Where.{IsPair, truth_in}
use Rattle.query_eval.specs.declared.filter.pair.Pair.{Pair}

pub terms_more : (xs : List Term) (i : ℕ) (x : Term) → i < length xs → x ≡ get_or xs i x → formula_of_terms (take (i + 1) xs) ≡ either (formula_of_terms (take i xs)) (formula_of_term x)
terms_more xs i x h e =
    fold_more (λ f term. either f (formula_of_term term)) no_term xs i x h ∙ ap (λ (y : Term). either (formula_of_terms (take i xs)) (formula_of_term y)) (sym e)

pub factors_more : (xs : List Factor) (i : ℕ) (x : Factor) → i < length xs → x ≡ get_or xs i x → formula_of_factors (take (i + 1) xs) ≡ both (formula_of_factors (take i xs)) (formula_of_factor x)
factors_more xs i x h e =
    fold_more (λ f factor. both f (formula_of_factor factor)) no_factor xs i x h ∙ ap (λ (y : Factor). both (formula_of_factors (take i xs)) (formula_of_factor y)) (sym e)

pub moved : (t u : Table) (s r : State) (batch vector : ℕ) (f : Formula) (mask : List Bool) (c : Pair) → t ≡ u → s ≡ r → IsPair mask (truth_in t (vector_at s batch vector) f) c → IsPair mask (truth_in u (vector_at r batch vector) f) c
moved t u s r batch vector f mask c e g p =
    subst (λ (x : State). IsPair mask (truth_in u (vector_at x batch vector) f) c) g (subst (λ (x : Table). IsPair mask (truth_in x (vector_at s batch vector) f) c) e p)

pub moved_rows : (t u : Table) (s r : State) (batch vector : ℕ) (f : Formula) (mask found : List Bool) → t ≡ u → s ≡ r → found ≡ yes_of mask (truth_in t (vector_at s batch vector) f) → found ≡ yes_of mask (truth_in u (vector_at r batch vector) f)
moved_rows t u s r batch vector f mask found e g p =
    subst (λ (x : State). found ≡ yes_of mask (truth_in u (vector_at x batch vector) f)) g (subst (λ (x : Table). found ≡ yes_of mask (truth_in x (vector_at s batch vector) f)) e p)
