-- Conditions as contracts see them: formulas, which are trees.
use Rattle.std.specs.Prelude.{◌≡◌, ℕ, zero, suc, ◌+◌, List, [], ◌∷◌, ◌++◌, ◌⊎◌, refl}
use Rattle.std.proofs.Common.{inl, inr, ap, sym, ◌∙◌, append_assoc, append-nil}
use Rattle.std.specs.Coded.{Coded, code_by, coded⊎, coded_ℕ, coded_list}
use Rattle.table_model.specs.QueryCode.{coded_predicate, coded_is_truth}
use Rattle.table_model.specs.declared.query.IsTruth.{IsTruth}
use Rattle.table_model.specs.declared.query.Predicate.{Predicate}

-- A condition with its parentheses. Terms are joined by OR from the left, beginning at no term, and factors by AND in the same way.
pub data Formula : Type 0 where
  says : Predicate → Formula
  in_parentheses : Formula → Formula
  is_truth : Formula → IsTruth → Formula
  negation : Formula → Formula
  no_factor : Formula
  both : Formula → Formula → Formula
  no_term : Formula
  either : Formula → Formula → Formula

-- how many parts a formula has
abbrev pub formula_size : Formula → ℕ
formula_size (says p) = 1
formula_size (in_parentheses f) = formula_size f + 1
formula_size (is_truth f is) = formula_size f + 1
formula_size (negation f) = formula_size f + 1
formula_size no_factor = 1
formula_size (both f g) = formula_size f + formula_size g + 1
formula_size no_term = 1
formula_size (either f g) = formula_size f + formula_size g + 1

-- a part of a formula: a predicate, a question for a truth value, or the number of another kind of part
abbrev pub Part : Type 0
Part = Predicate ⊎ (IsTruth ⊎ ℕ)

-- a formula's parts, those that it joins before itself
abbrev pub parts_of : Formula → List Part
parts_of (says p) = inl p ∷ []
parts_of (in_parentheses f) = parts_of f ++ inr (inr 0) ∷ []
parts_of (is_truth f is) = parts_of f ++ inr (inl is) ∷ []
parts_of (negation f) = parts_of f ++ inr (inr 1) ∷ []
parts_of no_factor = inr (inr 2) ∷ []
parts_of (both f g) = (parts_of f ++ parts_of g) ++ inr (inr 3) ∷ []
parts_of no_term = inr (inr 4) ∷ []
parts_of (either f g) = (parts_of f ++ parts_of g) ++ inr (inr 5) ∷ []

-- the formulas on a pile after a part of the one on top
abbrev pub under : (Formula → Formula) → List Formula → List Formula
under join [] = []
under join (f ∷ fs) = join f ∷ fs

-- the formulas on a pile after a part that joins the two on top
abbrev pub top_joined : (Formula → Formula → Formula) → List Formula → List Formula
top_joined join [] = []
top_joined join (g ∷ []) = []
top_joined join (g ∷ f ∷ fs) = join f g ∷ fs

-- the formulas on a pile after a part
abbrev pub after_part : Part → List Formula → List Formula
after_part (inl p) fs = says p ∷ fs
after_part (inr (inl is)) fs = under (λ f. is_truth f is) fs
after_part (inr (inr zero)) fs = under in_parentheses fs
after_part (inr (inr (suc zero))) fs = under negation fs
after_part (inr (inr (suc (suc zero)))) fs = no_factor ∷ fs
after_part (inr (inr (suc (suc (suc zero))))) fs = top_joined both fs
after_part (inr (inr (suc (suc (suc (suc zero)))))) fs = no_term ∷ fs
after_part (inr (inr (suc (suc (suc (suc (suc n))))))) fs = top_joined either fs

-- the formulas on a pile after a list of parts
abbrev pub after_parts : List Part → List Formula → List Formula
after_parts [] fs = fs
after_parts (p ∷ ps) fs = after_parts ps (after_part p fs)

-- the formula on top of a pile
abbrev pub top : List Formula → Formula
top [] = no_term
top (f ∷ fs) = f

-- the parts of a formula put it on the pile
pub after_parts-parts_of : (f : Formula) (ps : List Part) (fs : List Formula) → after_parts (parts_of f ++ ps) fs ≡ after_parts ps (f ∷ fs)
after_parts-parts_of (says p) ps fs = refl
after_parts-parts_of (in_parentheses f) ps fs = ap (λ (qs : List Part). after_parts qs fs) (append_assoc (parts_of f) (inr (inr 0) ∷ []) ps) ∙ after_parts-parts_of f (inr (inr 0) ∷ ps) fs
after_parts-parts_of (is_truth f is) ps fs = ap (λ (qs : List Part). after_parts qs fs) (append_assoc (parts_of f) (inr (inl is) ∷ []) ps) ∙ after_parts-parts_of f (inr (inl is) ∷ ps) fs
after_parts-parts_of (negation f) ps fs = ap (λ (qs : List Part). after_parts qs fs) (append_assoc (parts_of f) (inr (inr 1) ∷ []) ps) ∙ after_parts-parts_of f (inr (inr 1) ∷ ps) fs
after_parts-parts_of no_factor ps fs = refl
after_parts-parts_of (both f g) ps fs =
    ap (λ (qs : List Part). after_parts qs fs) (append_assoc (parts_of f ++ parts_of g) (inr (inr 3) ∷ []) ps ∙ append_assoc (parts_of f) (parts_of g) (inr (inr 3) ∷ ps))
    ∙ after_parts-parts_of f (parts_of g ++ inr (inr 3) ∷ ps) fs
    ∙ after_parts-parts_of g (inr (inr 3) ∷ ps) (f ∷ fs)
after_parts-parts_of no_term ps fs = refl
after_parts-parts_of (either f g) ps fs =
    ap (λ (qs : List Part). after_parts qs fs) (append_assoc (parts_of f ++ parts_of g) (inr (inr 5) ∷ []) ps ∙ append_assoc (parts_of f) (parts_of g) (inr (inr 5) ∷ ps))
    ∙ after_parts-parts_of f (parts_of g ++ inr (inr 5) ∷ ps) fs
    ∙ after_parts-parts_of g (inr (inr 5) ∷ ps) (f ∷ fs)

-- the parts of a formula give it back
pub top-parts_of : (f : Formula) → top (after_parts (parts_of f) []) ≡ f
top-parts_of f = ap (λ (qs : List Part). top (after_parts qs [])) (sym (append-nil (parts_of f))) ∙ ap top (after_parts-parts_of f [] [])

-- a formula is stored as the list of its parts
abbrev pub formula_code : Coded Formula
formula_code = code_by (List Part) (coded_list (coded⊎ coded_predicate (coded⊎ coded_is_truth coded_ℕ))) parts_of (λ ps. top (after_parts ps [])) top-parts_of
