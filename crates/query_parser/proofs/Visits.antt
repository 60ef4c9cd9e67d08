-- The places over joined lists of columns.
use Rattle.std.proofs.Common.{◌≡◌, ℕ, zero, suc, ◌+◌, ◌<◌, Bool, false, List, [], ◌∷◌, ◌++◌, length, get_or, take, refl, sym, ap, ◌∙◌}
use Rattle.std.proofs.lemmas.List.Sums.{fold-append, fold_more}
use Rattle.table_model.specs.Formula.{both, either, no_factor, no_term}
use Rattle.table_model.specs.Query.{formula_of_terms, formula_of_term, formula_of_factors, formula_of_factor}
use Rattle.table_model.specs.declared.query.Factor.{Factor}
use Rattle.table_model.specs.declared.query.Item.{Item}
use Rattle.table_model.specs.declared.query.Term.{Term}
use Rattle.table_model.specs.Table.{ColumnShape}
use Rattle.table_model.specs.declared.query.ColumnMention.{ColumnMention}
use Rattle.query_parser.specs.Resolve.{Named, Places, places, visited, in_formula, in_items, in_value, in_grouping}

pub places-none : (columns : List ColumnShape) (grouping : List ColumnMention) (found : Places) → places columns grouping found [] ≡ found
unfolding places
places-none columns grouping found = refl

pub places-one : (columns : List ColumnShape) (grouping : List ColumnMention) (found : Places) (named : Named) → places columns grouping found (named ∷ []) ≡ visited columns grouping found named
unfolding places
places-one columns grouping found named = refl

pub places-append : (columns : List ColumnShape) (grouping : List ColumnMention) (found : Places) (some more : List Named)
    → places columns grouping found (some ++ more) ≡ places columns grouping (places columns grouping found some) more
unfolding places
places-append columns grouping found some more = fold-append (visited columns grouping) found some more

-- what was found in a front, and then behind it
pub places_more : (columns : List ColumnShape) (grouping : List ColumnMention) (start found after : Places) (some more all : List Named)
    → all ≡ some ++ more → found ≡ places columns grouping start some → after ≡ places columns grouping found more → after ≡ places columns grouping start all
places_more columns grouping start found after some more all e f g =
    g ∙ ap (λ (p : Places). places columns grouping p more) f ∙ sym (places-append columns grouping start some more) ∙ ap (λ (named : List Named). places columns grouping start named) (sym e)

-- one part more of each kind
pub terms_more : (bound : Bool) (xs : List Term) (i : ℕ) (x : Term) → i < length xs → x ≡ get_or xs i x
    → in_formula bound (formula_of_terms (take (i + 1) xs)) ≡ in_formula bound (formula_of_terms (take i xs)) ++ in_formula bound (formula_of_term x)
terms_more bound xs i x h e =
    ap (in_formula bound) (fold_more (λ f term. either f (formula_of_term term)) no_term xs i x h)
    ∙ ap (λ (y : Term). in_formula bound (formula_of_terms (take i xs)) ++ in_formula bound (formula_of_term y)) (sym e)

pub factors_more : (bound : Bool) (xs : List Factor) (i : ℕ) (x : Factor) → i < length xs → x ≡ get_or xs i x
    → in_formula bound (formula_of_factors (take (i + 1) xs)) ≡ in_formula bound (formula_of_factors (take i xs)) ++ in_formula bound (formula_of_factor x)
factors_more bound xs i x h e =
    ap (in_formula bound) (fold_more (λ f factor. both f (formula_of_factor factor)) no_factor xs i x h)
    ∙ ap (λ (y : Factor). in_formula bound (formula_of_factors (take i xs)) ++ in_formula bound (formula_of_factor y)) (sym e)

pub items_more : (xs : List Item) (i : ℕ) (x : Item) → i < length xs → x ≡ get_or xs i x → in_items (take (i + 1) xs) ≡ in_items (take i xs) ++ in_value x.value
items_more xs i x h e =
    fold_more (λ named item. named ++ in_value item.value) [] xs i x h ∙ ap (λ (y : Item). in_items (take i xs) ++ in_value y.value) (sym e)

pub columns_more : (xs : List ColumnMention) (i : ℕ) (x : ColumnMention) → i < length xs → x ≡ get_or xs i x → in_grouping (take (i + 1) xs) ≡ in_grouping (take i xs) ++ (x, false) ∷ []
columns_more xs i x h e =
    fold_more (λ named column. named ++ (column, false) ∷ []) [] xs i x h ∙ ap (λ (y : ColumnMention). in_grouping (take i xs) ++ (y, false) ∷ []) (sym e)

-- marks that are all false
abbrev pub unmarked : ℕ → List Bool
unmarked zero = []
unmarked (suc n) = false ∷ unmarked n

pub get_or-unmarked : (n i : ℕ) → get_or (unmarked n) i false ≡ false
get_or-unmarked zero i = refl
get_or-unmarked (suc n) zero = refl
get_or-unmarked (suc n) (suc i) = get_or-unmarked n i
