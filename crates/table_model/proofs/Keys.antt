-- The keys that occur among some rows: each once, in ascending order.
use Rattle.std.specs.Prelude.{◌≡◌, ℕ, Bool, false, ◌&&◌, ◌||◌, T, List, [], ◌∷◌, map, All, AllPairs, Option, Some, None, ℤ}
use Rattle.std.specs.Cmp.{IsTotalOrder}
use Rattle.std.specs.Cmp.Lexicographic.{lists_total, options_total}
use Rattle.std.specs.FinMap as finite
use Rattle.std.specs.FinMap.Entries.{below_all, is_sorted}
use Rattle.std.specs.List.{list_any}
use Rattle.std.specs.Option.{option_cmp}
use Rattle.std.specs.Ordering.{int_cmp, eq_by_cmp, is_eq, is_lt, ordering_then}
use Rattle.std.specs.declared.cmp.Ordering.{Ordering}
use Rattle.std.specs.declared.cmp.Ordering.TheVariants.{Less, Equal, Greater}
use Rattle.std.proofs.Common.{refl, ap, ◌∙◌, arith}
use Rattle.std.proofs.lemmas.Cmp.{int_cmp_total}
use Rattle.std.proofs.lemmas.List.Elements.{All-nil, All-cons}
use Rattle.std.proofs.lemmas.List.Kept.{AllPairs-cons}
use Rattle.table_model.specs.Group.{key_cmp, keys_in}
use Rattle.table_model.specs.State.{Cells, same_cell, same_cells}
use Rattle.table_model.proofs.Parts.{AreApart}
use Rattle.table_model.proofs.SameRows.{one_row}
use Rattle.table_model.proofs.Passed.{first_of_both, second_of_both, less_is}

pub key_total : IsTotalOrder key_cmp
key_total = lists_total (options_total int_cmp_total)

tied_cells : (x y : Option ℤ) → same_cell x y ≡ is_eq (option_cmp int_cmp x y)
tied_cells None None = refl
tied_cells None (Some y) = refl
tied_cells (Some x) None = refl
tied_cells (Some x) (Some y) = refl

then_tied : (o p : Ordering) (b : Bool) → b ≡ is_eq p → (is_eq o && b) ≡ is_eq (ordering_then o p)
then_tied Less p b e = refl
then_tied Equal p b e = e
then_tied Greater p b e = refl

-- keys tie where they are the same
pub tied_keys : (xs ys : Cells) → same_cells xs ys ≡ eq_by_cmp key_cmp xs ys
tied_keys [] [] = refl
tied_keys [] (y ∷ ys) = refl
tied_keys (x ∷ xs) [] = refl
tied_keys (x ∷ xs) (y ∷ ys) = ap (λ b. b && same_cells xs ys) (tied_cells x y) ∙ then_tied (option_cmp int_cmp x y) (key_cmp xs ys) (same_cells xs ys) (tied_keys xs ys)

pub tied_is : finite.IsAntisymmetric key_cmp
tied_is xs ys e = one_row xs ys (tied_keys xs ys ∙ ap is_eq e)

abbrev Marked : Type 0
Marked = List (Cells × Unit {0})

abbrev firsts : Marked → List Cells
firsts es = map (λ e. e.0) es

below : (key : Cells) (es : Marked) → T (below_all key_cmp key es) → All (λ other. key_cmp key other ≡ Less) (firsts es) × (list_any (same_cells key) (firsts es) ≡ false)
below key [] h = (All-nil (λ other. key_cmp key other ≡ Less), refl)
below key (e ∷ es) h =
    let here : key_cmp key e.0 ≡ Less = less_is (key_cmp key e.0) (first_of_both (is_lt (key_cmp key e.0)) (below_all key_cmp key es) h) in
    let rest = below key es (second_of_both (is_lt (key_cmp key e.0)) (below_all key_cmp key es) h) in
    let apart : same_cells key e.0 ≡ false = tied_keys key e.0 ∙ ap is_eq here in
    (All-cons (λ other. key_cmp key other ≡ Less) e.0 (firsts es) here rest.0, ap (λ b. b || list_any (same_cells key) (firsts es)) apart ∙ rest.1)

in_order : (es : Marked) → T (is_sorted key_cmp es) → AllPairs (λ a b. key_cmp a b ≡ Less) (firsts es) × AreApart same_cells (firsts es)
in_order [] h = (λ i j d p q. absurd (omega arith), tt)
in_order (e ∷ es) h =
    let here = below e.0 es (first_of_both (below_all key_cmp e.0 es) (is_sorted key_cmp es) h) in
    let rest = in_order es (second_of_both (below_all key_cmp e.0 es) (is_sorted key_cmp es) h) in
    (AllPairs-cons (λ a b. key_cmp a b ≡ Less) e.0 (firsts es) here.0 rest.0, (here.1, rest.1))

pub keys_ascend : (by : List ℕ) (rows : List Cells) → AllPairs (λ a b. key_cmp a b ≡ Less) (finite.keys (keys_in by rows)) × AreApart same_cells (finite.keys (keys_in by rows))
keys_ascend by rows = in_order (finite.entries (keys_in by rows)) (finite.entries_sorted (keys_in by rows))
