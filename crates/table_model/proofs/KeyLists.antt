-- A list of keys that ascends strictly and has the members that occur among some rows is the list of these rows' keys.
use Rattle.std.specs.Prelude.{◌≡◌, ℕ, suc, cond, T, List, [], ◌∷◌, map, All, AllPairs, Option, Some}
use Rattle.std.specs.FinMap as finite
use Rattle.std.specs.FinMap.Entries.{below_all, is_sorted, find, same_entries}
use Rattle.std.specs.List.{list_any}
use Rattle.std.specs.Ordering.{eq_by_cmp, is_lt}
use Rattle.std.specs.declared.cmp.Ordering.TheVariants.{Less}
use Rattle.std.proofs.Common.{refl, sym, ap, ◌∙◌, arith}
use Rattle.std.proofs.lemmas.List.Elements.{All-head, All-tail}
use Rattle.table_model.specs.Group.{key_cmp, key_of, keys_in}
use Rattle.table_model.specs.State.{Cells}
use Rattle.table_model.proofs.Groups.{mark, either_marked, get-keys_in}
use Rattle.table_model.proofs.Keys.{key_total, tied_is}
use Rattle.table_model.proofs.Passed.{both_of, is_less}

abbrev marked : Cells → Cells × Unit {0}
marked key = (key, tt)

below : (key : Cells) (ks : List Cells) → All (λ other. key_cmp key other ≡ Less) ks → T (below_all key_cmp key (map marked ks))
below key [] h = tt
below key (k ∷ ks) h =
    both_of (is_lt (key_cmp key k)) (below_all key_cmp key (map marked ks)) (is_less (key_cmp key k) (All-head (λ other. key_cmp key other ≡ Less) k ks h))
    (below key ks (All-tail (λ other. key_cmp key other ≡ Less) k ks h))

in_order : (ks : List Cells) → AllPairs (λ a b. key_cmp a b ≡ Less) ks → T (is_sorted key_cmp (map marked ks))
in_order [] up = tt
in_order (k ∷ ks) up =
    both_of (below_all key_cmp k (map marked ks)) (is_sorted key_cmp (map marked ks)) (below k ks (λ i d h. up 0 (suc i) d (omega arith) (omega arith)))
    (in_order ks (λ i j d p q. up (suc i) (suc j) d (omega arith) (omega arith)))

found_marked : (q : Cells) (ks : List Cells) → find key_cmp q (map marked ks) ≡ mark (list_any (eq_by_cmp key_cmp q) ks)
found_marked q [] = refl
found_marked q (k ∷ ks) =
    let first : Option (Unit {0}) → Option (Unit {0}) = cond (eq_by_cmp key_cmp q k) (Some tt) in
    ap first (found_marked q ks) ∙ either_marked (eq_by_cmp key_cmp q k) (list_any (eq_by_cmp key_cmp q) ks)

firsts : (ks : List Cells) → map (λ (e : Cells × Unit {0}). e.0) (map marked ks) ≡ ks
firsts [] = refl
firsts (k ∷ ks) = ap (λ l. k ∷ l) (firsts ks)

-- the keys of some rows, by what is known of a list of keys
pub keys_are : (by : List ℕ) (rows ks : List Cells) → AllPairs (λ a b. key_cmp a b ≡ Less) ks → ((q : Cells) → list_any (eq_by_cmp key_cmp q) ks ≡ list_any (eq_by_cmp key_cmp q) (map (key_of by) rows)) → finite.keys (keys_in by rows) ≡ ks
keys_are by rows ks up alike =
    let m = keys_in by rows in
    let same = same_entries key_cmp key_total tied_is (finite.entries m) (map marked ks) (finite.entries_sorted m) (in_order ks up)
    (λ q. sym (finite.get-entries m q) ∙ get-keys_in by rows q ∙ ap mark (sym (alike q)) ∙ sym (found_marked q ks)) in
    ap (λ (es : List (Cells × Unit {0})). map (λ e. e.0) es) same ∙ firsts ks
