-- What a combined partial answer has at some keys is what either partial answer has there, added.
use Rattle.std.specs.Prelude.{◌≡◌, true, false, cond, ◌||◌, T, fold, List, [], ◌∷◌, ◌++◌, map as each, is_some, unwrap_or, Option, Some, None}
use Rattle.std.proofs.Common.{refl, sym, ap, subst, ◌∙◌}
use Rattle.std.specs.FinMap.Entries.{find, below_all, is_sorted}
use Rattle.table_model.proofs.Passed.{first_of_both, second_of_both, less_is}
use Rattle.std.proofs.lemmas.List.Folds.{list_any-append}
use Rattle.std.specs.Ordering.{eq_by_cmp, is_eq}
use Rattle.std.specs.FinMap as map
use Rattle.table_model.specs.Group.{key_cmp}
use Rattle.table_model.specs.State.{Cells}
use Rattle.table_model.proofs.Keys.{key_total, tied_is, tied_keys}
use Rattle.table_model.proofs.SameRows.{one_row}
use Rattle.partial_answers.specs.PartialAnswer.{Tallies, PartialAnswer, either, combine, taken_in}
use Rattle.partial_answers.proofs.Lists.{find-keyed}
use Rattle.partial_answers.proofs.Tallies.{pluses-comm, pluses-assoc}

pub one_key : (x y : Cells) → eq_by_cmp key_cmp x y ≡ true → x ≡ y
one_key x y e = one_row x y (tied_keys x y ∙ e)

pub same_partial_answers : (p q : PartialAnswer) → ((k : Cells) → map.get p k ≡ map.get q k) → p ≡ q
same_partial_answers p q alike = map.same_map key_total tied_is p q alike

chosen : (a b : Option Tallies) → cond (is_some a || is_some b) (Some (unwrap_or (either a b) [])) None ≡ either a b
chosen None None = refl
chosen None (Some t) = refl
chosen (Some s) None = refl
chosen (Some s) (Some t) = refl

pub get-combine : (p q : PartialAnswer) (k : Cells) → map.get (combine p q) k ≡ either (map.get p k) (map.get q k)
unfolding combine
get-combine p q k =
    let g : Cells → Tallies = λ key. unwrap_or (either (map.get p key) (map.get q key)) [] in
    map.get-from_entries key_total (each (λ key. (key, g key)) (map.keys p ++ map.keys q)) k
    ∙ find-keyed key_cmp one_key g (map.keys p ++ map.keys q) k
    ∙ ap (λ b. cond b (Some (g k)) None) (list_any-append (eq_by_cmp key_cmp k) (map.keys p) (map.keys q) ∙ sym (λ i. map.contains_key-keys p k i || map.contains_key-keys q k i))
    ∙ chosen (map.get p k) (map.get q k)

either-comm : (a b : Option Tallies) → either a b ≡ either b a
either-comm None None = refl
either-comm None (Some t) = refl
either-comm (Some s) None = refl
either-comm (Some s) (Some t) = ap Some (pluses-comm s t)

either-assoc : (a b c : Option Tallies) → either (either a b) c ≡ either a (either b c)
either-assoc None b c = refl
either-assoc (Some s) None c = refl
either-assoc (Some s) (Some t) None = refl
either-assoc (Some s) (Some t) (Some u) = ap Some (pluses-assoc s t u)

pub commutative : (p q : PartialAnswer) → combine p q ≡ combine q p
commutative p q = same_partial_answers _ _ (λ k. get-combine p q k ∙ either-comm (map.get p k) (map.get q k) ∙ sym (get-combine q p k))

pub associative : (p q r : PartialAnswer) → combine (combine p q) r ≡ combine p (combine q r)
associative p q r = same_partial_answers _ _ (λ k.
    get-combine (combine p q) r k ∙ ap (λ o. either o (map.get r k)) (get-combine p q k)
    ∙ either-assoc (map.get p k) (map.get q k) (map.get r k)
    ∙ sym (get-combine p (combine q r) k ∙ ap (either (map.get p k)) (get-combine q r k)))

-- ---- group by group
none_after : (o : Option Tallies) → either o None ≡ o
none_after None = refl
none_after (Some s) = refl

some_after : (o : Option Tallies) (t : Tallies) → Some (unwrap_or (either o (Some t)) []) ≡ either o (Some t)
some_after None t = refl
some_after (Some s) t = refl

not_below : (q : Cells) (es : List (Cells × Tallies)) → T (below_all key_cmp q es) → find key_cmp q es ≡ None
not_below q [] h = refl
not_below q (e ∷ es) h = ap (λ r. cond (is_eq r) (Some e.1) (find key_cmp q es)) (less_is _ (first_of_both _ _ h)) ∙ not_below q es (second_of_both _ _ h)

get-fold : (es : List (Cells × Tallies)) (p : PartialAnswer) (k : Cells) → T (is_sorted key_cmp es) → map.get (fold taken_in p es) k ≡ either (map.get p k) (find key_cmp k es)
get-fold [] p k h = sym (none_after (map.get p k))
get-fold (e ∷ es) p k h =
    get-fold es (taken_in p e) k (second_of_both _ _ h)
    ∙ ap (λ o. either o (find key_cmp k es)) (map.get-insert key_total p e.0 (unwrap_or (either (map.get p e.0) (Some e.1)) []) k)
    ∙ elim (eq_by_cmp key_cmp k e.0) as (λ b. eq_by_cmp key_cmp k e.0 ≡ b → either (cond b (Some (unwrap_or (either (map.get p e.0) (Some e.1)) [])) (map.get p k)) (find key_cmp k es) ≡ either (map.get p k) (cond b (Some e.1) (find key_cmp k es))) [
      | true ↦ λ tied.
          let at : k ≡ e.0 = one_key k e.0 tied in
          ap (either (Some (unwrap_or (either (map.get p e.0) (Some e.1)) []))) (not_below k es (subst (λ (n : Cells). T (below_all key_cmp n es)) (sym at) (first_of_both _ _ h)))
          ∙ some_after (map.get p e.0) e.1
          ∙ ap (λ (n : Cells). either (map.get p n) (Some e.1)) (sym at)
      | false ↦ λ _. refl
    ] refl

pub in_turn : (p q : PartialAnswer) → fold taken_in p (map.entries q) ≡ combine p q
in_turn p q = same_partial_answers _ _ (λ k. get-fold (map.entries q) p k (map.entries_sorted q) ∙ ap (either (map.get p k)) (sym (map.get-entries q k)) ∙ sym (get-combine p q k))
