-- Places of groups: one key more, one row more.
use Rattle.std.proofs.Common.{◌≡◌, ◌≢◌, ℕ, zero, suc, ◌+◌, ◌<◌, ◌≤◌, ◌⊎◌, inl, inr, Bool, true, false, cond, ◌||◌, List, [], ◌∷◌, ◌++◌, map, length, get_or, set, Option, Some, None, refl, sym, ap, subst, ◌∙◌, arith, append-nil, get_or-set_same, get_or-set_other}
use Rattle.query_eval.specs.Entries.{Entries, Indexed, place_in}
use Rattle.std.specs.Global.{Vec}
use Rattle.std.specs.List.{list_any}
use Rattle.std.specs.Option.{is_some}
use Rattle.std.proofs.Math.Bool.{or_assoc, or-false}
use Rattle.std.proofs.lemmas.Bool.{cases_lt, false≢true, or_right}
use Rattle.std.proofs.lemmas.List.{map-append}
use Rattle.std.proofs.lemmas.List.Folds.{list_any-append}
use Rattle.std.proofs.lemmas.Option.{none-some, same_Some}
use Rattle.table_model.specs.Group.{key_of}
use Rattle.table_model.specs.State.{Cells, same_cells}
use Rattle.table_model.proofs.SameRows.{one_row, itself_row}
use Rattle.transpose_order.specs.Mask.{has}
use Rattle.query_eval.specs.Places.{ArePlaced, IsGrown, IsIndex, IsTakenIn, rows_below}
use Rattle.query_eval.specs.Vector.{Vector, row_at}
use Rattle.query_eval.specs.declared.grouping.places.Recent.{Recent}
use Rattle.query_eval.specs.declared.hash_key.HashKey.{HashKey}
use Rattle.query_eval.proofs.RowsBelow.{below_more}

or_known : (a b : Bool) → (b ≡ true → a ≡ true) → a ≡ (a || b)
or_known true b h = refl
or_known false true h = h refl
or_known false false h = refl

or_false : (a b : Bool) → b ≡ false → a ≡ (a || b)
or_false true b e = refl
or_false false b e = sym e

pub turned : (key q : Cells) → same_cells key q ≡ false → same_cells q key ≡ false
turned key q e = by_test (same_cells q key) refl
  where
    by_test : (b : Bool) → same_cells q key ≡ b → b ≡ false
    by_test false t = refl
    by_test true t = absurd (false≢true (sym e ∙ ap (same_cells key) (one_row q key t) ∙ itself_row key))

pub grown_same : (m : Entries) → IsGrown m m
grown_same m = record { kept = λ key place e. e; fresh = λ key place none e. absurd (none-some place (sym none ∙ e)); longer = omega arith }

-- what grew twice has grown
pub grown_more : (old mid new : Entries) → IsGrown old mid → IsGrown mid new → IsGrown old new
grown_more old mid new g h = record {
  kept = λ q p e. h.kept q p (g.kept q p e);
  fresh = λ q p none e. one q p none e (place_in mid q) refl;
  longer = omega (arith, g.longer, h.longer);
}
  where
    one : (q : Cells) (p : ℕ) → place_in old q ≡ None → place_in new q ≡ Some p → (o : Option ℕ) → place_in mid q ≡ o → length old ≤ p
    one q p none e None m = omega (arith, h.fresh q p m e, g.longer)
    one q p none e (Some r) m = let same : r ≡ p = same_Some _ _ (sym (h.kept q r m) ∙ e) in omega (arith, g.fresh q r none m, same)

-- a key that has a place
pub taken_known : (key : Cells) (place : ℕ) (m : Entries) → place_in m key ≡ Some place → IsTakenIn key place m m
taken_known key place m is = record {
  grown = grown_same m;
  now = is;
  occurs = λ q. or_known (is_some (place_in m q)) (same_cells q key) (λ e. ap (λ (k : Cells). is_some (place_in m k)) (one_row q key e) ∙ ap is_some is);
}

-- a key that comes gets the next place
module _ (key : Cells) (old new : Entries) (n : ℕ) (many : n ≡ length old) (none : place_in old key ≡ None) (updates : (q : Cells) → place_in new q ≡ cond (same_cells key q) (Some n) (place_in old q)) (longer : length new ≡ length old + 1) where
  here : (q : Cells) (b : Bool) → same_cells key q ≡ b → place_in new q ≡ cond b (Some n) (place_in old q)
  here q b e = updates q ∙ ap (λ c. cond c (Some n) (place_in old q)) e

  one_kept : (q : Cells) (place : ℕ) → place_in old q ≡ Some place → (b : Bool) → same_cells key q ≡ b → place_in new q ≡ Some place
  one_kept q place is true e = absurd (none-some place (sym none ∙ ap (place_in old) (one_row key q e) ∙ is))
  one_kept q place is false e = here q false e ∙ is

  one_fresh : (q : Cells) (place : ℕ) → place_in old q ≡ None → place_in new q ≡ Some place → (b : Bool) → same_cells key q ≡ b → length old ≤ place
  one_fresh q place was is true e = omega (arith, same_Some _ _ (sym (here q true e) ∙ is), many)
  one_fresh q place was is false e = absurd (none-some place (sym was ∙ sym (here q false e) ∙ is))

  one_occurs : (q : Cells) (b : Bool) → same_cells key q ≡ b → is_some (place_in new q) ≡ (is_some (place_in old q) || same_cells q key)
  one_occurs q true e = ap is_some (here q true e) ∙ sym (or_right (is_some (place_in old q)) (same_cells q key) (ap (same_cells q) (one_row key q e) ∙ itself_row q))
  one_occurs q false e = ap is_some (here q false e) ∙ or_false (is_some (place_in old q)) (same_cells q key) (turned key q e)

  pub taken_new : IsTakenIn key n old new
  taken_new = record {
    grown = record {
      kept = λ q place is. one_kept q place is (same_cells key q) refl;
      fresh = λ q place was is. one_fresh q place was is (same_cells key q) refl;
      longer = omega (arith, longer);
    };
    now = here key true (itself_row key);
    occurs = λ q. one_occurs q (same_cells key q) refl;
  }

  pub index_new : (k l : HashKey) (recent : Vec (Option Recent)) (null : Option ℕ) → IsIndex (record { index = record { entries = old; hash_key = k }; recent = recent; null = null }) → IsIndex (record { index = record { entries = new; hash_key = l }; recent = recent; null = null })
  index_new k l recent null h = record {
    below = λ q place is. one_below q place is (same_cells key q) refl;
    apart = λ q r place is also. one_apart q r place is also (same_cells key q) (same_cells key r) refl refl;
    recent = λ i r is. one_kept (Some r.value ∷ []) r.place (h.recent i r is) (same_cells key (Some r.value ∷ [])) refl;
    null = λ place is. one_kept (None ∷ []) place (h.null place is) (same_cells key (None ∷ [])) refl;
  }
    where
      one_below : (q : Cells) (place : ℕ) → place_in new q ≡ Some place → (b : Bool) → same_cells key q ≡ b → place < length new
      one_below q place is true e = omega (arith, same_Some _ _ (sym (here q true e) ∙ is), many, longer)
      one_below q place is false e = omega (arith, h.below q place (sym (here q false e) ∙ is), longer)

      one_apart : (q r : Cells) (place : ℕ) → place_in new q ≡ Some place → place_in new r ≡ Some place → (b c : Bool) → same_cells key q ≡ b → same_cells key r ≡ c → q ≡ r
      one_apart q r place is also true true e f = sym (one_row key q e) ∙ one_row key r f
      one_apart q r place is also true false e f = absurd (omega (arith, same_Some _ _ (sym (here q true e) ∙ is), many, h.below r place (sym (here r false f) ∙ also)))
      one_apart q r place is also false true e f = absurd (omega (arith, same_Some _ _ (sym (here r true f) ∙ also), many, h.below q place (sym (here q false e) ∙ is)))
      one_apart q r place is also false false e f = h.apart q r place (sym (here q false e) ∙ is) (sym (here r false f) ∙ also)

-- a value's place is remembered
pub index_remembered : (index : Indexed) (before after : Vec (Option Recent)) (null : Option ℕ) (entry : Recent) → place_in index.entries (Some entry.value ∷ []) ≡ Some entry.place → ((i : ℕ) (r : Recent) → get_or after.items i None ≡ Some r → (r ≡ entry) ⊎ (get_or before.items i None ≡ Some r)) → IsIndex (record { index = index; recent = before; null = null }) → IsIndex (record { index = index; recent = after; null = null })
index_remembered index before after null entry is from h = record {
  below = h.below;
  apart = h.apart;
  recent = λ i r e. one i r (from i r e);
  null = h.null;
}
  where
    one : (i : ℕ) (r : Recent) → (r ≡ entry) ⊎ (get_or before.items i None ≡ Some r) → place_in index.entries (Some r.value ∷ []) ≡ Some r.place
    one i r (inl e) = subst (λ (x : Recent). place_in index.entries (Some x.value ∷ []) ≡ Some x.place) (sym e) is
    one i r (inr e) = h.recent i r e

-- the place of null is remembered
pub index_null : (index : Indexed) (recent : Vec (Option Recent)) (before : Option ℕ) (place : ℕ) → place_in index.entries (None ∷ []) ≡ Some place → IsIndex (record { index = index; recent = recent; null = before }) → IsIndex (record { index = index; recent = recent; null = Some place })
index_null index recent before place is h = record {
  below = h.below;
  apart = h.apart;
  recent = h.recent;
  null = λ p e. is ∙ ap Some (same_Some _ _ e);
}

-- no row has a place yet
pub placed_none : (by : List ℕ) (v : Vector) (mask : List Bool) (m : Entries) (places : List ℕ) → ArePlaced 0 by v mask m m places
placed_none by v mask m places = record { grown = grown_same m; placed = λ n l. absurd (omega arith); occurs = λ key. or_false (is_some (place_in m key)) false refl }

any-append : (key other : Cells) (ks : List Cells) → list_any (same_cells key) (ks ++ other ∷ []) ≡ (list_any (same_cells key) ks || same_cells key other)
any-append key other ks = list_any-append (same_cells key) ks (other ∷ []) ∙ ap (λ b. list_any (same_cells key) ks || b) (or-false (same_cells key other))

module _ (k : ℕ) (by : List ℕ) (v : Vector) (mask : List Bool) (old mid : Entries) (places : List ℕ) (h : ArePlaced k by v mask old mid places) where
  -- the next row isn't one of the mask
  pub placed_left : has mask k ≡ false → ArePlaced (k + 1) by v mask old mid places
  placed_left off = record {
    grown = h.grown;
    placed = λ n l on. one n l on (cases_lt n k);
    occurs = λ key. h.occurs key ∙ ap (λ rows. is_some (place_in old key) || list_any (same_cells key) (map (key_of by) rows)) (sym (append-nil (rows_below k v mask)) ∙ sym (below_more k v mask false off));
  }
    where
      one : (n : ℕ) → n < k + 1 → has mask n ≡ true → (n < k) ⊎ (k ≤ n) → place_in mid (key_of by (row_at v n)) ≡ Some (get_or places n 0)
      one n l on (inl m) = h.placed n m on
      one n l on (inr m) = let e : k ≡ n = omega arith in absurd (false≢true (sym off ∙ ap (has mask) e ∙ on))

  -- the next row has a place
  pub placed_more : (new : Entries) (key : Cells) (place : ℕ) (after : List ℕ) → has mask k ≡ true → key ≡ key_of by (row_at v k) → IsTakenIn key place mid new → k < length places → after ≡ set places k place → ArePlaced (k + 1) by v mask old new after
  placed_more new key place after on is t within now = record {
    grown = grown_more old mid new h.grown t.grown;
    placed = λ n l m. one n l m (cases_lt n k);
    occurs = λ q. t.occurs q ∙ ap (λ b. b || same_cells q key) (h.occurs q) ∙ or_assoc (is_some (place_in old q)) (list_any (same_cells q) (map (key_of by) (rows_below k v mask))) (same_cells q key)
        ∙ ap (λ b. is_some (place_in old q) || b) (ap (λ (x : Cells). list_any (same_cells q) (map (key_of by) (rows_below k v mask)) || same_cells q x) is ∙ sym (any-append q (key_of by (row_at v k)) (map (key_of by) (rows_below k v mask)))
        ∙ ap (list_any (same_cells q)) (sym (map-append (key_of by) (rows_below k v mask) (row_at v k ∷ []))) ∙ ap (λ rows. list_any (same_cells q) (map (key_of by) rows)) (sym (below_more k v mask true on)));
  }
    where
      one : (n : ℕ) → n < k + 1 → has mask n ≡ true → (n < k) ⊎ (k ≤ n) → place_in new (key_of by (row_at v n)) ≡ Some (get_or after n 0)
      one n l m (inl b) = let ne : n ≢ k = omega arith in t.grown.kept (key_of by (row_at v n)) (get_or places n 0) (h.placed n b m) ∙ ap Some (sym (ap (λ xs. get_or xs n 0) now ∙ get_or-set_other places k n place 0 ne))
      one n l m (inr b) =
          let e : k ≡ n = omega arith in
          subst (λ (j : ℕ). place_in new (key_of by (row_at v j)) ≡ Some (get_or after j 0)) e
          (ap (place_in new) (sym is) ∙ t.now ∙ ap Some (sym (ap (λ xs. get_or xs k 0) now ∙ get_or-set_same places k place 0 within)))

-- what is remembered at a place of the list
pub entry_at : (entries : List (Option Recent)) (i : ℕ) (found : Option Recent) (recent : Recent) → i < length entries → found ≡ get_or entries i found → found ≡ Some recent → get_or entries i None ≡ Some recent
entry_at [] i found recent l at is = absurd (omega arith)
entry_at (e ∷ es) zero found recent l at is = sym at ∙ is
entry_at (e ∷ es) (suc i) found recent l at is = entry_at es i found recent (omega arith) at is

-- a list of one
pub only_one : {X Y : Type 0} (f : X → Y) (xs : List X) (x : X) → length xs ≡ 1 → x ≡ get_or xs 0 x → f x ∷ [] ≡ map f xs
only_one f [] x e at = absurd (omega (arith, e))
only_one f (y ∷ []) x e at = ap (λ z. f z ∷ []) at
only_one f (y ∷ z ∷ zs) x e at = absurd (omega (arith, e))

-- no row is one of the mask
pub placed_nowhere : (k : ℕ) (by : List ℕ) (v : Vector) (mask : List Bool) (m : Entries) (places : List ℕ) → ((n : ℕ) → n < k → has mask n ≡ false) → ArePlaced k by v mask m m places
placed_nowhere zero by v mask m places h = placed_none by v mask m places
placed_nowhere (suc k) by v mask m places h =
    let e : k + 1 ≡ suc k = omega arith in
    subst (λ (n : ℕ). ArePlaced n by v mask m m places) e (placed_left k by v mask m m places (placed_nowhere k by v mask m places (λ n l. h n (omega (arith, l)))) (h k (omega arith)))
