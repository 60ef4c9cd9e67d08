-- Groups under way: one row more, one vector more.
use Rattle.std.proofs.Common.{◌≡◌, ◌≢◌, ℕ, zero, suc, ◌+◌, ◌*◌, ◌/◌, ◌%◌, ◌==◌, ◌<◌, ◌≤◌, ◌⊎◌, inl, inr, Bool, true, false, cond, not, ◌&&◌, ◌||◌, List, [], ◌∷◌, ◌++◌, map, length, get_or, set, Option, Some, None, ℤ, pos, refl, sym, ap, subst, ◌∙◌, arith, append-nil, append_assoc, length-append, length-set, get_or-set_same, get_or-set_other}
use Rattle.std.specs.Int.{bit_at}
use Rattle.std.specs.List.{filter_map, list_any}
use Rattle.query_eval.specs.Entries.{place_in}
use Rattle.std.specs.Global.{Vec}
use Rattle.std.specs.Option.{is_some}
use Rattle.std.proofs.Math.ListN.{get_or-append}
use Rattle.std.proofs.Math.Seq.{get_or-append_seam}
use Rattle.std.proofs.lemmas.Bool.{cases_lt, false≢true, or_parts}
use Rattle.std.proofs.lemmas.Bool.Decides.{Decides-eqb}
use Rattle.std.proofs.lemmas.List.{get_or_default, map-append}
use Rattle.std.proofs.lemmas.List.Elements.{filter-append}
use Rattle.std.proofs.lemmas.List.Folds.{list_any-append}
use Rattle.std.proofs.lemmas.Option.{none-some, same_Some}
use Rattle.table_model.specs.Group.{cell, key_of, rows_with, values_in}
use Rattle.table_model.specs.State.{Cells, same_cells}
use Rattle.table_model.proofs.Groups.{values_in-append}
use Rattle.table_model.proofs.SameRows.{one_row, itself_row}
use Rattle.query_eval.specs.Grouping.{AreGroups, AreHeld, IsHeld, IsTaken, AreCounted, AreShown, aggregate_cell, aggregate_values, as_list}
use Rattle.query_eval.specs.Places.{IsIndex, rows_below, rows_placed}
use Rattle.query_eval.specs.Slices.{IsSplit, rows_shared, slices_of}
use Rattle.query_eval.specs.Kept.{rows_at}
use Rattle.query_eval.specs.Vector.{Vector, row_at}
use Rattle.query_eval.specs.declared.grouping.places.Places.{Places}
use Rattle.query_eval.specs.declared.grouping.split.Split.{Split}
use Rattle.query_eval.proofs.Lifted.{shown_if}
use Rattle.query_eval.proofs.SliceLemmas.{shared_with}
use Rattle.query_eval.proofs.RowsBelow.{below_all, below_more, placed_more_rows}
use Rattle.transpose_order.specs.Mask.{has, rows_of, truth_at}
use Rattle.transpose_order.specs.MaskWords.{has-rows_of}
use Rattle.query_eval.specs.Tally.{IsTally, kind_of}
use Rattle.query_eval.specs.TallyKinds.{aggregate_kind}
use Rattle.query_eval.specs.declared.tallies.aggregate.Aggregate.{Aggregate}
use Rattle.query_eval.specs.declared.tallies.aggregate.Aggregate.TheVariants.{Rows, Folded}
use Rattle.query_eval.specs.declared.tallies.tally.Tally.{Tally}
use Rattle.query_eval.specs.declared.tallies.tally.TallyKind.{TallyKind}

-- over no rows there are no values
pub none_values : (a : Aggregate) → aggregate_values a [] ≡ []
unfolding values_in
none_values Rows = refl
none_values (Folded fold distinct place) = refl

pub held_none : (a : Aggregate) (t : Tally) → IsTally [] t → kind_of t ≡ aggregate_kind a → IsHeld [] a t
held_none a t h e = record { values = subst (λ (vs : List ℤ). IsTally vs t) (sym (none_values a)) h; kind = e }

one_value : (place : ℕ) (one : Cells) (o : Option ℤ) → cell one place ≡ o → values_in place (one ∷ []) ≡ as_list o
unfolding values_in
one_value place one None e = ap (λ o. filter_map (λ x. x) (o ∷ [])) e
one_value place one (Some z) e = ap (λ o. filter_map (λ x. x) (o ∷ [])) e

-- the values of one row more
values_more : (a : Aggregate) (rows : List Cells) (one : Cells) → aggregate_values a rows ++ as_list (aggregate_cell one a) ≡ aggregate_values a (rows ++ one ∷ [])
values_more Rows rows one = sym (map-append (λ _. pos 0) rows (one ∷ []))
values_more (Folded fold distinct place) rows one = ap (λ l. values_in place rows ++ l) (sym (one_value place one (cell one place) refl)) ∙ sym (values_in-append place rows (one ∷ []))

-- no row has a key that didn't occur
rows_with-none : (by : List ℕ) (rows : List Cells) (key : Cells) → list_any (same_cells key) (map (key_of by) rows) ≡ false → rows_with by rows key ≡ []
unfolding rows_with
rows_with-none by [] key h = refl
rows_with-none by (row ∷ rows) key h =
    let parts = or_parts (same_cells key (key_of by row)) (list_any (same_cells key) (map (key_of by) rows)) h in
    ap (λ b. cond b (row ∷ rows_with by rows key) (rows_with by rows key)) parts.0 ∙ rows_with-none by rows key parts.1

-- no value is listed, whatever the test
nothing_listed : (b : Bool) → cond b (as_list None) [] ≡ []
nothing_listed true = refl
nothing_listed false = refl

-- a cell of one row more in the tally at its place
module _ (k : ℕ) (v : Vector) (mask : List Bool) (places : List ℕ) (g : ℕ) (a : Aggregate) (rows : List Cells) where
  -- the next row isn't one of the mask
  held_left : (t : Tally) → has mask k ≡ false → IsHeld (rows ++ rows_placed k v mask places g) a t → IsHeld (rows ++ rows_placed (k + 1) v mask places g) a t
  held_left t off h =
      subst (λ (l : List Cells). IsHeld (rows ++ l) a t) (sym (append-nil (rows_placed k v mask places g)) ∙ sym (placed_more_rows k v mask places g false (ap (λ b. b && (get_or places k 0 == g)) off))) h

  -- the next row's cell is taken into the tally at its place
  held_cell : (t u : Tally) (place : ℕ) (cell : Option ℤ) → has mask k ≡ true → place ≡ get_or places k 0 → cell ≡ aggregate_cell (row_at v k) a → ((values : List ℤ) → IsTally values t → IsTally (values ++ cond (place == g) (as_list cell) []) u) → kind_of u ≡ kind_of t → IsHeld (rows ++ rows_placed k v mask places g) a t → IsHeld (rows ++ rows_placed (k + 1) v mask places g) a u
  held_cell t u place cell on at is takes same h = one (place == g) refl
    where
      before : List Cells
      before = rows ++ rows_placed k v mask places g

      chosen_is : (b : Bool) → (place == g) ≡ b → (has mask k && (get_or places k 0 == g)) ≡ b
      chosen_is b e = ap (λ c. c && (get_or places k 0 == g)) on ∙ ap (λ n. n == g) (sym at) ∙ e

      one : (b : Bool) → (place == g) ≡ b → IsHeld (rows ++ rows_placed (k + 1) v mask places g) a u
      one true e =
          let now : rows ++ rows_placed (k + 1) v mask places g ≡ before ++ row_at v k ∷ [] = ap (λ l. rows ++ l) (placed_more_rows k v mask places g true (chosen_is true e)) ∙ sym (append_assoc rows (rows_placed k v mask places g) (row_at v k ∷ [])) in
          record {
            values =
                subst (λ (l : List Cells). IsTally (aggregate_values a l) u) (sym now)
                (subst (λ (vs : List ℤ). IsTally vs u) (ap (λ b. aggregate_values a before ++ cond b (as_list cell) []) e ∙ ap (λ o. aggregate_values a before ++ as_list o) is ∙ values_more a before (row_at v k)) (takes (aggregate_values a before) h.values));
            kind = same ∙ h.kind;
          }
      one false e =
          let now : rows ++ rows_placed (k + 1) v mask places g ≡ before = ap (λ l. rows ++ l) (placed_more_rows k v mask places g false (chosen_is false e) ∙ append-nil (rows_placed k v mask places g)) in
          record {
            values =
                subst (λ (l : List Cells). IsTally (aggregate_values a l) u) (sym now)
                (subst (λ (vs : List ℤ). IsTally vs u) (ap (λ b. aggregate_values a before ++ cond b (as_list cell) []) e ∙ append-nil (aggregate_values a before)) (takes (aggregate_values a before) h.values));
            kind = same ∙ h.kind;
          }

  chosen_one : (b : Bool) (o : Option ℤ) (z : ℤ) → cond b o None ≡ Some z → (b ≡ true) × (o ≡ Some z)
  chosen_one true o z e = (refl, e)
  chosen_one false o z e = absurd (none-some z e)

  -- the next row's value is taken into the tally at its place
  pub held_on : (chosen : List Bool) (values : List ℤ) (t u : Tally) → k < 1024 → AreShown a v mask chosen values → has chosen k ≡ true → ((taken : List ℤ) → IsTally taken t → IsTally (taken ++ cond (get_or places k 0 == g) (get_or values k (pos 0) ∷ []) []) u) → kind_of u ≡ kind_of t → IsHeld (rows ++ rows_placed k v mask places g) a t → IsHeld (rows ++ rows_placed (k + 1) v mask places g) a u
  held_on chosen values t u l shown on takes same h =
      let z : ℤ = get_or values k (pos 0) in
      let both = chosen_one (has mask k) (aggregate_cell (row_at v k) a) z (shown k l ∙ ap (λ b. cond b (Some z) None) on) in
      held_cell t u (get_or places k 0) (Some z) both.0 refl (sym both.1) takes same h

  -- the next row has no value, or isn't one of the mask
  pub held_off : (chosen : List Bool) (values : List ℤ) (t : Tally) → k < 1024 → AreShown a v mask chosen values → has chosen k ≡ false → IsHeld (rows ++ rows_placed k v mask places g) a t → IsHeld (rows ++ rows_placed (k + 1) v mask places g) a t
  held_off chosen values t l shown off h = by_test (has mask k) refl
    where
      by_test : (b : Bool) → has mask k ≡ b → IsHeld (rows ++ rows_placed (k + 1) v mask places g) a t
      by_test false e = held_left t e h
      by_test true e =
          let null : None ≡ aggregate_cell (row_at v k) a = sym (ap (λ b. cond b (aggregate_cell (row_at v k) a) None) (sym e) ∙ shown k l ∙ ap (λ b. cond b (Some (get_or values k (pos 0))) None) off) in
          held_cell t t (get_or places k 0) None e refl null (λ taken q. subst (λ (vs : List ℤ). IsTally vs t) (sym (ap (λ l2. taken ++ l2) (nothing_listed (get_or places k 0 == g)) ∙ append-nil taken)) q) refl h

  -- the next row's cell, none where the row isn't one of the mask, is taken into the tally at its place
  pub held_next : (t u : Tally) (cell : Option ℤ) → cell ≡ cond (has mask k) (aggregate_cell (row_at v k) a) None → ((values : List ℤ) → IsTally values t → IsTally (values ++ cond (get_or places k 0 == g) (as_list cell) []) u) → kind_of u ≡ kind_of t → IsHeld (rows ++ rows_placed k v mask places g) a t → IsHeld (rows ++ rows_placed (k + 1) v mask places g) a u
  held_next t u cell is takes same h = by_test (has mask k) refl
    where
      before : List ℤ
      before = aggregate_values a (rows ++ rows_placed k v mask places g)

      by_test : (b : Bool) → has mask k ≡ b → IsHeld (rows ++ rows_placed (k + 1) v mask places g) a u
      by_test true e = held_cell t u (get_or places k 0) cell e refl (is ∙ ap (λ b. cond b (aggregate_cell (row_at v k) a) None) e) takes same h
      by_test false e =
          let none : cell ≡ None = is ∙ ap (λ b. cond b (aggregate_cell (row_at v k) a) None) e in
          held_left u e
          (record {
            values =
                subst (λ (vs : List ℤ). IsTally vs u)
                (ap (λ o. before ++ cond (get_or places k 0 == g) (as_list o) []) none ∙ ap (λ l. before ++ l) (nothing_listed (get_or places k 0 == g)) ∙ append-nil before) (takes before h.values);
            kind = same ∙ h.kind;
          })

  -- the next row's value, where it has one, is taken into the sum at its place
  pub held_summed : (chosen : List Bool) (values : List ℤ) (comes : Bool) (t u : Tally) → k < 1024 → AreShown a v mask chosen values → comes ≡ has chosen k → ((taken : List ℤ) → IsTally taken t → IsTally (taken ++ cond (get_or places k 0 == g) (cond comes (get_or values k (pos 0) ∷ []) []) []) u) → kind_of u ≡ kind_of t → IsHeld (rows ++ rows_placed k v mask places g) a t → IsHeld (rows ++ rows_placed (k + 1) v mask places g) a u
  held_summed chosen values comes t u l shown on takes same h =
      held_next t u (cond comes (Some z) None) (ap (λ b. cond b (Some z) None) on ∙ sym (shown k l))
      (λ taken q. subst (λ (zs : List ℤ). IsTally (taken ++ cond (get_or places k 0 == g) zs []) u) (listed comes) (takes taken q)) same h
    where
      z : ℤ
      z = get_or values k (pos 0)

      listed : (b : Bool) → cond b (z ∷ []) [] ≡ as_list (cond b (Some z) None)
      listed true = refl
      listed false = refl

  -- the next row, where it has a value, is counted at its place
  pub held_counted : (chosen : List Bool) (comes : Bool) (t u : Tally) → k < 1024 → AreCounted a v mask chosen → comes ≡ has chosen k → ((taken : List ℤ) (z : ℤ) → IsTally taken t → IsTally (taken ++ cond (get_or places k 0 == g) (cond comes (z ∷ []) []) []) u) → kind_of u ≡ kind_of t → IsHeld (rows ++ rows_placed k v mask places g) a t → IsHeld (rows ++ rows_placed (k + 1) v mask places g) a u
  held_counted chosen comes t u l counted on takes same h =
      held_next t u (cond (has mask k) (aggregate_cell (row_at v k) a) None) refl (one (cond (has mask k) (aggregate_cell (row_at v k) a) None) (on ∙ sym (counted k l))) same h
    where
      one : (o : Option ℤ) → comes ≡ is_some o → (taken : List ℤ) → IsTally taken t → IsTally (taken ++ cond (get_or places k 0 == g) (as_list o) []) u
      one None e taken q = subst (λ (b : Bool). IsTally (taken ++ cond (get_or places k 0 == g) (cond b (pos 0 ∷ []) []) []) u) e (takes taken (pos 0) q)
      one (Some z) e taken q = subst (λ (b : Bool). IsTally (taken ++ cond (get_or places k 0 == g) (cond b (z ∷ []) []) []) u) e (takes taken z q)

-- no row has a value
module _ (v : Vector) (mask : List Bool) (places : List ℕ) (g : ℕ) (a : Aggregate) (rows : List Cells) (t : Tally) (missing : (n : ℕ) → n < 1024 → aggregate_cell (row_at v n) a ≡ None) where
  missing_at : (k : ℕ) → k < 1024 → (b : Bool) → None ≡ cond b (aggregate_cell (row_at v k) a) None
  missing_at k l true = sym (missing k l)
  missing_at k l false = refl

  pub held_without : (k : ℕ) → k ≤ 1024 → IsHeld rows a t → IsHeld (rows ++ rows_placed k v mask places g) a t
  held_without zero l h = subst (λ (xs : List Cells). IsHeld xs a t) (sym (append-nil rows)) h
  held_without (suc k) l h =
      let e : k + 1 ≡ suc k = omega arith in
      let inside : k < 1024 = omega (arith, l) in
      subst (λ (n : ℕ). IsHeld (rows ++ rows_placed n v mask places g) a t) e
      (held_next k v mask places g a rows t t None (missing_at k inside (has mask k)) (λ taken q. subst (λ (vs : List ℤ). IsTally vs t) (sym (ap (λ zs. taken ++ zs) (nothing_listed (get_or places k 0 == g)) ∙ append-nil taken)) q) refl (held_without k (omega (arith, l)) h))

-- the tally at a place takes in a value
module _ (place : ℕ) (old new : List Tally) (u d : Tally) (within : place < length old) (new_is : new ≡ set old place u) where
  pub cell_values : (added : List ℤ) → ((values : List ℤ) → IsTally values (get_or old place d) → IsTally (values ++ added) u) → (g : ℕ) (t : Tally) (values : List ℤ) → g < length old → IsTally values (get_or old g t) → IsTally (values ++ cond (place == g) added []) (get_or new g t)
  cell_values added takes g t values l h = one (place == g) refl
    where
      one : (b : Bool) → (place == g) ≡ b → IsTally (values ++ cond b added []) (get_or new g t)
      one true e =
          let same : place ≡ g = (Decides-eqb place g).0 e in
          let before : IsTally values (get_or old place d) = subst (IsTally values) (ap (λ j. get_or old j t) (sym same) ∙ get_or_default old place t d within) h in
          subst (IsTally (values ++ added)) (sym (ap (λ ts. get_or ts g t) new_is ∙ ap (λ j. get_or (set old place u) j t) (sym same) ∙ get_or-set_same old place u t within)) (takes values before)
      one false e =
          let ne : g ≢ place = λ q. false≢true (sym e ∙ (Decides-eqb place g).1 (sym q)) in
          subst (λ (vs : List ℤ). IsTally vs (get_or new g t)) (sym (append-nil values)) (subst (IsTally values) (sym (ap (λ ts. get_or ts g t) new_is ∙ get_or-set_other old place g u t ne)) h)

  pub cell_values_of : (kind : TallyKind) (added : List ℤ) → ((values : List ℤ) → kind_of (get_or old place d) ≡ kind → IsTally values (get_or old place d) → IsTally (values ++ added) u) → (g : ℕ) (t : Tally) (values : List ℤ) → g < length old → kind_of (get_or old g t) ≡ kind → IsTally values (get_or old g t) → IsTally (values ++ cond (place == g) added []) (get_or new g t)
  cell_values_of kind added takes g t values l is h = one (place == g) refl
    where
      one : (b : Bool) → (place == g) ≡ b → IsTally (values ++ cond b added []) (get_or new g t)
      one true e =
          let same : place ≡ g = (Decides-eqb place g).0 e in
          let here : get_or old place d ≡ get_or old g t = get_or_default old place d t within ∙ ap (λ j. get_or old j t) same in
          subst (IsTally (values ++ added)) (sym (ap (λ ts. get_or ts g t) new_is ∙ ap (λ j. get_or (set old place u) j t) (sym same) ∙ get_or-set_same old place u t within)) (takes values (ap kind_of here ∙ is) (subst (IsTally values) (sym here) h))
      one false e =
          let ne : g ≢ place = λ q. false≢true (sym e ∙ (Decides-eqb place g).1 (sym q)) in
          subst (λ (vs : List ℤ). IsTally vs (get_or new g t)) (sym (append-nil values)) (subst (IsTally values) (sym (ap (λ ts. get_or ts g t) new_is ∙ get_or-set_other old place g u t ne)) h)

-- one tally more
pub known_push : (old ts next : List Tally) (u : Tally) → next ≡ ts ++ u ∷ [] → length old ≤ length ts → ((g : ℕ) (t : Tally) → g < length old → get_or ts g t ≡ get_or old g t) → (g : ℕ) (t : Tally) → g < length old → get_or next g t ≡ get_or old g t
known_push old ts next u is le h g t l = let m : g < length ts = omega (arith, l, le) in ap (λ xs. get_or xs g t) is ∙ get_or-append ts (u ∷ []) t g m ∙ h g t l

pub fresh_push : (n : ℕ) (a : Aggregate) (ts next : List Tally) (u : Tally) → next ≡ ts ++ u ∷ [] → IsHeld [] a u → ((g : ℕ) (t : Tally) → n ≤ g → g < length ts → IsHeld [] a (get_or ts g t)) → (g : ℕ) (t : Tally) → n ≤ g → g < length next → IsHeld [] a (get_or next g t)
fresh_push n a ts next u is one h g t le l = by_place (cases_lt g (length ts))
  where
    by_place : (g < length ts) ⊎ (length ts ≤ g) → IsHeld [] a (get_or next g t)
    by_place (inl m) = subst (IsHeld [] a) (sym (ap (λ xs. get_or xs g t) is ∙ get_or-append ts (u ∷ []) t g m)) (h g t le m)
    by_place (inr m) =
        let e : g ≡ length ts = omega (arith, l, ap length is, length-append ts (u ∷ []), m) in
        subst (IsHeld [] a) (sym (ap (λ xs. get_or xs g t) is ∙ ap (λ j. get_or (ts ++ u ∷ []) j t) e ∙ get_or-append_seam ts u [] t)) one

-- the tallies of an aggregate, grown and with the rows of a split
pub taken : (a : Aggregate) (v : Vector) (split : Split) (count : ℕ) (old mid new : List Tally) → (length old ≤ count → length mid ≡ count) → ((g : ℕ) (t : Tally) → g < length old → get_or mid g t ≡ get_or old g t) → ((g : ℕ) (t : Tally) → length old ≤ g → g < length mid → IsHeld [] a (get_or mid g t)) → length new ≡ length mid → ((g : ℕ) (t : Tally) (rows : List Cells) → g < length mid → IsHeld rows a (get_or mid g t) → IsHeld (rows ++ rows_shared v split g) a (get_or new g t)) → IsTaken a v split count old new
taken a v split count old mid new size known fresh same held = record {
  size = λ le. same ∙ size le;
  known = λ g t rows le l h. let m : g < length mid = omega (arith, size le, l, le) in held g t rows m (subst (IsHeld rows a) (sym (known g t l)) h);
  fresh = λ g t le l. let m : g < length mid = omega (arith, size (omega (arith, le, l)), l) in held g t [] m (fresh g t le m);
}

rows_with-append : (by : List ℕ) (rows more : List Cells) (key : Cells) → rows_with by (rows ++ more) key ≡ rows_with by rows key ++ rows_with by more key
unfolding rows_with
rows_with-append by rows more key = filter-append (λ row. same_cells key (key_of by row)) rows more

rows_with-one : (by : List ℕ) (row key : Cells) (b : Bool) → same_cells key (key_of by row) ≡ b → rows_with by (row ∷ []) key ≡ cond b (row ∷ []) []
unfolding rows_with
rows_with-one by row key b e = ap (λ c. cond c (row ∷ []) []) e

-- the rows with a place are those with its key
module _ (by : List ℕ) (v : Vector) (mask : List Bool) (places : List ℕ) (g : ℕ) (key : Cells) (agree : (n : ℕ) → n < 1024 → has mask n ≡ true → (get_or places n 0 == g) ≡ same_cells key (key_of by (row_at v n))) where
  placed_none_with : rows_placed 0 v mask places g ≡ rows_with by (rows_below 0 v mask) key
  unfolding rows_with
  placed_none_with = refl

  placed_next : (k : ℕ) → k < 1024 → (b : Bool) → has mask k ≡ b → rows_placed k v mask places g ≡ rows_with by (rows_below k v mask) key → rows_placed (k + 1) v mask places g ≡ rows_with by (rows_below (k + 1) v mask) key
  placed_next k l false e h =
      placed_more_rows k v mask places g false (ap (λ c. c && (get_or places k 0 == g)) e) ∙ append-nil (rows_placed k v mask places g) ∙ h
      ∙ ap (λ rows. rows_with by rows key) (sym (append-nil (rows_below k v mask)) ∙ sym (below_more k v mask false e))
  placed_next k l true e h =
      let same = agree k l e in
      placed_more_rows k v mask places g (same_cells key (key_of by (row_at v k))) (ap (λ c. c && (get_or places k 0 == g)) e ∙ same)
      ∙ ap (λ rows. rows ++ cond (same_cells key (key_of by (row_at v k))) (row_at v k ∷ []) []) h
      ∙ ap (λ rows. rows_with by (rows_below k v mask) key ++ rows) (sym (rows_with-one by (row_at v k) key (same_cells key (key_of by (row_at v k))) refl))
      ∙ sym (rows_with-append by (rows_below k v mask) (row_at v k ∷ []) key)
      ∙ ap (λ rows. rows_with by rows key) (sym (below_more k v mask true e))

  placed_with : (k : ℕ) → k ≤ 1024 → rows_placed k v mask places g ≡ rows_with by (rows_below k v mask) key
  placed_with zero l = placed_none_with
  placed_with (suc k) l =
      let e : k + 1 ≡ suc k = omega arith in
      subst (λ (n : ℕ). rows_placed n v mask places g ≡ rows_with by (rows_below n v mask) key) e (placed_next k (omega arith) (has mask k) refl (placed_with k (omega arith)))

-- the groups with a vector's rows more
pub groups_more : (by : List ℕ) (named : List Aggregate) (v : Vector) (mask : List Bool) (rows : List Cells) (before after : Places) (split : Split) (old new : List (Vec Tally)) → IsIndex after → IsSplit by v mask before.index.entries after.index.entries split → length new ≡ length old → ((i : ℕ) (a : Aggregate) (c : Vec Tally) → i < length named → i < length old → IsTaken (get_or named i a) v split (length after.index.entries) (get_or old i c).items (get_or new i c).items) → AreGroups by named rows before.index.entries old → AreGroups by named (rows ++ rows_at v mask) after.index.entries new
groups_more by named v mask rows before after split old new index placed size taken h = record {
  size = size ∙ h.size;
  columns = λ i c l. let m : i < length old = omega (arith, h.size, l) in (taken i Rows c l m).size (omega (arith, h.columns i c l, placed.grown.longer));
  held = λ key g is. one_held key g is (place_in before.index.entries key) refl;
  occurs = λ key. placed.occurs key ∙ ap (λ b. b || list_any (same_cells key) (map (key_of by) (rows_at v mask))) (h.occurs key)
      ∙ sym (list_any-append (same_cells key) (map (key_of by) rows) (map (key_of by) (rows_at v mask))) ∙ ap (list_any (same_cells key)) (sym (map-append (key_of by) rows (rows_at v mask)));
}
  where
    agrees : (key : Cells) (g : ℕ) → place_in after.index.entries key ≡ Some g → (n : ℕ) → n < 1024 → has split.left n ≡ true → (get_or split.places n 0 == g) ≡ same_cells key (key_of by (row_at v n))
    agrees key g is n l on = by_test (same_cells key (key_of by (row_at v n))) refl
      where
        by_test : (b : Bool) → same_cells key (key_of by (row_at v n)) ≡ b → (get_or split.places n 0 == g) ≡ b
        by_test true e = (Decides-eqb (get_or split.places n 0) g).1 (same_Some _ _ (sym (placed.placed n l on) ∙ ap (place_in after.index.entries) (sym (one_row key (key_of by (row_at v n)) e)) ∙ is))
        by_test false e = by_place (get_or split.places n 0 == g) refl
          where
            by_place : (b : Bool) → (get_or split.places n 0 == g) ≡ b → b ≡ false
            by_place false f = refl
            by_place true f =
                let same : key ≡ key_of by (row_at v n) = index.apart key (key_of by (row_at v n)) g is (placed.placed n l on ∙ ap Some ((Decides-eqb (get_or split.places n 0) g).0 f)) in
                absurd (false≢true (sym e ∙ ap (same_cells key) (sym same) ∙ itself_row key))

    more : (key : Cells) (g : ℕ) → place_in after.index.entries key ≡ Some g → rows_shared v split g ≡ rows_with by (rows_at v mask) key
    more key g is =
        shared_with by v after.index.entries split.places split.left key g index.apart is
        (placed_with by v split.left split.places g key (agrees key g is) 1024 (omega arith) ∙ ap (λ l. rows_with by l key) (below_all 1024 v split.left refl))
        mask (slices_of split) placed.parted

    one_held : (key : Cells) (g : ℕ) → place_in after.index.entries key ≡ Some g → (o : Option ℕ) → place_in before.index.entries key ≡ o → AreHeld (rows_with by (rows ++ rows_at v mask) key) named new g
    one_held key g is (Some p) was =
        let same : p ≡ g = same_Some _ _ (sym (placed.grown.kept key p was) ∙ is) in
        let here = h.held key g (was ∙ ap Some same) in
        record {
          size = size ∙ h.size;
          within = λ i c l. let m : i < length old = omega (arith, h.size, l) in omega (arith, index.below key g is, (taken i Rows c l m).size (omega (arith, h.columns i c l, placed.grown.longer)));
          each = λ i a c t l.
              let m : i < length old = omega (arith, h.size, l) in
              subst (λ (xs : List Cells). IsHeld xs (get_or named i a) (get_or (get_or new i c).items g t)) (ap (λ xs. rows_with by rows key ++ xs) (more key g is) ∙ sym (rows_with-append by rows (rows_at v mask) key))
              ((taken i a c l m).known g t (rows_with by rows key) (omega (arith, h.columns i c l, placed.grown.longer)) (here.within i c l) (here.each i a c t l));
        }
    one_held key g is None was =
        record {
          size = size ∙ h.size;
          within = λ i c l. let m : i < length old = omega (arith, h.size, l) in omega (arith, index.below key g is, (taken i Rows c l m).size (omega (arith, h.columns i c l, placed.grown.longer)));
          each = λ i a c t l.
              let m : i < length old = omega (arith, h.size, l) in
              let nowhere = rows_with-none by rows key (sym (h.occurs key) ∙ ap is_some was) in
              subst (λ (xs : List Cells). IsHeld xs (get_or named i a) (get_or (get_or new i c).items g t)) (more key g is ∙ ap (λ xs. xs ++ rows_with by (rows_at v mask) key) (sym nowhere) ∙ sym (rows_with-append by rows (rows_at v mask) key))
              ((taken i a c l m).fresh g t (omega (arith, h.columns i c l, placed.grown.fresh key g was is)) (index.below key g is));
        }

-- one aggregate more has taken in the rows
module _ (named : List Aggregate) (v : Vector) (split : Split) (count i : ℕ) (old now : List (Vec Tally)) (m u : Vec Tally) (size : length now ≡ length old) (ln : i < length named) (lo : i < length old) (ahead : (j : ℕ) (c : Vec Tally) → i ≤ j → get_or now j c ≡ get_or old j c) where
  pub columns_size : length (set now i u) ≡ length old
  columns_size = length-set now i u ∙ size

  pub columns_ahead : (j : ℕ) (c : Vec Tally) → i + 1 ≤ j → get_or (set now i u) j c ≡ get_or old j c
  columns_ahead j c l = let ne : j ≢ i = omega arith in get_or-set_other now i j u c ne ∙ ahead j c (omega (arith, l))

  pub columns_taken : m ≡ get_or now i m → ((j : ℕ) (a : Aggregate) (c : Vec Tally) → j < i → IsTaken (get_or named j a) v split count (get_or old j c).items (get_or now j c).items) → IsTaken (get_or named i Rows) v split count m.items u.items
      → (j : ℕ) (a : Aggregate) (c : Vec Tally) → j < i + 1 → IsTaken (get_or named j a) v split count (get_or old j c).items (get_or (set now i u) j c).items
  columns_taken mine taken one j a c l = by_place (cases_lt j i)
    where
      by_place : (j < i) ⊎ (i ≤ j) → IsTaken (get_or named j a) v split count (get_or old j c).items (get_or (set now i u) j c).items
      by_place (inl b) =
          let ne : j ≢ i = omega arith in
          subst (λ (x : Vec Tally). IsTaken (get_or named j a) v split count (get_or old j c).items x.items) (sym (get_or-set_other now i j u c ne)) (taken j a c b)
      by_place (inr b) =
          let e : i ≡ j = omega arith in
          let inside : i < length now = omega (arith, lo, size) in
          subst (λ (k : ℕ). IsTaken (get_or named k a) v split count (get_or old k c).items (get_or (set now i u) k c).items) e
          (subst (λ (x : Vec Tally). IsTaken (get_or named i a) v split count (get_or old i c).items x.items) (sym (get_or-set_same now i u c inside))
          (subst (λ (x : Vec Tally). IsTaken (get_or named i a) v split count x.items u.items) (mine ∙ get_or_default now i m c inside ∙ ahead i c (omega arith))
          (subst (λ (x : Aggregate). IsTaken x v split count m.items u.items) (get_or_default named i Rows a ln) one)))

-- of a column, the rows of the mask that aren't null have one
pub shown_values : (a : Aggregate) (v : Vector) (mask nulls rows : List Bool) (values : List ℤ) → rows ≡ rows_of (λ n. has mask n && not (has nulls n)) → ((n : ℕ) → n < 1024 → cond (has nulls n) None (Some (get_or values n (pos 0))) ≡ aggregate_cell (row_at v n) a) → AreShown a v mask rows values
shown_values a v mask nulls rows values e shown n l =
    ap (λ o. cond (has mask n) o None) (sym (shown n l)) ∙ sym (shown_if (has mask n) (has nulls n) (get_or values n (pos 0)))
    ∙ ap (λ b. cond b (Some (get_or values n (pos 0))) None) (sym (ap (λ m. has m n) e ∙ has-rows_of (λ m. has mask m && not (has nulls m)) n l))

-- bit b of word j is row 64 * j + b
pub word_bits : (words : List ℕ) (rows : List Bool) (j b : ℕ) → j < 16 → b < 64 → rows ≡ rows_of (truth_at words) → (bit_at (get_or words j 0) b == 1) ≡ has rows (64 * j + b)
word_bits words rows j b lj lb e =
    let word : (64 * j + b) / 64 ≡ j = omega arith in
    let bit : (64 * j + b) % 64 ≡ b = omega arith in
    sym (ap (λ m. has m (64 * j + b)) e ∙ has-rows_of (truth_at words) (64 * j + b) (omega (arith, lj, lb)) ∙ ap (λ k. bit_at (get_or words k 0) ((64 * j + b) % 64) == 1) word
    ∙ ap (λ k. bit_at (get_or words j 0) k == 1) bit)
