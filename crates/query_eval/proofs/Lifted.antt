-- The rows of a state that are kept are those of its vectors in turn.
use Rattle.std.proofs.Common.{◌≡◌, ℕ, zero, suc, ◌+◌, ◌*◌, ◌<◌, ◌≤◌, Bool, true, false, not, cond, ◌&&◌, nat_lt, List, [], ◌∷◌, ◌++◌, map, filter, length, get_or, take, drop, Option, Some, None, refl, sym, ap, ◌∙◌, arith, length-take, length-take-le}
use Rattle.std.specs.List.{flat_map, range_with_len, cons_option}
use Rattle.std.specs.FinMap as finite
use Rattle.std.specs.FinSet as set
use Rattle.std.proofs.lemmas.Bool.Decides.{nat_tests}
use Rattle.std.proofs.lemmas.Grind.{flat_map-append}
use Rattle.std.proofs.lemmas.List.{take_more, take_all, map-append, append-nil}
use Rattle.std.proofs.lemmas.List.Elements.{filter-append}
use Rattle.table_model.specs.Formula.{Formula}
use Rattle.table_model.specs.Meaning.{at_row, is_kept}
use Rattle.table_model.specs.State.{Cells, Batch, State, named_from, live_rows}
use Rattle.table_model.specs.Table.{Table}
use Rattle.table_model.specs.Values.{present}
use Rattle.table_model.specs.declared.names.BatchName.{BatchName}
use Rattle.table_model.specs.declared.names.RowName.{RowName}
use Rattle.transpose_order.specs.Mask.{rows_of, has}
use Rattle.transpose_order.specs.MaskWords.{rows_of-same, length-rows_of, get_or-rows_of, has-rows_of}
use Rattle.query_eval.specs.Kept.{kept_mask, rows_at, rows_alive, rows_kept, batch_alive, batch_rows, names_kept, names_at}
use Rattle.query_eval.specs.Vector.{Vector, vector_at, row_at, is_live, batch_at, batch_count, vector_count}

-- lists of 1024 that are alike at each place
pub rows_of-alike : {X : Type 0} (f g : ℕ → X) → X → ((n : ℕ) → n < 1024 → f n ≡ g n) → rows_of f ≡ rows_of g
rows_of-alike f g d h = rows_of-same g (rows_of f) d (length-rows_of f) (λ n w. get_or-rows_of f n d w ∙ h n w)

-- nothing, whatever the test
pub none_if : {X : Type 0} (b : Bool) (o : Option X) → o ≡ None → cond b o None ≡ None
none_if true o e = e
none_if false o e = refl

-- what is there but for the nulls
pub shown_if : {X : Type 0} (b c : Bool) (x : X) → cond (b && not c) (Some x) None ≡ cond b (cond c None (Some x)) None
shown_if true true x = refl
shown_if true false x = refl
shown_if false c x = refl

-- nothing at a row
abbrev no_item : {X : Type 0} → ℕ → Option X
no_item n = None

no_items : {X : Type 0} (ns : List ℕ) → present (map (no_item {X = X}) ns) ≡ []
no_items [] = refl
no_items (n ∷ ns) = no_items ns

-- of 1024 rows with nothing, nothing is present
pub none_present : {X : Type 0} (f : ℕ → Option X) → ((n : ℕ) → n < 1024 → f n ≡ None) → present (rows_of f) ≡ []
unfolding rows_of
none_present f h = ap present (rows_of-alike f no_item None h) ∙ no_items (range_with_len 0 1024)

-- an item for each of the rows from an ordinal on that aren't deleted and pass a test
abbrev pub chosen : {X : Type 0} → (ℕ → Bool) → (Cells → Bool) → (ℕ → Cells → X) → ℕ → Batch → List X
chosen dead test item n [] = []
chosen dead test item n (row ∷ rows) = cond (not (dead n) && test row) (item n row ∷ chosen dead test item (suc n) rows) (chosen dead test item (suc n) rows)

module _ {X : Type 0} (dead : ℕ → Bool) (test : Cells → Bool) (item : ℕ → Cells → X) where
  -- the item of a row at a place of a vector, where it is chosen
  shown : ℕ → Batch → ℕ → Option X
  shown base rows n = cond ((nat_lt n (length rows) && not (dead (base + n))) && test (get_or rows n [])) (Some (item (base + n) (get_or rows n []))) None

  past_none : (n : ℕ) → nat_lt n 0 ≡ false
  past_none n = grind (arith, nat_tests)

  shown-none : (base n : ℕ) → shown base [] n ≡ None
  unfolding shown
  shown-none base n = ap (λ b. cond ((b && not (dead (base + n))) && test (get_or [] n [])) (Some (item (base + n) (get_or [] n []))) None) (past_none n)

  nothing-shown : (base : ℕ) (ns : List ℕ) → present (map (shown base []) ns) ≡ []
  nothing-shown base [] = refl
  nothing-shown base (n ∷ ns) = ap (λ o. cons_option o (present (map (shown base []) ns))) (shown-none base n) ∙ nothing-shown base ns

  above_none : (m : ℕ) → nat_lt 0 (suc m) ≡ true
  above_none m = grind (arith, nat_tests)

  first-shown : (base : ℕ) (row : Cells) (rows : Batch) → shown base (row ∷ rows) 0 ≡ cond (not (dead base) && test row) (Some (item base row)) None
  unfolding shown
  first-shown base row rows =
      ap (λ b. cond ((b && not (dead (base + 0))) && test row) (Some (item (base + 0) row)) None) (above_none (length rows))
      ∙ ap (λ n. cond (not (dead n) && test row) (Some (item n row)) None) (let e : base + 0 ≡ base = omega arith in e)

  same_test : (n m : ℕ) → nat_lt (n + 1) (suc m) ≡ nat_lt n m
  same_test n m = grind (arith, nat_tests)

  next-shown : (base : ℕ) (row : Cells) (rows : Batch) (n : ℕ) → shown base (row ∷ rows) (n + 1) ≡ shown (suc base) rows n
  unfolding shown
  next-shown base row rows n =
      ap (λ (m : ℕ). cond ((nat_lt (n + 1) (suc (length rows)) && not (dead (base + (n + 1)))) && test (get_or (row ∷ rows) m [])) (Some (item (base + (n + 1)) (get_or (row ∷ rows) m []))) None) (let e : n + 1 ≡ suc n = omega arith in e)
      ∙ ap (λ b. cond ((b && not (dead (base + (n + 1)))) && test (get_or rows n [])) (Some (item (base + (n + 1)) (get_or rows n []))) None) (same_test n (length rows))
      ∙ ap (λ m. cond ((nat_lt n (length rows) && not (dead m)) && test (get_or rows n [])) (Some (item m (get_or rows n []))) None) (let e : base + (n + 1) ≡ suc base + n = omega arith in e)

  shifted : {Y : Type 0} (f : ℕ → Y) (a k : ℕ) → map f (range_with_len (a + 1) k) ≡ map (λ n. f (n + 1)) (range_with_len a k)
  shifted f a zero = refl
  shifted f a (suc k) = ap (λ l. f (a + 1) ∷ l) (shifted f (a + 1) k)

  map_same : {A Y : Type 0} (f g : A → Y) (xs : List A) → ((x : A) → f x ≡ g x) → map f xs ≡ map g xs
  map_same f g [] e = refl
  map_same f g (x ∷ xs) e = ap (λ y. y ∷ map f xs) (e x) ∙ ap (λ l. g x ∷ l) (map_same f g xs e)

  one_shown : (b : Bool) (row : X) (rows : List X) → cons_option (cond b (Some row) None) rows ≡ cond b (row ∷ rows) rows
  one_shown true row rows = refl
  one_shown false row rows = refl

  all-shown : (base k : ℕ) (rows : Batch) → length rows ≤ k → present (map (shown base rows) (range_with_len 0 k)) ≡ chosen dead test item base rows
  all-shown base k [] h = nothing-shown base (range_with_len 0 k)
  all-shown base zero (row ∷ rows) h = absurd (omega arith)
  all-shown base (suc k) (row ∷ rows) h =
      ap (λ o. cons_option o (present (map (shown base (row ∷ rows)) (range_with_len 1 k)))) (first-shown base row rows)
      ∙ ap (λ l. cons_option (cond (not (dead base) && test row) (Some (item base row)) None) (present l)) (shifted (shown base (row ∷ rows)) 0 k ∙ map_same _ _ (range_with_len 0 k) (next-shown base row rows))
      ∙ ap (cons_option (cond (not (dead base) && test row) (Some (item base row)) None)) (all-shown (suc base) k rows (omega arith))
      ∙ one_shown (not (dead base) && test row) (item base row) (chosen dead test item (suc base) rows)

  -- the rows of a vector from an ordinal on
  pub vector-chosen : (base : ℕ) (rows : Batch) → length rows ≤ 1024 → present (rows_of (λ n. cond ((nat_lt n (length rows) && not (dead (base + n))) && test (get_or rows n [])) (Some (item (base + n) (get_or rows n []))) None)) ≡ chosen dead test item base rows
  unfolding rows_of shown
  vector-chosen base rows h = all-shown base 1024 rows h

  joined_if : (b : Bool) (row : X) (xs ys zs : List X) → xs ≡ ys ++ zs → cond b (row ∷ xs) xs ≡ cond b (row ∷ ys) ys ++ zs
  joined_if true row xs ys zs e = ap (λ l. row ∷ l) e
  joined_if false row xs ys zs e = e

  pub chosen-append : (n : ℕ) (xs ys : Batch) → chosen dead test item n (xs ++ ys) ≡ chosen dead test item n xs ++ chosen dead test item (n + length xs) ys
  chosen-append n [] ys = ap (λ m. chosen dead test item m ys) (let e : n ≡ n + 0 = omega arith in e)
  chosen-append n (x ∷ xs) ys =
      joined_if (not (dead n) && test x) (item n x) _ _ _
      (chosen-append (suc n) xs ys ∙ ap (λ m. chosen dead test item (suc n) xs ++ chosen dead test item m ys) (let e : suc n + length xs ≡ n + suc (length xs) = omega arith in e))

  -- one vector more of a batch
  pub chosen-more : (rows : Batch) (v : ℕ) → 1024 * v ≤ length rows → chosen dead test item 0 (take (1024 * (v + 1)) rows) ≡ chosen dead test item 0 (take (1024 * v) rows) ++ chosen dead test item (1024 * v) (take 1024 (drop (1024 * v) rows))
  chosen-more rows v h =
      let front : List Cells = take (1024 * v) rows in
      let whole : List Cells = take (1024 * (v + 1)) rows in
      let cut : whole ≡ take (1024 * v + 1024) rows = ap (λ n. take n rows) (let e : 1024 * (v + 1) ≡ 1024 * v + 1024 = omega arith in e) in
      let split : whole ≡ front ++ take 1024 (drop (1024 * v) rows) = cut ∙ pieces (1024 * v) 1024 rows in
      ap (chosen dead test item 0) split ∙ chosen-append 0 front (take 1024 (drop (1024 * v) rows))
      ∙ ap (λ n. chosen dead test item 0 front ++ chosen dead test item n (take 1024 (drop (1024 * v) rows))) (let e : 0 + length front ≡ 1024 * v = omega (arith, length-take-le {A = Cells} (1024 * v) rows) in e)
    where
      nothing : (m : ℕ) → take {A = Cells} m [] ≡ []
      nothing zero = refl
      nothing (suc m) = refl

      pieces : (n m : ℕ) (xs : List Cells) → take (n + m) xs ≡ take n xs ++ take m (drop n xs)
      pieces zero m xs = ap (λ n. take n xs) (let e : 0 + m ≡ m = omega arith in e)
      pieces (suc n) m [] = ap (λ (k : ℕ). take k []) (let e : suc n + m ≡ suc (n + m) = omega arith in e) ∙ sym (nothing m)
      pieces (suc n) m (x ∷ xs) = ap (λ (k : ℕ). take k (x ∷ xs)) (let e : suc n + m ≡ suc (n + m) = omega arith in e) ∙ ap (λ l. x ∷ l) (pieces n m xs)

-- the ordinals of a batch that are deleted
abbrev pub dead_in : State → ℕ → ℕ → Bool
dead_in s batch n = set.contains s.deleted (record { batch = (batch_at s batch).0; ordinal = n })

-- whether WHERE, if there is one, is true at a row
abbrev pub keeps : Table → Option Formula → Cells → Bool
keeps table condition row = is_kept condition (at_row table.columns row)

-- items of a vector's rows at a mask, in order
abbrev pub items_at : {X : Type 0} → (ℕ → Cells → X) → ℕ → Vector → List Bool → List X
items_at item base v mask = present (rows_of (λ n. cond (has mask n) (Some (item (base + n) (row_at v n))) None))

-- the items of a vector's rows that are kept
pub vector-items : {X : Type 0} (item : ℕ → Cells → X) (table : Table) (condition : Option Formula) (s : State) (batch vector : ℕ) →
    items_at item (1024 * vector) (vector_at s batch vector) (kept_mask table condition (vector_at s batch vector)) ≡ chosen (dead_in s batch) (keeps table condition) item (1024 * vector) (take 1024 (drop (1024 * vector) (batch_at s batch).1))
unfolding kept_mask vector_at
vector-items item table condition s batch vector =
    let v : Vector = vector_at s batch vector in
    let rows : List Cells = take 1024 (drop (1024 * vector) (batch_at s batch).1) in
    ap present (rows_of-alike _ _ None (λ n l. ap (λ b. cond b (Some (item (1024 * vector + n) (row_at v n))) None) (has-rows_of (λ m. is_live v m && keeps table condition (row_at v m)) n l)))
    ∙ vector-chosen (dead_in s batch) (keeps table condition) item (1024 * vector) rows (omega (arith, length-take 1024 (drop (1024 * vector) (batch_at s batch).1)))

-- the items of the rows of a batch's first vectors that are kept
abbrev pub front_items : {X : Type 0} → (ℕ → Cells → X) → Table → Option Formula → State → ℕ → ℕ → List X
front_items item table condition s batch vectors = chosen (dead_in s batch) (keeps table condition) item 0 (take (1024 * vectors) (batch_at s batch).1)

pub front_items-more : {X : Type 0} (item : ℕ → Cells → X) (table : Table) (condition : Option Formula) (s : State) (batch vector : ℕ) → vector < vector_count s batch →
    front_items item table condition s batch (vector + 1) ≡ front_items item table condition s batch vector ++ items_at item (1024 * vector) (vector_at s batch vector) (kept_mask table condition (vector_at s batch vector))
front_items-more item table condition s batch vector h =
    chosen-more (dead_in s batch) (keeps table condition) item (batch_at s batch).1 vector (omega arith)
    ∙ ap (λ rows. front_items item table condition s batch vector ++ rows) (sym (vector-items item table condition s batch vector))

-- a row itself, wherever it stands
abbrev pub row_itself : ℕ → Cells → Cells
row_itself n row = row

-- the rows of a batch's first vectors that are kept
abbrev pub front_kept : Table → Option Formula → State → ℕ → ℕ → List Cells
front_kept table condition s batch vectors = front_items row_itself table condition s batch vectors

pub front_kept-more : (table : Table) (condition : Option Formula) (s : State) (batch vector : ℕ) → vector < vector_count s batch → front_kept table condition s batch (vector + 1) ≡ front_kept table condition s batch vector ++ rows_at (vector_at s batch vector) (kept_mask table condition (vector_at s batch vector))
unfolding rows_at
front_kept-more table condition s batch vector h = front_items-more row_itself table condition s batch vector h

-- the name of a batch's row
abbrev pub row_named : State → ℕ → ℕ → Cells → RowName
row_named s batch n row = record { batch = (batch_at s batch).0; ordinal = n }

-- one vector's names more
pub front_named-more : (table : Table) (condition : Option Formula) (s : State) (batch vector : ℕ) → vector < vector_count s batch →
    front_items (row_named s batch) table condition s batch (vector + 1) ≡ front_items (row_named s batch) table condition s batch vector ++ names_at (batch_at s batch).0 (1024 * vector) (kept_mask table condition (vector_at s batch vector))
unfolding names_at
front_named-more table condition s batch vector h = front_items-more (row_named s batch) table condition s batch vector h

alive_named : (table : Table) (condition : Option Formula) (s : State) (name : BatchName) (n : ℕ) (rows : Batch) →
    names_kept table condition (filter (λ (row : RowName × Cells). not (set.contains s.deleted row.0)) (named_from name n rows)) ≡ chosen (λ m. set.contains s.deleted (record { batch = name; ordinal = m })) (keeps table condition) (λ m row. record { batch = name; ordinal = m }) n rows
alive_named table condition s name n [] = refl
alive_named table condition s name n (row ∷ rows) = one (not (set.contains s.deleted (record { batch = name; ordinal = n }))) _ (alive_named table condition s name (suc n) rows)
  where
    here : RowName
    here = record { batch = name; ordinal = n }

    later : List RowName
    later = chosen (λ m. set.contains s.deleted (record { batch = name; ordinal = m })) (keeps table condition) (λ m row. record { batch = name; ordinal = m }) (suc n) rows

    test : (b : Bool) (l : List (RowName × Cells)) → names_kept table condition l ≡ later → map (λ (r : RowName × Cells). r.0) (cond b ((here, row) ∷ filter (λ (r : RowName × Cells). keeps table condition r.1) l) (filter (λ (r : RowName × Cells). keeps table condition r.1) l)) ≡ cond b (here ∷ later) later
    test true l e = ap (λ (m : List RowName). here ∷ m) e
    test false l e = e

    one : (b : Bool) (l : List (RowName × Cells)) → names_kept table condition l ≡ later → names_kept table condition (cond b ((here, row) ∷ l) l) ≡ cond (b && keeps table condition row) (here ∷ later) later
    one true l e = test (keeps table condition row) l e
    one false l e = e

-- all vectors of a batch
pub front_named-all : (table : Table) (condition : Option Formula) (s : State) (batch vectors : ℕ) → vector_count s batch ≤ vectors → front_items (row_named s batch) table condition s batch vectors ≡ names_kept table condition (batch_rows s batch)
unfolding batch_rows
front_named-all table condition s batch vectors h =
    ap (chosen (dead_in s batch) (keeps table condition) (row_named s batch) 0) (take_all (1024 * vectors) (batch_at s batch).1 (omega arith))
    ∙ sym (alive_named table condition s (batch_at s batch).0 0 (batch_at s batch).1)

-- the rows of the first batches that aren't deleted, with their names
abbrev pub first_rows : State → ℕ → List (RowName × Cells)
first_rows s batches = filter (λ (row : RowName × Cells). not (set.contains s.deleted row.0)) (flat_map (λ (e : BatchName × Batch). named_from e.0 0 e.1) (take batches (finite.entries s.batches)))

pub first_rows-more : (s : State) (batch : ℕ) → batch < batch_count s → first_rows s (batch + 1) ≡ first_rows s batch ++ batch_rows s batch
unfolding batch_at batch_rows
first_rows-more s batch h =
    let d : BatchName × Batch = (record { origin = record { 0 = 0 }; number = record { 0 = 0 } }, []) in
    let named : BatchName × Batch → List (RowName × Cells) = λ e. named_from e.0 0 e.1 in
    let is_there : RowName × Cells → Bool = λ row. not (set.contains s.deleted row.0) in
    let front : List (BatchName × Batch) = take batch (finite.entries s.batches) in
    let last : BatchName × Batch = get_or (finite.entries s.batches) batch d in
    ap (λ (es : List (BatchName × Batch)). filter is_there (flat_map named es)) (take_more (finite.entries s.batches) batch d h)
    ∙ ap (filter is_there) (flat_map-append named front (last ∷ []) ∙ ap (λ rows. flat_map named front ++ rows) (append-nil (named last)))
    ∙ filter-append is_there (flat_map named front) (named last)

pub first_rows-all : (s : State) (batches : ℕ) → batch_count s ≤ batches → first_rows s batches ≡ live_rows s
unfolding live_rows
first_rows-all s batches h = ap (λ (es : List (BatchName × Batch)). filter (λ (row : RowName × Cells). not (set.contains s.deleted row.0)) (flat_map (λ (e : BatchName × Batch). named_from e.0 0 e.1) es)) (take_all batches (finite.entries s.batches) h)

pub names_kept-append : (table : Table) (condition : Option Formula) (xs ys : List (RowName × Cells)) → names_kept table condition (xs ++ ys) ≡ names_kept table condition xs ++ names_kept table condition ys
names_kept-append table condition xs ys =
    ap (map (λ (row : RowName × Cells). row.0)) (filter-append (λ (row : RowName × Cells). keeps table condition row.1) xs ys)
    ∙ map-append (λ (row : RowName × Cells). row.0) (filter (λ (row : RowName × Cells). keeps table condition row.1) xs) (filter (λ (row : RowName × Cells). keeps table condition row.1) ys)

alive_kept : (table : Table) (condition : Option Formula) (s : State) (name : BatchName) (n : ℕ) (rows : Batch) → rows_kept table condition (map (λ (row : RowName × Cells). row.1) (filter (λ (row : RowName × Cells). not (set.contains s.deleted row.0)) (named_from name n rows))) ≡ chosen (λ m. set.contains s.deleted (record { batch = name; ordinal = m })) (keeps table condition) row_itself n rows
alive_kept table condition s name n [] = refl
alive_kept table condition s name n (row ∷ rows) = one (not (set.contains s.deleted (record { batch = name; ordinal = n }))) _ (alive_kept table condition s name (suc n) rows)
  where
    one : (b : Bool) (l : List (RowName × Cells)) → rows_kept table condition (map (λ (r : RowName × Cells). r.1) l) ≡ chosen (λ m. set.contains s.deleted (record { batch = name; ordinal = m })) (keeps table condition) row_itself (suc n) rows → rows_kept table condition (map (λ (r : RowName × Cells). r.1) (cond b ((record { batch = name; ordinal = n }, row) ∷ l) l)) ≡ cond (b && keeps table condition row) (row ∷ chosen (λ m. set.contains s.deleted (record { batch = name; ordinal = m })) (keeps table condition) row_itself (suc n) rows) (chosen (λ m. set.contains s.deleted (record { batch = name; ordinal = m })) (keeps table condition) row_itself (suc n) rows)
    one true l e = ap (λ (m : List Cells). cond (keeps table condition row) (row ∷ m) m) e
    one false l e = e

-- all vectors of a batch
pub front_kept-all : (table : Table) (condition : Option Formula) (s : State) (batch vectors : ℕ) → vector_count s batch ≤ vectors → front_kept table condition s batch vectors ≡ rows_kept table condition (batch_alive s batch)
unfolding batch_alive
front_kept-all table condition s batch vectors h =
    ap (chosen (dead_in s batch) (keeps table condition) row_itself 0) (take_all (1024 * vectors) (batch_at s batch).1 (omega arith))
    ∙ sym (alive_kept table condition s (batch_at s batch).0 0 (batch_at s batch).1)

-- the rows of the first batches that aren't deleted
abbrev pub first_alive : State → ℕ → List Cells
first_alive s batches = map (λ (row : RowName × Cells). row.1) (filter (λ (row : RowName × Cells). not (set.contains s.deleted row.0)) (flat_map (λ (e : BatchName × Batch). named_from e.0 0 e.1) (take batches (finite.entries s.batches))))

pub first_alive-more : (s : State) (batch : ℕ) → batch < batch_count s → first_alive s (batch + 1) ≡ first_alive s batch ++ batch_alive s batch
unfolding batch_alive batch_at
first_alive-more s batch h =
    let d : BatchName × Batch = (record { origin = record { 0 = 0 }; number = record { 0 = 0 } }, []) in
    let named : BatchName × Batch → List (RowName × Cells) = λ e. named_from e.0 0 e.1 in
    let is_there : RowName × Cells → Bool = λ row. not (set.contains s.deleted row.0) in
    let cells : RowName × Cells → Cells = λ row. row.1 in
    let front : List (BatchName × Batch) = take batch (finite.entries s.batches) in
    let last : BatchName × Batch = get_or (finite.entries s.batches) batch d in
    ap (λ (es : List (BatchName × Batch)). map cells (filter is_there (flat_map named es))) (take_more (finite.entries s.batches) batch d h)
    ∙ ap (λ (rows : List (RowName × Cells)). map cells (filter is_there rows)) (flat_map-append named front (last ∷ []) ∙ ap (λ rows. flat_map named front ++ rows) (append-nil (named last)))
    ∙ ap (map cells) (filter-append is_there (flat_map named front) (named last))
    ∙ map-append cells (filter is_there (flat_map named front)) (filter is_there (named last))

pub first_alive-all : (s : State) (batches : ℕ) → batch_count s ≤ batches → first_alive s batches ≡ rows_alive s
unfolding live_rows
first_alive-all s batches h =
    ap (λ (es : List (BatchName × Batch)). map (λ (row : RowName × Cells). row.1) (filter (λ (row : RowName × Cells). not (set.contains s.deleted row.0)) (flat_map (λ (e : BatchName × Batch). named_from e.0 0 e.1) es))) (take_all batches (finite.entries s.batches) h)

pub rows_kept-append : (table : Table) (condition : Option Formula) (xs ys : List Cells) → rows_kept table condition (xs ++ ys) ≡ rows_kept table condition xs ++ rows_kept table condition ys
rows_kept-append table condition xs ys = filter-append (keeps table condition) xs ys
