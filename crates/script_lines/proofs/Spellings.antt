-- A text is cut where its grammar has a comma or a parenthesis, since outside value has one within it.
use Rattle.std.specs.Prelude.{◌≡◌, ◌⊎◌, ℕ, Bool, true, false, cond, ◌==◌, ◌&&◌, nat_le, List, [], ◌∷◌, ◌++◌, length, codes, Option, Some, None, option_map, ℤ, pos, neg_ℤ}
use Rattle.std.specs.List.{list_all}
use Rattle.std.specs.Char.{is_ascii_digit}
use Rattle.std.specs.Str.{bytes_eq}
use Rattle.std.specs.Str.Parse.{digits_value}
use Rattle.std.proofs.Common.{refl, sym, ap, subst, ◌∙◌, arith, inl, inr, append_assoc, get_or}
use Rattle.std.proofs.lemmas.Bool.{and_parts}
use Rattle.std.proofs.lemmas.Bool.Decides.{nat_tests}
use Rattle.std.proofs.lemmas.Slice.Eq.{bytes_eq-Decides}
use Rattle.std.proofs.lemmas.Option.{same_Some, some_pair_parts}
use Rattle.std.proofs.lemmas.List.{append-nil}
use Rattle.table_model.specs.State.{Cells, Batch}
use Rattle.table_model.specs.Numeral.{is_numeral, value_digits, magnitude_of, signed_of, integer_of}
use Rattle.script_lines.specs.Word.{◌>>=◌, cut, longer, each_of, cell_of, cells_of, opened_cells, rows_from, rows_of}
use Rattle.table_model.specs.Pieces.{pieces, without}
use Rattle.script_lines.specs.Spelled.{SpellsNumber, SpellsValue, SpellsValues, SpellsRow, SpellsRows, RowsAreReadAsSpelled}
use Rattle.script_lines.proofs.Cuts.{pieces_at, pieces_cut}
use Rattle.script_lines.proofs.RowLaws.{first_piece, rows_first, rows_comma, rows_none, rows_no_comma, row_before}

-- a text without a byte
abbrev Lacks : ℕ → List ℕ → Type 0
Lacks c [] = Unit {0}
Lacks c (b ∷ bs) = ((b == c) ≡ false) × Lacks c bs

lacks-append : (c : ℕ) (xs ys : List ℕ) → Lacks c xs → Lacks c ys → Lacks c (xs ++ ys)
lacks-append c [] ys h k = k
lacks-append c (x ∷ xs) ys h k = (h.0, lacks-append c xs ys h.1 k)

cut_lacking : (c : ℕ) (xs rest : List ℕ) → Lacks c xs → cut c (xs ++ (c ∷ rest)) ≡ Some (xs, rest)
cut_lacking c [] rest h =
    let itself : (c == c) ≡ true = grind (arith, nat_tests) in
    ap (λ (t : Bool). cond t (Some ([], rest)) (option_map (longer c) (cut c rest))) itself
cut_lacking c (x ∷ xs) rest h =
    ap (λ (t : Bool). cond t (Some ([], xs ++ (c ∷ rest))) (option_map (longer x) (cut c (xs ++ (c ∷ rest))))) h.0
    ∙ ap (option_map (longer x)) (cut_lacking c xs rest h.1)

uncut_lacking : (c : ℕ) (xs : List ℕ) → Lacks c xs → cut c xs ≡ None
uncut_lacking c [] h = refl
uncut_lacking c (x ∷ xs) h =
    ap (λ (t : Bool). cond t (Some ([], xs)) (option_map (longer x) (cut c xs))) h.0 ∙ ap (option_map (longer x)) (uncut_lacking c xs h.1)

-- the parts of a text that is cut make the text
cut_parts : (c : ℕ) (text front back : List ℕ) → cut c text ≡ Some (front, back) → text ≡ front ++ (c ∷ back)
cut_parts c [] front back e = cc
cut_parts c (b ∷ bs) front back e =
    elim (b == c) as (λ t. (b == c) ≡ t → cond t (Some ([], bs)) (option_map (longer b) (cut c bs)) ≡ Some (front, back) → b ∷ bs ≡ front ++ (c ∷ back)) [
      | true ↦ λ t h.
          let same : b ≡ c = grind (arith, nat_tests) in
          let both = some_pair_parts [] front bs back h in
          (λ i. same i ∷ both.1 i) ∙ ap (λ (f : List ℕ). f ++ (c ∷ back)) both.0
      | false ↦ λ t h. within (λ f k. cut_parts c bs f k) (cut c bs) refl h
    ] refl e where
      within : ((f k : List ℕ) → cut c bs ≡ Some (f, k) → bs ≡ f ++ (c ∷ k)) → (o : Option (List ℕ × List ℕ)) → cut c bs ≡ o → option_map (longer b) o ≡ Some (front, back) → b ∷ bs ≡ front ++ (c ∷ back)
      within rest None is h = cc
      within rest (Some parts) is h =
          let both = some_pair_parts (b ∷ parts.0) front parts.1 back h in
          ap (λ (xs : List ℕ). b ∷ xs) (rest parts.0 parts.1 is) ∙ (λ i. both.0 i ++ (c ∷ both.1 i))

without_is : (c : ℕ) (text rest : List ℕ) → without c text ≡ Some rest → text ≡ c ∷ rest
without_is c [] rest e = cc
without_is c (b ∷ bs) rest e =
    elim (b == c) as (λ t. (b == c) ≡ t → cond t (Some bs) None ≡ Some rest → b ∷ bs ≡ c ∷ rest) [
      | true ↦ λ t h. let same : b ≡ c = grind (arith, nat_tests) in let tail : bs ≡ rest = cc in (λ i. same i ∷ tail i)
      | false ↦ λ t h. cc
    ] refl e

without_at : (c : ℕ) (rest : List ℕ) → without c (c ∷ rest) ≡ Some rest
without_at c rest = let itself : (c == c) ≡ true = grind (arith, nat_tests) in ap (λ (t : Bool). cond t (Some rest) None) itself

-- a numeral has digits alone
numeral_digits : (text : List ℕ) → is_numeral value_digits text ≡ true → (nat_le 1 (length text) ≡ true) × (list_all is_ascii_digit text ≡ true)
unfolding is_numeral
numeral_digits text e =
    let p = and_parts (nat_le 1 (length text)) (nat_le (length text) value_digits && list_all is_ascii_digit text) e in
    (p.0, (and_parts (nat_le (length text) value_digits) (list_all is_ascii_digit text) p.1).1)

digits_lack : (c : ℕ) (text : List ℕ) → is_ascii_digit c ≡ false → list_all is_ascii_digit text ≡ true → Lacks c text
digits_lack c [] outside e = tt
digits_lack c (b ∷ bs) outside e =
    let p = and_parts (is_ascii_digit b) (list_all is_ascii_digit bs) e in
    (apart (b == c) refl p.0, digits_lack c bs outside p.1) where
      apart : (t : Bool) → (b == c) ≡ t → is_ascii_digit b ≡ true → t ≡ false
      apart true t digit = let same : b ≡ c = grind (arith, nat_tests) in sym digit ∙ ap is_ascii_digit same ∙ outside
      apart false t digit = refl

numeral_lacks : (c : ℕ) (text : List ℕ) → is_ascii_digit c ≡ false → is_numeral value_digits text ≡ true → Lacks c text
numeral_lacks c text outside e = digits_lack c text outside (numeral_digits text e).1

value_lacks : (c : ℕ) (text : List ℕ) (v : Option ℤ) → is_ascii_digit c ≡ false → Lacks c (codes "NULL") → (45 == c) ≡ false → SpellsValue text v → Lacks c text
value_lacks c text None outside null minus is = let P : List ℕ → Type 0 = λ t. Lacks c t in subst P (sym is) null
value_lacks c text (Some z) outside null minus (inl h) = numeral_lacks c text outside h.1.0
value_lacks c text (Some z) outside null minus (inr h) = let P : List ℕ → Type 0 = λ t. Lacks c t in subst P (sym h.2) (minus, numeral_lacks c h.0 outside h.3.0)

value_no_comma : (text : List ℕ) (v : Option ℤ) → SpellsValue text v → Lacks 44 text
value_no_comma text v is = value_lacks 44 text v refl (refl, (refl, (refl, (refl, tt)))) refl is

value_no_end : (text : List ℕ) (v : Option ℤ) → SpellsValue text v → Lacks 41 text
value_no_end text v is = value_lacks 41 text v refl (refl, (refl, (refl, (refl, tt)))) refl is

values_no_end : (text : List ℕ) (vs : Cells) → SpellsValues text vs → Lacks 41 text
values_no_end text [] is = absurd is
values_no_end text (v ∷ []) is = value_no_end text v is
values_no_end text (v ∷ w ∷ vs) is =
    let P : List ℕ → Type 0 = λ t. Lacks 41 t in
    subst P (sym is.2) (lacks-append 41 is.0 (44 ∷ is.1) (value_no_end is.0 v is.3) (refl, values_no_end is.1 (w ∷ vs) is.4))

-- a number that is read is spelled so
number_read : (text : List ℕ) (n : ℕ) → magnitude_of text ≡ Some n → SpellsNumber text n
unfolding magnitude_of
number_read text n e =
    elim (is_numeral value_digits text) as (λ t. is_numeral value_digits text ≡ t → cond t (Some (digits_value 10 text)) None ≡ Some n → SpellsNumber text n) [
      | true ↦ λ t h. let same : digits_value 10 text ≡ n = cc in (t, same)
      | false ↦ λ t h. cc
    ] refl e

number_spelled : (text : List ℕ) (n : ℕ) → SpellsNumber text n → magnitude_of text ≡ Some n
unfolding magnitude_of
number_spelled text n h = ap (λ (t : Bool). cond t (Some (digits_value 10 text)) None) h.0 ∙ ap Some h.1

integer_read : (text : List ℕ) (v : Option ℤ) → option_map Some (integer_of text) ≡ Some v → SpellsValue text v
integer_read text v e =
    elim (without 45 text) as (λ o. without 45 text ≡ o → option_map Some (signed_of text o) ≡ Some v → SpellsValue text v) [
      | None ↦ λ outside h. plain (magnitude_of text) refl h
      | Some digits ↦ λ at h. minus digits at (magnitude_of digits) refl h
    ] refl e where
      plain : (o : Option ℕ) → magnitude_of text ≡ o → option_map Some (option_map pos o) ≡ Some v → SpellsValue text v
      plain None is h = cc
      plain (Some n) is h = let P : Option ℤ → Type 0 = λ w. SpellsValue text w in let same : Some (pos n) ≡ v = cc in subst P same (inl (n, number_read text n is, refl))

      minus : (digits : List ℕ) → without 45 text ≡ Some digits → (o : Option ℕ) → magnitude_of digits ≡ o → option_map Some (option_map (λ n. neg_ℤ (pos n)) o) ≡ Some v → SpellsValue text v
      minus digits at None is h = cc
      minus digits at (Some n) is h =
          let P : Option ℤ → Type 0 = λ w. SpellsValue text w in
          let same : Some (neg_ℤ (pos n)) ≡ v = cc in
          subst P same (inr (digits, n, without_is 45 text digits at, number_read digits n is, refl))

value_read : (text : List ℕ) (v : Option ℤ) → cell_of text ≡ Some v → SpellsValue text v
value_read text v e =
    elim (bytes_eq text (codes "NULL")) as (λ t. bytes_eq text (codes "NULL") ≡ t → cond t (Some None) (option_map Some (integer_of text)) ≡ Some v → SpellsValue text v) [
      | true ↦ λ t h. let P : Option ℤ → Type 0 = λ w. SpellsValue text w in let same : None ≡ v = cc in subst P same ((bytes_eq-Decides text (codes "NULL")).0 t)
      | false ↦ λ t h. integer_read text v h
    ] refl e

no_null : (text : List ℕ) → is_numeral value_digits text ≡ true → text ≡ codes "NULL" → ⊥
unfolding is_numeral
no_null text e is = let bad : is_numeral value_digits (codes "NULL") ≡ true = sym (ap (is_numeral value_digits) is) ∙ e in cc

no_minus : (text : List ℕ) → is_numeral value_digits text ≡ true → without 45 text ≡ None
no_minus text e = uncut text (numeral_lacks 45 text refl e) where
  uncut : (t : List ℕ) → Lacks 45 t → without 45 t ≡ None
  uncut [] h = refl
  uncut (b ∷ bs) h = ap (λ (t : Bool). cond t (Some bs) None) h.0

-- what isn't NULL is read as a number
cell_number : (text : List ℕ) → (text ≡ codes "NULL" → ⊥) → cell_of text ≡ option_map Some (integer_of text)
cell_number text outside =
    elim (bytes_eq text (codes "NULL")) as (λ t. bytes_eq text (codes "NULL") ≡ t → cond t (Some None) (option_map Some (integer_of text)) ≡ option_map Some (integer_of text)) [
      | true ↦ λ t. absurd (outside ((bytes_eq-Decides text (codes "NULL")).0 t))
      | false ↦ λ t. refl
    ] refl

minus_null : (digits : List ℕ) → 45 ∷ digits ≡ codes "NULL" → ⊥
minus_null digits e =
    let first : ◌≡◌ {A = ℕ} 45 78 = ap (λ (xs : List ℕ). get_or xs 0 0) e in
    let tested : (45 == 78) ≡ true = grind (arith, nat_tests, first) in
    let no_test : ◌≡◌ {A = Bool} false true = tested in cc

cell_null : cell_of (codes "NULL") ≡ Some None
cell_null = refl

plain_spelled : (text : List ℕ) (n : ℕ) → SpellsNumber text n → integer_of text ≡ Some (pos n)
plain_spelled text n h = ap (signed_of text) (no_minus text h.0) ∙ ap (option_map pos) (number_spelled text n h)

minus_spelled : (text digits : List ℕ) (n : ℕ) → text ≡ 45 ∷ digits → SpellsNumber digits n → integer_of text ≡ Some (neg_ℤ (pos n))
minus_spelled text digits n is h = ap (signed_of text) (ap (without 45) is ∙ without_at 45 digits) ∙ ap (option_map (λ k. neg_ℤ (pos k))) (number_spelled digits n h)

value_spelled : (text : List ℕ) (v : Option ℤ) → SpellsValue text v → cell_of text ≡ Some v
value_spelled text None is = ap cell_of is ∙ cell_null
value_spelled text (Some z) (inl h) = cell_number text (no_null text h.1.0) ∙ ap (option_map Some) (plain_spelled text h.0 h.1 ∙ ap Some (sym h.2))
value_spelled text (Some z) (inr h) = cell_number text (λ is. minus_null h.0 (sym h.2 ∙ is)) ∙ ap (option_map Some) (minus_spelled text h.0 h.1 h.2 h.3 ∙ ap Some (sym h.4))

-- the first of each, and the others
each_parts : {X Y : Type 0} (f : X → Option Y) (x : X) (xs : List X) (ys : List Y) → each_of f (x ∷ xs) ≡ Some ys → (y : Y) × (rest : List Y) × (f x ≡ Some y) × (each_of f xs ≡ Some rest) × (ys ≡ y ∷ rest)
each_parts {Y = Y} f x xs ys e = first (f x) refl e where
  second : (y : Y) (o : Option (List Y)) → f x ≡ Some y → each_of f xs ≡ o → option_map (λ zs. y ∷ zs) o ≡ Some ys → (y : Y) × (rest : List Y) × (f x ≡ Some y) × (each_of f xs ≡ Some rest) × (ys ≡ y ∷ rest)
  second y None at is h = cc
  second y (Some rest) at is h = let same : ys ≡ y ∷ rest = cc in (y, rest, at, is, same)

  first : (o : Option Y) → f x ≡ o → o >>= (λ y. option_map (λ zs. y ∷ zs) (each_of f xs)) ≡ Some ys → (y : Y) × (rest : List Y) × (f x ≡ Some y) × (each_of f xs ≡ Some rest) × (ys ≡ y ∷ rest)
  first None at h = cc
  first (Some y) at h = second y (each_of f xs) at refl h

-- the values of a text that is cut at its first comma
cells_cut : (text : List ℕ) → cells_of text ≡ each_of cell_of (pieces_at 44 text (cut 44 text))
cells_cut text = ap (each_of cell_of) (pieces_cut 44 text)

-- there is a value in each row that is read
values_some : (text : List ℕ) → cells_of text ≡ Some [] → ⊥
values_some text e =
    let p = first_piece 44 text in
    let parts = each_parts cell_of p.0 p.1 [] (sym (ap (each_of cell_of) p.2) ∙ e) in
    let bad : ◌≡◌ {A = Cells} [] (parts.0 ∷ parts.1) = parts.4 in cc

values_read : (vs : Cells) (text : List ℕ) → cells_of text ≡ Some vs → SpellsValues text vs
values_read [] text e = values_some text e
values_read (v ∷ vs) text e = at (λ rest f. values_read vs rest f) (cut 44 text) refl (sym (cells_cut text) ∙ e) where
  at : ((rest : List ℕ) → cells_of rest ≡ Some vs → SpellsValues rest vs) → (o : Option (List ℕ × List ℕ)) → cut 44 text ≡ o → each_of cell_of (pieces_at 44 text o) ≡ Some (v ∷ vs) → SpellsValues text (v ∷ vs)
  at more None is h =
      let parts = each_parts cell_of text [] (v ∷ vs) h in
      let none : [] ≡ parts.1 = same_Some [] parts.1 parts.3 in
      let whole : v ∷ vs ≡ parts.0 ∷ [] = parts.4 ∙ ap (λ (rest : Cells). parts.0 ∷ rest) (sym none) in
      let P : Cells → Type 0 = λ xs. SpellsValues text xs in
      subst P (sym whole) (value_read text parts.0 parts.2)
  at more (Some cuts) is h =
      let parts = each_parts cell_of cuts.0 (pieces 44 cuts.1) (v ∷ vs) h in
      let first : v ≡ parts.0 = head_same v parts.0 vs parts.1 parts.4 in
      let others : vs ≡ parts.1 = tail_same v parts.0 vs parts.1 parts.4 in
      let read : cells_of cuts.1 ≡ Some vs = parts.3 ∙ ap Some (sym others) in
      longer_values v vs text cuts.0 cuts.1 (cut_parts 44 text cuts.0 cuts.1 is) (value_read cuts.0 v (parts.2 ∙ ap Some (sym first))) (λ none. values_some cuts.1 (read ∙ ap Some none)) (more cuts.1 read)
    where
      head_same : (a b : Option ℤ) (xs ys : Cells) → a ∷ xs ≡ b ∷ ys → a ≡ b
      head_same a b xs ys e = cc

      tail_same : (a b : Option ℤ) (xs ys : Cells) → a ∷ xs ≡ b ∷ ys → xs ≡ ys
      tail_same a b xs ys e = cc

      longer_values : (v : Option ℤ) (vs : Cells) (text first rest : List ℕ) → text ≡ first ++ (44 ∷ rest) → SpellsValue first v → (vs ≡ [] → ⊥) → SpellsValues rest vs → SpellsValues text (v ∷ vs)
      longer_values v [] text first rest is value some more = absurd (some refl)
      longer_values v (w ∷ vs) text first rest is value some more = (first, rest, is, value, more)

values_spelled : (vs : Cells) (text : List ℕ) → SpellsValues text vs → cells_of text ≡ Some vs
values_spelled [] text is = absurd is
values_spelled (v ∷ []) text is =
    cells_cut text
    ∙ ap (λ o. each_of cell_of (pieces_at 44 text o)) (uncut_lacking 44 text (value_no_comma text v is))
    ∙ ap (λ (o : Option (Option ℤ)). o >>= (λ y. Some (y ∷ []))) (value_spelled text v is)
values_spelled (v ∷ w ∷ vs) text is =
    let rest : each_of cell_of (pieces 44 is.1) ≡ Some (w ∷ vs) = values_spelled (w ∷ vs) is.1 is.4 in
    cells_cut text
    ∙ ap (λ o. each_of cell_of (pieces_at 44 text o)) (ap (cut 44) is.2 ∙ cut_lacking 44 is.0 is.1 (value_no_comma is.0 v is.3))
    ∙ ap (λ (o : Option (Option ℤ)). o >>= (λ y. option_map (λ ys. y ∷ ys) (each_of cell_of (pieces 44 is.1)))) (value_spelled is.0 v is.3)
    ∙ ap (option_map (λ ys. v ∷ ys)) rest

-- a row that is opened and ended
opened_read : (text : List ℕ) (row : Cells) → opened_cells text ≡ Some row → (values : List ℕ) × (text ≡ 40 ∷ values) × SpellsValues values row
opened_read text row e = at (without 40 text) refl e where
  at : (o : Option (List ℕ)) → without 40 text ≡ o → o >>= cells_of ≡ Some row → (values : List ℕ) × (text ≡ 40 ∷ values) × SpellsValues values row
  at None is h = cc
  at (Some values) is h = (values, without_is 40 text values is, values_read row values h)

opened_spelled : (values : List ℕ) (row : Cells) → SpellsValues values row → opened_cells (40 ∷ values) ≡ Some row
opened_spelled values row is = ap (λ o. o >>= cells_of) (without_at 40 values) ∙ values_spelled row values is

-- the first row, and the others
before_parts : (o : Option Cells) (rows : Option Batch) (all : Batch) → row_before o rows ≡ Some all → (row : Cells) × (rest : Batch) × (o ≡ Some row) × (rows ≡ Some rest) × (all ≡ row ∷ rest)
before_parts None rows all e = cc
before_parts (Some row) None all e = cc
before_parts (Some row) (Some rest) all e = let same : all ≡ row ∷ rest = cc in (row, rest, refl, refl, same)

row_text : (text first after values : List ℕ) → text ≡ first ++ (41 ∷ after) → first ≡ 40 ∷ values → text ≡ (40 ∷ (values ++ (41 ∷ []))) ++ after
row_text text first after values is opens = is ∙ ap (λ (f : List ℕ). f ++ (41 ∷ after)) opens ∙ ap (λ (t : List ℕ). 40 ∷ t) (sym (append_assoc values (41 ∷ []) after))

rows_some : (text : List ℕ) → rows_of text ≡ Some [] → ⊥
rows_some text e = at (cut 41 text) refl where
  at : (o : Option (List ℕ × List ℕ)) → cut 41 text ≡ o → ⊥
  at None is = let bad : None ≡ Some [] = sym (rows_none text (sym is)) ∙ e in cc
  at (Some parts) is =
      let p = before_parts (opened_cells parts.0) (rows_from (pieces 41 parts.1)) [] (sym (rows_first text parts.0 parts.1 (sym is)) ∙ e) in
      let bad : ◌≡◌ {A = Batch} [] (p.0 ∷ p.1) = p.4 in cc

-- what follows a row: nothing, or a comma and rows
after_row : (after : List ℕ) (rest : Batch) → rows_from (pieces 41 after) ≡ Some rest → ((after ≡ []) × (rest ≡ [])) ⊎ ((next : List ℕ) × (after ≡ 44 ∷ next) × (rows_of next ≡ Some rest))
after_row [] rest e = let none : rest ≡ [] = cc in inl (refl, none)
after_row (c ∷ cs) rest e = at (without 44 (c ∷ cs)) refl where
  at : (o : Option (List ℕ)) → without 44 (c ∷ cs) ≡ o → ((c ∷ cs ≡ []) × (rest ≡ [])) ⊎ ((next : List ℕ) × (c ∷ cs ≡ 44 ∷ next) × (rows_of next ≡ Some rest))
  at None is = let bad : None ≡ Some rest = sym (rows_no_comma c cs (sym is)) ∙ e in cc
  at (Some next) is = inr (next, without_is 44 (c ∷ cs) next is, sym (rows_comma (c ∷ cs) next (sym is)) ∙ e)

longer_rows : (row : Cells) (rows : Batch) (text first rest : List ℕ) → text ≡ first ++ (44 ∷ rest) → SpellsRow first row → (rows ≡ [] → ⊥) → SpellsRows rest rows → SpellsRows text (row ∷ rows)
longer_rows row [] text first rest is one some more = absurd (some refl)
longer_rows row (next ∷ rows) text first rest is one some more = (first, rest, is, one, more)

rows_read : (rows : Batch) (text : List ℕ) → rows_of text ≡ Some rows → SpellsRows text rows
rows_read [] text e = rows_some text e
rows_read (row ∷ rows) text e = at (λ rest f. rows_read rows rest f) (cut 41 text) refl where
  ends : ((rest : List ℕ) → rows_of rest ≡ Some rows → SpellsRows rest rows) → (first after values : List ℕ) → text ≡ first ++ (41 ∷ after) → first ≡ 40 ∷ values → SpellsValues values row
      → ((after ≡ []) × (rows ≡ [])) ⊎ ((next : List ℕ) × (after ≡ 44 ∷ next) × (rows_of next ≡ Some rows)) → SpellsRows text (row ∷ rows)
  ends more first after values is opens spelled (inl h) =
      let whole : text ≡ 40 ∷ (values ++ (41 ∷ [])) = row_text text first after values is opens ∙ ap (λ (t : List ℕ). (40 ∷ (values ++ (41 ∷ []))) ++ t) h.0 ∙ append-nil (40 ∷ (values ++ (41 ∷ []))) in
      let P : Batch → Type 0 = λ rs. SpellsRows text (row ∷ rs) in
      subst P (sym h.1) (values, whole, spelled)
  ends more first after values is opens spelled (inr h) =
      let whole : text ≡ (40 ∷ (values ++ (41 ∷ []))) ++ (44 ∷ h.0) = row_text text first after values is opens ∙ ap (λ (t : List ℕ). (40 ∷ (values ++ (41 ∷ []))) ++ t) h.1 in
      longer_rows row rows text (40 ∷ (values ++ (41 ∷ []))) h.0 whole (values, refl, spelled) (λ none. rows_some h.0 (h.2 ∙ ap Some none)) (more h.0 h.2)

  at : ((rest : List ℕ) → rows_of rest ≡ Some rows → SpellsRows rest rows) → (o : Option (List ℕ × List ℕ)) → cut 41 text ≡ o → SpellsRows text (row ∷ rows)
  at more None is = let bad : None ≡ Some (row ∷ rows) = sym (rows_none text (sym is)) ∙ e in cc
  at more (Some parts) is =
      let p = before_parts (opened_cells parts.0) (rows_from (pieces 41 parts.1)) (row ∷ rows) (sym (rows_first text parts.0 parts.1 (sym is)) ∙ e) in
      let first : p.0 ≡ row = cc in
      let others : p.1 ≡ rows = cc in
      let opened = opened_read parts.0 row (p.2 ∙ ap Some first) in
      ends more parts.0 parts.1 opened.0 (cut_parts 41 text parts.0 parts.1 is) opened.1 opened.2 (after_row parts.1 rows (p.3 ∙ ap Some others))

-- a row is cut at its closing parenthesis
row_first : (text after : List ℕ) (row : Cells) (first : List ℕ) → text ≡ first ++ after → (one : SpellsRow first row) → cut 41 text ≡ Some (40 ∷ one.0, after)
row_first text after row first is one =
    let lacks : Lacks 41 (40 ∷ one.0) = (refl, values_no_end one.0 row one.2) in
    ap (cut 41) (is ∙ ap (λ (f : List ℕ). f ++ after) one.1 ∙ ap (λ (t : List ℕ). 40 ∷ t) (append_assoc one.0 (41 ∷ []) after)) ∙ cut_lacking 41 (40 ∷ one.0) after lacks

rows_spelled : (rows : Batch) (text : List ℕ) → SpellsRows text rows → rows_of text ≡ Some rows
rows_spelled [] text is = absurd is
rows_spelled (row ∷ []) text is =
    rows_first text (40 ∷ is.0) [] (sym (row_first text [] row text (sym (append-nil text)) is))
    ∙ ap (λ o. row_before o (Some [])) (opened_spelled is.0 row is.2)
rows_spelled (row ∷ next ∷ rows) text is =
    rows_first text (40 ∷ is.3.0) (44 ∷ is.1) (sym (row_first text (44 ∷ is.1) row is.0 is.2 is.3))
    ∙ ap (λ o. row_before o (rows_from (pieces 41 (44 ∷ is.1)))) (opened_spelled is.3.0 row is.3.2)
    ∙ ap (λ (o : Option Batch). option_map (λ rs. row ∷ rs) o) (rows_spelled (next ∷ rows) is.1 is.4)

pub rows_are_spelled : RowsAreReadAsSpelled
rows_are_spelled text rows = (rows_read rows text, rows_spelled rows text)
