-- A call that reads rows begins the text first, unless that was done: what it says of the rows holds from its start on.
use Rattle.std.specs.Prelude.{◌≡◌, ◌⊎◌, ℕ, Bool, true, false, not, List, Option, Some, None, Result, Ok, Err, OnOk, IfErr, IfNone}
use Rattle.std.specs.Option.{is_some}
use Rattle.std.proofs.Common.{refl, ap, ◌∙◌, subst, inl, inr}
use Rattle.table_model.specs.State.{Batch}
use Rattle.csv_rows.specs.Reading.{Reading, RowsOfLines, Begins, Began, CountsOn, GoesOn, IsAtLine, Refuses, RefusesOn}
use Rattle.csv_rows.specs.declared.error.CsvError.{CsvError}
use Rattle.csv_rows.proofs.Begins.{Same, fault_after_begin}
use Rattle.csv_rows.proofs.Takings.{goes_first, goes_later, began_first, began_later, counts_first, counts_later, at_line_after_begin, refuses_on}

-- how a call came to read rows: it began the text, or went on
pub record Started (old mid : Reading) (a b : Option (List ℕ)) : Type 0 where
  pub table : mid.table ≡ old.table
  pub dialect : mid.dialect ≡ old.dialect
  pub how : ((old.order ≡ None) × (old.number ≡ 0) × Begins old mid a b × Same old mid a b) ⊎ ((order : List (Option ℕ)) × (old.order ≡ Some order) × (mid ≡ old) × (b ≡ a))

-- what it read
pub record Read (mid new : Reading) (rows rows' : Batch) (b c : Option (List ℕ)) : Type 0 where
  pub order : new.order ≡ mid.order
  pub table : new.table ≡ mid.table
  pub dialect : new.dialect ≡ mid.dialect
  pub takes : RowsOfLines mid new rows rows' b c

pub goes_on : (old mid new : Reading) (rows rows' : Batch) (a b c : Option (List ℕ)) → Started old mid a b → Read mid new rows rows' b c → GoesOn old new rows rows' a c
goes_on old mid new rows rows' a b c start read = by start.how where
  by : ((old.order ≡ None) × (old.number ≡ 0) × Begins old mid a b × Same old mid a b) ⊎ ((order : List (Option ℕ)) × (old.order ≡ Some order) × (mid ≡ old) × (b ≡ a)) → GoesOn old new rows rows' a c
  by (inl h) = goes_first old mid new rows rows' a b c h.0 start.table start.dialect read.order read.table read.dialect h.2 read.takes
  by (inr h) = subst (λ (m : Reading). GoesOn m new rows rows' a c) h.2 (subst (λ (x : Option (List ℕ)). GoesOn mid new rows rows' x c) h.3 (goes_later mid new rows rows' b c read.order read.table read.dialect read.takes))

pub counts_on : (old mid new : Reading) (rows rows' : Batch) (a b c : Option (List ℕ)) → Started old mid a b → Read mid new rows rows' b c → CountsOn old new a c
counts_on old mid new rows rows' a b c start read = by start.how where
  by : ((old.order ≡ None) × (old.number ≡ 0) × Begins old mid a b × Same old mid a b) ⊎ ((order : List (Option ℕ)) × (old.order ≡ Some order) × (mid ≡ old) × (b ≡ a)) → CountsOn old new a c
  by (inl h) = counts_first old mid new rows rows' a b c h.1 h.2 read.takes
  by (inr h) = subst (λ (m : Reading). CountsOn m new a c) h.2 (subst (λ (x : Option (List ℕ)). CountsOn mid new x c) h.3 (counts_later mid new rows rows' b c read.takes))

pub began : (old mid new : Reading) (a b : Option (List ℕ)) → Started old mid a b → new.order ≡ mid.order → Began old new a
began old mid new a b start kept = by start.how where
  by : ((old.order ≡ None) × (old.number ≡ 0) × Begins old mid a b × Same old mid a b) ⊎ ((order : List (Option ℕ)) × (old.order ≡ Some order) × (mid ≡ old) × (b ≡ a)) → Began old new a
  by (inl h) = began_first old mid new a b h.0 kept h.2
  by (inr h) = began_later old new h.0 a h.1 (kept ∙ ap (λ (m : Reading). m.order) h.2)

pub at_line : (old mid new : Reading) (a b c : Option (List ℕ)) → Started old mid a b → IsAtLine new b c → IsAtLine new a c
at_line old mid new a b c start at = by start.how where
  by : ((old.order ≡ None) × (old.number ≡ 0) × Begins old mid a b × Same old mid a b) ⊎ ((order : List (Option ℕ)) × (old.order ≡ Some order) × (mid ≡ old) × (b ≡ a)) → IsAtLine new a c
  by (inl h) = at_line_after_begin old mid new a b c h.3 at
  by (inr h) = subst (λ (x : Option (List ℕ)). IsAtLine new x c) h.3 at

pub refused_on : (old mid : Reading) (e : CsvError) (a b : Option (List ℕ)) → Started old mid a b → Refuses mid e b → RefusesOn old e a
refused_on old mid e a b start refused = by start.how where
  by : ((old.order ≡ None) × (old.number ≡ 0) × Begins old mid a b × Same old mid a b) ⊎ ((order : List (Option ℕ)) × (old.order ≡ Some order) × (mid ≡ old) × (b ≡ a)) → RefusesOn old e a
  by (inl h) = refuses_on old e a (fault_after_begin old mid e a b h.3 refused)
  by (inr h) = refuses_on old e a (subst (λ (m : Reading). Refuses m e a) h.2 (subst (λ (x : Option (List ℕ)). Refuses mid e x) h.3 refused))

-- ---- answers of calls

pub on_ok : {X E : Type 0} {A B : Type 0} (r : Result X E) → (A → B) → OnOk r A → OnOk r B
on_ok (Ok x) f h = f h
on_ok (Err e) f h = tt

pub if_err : {X E : Type 0} {A B : E → Type 0} (r : Result X E) → ((e : E) → A e → B e) → IfErr r (λ e. A e) → IfErr r (λ e. B e)
if_err (Ok x) f h = tt
if_err (Err e) f h = f e h

pub none_of : (o : Option (List (Option ℕ))) (t : Bool) → is_some o ≡ not t → t ≡ true → o ≡ None
none_of None t e h = refl
none_of (Some order) t e h = let apart : true ≡ false = e ∙ ap not h in cc

pub some_of : (o : Option (List (Option ℕ))) (t : Bool) → is_some o ≡ not t → t ≡ false → (order : List (Option ℕ)) × (o ≡ Some order)
some_of None t e h = let apart : false ≡ true = e ∙ ap not h in cc
some_of (Some order) t e h = (order, refl)

pub if_none : (o : Option (List (Option ℕ))) {A : Type 0} → IfNone o A → o ≡ None → A
if_none None h e = h
if_none (Some order) h e = cc
