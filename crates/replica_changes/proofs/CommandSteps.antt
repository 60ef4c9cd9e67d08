-- A call on a file, step by step: the file is read, the command acts on its replica, and the file is written anew where that changed.
use Rattle.std.specs.Prelude.{◌≡◌, ◌≢◌, ◌⊎◌, ℕ, Bool, true, false, cond, List, Option, Some, None, Result, Ok, Err, IsTrue, IsOk, IfErr, OnOk}
use Rattle.std.proofs.Common.{refl, sym, ap, subst, ◌∙◌, inl, inr}
use Rattle.std.specs.Io.KnownBytes.{Appends}
use Rattle.table_model.specs.Faults.{AppendsFront, CountsReads, CountsWrites, CountsBoth}
use Rattle.table_model.specs.Identifier.{same_text}
use Rattle.table_model.specs.Outcome.{Gives}
use Rattle.table_model.specs.Reading.{◌>>=◌}
use Rattle.table_model.specs.State.{empty_state}
use Rattle.table_model.specs.Table.{Table}
use Rattle.table_model.specs.declared.refusal.Refusal.{Refusal}
use Rattle.table_model.specs.declared.refusal.Refusal.TheVariants.{Memory, ReadFault, WriteFault, NotCanonical}
use Rattle.table_model.proofs.SameTable.{one_text}
use Rattle.replica_store.specs.Exchange.{OfferForm, offering}
use Rattle.replica_store.specs.Replica.{Replica, new_replica}
use Rattle.column_file.specs.Files.{canonical_file, canonical_read, judged, offer_read, first_difference, Exports, OpensTo}
use Rattle.column_file.specs.Input.{Judges, IsUnread, is_refusal_of_reading}
use Rattle.replica_reports.specs.Held.{held_in}
use Rattle.replica_changes.specs.Commands.{file_of, as_held, Made, file_made, WritesFront, Refuses, Leaves, Changes, Makes, Puts, CreatesOf}

-- ---- what was read is the canonical file of what it holds

ok_one : {X : Type 0} (x y : X) → ◌≡◌ {A = Result X Refusal} (Ok x) (Ok y) → x ≡ y
ok_one x y e = cc

judged_file : (bytes file : List ℕ) (o : OfferForm) (r : Replica) (b : Bool) → file ≡ canonical_file o.schema o.state → same_text bytes file ≡ b
    → (cond b (Ok o) (Err (NotCanonical (first_difference bytes file))) >>= λ (x : OfferForm). Ok (offering (record { 0 = 1 }) x)) ≡ Ok r → bytes ≡ file_of r
judged_file bytes file o r true is t made =
    let held : offering (record { 0 = 1 }) o ≡ r = ok_one (offering (record { 0 = 1 }) o) r made in
    one_text bytes file t ∙ is ∙ ap file_of held
judged_file bytes file o r false is t made = cc

read_file : (bytes : List ℕ) (r : Replica) (x : Result OfferForm Refusal) → (x >>= judged bytes >>= λ (o : OfferForm). Ok (offering (record { 0 = 1 }) o)) ≡ Ok r → bytes ≡ file_of r
read_file bytes r (Ok o) made = judged_file bytes (canonical_file o.schema o.state) o r (same_text bytes (canonical_file o.schema o.state)) refl refl made
read_file bytes r (Err e) made = cc

-- bytes that hold a replica are its file
pub file_read : (bytes : List ℕ) (r : Replica) → held_in bytes ≡ Ok r → bytes ≡ file_of r
file_read bytes r is = read_file bytes r (offer_read bytes) is

-- what a file holds has the own origin 1
own_read : (r : Replica) (x : Result OfferForm Refusal) → (x >>= λ (o : OfferForm). Ok (offering (record { 0 = 1 }) o)) ≡ Ok r → r ≡ as_held r
own_read r (Ok o) made =
    let held : offering (record { 0 = 1 }) o ≡ r = ok_one (offering (record { 0 = 1 }) o) r made in
    sym held ∙ ap as_held held
own_read r (Err e) made = cc

pub own_one : (bytes : List ℕ) (r : Replica) → held_in bytes ≡ Ok r → r ≡ as_held r
own_one bytes r is = own_read r (canonical_read bytes) is

-- ---- refused as the file is read

pub refused_before : (e : Refusal) (known : Option (List ℕ)) (written : Result (List ℕ) Refusal) → (written ≡ Err e) ⊎ IsUnread e → Refuses e known known written
refused_before e known written why = inl (refl, why)

reading_why : {X : Type 0} (view : X → Replica) (e : Refusal) (bytes : List ℕ) (written : Result (List ℕ) Refusal)
    → (held_in bytes ≡ Err e → written ≡ Err e) → Judges {X = X} view (Err e) (Some bytes) held_in → (written ≡ Err e) ⊎ IsUnread e
reading_why view Memory bytes written to h = inr (inl refl)
reading_why view ReadFault bytes written to h = inr (inr refl)
reading_why view other bytes written to h = inl (to (h (λ is. cc) (λ is. cc)))

pub opening_changes : {X Y Z : Type 0} (read : Z → Replica) (view : X → Y) (changed : X → Bool) (e : Refusal) (input known : Option (List ℕ)) (command : Replica → Made Y)
    → Judges {X = Z} read (Err e) input held_in → Changes view changed (Err e) input known known command
opening_changes read view changed e None known command h = tt
opening_changes read view changed e (Some bytes) known command h =
    refused_before e known (file_made (held_in bytes >>= command)) (reading_why read e bytes (file_made (held_in bytes >>= command)) (λ is. ap (λ (x : Result Replica Refusal). file_made (x >>= command)) is) h)

-- the counts after a refusal of reading
pub reading_counts : (many : Type 0) (e : Refusal) (r r' w : ℕ) → IsTrue (is_refusal_of_reading e) → CountsReads many e r r' → CountsBoth many e r r' w w
reading_counts many ReadFault r r' w listed h = (h, refl)
reading_counts many WriteFault r r' w listed h = let wrong : false ≡ true = listed in absurd cc
reading_counts many other r r' w listed h = (h, refl)

-- whether a refusal is neither a read nor a write that failed, so that it is counted nowhere
abbrev pub is_uncounted : Refusal → Bool
is_uncounted ReadFault = false
is_uncounted WriteFault = false
is_uncounted other = true

-- and after one of the command
pub command_counts : (many : Type 0) (e : Refusal) (r r' w : ℕ) → r' ≡ r → IsTrue (is_uncounted e) → CountsBoth many e r r' w w
command_counts many ReadFault r r' w same listed = let wrong : false ≡ true = listed in absurd cc
command_counts many WriteFault r r' w same listed = let wrong : false ≡ true = listed in absurd cc
command_counts many other r r' w same listed = (same, refl)

-- and after one of writing
pub writing_counts : (many : Type 0) (e : Refusal) (r r' w w' : ℕ) → r' ≡ r → (e ≡ Memory) ⊎ (e ≡ WriteFault) → CountsWrites e w w' → CountsBoth many e r r' w w'
writing_counts many e r r' w w' same (inl is) h =
    let P : Refusal → Type 0 = λ x. CountsWrites x w w' → CountsBoth many x r r' w w' in subst P (sym is) (λ c. (same, c)) h
writing_counts many e r r' w w' same (inr is) h =
    let P : Refusal → Type 0 = λ x. CountsWrites x w w' → CountsBoth many x r r' w w' in subst P (sym is) (λ c. (same, c)) h

-- ---- refused by the command

pub command_changes : {X Y Z : Type 0} (read : Z → Replica) (z : Z) (view : X → Y) (changed : X → Bool) (e : Refusal) (input known : Option (List ℕ)) (new : Replica) (command : Replica → Made Y)
    → Judges read (Ok z) input held_in → Makes {X = X} view changed (read z) (Err e) new (command (read z)) → Changes view changed (Err e) input known known command
command_changes read z view changed e None known new command h made = tt
command_changes {Y = Y} read z view changed e (Some bytes) known new command h (inl is) =
    refused_before e known (file_made (held_in bytes >>= command)) (inl (ap (λ (x : Result Replica Refusal). file_made (x >>= command)) h ∙ ap (λ (m : Made Y). file_made m) is))
command_changes read z view changed e (Some bytes) known new command h (inr is) =
    refused_before e known (file_made (held_in bytes >>= command)) (inr (inl is))

-- ---- written, or refused as the file is written

pub written_changes : {X Y Z : Type 0} (read : Z → Replica) (z : Z) (view : X → Y) (changed : X → Bool) (x : X) (b : Bool) (input before now : Option (List ℕ)) (new : Replica) (command : Replica → Made Y)
    → changed x ≡ b → Judges read (Ok z) input held_in → Makes view changed (read z) (Ok x) new (command (read z)) → Puts b (Ok tt) before now new
    → Changes view changed (Ok x) input before now command
written_changes read z view changed x b None before now new command same h made put = tt
written_changes read z view changed x true (Some bytes) before now new command same h made put =
    let P : Bool → Type 0 = λ c. Leaves c bytes before now (file_of new) in
    (read z, new, file_read bytes (read z) h, h, made.0, subst P (sym same) put.0, put.1, made.1)
written_changes read z view changed x false (Some bytes) before now new command same h made put =
    let P : Bool → Type 0 = λ c. Leaves c bytes before now (file_of new) in
    let left : bytes ≡ file_of new = file_read bytes (read z) h ∙ ap file_of (sym (made.1.0 same)) in
    let stays : new ≡ read z = made.1.0 same in
    let again : held_in (file_of new) ≡ Ok (as_held new) = ap held_in (sym left) ∙ h ∙ ap Ok (own_one bytes (read z) h) ∙ ap (λ (r : Replica). Ok (as_held r)) (sym stays) in
    (read z, new, file_read bytes (read z) h, h, made.0, subst P (sym same) (put, left), again, made.1)

puts_why : (b : Bool) (e : Refusal) (before now : Option (List ℕ)) (r : Replica) → Puts b (Err e) before now r
    → ((e ≡ Memory) × (now ≡ before)) ⊎ ((e ≡ WriteFault) × AppendsFront before now (file_of r))
puts_why true e before now r h = h
puts_why false e before now r h = absurd h

unwritten_why : {Y : Type 0} (e : Refusal) (before now : Option (List ℕ)) (made : Made Y) (answer : Y) (new : Replica)
    → made ≡ Ok (answer, new) → ((e ≡ Memory) × (now ≡ before)) ⊎ ((e ≡ WriteFault) × AppendsFront before now (file_of new)) → Refuses e before now (file_made made)
unwritten_why e before now made answer new is (inl h) = inl (h.1, inr (inl h.0))
unwritten_why {Y = Y} e before now made answer new is (inr h) =
    let P : Made Y → Type 0 = λ m. WritesFront before now (file_made m) in inr (h.0, subst P (sym is) h.1)

pub unwritten_changes : {X Y Z : Type 0} (read : Z → Replica) (z : Z) (view : X → Y) (changed : X → Bool) (x : X) (b : Bool) (e : Refusal) (input before now : Option (List ℕ)) (new : Replica) (command : Replica → Made Y)
    → Judges read (Ok z) input held_in → Makes view changed (read z) (Ok x) new (command (read z)) → Puts b (Err e) before now new
    → Changes view changed (Err e) input before now command
unwritten_changes read z view changed x b e None before now new command h made put = tt
unwritten_changes read z view changed x b e (Some bytes) before now new command h made put =
    unwritten_why e before now (held_in bytes >>= command) (view x) new (ap (λ (r : Result Replica Refusal). r >>= command) h ∙ made.0) (puts_why b e before now new put)

-- what a refusal of writing is
pub writing_is : (b : Bool) (e : Refusal) (before now : Option (List ℕ)) (r : Replica) → Puts b (Err e) before now r → (e ≡ Memory) ⊎ (e ≡ WriteFault)
writing_is b e before now r put = of (puts_why b e before now r put)
  where
    of : ((e ≡ Memory) × (now ≡ before)) ⊎ ((e ≡ WriteFault) × AppendsFront before now (file_of r)) → (e ≡ Memory) ⊎ (e ≡ WriteFault)
    of (inl h) = inl h.0
    of (inr h) = inr h.0

-- and that nothing was written unless it is WriteFault
pub writing_none : (b : Bool) (e : Refusal) (before now : Option (List ℕ)) (r : Replica) → Puts b (Err e) before now r → e ≢ WriteFault → now ≡ before
writing_none b e before now r put other = of (puts_why b e before now r put)
  where
    of : ((e ≡ Memory) × (now ≡ before)) ⊎ ((e ≡ WriteFault) × AppendsFront before now (file_of r)) → now ≡ before
    of (inl h) = h.1
    of (inr h) = absurd (other h.0)

-- ---- writing

pub exported_put : (e : Refusal) (before now : Option (List ℕ)) (w w' : ℕ) (file : List ℕ) → Exports (Err e) before now w w' file
    → ((e ≡ Memory) × (now ≡ before)) ⊎ ((e ≡ WriteFault) × AppendsFront before now file)
exported_put Memory before now w w' file h = inl (refl, h.0)
exported_put other before now w w' file h = inr (h.0, h.2)

-- a file that opens to a replica's table and state is read as that replica
pub opened_as : (r : Replica) → OpensTo (file_of r) r.schema r.state → held_in (file_of r) ≡ Ok (as_held r)
opened_as r (o, is, schema, state, segments) =
    ap (λ (x : Result OfferForm Refusal). x >>= λ (p : OfferForm). Ok (offering (record { 0 = 1 }) p)) is
    ∙ (λ i. let held : Result Replica Refusal = Ok (record { schema = schema i; own = record { 0 = 1 }; state = state i }) in held)

-- a file that is exported is put there
pub export_puts : (result : Result (Unit {0}) Refusal) (before now : Option (List ℕ)) (w w' : ℕ) (r : Replica)
    → Exports result before now w w' (file_of r) → OnOk result (OpensTo (file_of r) r.schema r.state) → Puts true result before now r
export_puts (Ok done) before now w w' r h opens = (h.0, opened_as r opens)
export_puts (Err e) before now w w' r h opens = exported_put e before now w w' (file_of r) h

-- and its failures are counted
pub export_counts : (result : Result (Unit {0}) Refusal) (before now : Option (List ℕ)) (w w' : ℕ) (file : List ℕ) → Exports result before now w w' file → IfErr result (λ e. CountsWrites e w w')
export_counts (Ok done) before now w w' file h = tt
export_counts (Err Memory) before now w w' file h = h.1
export_counts (Err WriteFault) before now w w' file h = h.1
export_counts (Err other) before now w w' file h = let bad : other ≡ WriteFault = h.0 in cc

-- ---- a file that is made

pub create_refused : {X : Type 0} (view : X → Table) (e : Refusal) (known : Option (List ℕ)) (made : Result Table Refusal) → Gives {X = X} view (Err e) made → CreatesOf (Err e) known known made
create_refused view e known made (inl refused) = inl (refl, inl refused)
create_refused view e known made (inr lack) = inl (refl, inr lack.0)

pub create_lacks : (e : Refusal) (known : Option (List ℕ)) (made : Result Table Refusal) → e ≡ Memory → CreatesOf (Err e) known known made
create_lacks e known made lack = inl (refl, inr lack)

created_why : (e : Refusal) (before now : Option (List ℕ)) (made : Result Table Refusal) (table : Table) (file : List ℕ) → made ≡ Ok table → file ≡ canonical_file table empty_state
    → ((e ≡ Memory) × (now ≡ before)) ⊎ ((e ≡ WriteFault) × AppendsFront before now file) → CreatesOf (Err e) before now made
created_why e before now made table file is same (inl h) = inl (h.1, inr h.0)
created_why e before now made table file is same (inr h) = inr (h.0, (table, is, subst (AppendsFront before now) same h.1))

pub create_written : (result : Result (Unit {0}) Refusal) (before now : Option (List ℕ)) (w w' : ℕ) (made : Result Table Refusal) (table : Table) (file : List ℕ) → made ≡ Ok table → file ≡ canonical_file table empty_state
    → Exports result before now w w' file → CreatesOf result before now made
create_written (Ok done) before now w w' made table file is same h = (table, is, subst (Appends before now) same h.0)
create_written (Err e) before now w w' made table file is same h = created_why e before now made table file is same (exported_put e before now w w' file h)

-- a new store is that of an empty state
pub new_is_empty : (table : Table) (r : Replica) → new_replica table (record { 0 = 1 }) ≡ Ok r → file_of r ≡ canonical_file table empty_state
new_is_empty table r made = ap file_of (sym (ok_one (record { schema = table; own = record { 0 = 1 }; state = empty_state }) r made))

pub new_lacks : (table : Table) (e : Refusal) → (new_replica table (record { 0 = 1 }) ≡ Err e) ⊎ ((e ≡ Memory) × IsOk (new_replica table (record { 0 = 1 }))) → e ≡ Memory
new_lacks table e (inl refused) = cc
new_lacks table e (inr lack) = lack.0

-- a call that gives a value is refused for want of memory alone
pub lacks_memory : {X : Type 0} (x : X) (e : Refusal) (made : Result X Refusal) → made ≡ Ok x → (made ≡ Err e) ⊎ ((e ≡ Memory) × IsOk made) → e ≡ Memory
lacks_memory x e made is (inl refused) = cc
lacks_memory x e made is (inr lack) = lack.0
