-- A part is made and written: what is refused on the way, and what is written.
use Rattle.std.specs.Prelude.{◌≡◌, ◌⊎◌, ℕ, Bool, true, false, List, Option, Result, Ok, Err}
use Rattle.std.proofs.Common.{refl, sym, ap, subst, inl, inr}
use Rattle.table_model.specs.Faults.{AppendsFront}
use Rattle.table_model.specs.Table.{Table}
use Rattle.table_model.specs.declared.refusal.Refusal.{Refusal}
use Rattle.table_model.specs.declared.refusal.Refusal.TheVariants.{Memory, WriteFault}
use Rattle.replica_store.specs.Replica.{Replica, new_replica}
use Rattle.replica_store.specs.Segments.{StoreForm}
use Rattle.replica_changes.specs.Brings.{BringsTo}
use Rattle.replica_changes.specs.CommandForms.{AnswerForm, answer_of, has_changed}
use Rattle.replica_changes.specs.Commands.{Made, Puts, Refuses, WritesFront, file_made, file_of}
use Rattle.replica_changes.specs.declared.command.Answer.{Answer}
use Rattle.replica_changes.proofs.FileLaws.{ok_one}
use Rattle.folder_parts.specs.PartsPut.{empty_replica, WritesPart, PutsPart, TellsChange}

-- memory lacked before anything was written
pub puts_lacks : {X Y : Type 0} (view : X → Y) (is_some : X → Bool) (e : Refusal) (known : Option (List ℕ)) (made : Made Y) → e ≡ Memory → PutsPart {X = X} view is_some (Err e) known known made
puts_lacks view is_some e known made lack = inl (refl, inr (inl lack))

-- what the command refuses, or memory
pub puts_refused : {X Y : Type 0} (view : X → Y) (is_some : X → Bool) (e : Refusal) (known : Option (List ℕ)) (made : Made Y) → (made ≡ Err e) ⊎ (e ≡ Memory) → PutsPart {X = X} view is_some (Err e) known known made
puts_refused view is_some e known made (inl refused) = inl (refl, inl (ap file_made refused))
puts_refused view is_some e known made (inr lack) = inl (refl, inr (inl lack))

-- written, or nothing was to be written
pub puts_written : {X Y : Type 0} (view : X → Y) (is_some : X → Bool) (x : X) (b : Bool) (before now : Option (List ℕ)) (part : Replica) (done : Unit {0}) (made : Made Y) → is_some x ≡ b → made ≡ Ok (view x, part)
    → Puts b (Ok done) before now part → PutsPart view is_some (Ok x) before now made
puts_written view is_some x true before now part done made same is put = (part, is, subst (λ (b : Bool). WritesPart b before now part) (sym same) put)
puts_written view is_some x false before now part done made same is put = (part, is, subst (λ (b : Bool). WritesPart b before now part) (sym same) put)

-- refused as it was written
pub puts_unwritten : {X Y : Type 0} (view : X → Y) (is_some : X → Bool) (y : Y) (b : Bool) (e : Refusal) (before now : Option (List ℕ)) (part : Replica) (made : Made Y) → made ≡ Ok (y, part)
    → Puts b (Err e) before now part → PutsPart {X = X} view is_some (Err e) before now made
puts_unwritten {X = X} {Y = Y} view is_some y true e before now part made is put = of put
  where
    of : ((e ≡ Memory) × (now ≡ before)) ⊎ ((e ≡ WriteFault) × AppendsFront before now (file_of part)) → Refuses e before now (file_made made)
    of (inl lack) = inl (lack.1, inr (inl lack.0))
    of (inr fault) = inr (fault.0, subst (λ (m : Made Y). WritesFront before now (file_made m)) (sym is) fault.1)
puts_unwritten view is_some y false e before now part made is put = absurd put

-- a store of a table without batches and deletions
pub new_is : (table : Table) (r : Replica) → new_replica table (record { 0 = 1 }) ≡ Ok r → r ≡ empty_replica table
new_is table r made = sym (ok_one (empty_replica table) r made)

-- ---- commands

-- what a command puts, and tells, of an empty table that was made
pub alone_puts : (result : Result Answer Refusal) (before now : Option (List ℕ)) (table : Table) (r : Replica) (made : Replica → Made AnswerForm) → new_replica table (record { 0 = 1 }) ≡ Ok r
    → PutsPart answer_of has_changed result before now (made r) → PutsPart answer_of has_changed result before now (made (empty_replica table))
alone_puts result before now table r made empty puts = subst (λ (x : Replica). PutsPart answer_of has_changed result before now (made x)) (new_is table r empty) puts

pub alone_tells : (result : Result Answer Refusal) (table : Table) (r : Replica) (made : Replica → Made AnswerForm) → new_replica table (record { 0 = 1 }) ≡ Ok r
    → TellsChange answer_of has_changed result r (made r) → TellsChange answer_of has_changed result (empty_replica table) (made (empty_replica table))
alone_tells result table r made empty tells = subst (λ (x : Replica). TellsChange answer_of has_changed result x (made x)) (new_is table r empty) tells

-- what was brought is what is put
pub brought_refused : {X Y : Type 0} (view : X → Y) (changed : X → Bool) (e : Refusal) (held : StoreForm) (brought made : Made Y) → BringsTo {X = X} view changed (Err e) held brought made → (brought ≡ Err e) ⊎ (e ≡ Memory)
brought_refused view changed e held brought made (inl refused) = inl refused.0
brought_refused view changed e held brought made (inr lack) = inr lack
