-- How a refused call on a file ends: refused as the file is read, by the command, or as the file is written; and which refusals a new file has.
use Rattle.std.specs.Prelude.{◌≡◌, ◌⊎◌, ℕ, Bool, true, false, ◌||◌, cond, List, Option, Some, None, Result, Ok, Err, IsTrue, IfErr}
use Rattle.std.proofs.Common.{refl, sym, ap, ◌∙◌, inl, inr}
use Rattle.table_model.specs.Faults.{AppendsFront, GaveMore, CountsWrites}
use Rattle.table_model.specs.Outcome.{Gives}
use Rattle.table_model.specs.Table.{Table, schema_of, folded_table, is_schema}
use Rattle.table_model.specs.declared.schema.ColType.{ColType}
use Rattle.table_model.specs.declared.refusal.Refusal.{Refusal}
use Rattle.table_model.specs.declared.refusal.Refusal.TheVariants.{Memory, ReadFault, WriteFault, BadSchema}
use Rattle.column_file.specs.Files.{Exports}
use Rattle.column_file.specs.Input.{Judges, IsReadWhole, StopsReading, is_refusal_of_reading}
use Rattle.replica_store.specs.Replica.{Replica}
use Rattle.replica_reports.specs.Held.{held_in}
use Rattle.replica_changes.specs.Commands.{Made, Makes, Puts}
use Rattle.replica_changes.specs.Refusals.{is_refusal_of_create, reading_or, on_file, ComesOf, EndsRefused}
use Rattle.replica_changes.proofs.CommandSteps.{is_uncounted, reading_counts, command_counts, writing_counts, writing_is, writing_none, exported_put}

-- ---- refusals that are listed

or_first : (a b : Bool) → IsTrue a → IsTrue (a || b)
or_first true b is = refl
or_first false b is = cc

or_second : (a b : Bool) → IsTrue b → IsTrue (a || b)
or_second true b is = refl
or_second false b is = is

pub or_reading : (is_refusal : Refusal → Bool) (e : Refusal) → IsTrue (is_refusal_of_reading e) → IsTrue (reading_or is_refusal e)
or_reading is_refusal e listed = or_first (is_refusal_of_reading e) (is_refusal e) listed

pub or_command : (is_refusal : Refusal → Bool) (e : Refusal) → IsTrue (is_refusal e) → IsTrue (reading_or is_refusal e)
or_command is_refusal e listed = or_second (is_refusal_of_reading e) (is_refusal e) listed

pub listed_on_file : (is_refusal : Refusal → Bool) (e : Refusal) → IsTrue (reading_or is_refusal e) → IsTrue (on_file is_refusal e)
listed_on_file is_refusal WriteFault listed = refl
listed_on_file is_refusal other listed = listed

pub writing_listed : (is_refusal : Refusal → Bool) (e : Refusal) → (e ≡ Memory) ⊎ (e ≡ WriteFault) → IsTrue (on_file is_refusal e)
writing_listed is_refusal e (inl is) = ap (on_file is_refusal) is
writing_listed is_refusal e (inr is) = ap (on_file is_refusal) is

-- a refusal of a command is neither a failed read nor a failed write
pub listed_uncounted : (is_refusal : Refusal → Bool) (e : Refusal) → is_refusal ReadFault ≡ false → is_refusal WriteFault ≡ false → IsTrue (is_refusal e) → IsTrue (is_uncounted e)
listed_uncounted is_refusal ReadFault read write listed = sym read ∙ listed
listed_uncounted is_refusal WriteFault read write listed = sym write ∙ listed
listed_uncounted is_refusal other read write listed = refl

-- ---- what a refusal comes of

same_judged : {Z : Type 0} (read : Z → Replica) (z : Z) (input : Option (List ℕ)) → Judges read (Ok z) input held_in → Judges (λ (r : Replica). r) (Ok (read z)) input held_in
same_judged read z None h = tt
same_judged read z (Some bytes) h = h

command_why : {X Y Z : Type 0} (input : Option (List ℕ)) (command : Replica → Made Y) (read : Z → Replica) (z : Z) (view : X → Y) (changed : X → Bool) (new : Replica) (e : Refusal)
    → Judges read (Ok z) input held_in → Makes {X = X} view changed (read z) (Err e) new (command (read z)) → ComesOf command input e
command_why input command read z view changed new e h (inl refused) = inr (inl (read z, same_judged read z input h, refused))
command_why input command read z view changed new e h (inr lack) = inl (ap is_refusal_of_reading lack)

writing_why : {Y : Type 0} (input : Option (List ℕ)) (command : Replica → Made Y) (e : Refusal) → (e ≡ Memory) ⊎ (e ≡ WriteFault) → ComesOf command input e
writing_why input command e (inl is) = inl (ap is_refusal_of_reading is)
writing_why input command e (inr is) = inr (inr is)

-- ---- the whole call

-- refused as the file is read
pub opening_ends : {D E Y : Type 0} (remaining : D → Option (List ℕ)) (contents : E → Option (List ℕ)) (is_refusal : Refusal → Bool) (command : Replica → Made Y) (reader reader' : D × ℕ) (writer : E × ℕ) (e : Refusal)
    → StopsReading remaining is_refusal_of_reading reader reader' e → EndsRefused remaining contents is_refusal command reader reader' writer writer e
opening_ends remaining contents is_refusal command reader reader' writer e h = record {
  listed = listed_on_file is_refusal e (or_reading is_refusal e h.listed);
  why = inl h.listed;
  whole = h.whole;
  unwritten = λ other. refl;
  counts = reading_counts (GaveMore (remaining reader.0) (remaining reader'.0)) e reader.1 reader'.1 writer.1 h.listed h.counts;
}

-- refused by the command
pub command_ends : {D E X Y Z : Type 0} (remaining : D → Option (List ℕ)) (contents : E → Option (List ℕ)) (is_refusal : Refusal → Bool) (command : Replica → Made Y) (reader reader' : D × ℕ) (writer : E × ℕ)
    (read : Z → Replica) (z : Z) (view : X → Y) (changed : X → Bool) (new : Replica) (e : Refusal)
    → is_refusal ReadFault ≡ false → is_refusal WriteFault ≡ false → Judges read (Ok z) (remaining reader.0) held_in → IsReadWhole remaining reader reader' → Makes {X = X} view changed (read z) (Err e) new (command (read z)) → IsTrue (is_refusal e)
    → EndsRefused remaining contents is_refusal command reader reader' writer writer e
command_ends remaining contents is_refusal command reader reader' writer read z view changed new e no_read no_write h whole makes listed = record {
  listed = listed_on_file is_refusal e (or_command is_refusal e listed);
  why = command_why (remaining reader.0) command read z view changed new e h makes;
  whole = λ memory failed. (whole.within, whole.end);
  unwritten = λ other. refl;
  counts = command_counts (GaveMore (remaining reader.0) (remaining reader'.0)) e reader.1 reader'.1 writer.1 whole.kept (listed_uncounted is_refusal e no_read no_write listed);
}

-- refused as the file is written
pub writing_ends : {D E Y : Type 0} (remaining : D → Option (List ℕ)) (contents : E → Option (List ℕ)) (is_refusal : Refusal → Bool) (command : Replica → Made Y) (reader reader' : D × ℕ) (writer writer' : E × ℕ) (b : Bool) (new : Replica) (e : Refusal)
    → IsReadWhole remaining reader reader' → Puts b (Err e) (contents writer.0) (contents writer'.0) new → CountsWrites e writer.1 writer'.1
    → EndsRefused remaining contents is_refusal command reader reader' writer writer' e
writing_ends remaining contents is_refusal command reader reader' writer writer' b new e whole put counts =
    let why = writing_is b e (contents writer.0) (contents writer'.0) new put in
    record {
      listed = writing_listed is_refusal e why;
      why = writing_why (remaining reader.0) command e why;
      whole = λ memory failed. (whole.within, whole.end);
      unwritten = writing_none b e (contents writer.0) (contents writer'.0) new put;
      counts = writing_counts (GaveMore (remaining reader.0) (remaining reader'.0)) e reader.1 reader'.1 writer.1 writer'.1 whole.kept why counts;
    }

-- a call whose reader was read whole has no memory
pub memory_stops : {D : Type 0} (remaining : D → Option (List ℕ)) (reader reader' : D × ℕ) → IsReadWhole remaining reader reader' → StopsReading remaining is_refusal_of_reading reader reader' Memory
memory_stops remaining reader reader' whole = record { listed = refl; whole = λ memory failed. (whole.within, whole.end); counts = whole.kept }

-- ---- a file that is made

schema_listed : (table : List ℕ) (columns : List (List ℕ × ColType)) (e : Refusal) (b : Bool) → ◌≡◌ {A = Result Table Refusal} (cond b (Ok (folded_table table columns)) (Err BadSchema)) (Err e) → IsTrue (is_refusal_of_create e)
schema_listed table columns e true is = cc
schema_listed table columns e false is = let same : BadSchema ≡ e = cc in ap is_refusal_of_create (sym same)

pub create_listed : {X : Type 0} (view : X → Table) (e : Refusal) (table : List ℕ) (columns : List (List ℕ × ColType)) → Gives {X = X} view (Err e) (schema_of table columns) → IsTrue (is_refusal_of_create e)
create_listed view e table columns (inl refused) = schema_listed table columns e (is_schema table columns) refused
create_listed view e table columns (inr lack) = ap is_refusal_of_create lack.0

put_listed : (e : Refusal) (before now : Option (List ℕ)) (file : List ℕ) → ((e ≡ Memory) × (now ≡ before)) ⊎ ((e ≡ WriteFault) × AppendsFront before now file) → IsTrue (is_refusal_of_create e)
put_listed e before now file (inl h) = ap is_refusal_of_create h.0
put_listed e before now file (inr h) = ap is_refusal_of_create h.0

pub export_listed : (result : Result (Unit {0}) Refusal) (before now : Option (List ℕ)) (w w' : ℕ) (file : List ℕ) → Exports result before now w w' file → IfErr result (λ e. IsTrue (is_refusal_of_create e))
export_listed (Ok done) before now w w' file h = tt
export_listed (Err e) before now w w' file h = put_listed e before now file (exported_put e before now w w' file h)
