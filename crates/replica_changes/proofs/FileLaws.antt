-- Each command adds to what its file holds, since what it makes is the state of more operations; and a state has one file.
use Rattle.std.specs.Prelude.{◌≡◌, ℕ, ◌-◌, true, false, cond, List, [], ◌∷◌, ◌++◌, length, Result, Ok, Err}
use Rattle.std.proofs.Common.{refl, sym, ap, subst, ◌∙◌, append_assoc, arith}
use Rattle.std.specs.FinMap as map
use Rattle.std.specs.FinSet as set
use Rattle.std.specs.List.{All}
use Rattle.std.proofs.lemmas.List.{nil_from_length}
use Rattle.std.proofs.lemmas.List.Elements.{All-nil}
use Rattle.table_model.specs.Name.{name_cmp}
use Rattle.table_model.specs.Operation.{Operation, AreAgreeing, state_of, operations_of}
use Rattle.table_model.specs.Reading.{◌>>=◌}
use Rattle.table_model.specs.State.{State, Batch, Agree, empty_state}
use Rattle.table_model.specs.Table.{Table, IsTable, is_schema, folded_table, schema_of}
use Rattle.table_model.specs.declared.schema.ColType.{ColType}
use Rattle.table_model.proofs.OwnTable.{IsTable-folded}
use Rattle.table_model.specs.declared.names.BatchName.{BatchName}
use Rattle.table_model.specs.declared.names.RowName.{RowName}
use Rattle.table_model.specs.declared.refusal.Refusal.{Refusal}
use Rattle.table_model.specs.declared.refusal.Refusal.TheVariants.{BadSchema}
use Rattle.table_model.proofs.Operations.{state_of-same, state_of-operations, AreAgreeing-operations, SameOperations-operations}
use Rattle.replica_store.specs.Exchange.{OfferForm, offering, applied}
use Rattle.replica_store.specs.ExchangeLaws.{IsOffer}
use Rattle.replica_store.proofs.ExchangeAnswers.{exchange_laws_hold}
use Rattle.replica_store.specs.Replica.{Replica, joined_with, with_deleted, deleted_rows, delete_fault, rows_between, merged}
use Rattle.replica_store.proofs.Limits.{ok_unless, IsWithinLimits-empty}
use Rattle.replica_store.proofs.MergeAnswers.{made_of}
use Rattle.store_view.specs.Asked.{condition_names}
use Rattle.catalogue_join.specs.RowRange.{rows_in as rows_deleted}
use Rattle.column_file.specs.Files.{canonical_file, ranges_of, HasFile, IsNumbered}
use Rattle.column_file.proofs.FileLaws.{files_open}
use Rattle.replica_reports.specs.Held.{held_in}
use Rattle.replica_changes.specs.Commands.{file_of, as_held, Made, deleting, applied_all, applying, merged_with}
use Rattle.replica_changes.specs.Loads.{LoadForm, named_batches, loaded, imported_as, importing_as}
use Rattle.replica_changes.specs.declared.importing.Imported.{Imported}
use Rattle.replica_changes.specs.FileLaws.{replica_of, Holds, AddsTo, inserts, deletes, deletes_found, deletes_where, operations_in, EachHolds, all_of, SameFiles, StartsEmpty, MergesHold, PullsBring, FileLaws}
use Rattle.replica_changes.proofs.OperationSets.{Adds, parts_agree, join-adds, merge-adds, delete-adds, state_of-inserts, named_agree}

pub ok_one : {X : Type 0} (x y : X) → ◌≡◌ {A = Result X Refusal} (Ok x) (Ok y) → x ≡ y
ok_one x y e = cc

-- what an answer after an answer is made of
pub bound_parts : {X Y : Type 0} (x : Result X Refusal) (next : X → Result Y Refusal) (y : Y) → (x >>= next) ≡ Ok y → (p : X) × (x ≡ Ok p) × (next p ≡ Ok y)
bound_parts (Ok p) next y e = (p, refl, e)
bound_parts (Err f) next y e = cc

-- a file of a replica that more was added to holds that
pub held_then : (table : Table) (ops more : List Operation) (new : Replica) → Adds table ops more new → held_in (file_of new) ≡ Ok (as_held new) → Holds (file_of new) table (more ++ ops)
held_then table ops more new a read = record {
  agree = a.agree;
  file = λ i. canonical_file (a.schema i) (a.state i);
  read = read ∙ (λ i. let held : Result Replica Refusal = Ok (record { schema = a.schema i; own = record { 0 = 1 }; state = a.state i }) in held);
}

-- what was read of a file that holds operations
held_is : (input : List ℕ) (table : Table) (ops : List Operation) (old : Replica) → Holds input table ops → held_in input ≡ Ok old → old ≡ replica_of table ops
held_is input table ops old h is = ok_one old (replica_of table ops) (sym is ∙ h.read)

-- ---- deletes

delete_holds : (text : List ℕ) → AddsTo (deleting text) (deletes_where text)
delete_holds text input table ops old new answer h is made read =
    let same = held_is input table ops old h is in
    let parts = bound_parts (condition_names text old.schema old.state) (λ (names : List RowName). let made : Made ℕ = Ok (length names, with_deleted old names) in made) (answer, new) made in
    let found : condition_names text table (state_of ops) ≡ Ok parts.0 = ap (λ (r : Replica). condition_names text r.schema r.state) (sym same) ∙ parts.1 in
    let adds : Adds table ops (deletes parts.0) new = delete-adds table ops old new parts.0 same h.agree (made_of (length parts.0) answer (with_deleted old parts.0) new parts.2) in
    let P : List Operation → Type 0 = λ more. Holds (file_of new) table (more ++ ops) in
    subst P (ap deletes_found (sym found)) (held_then table ops (deletes parts.0) new adds read)

delete_rows_holds : (first : RowName) (last : ℕ) → AddsTo (λ r. deleted_rows r first last) (λ table ops. deletes (rows_between first last))
delete_rows_holds first last input table ops old new answer h is made read =
    let same = held_is input table ops old h is in
    let met = ok_unless (delete_fault first last) (Ok (tt, with_deleted old (rows_between first last))) (answer, new) made in
    let adds = delete-adds table ops old new (rows_between first last) same h.agree (made_of tt answer (with_deleted old (rows_between first last)) new met.1) in
    held_then table ops (deletes (rows_between first last)) new adds read

-- ---- offers

pub applied-adds : (table : Table) (ops : List Operation) (r new : Replica) (offers : List OfferForm) (done : Unit {0}) → r.schema ≡ table → r.state ≡ state_of ops → AreAgreeing ops
    → applied_all r offers ≡ Ok (done, new) → Adds table ops (operations_in offers) new
applied-adds table ops r new [] done schema state agree e =
    let same : r ≡ new = made_of tt done r new e in
    record { schema = ap (λ (x : Replica). x.schema) (sym same) ∙ schema; state = ap (λ (x : Replica). x.state) (sym same) ∙ state; agree = agree }
applied-adds table ops r new (offer ∷ offers) done schema state agree e =
    let parts = bound_parts (applied r offer) (λ (p : Unit {0} × Replica). applied_all p.1 offers) (done, new) e in
    let more : List Operation = operations_of offer.state in
    let one : Adds table ops more parts.0.1 = merge-adds table ops more r (offering r.own offer) parts.0.1 parts.0.0 schema state (sym (state_of-operations offer.state)) agree (AreAgreeing-operations offer.state) parts.1 in
    let rest : Adds table (more ++ ops) (operations_in offers) new = applied-adds table (more ++ ops) parts.0.1 new offers done one.schema one.state one.agree parts.2 in
    let P : List Operation → Type 0 = λ all. (new.state ≡ state_of all) × AreAgreeing all in
    let both = subst P (sym (append_assoc (operations_in offers) more ops)) (rest.state, rest.agree) in
    record { schema = rest.schema; state = both.0; agree = both.1 }

apply_holds : (offers : List OfferForm) → AddsTo (applying offers) (λ table ops. operations_in offers)
apply_holds offers input table ops old new answer h is made read =
    let same = held_is input table ops old h is in
    let told : Unit {0} × Replica → (ℕ × ℕ × ℕ) × Replica = λ done. ((map.len done.1.state.batches, length (ranges_of done.1.state.deleted), map.len done.1.state.batches - map.len old.state.batches), done.1) in
    let parts = bound_parts (applied_all old offers) (λ (done : Unit {0} × Replica). let made : Made (ℕ × ℕ × ℕ) = Ok (told done) in made) (answer, new) made in
    let last : parts.0.1 ≡ new = ap (λ (p : (ℕ × ℕ × ℕ) × Replica). p.1) (ok_one (told parts.0) (answer, new) parts.2) in
    let adds : Adds table ops (operations_in offers) parts.0.1 = applied-adds table ops old parts.0.1 offers parts.0.0 (ap (λ (r : Replica). r.schema) same) (ap (λ (r : Replica). r.state) same) h.agree parts.1 in
    held_then table ops (operations_in offers) new (subst (λ (r : Replica). Adds table ops (operations_in offers) r) last adds) read

-- ---- pulls

-- what the offers are applied to, one after another
pub applies_all : (old new : Replica) (offers : List OfferForm) (answer : ℕ × ℕ × ℕ) → applying offers old ≡ Ok (answer, new) → applied_all old offers ≡ Ok (tt, new)
applies_all old new offers answer made =
    let told : Unit {0} × Replica → (ℕ × ℕ × ℕ) × Replica = λ done. ((map.len done.1.state.batches, length (ranges_of done.1.state.deleted), map.len done.1.state.batches - map.len old.state.batches), done.1) in
    let parts = bound_parts (applied_all old offers) (λ (done : Unit {0} × Replica). let made : Made (ℕ × ℕ × ℕ) = Ok (told done) in made) (answer, new) made in
    let last : parts.0.1 ≡ new = ap (λ (p : (ℕ × ℕ × ℕ) × Replica). p.1) (ok_one (told parts.0) (answer, new) parts.2) in
    parts.1 ∙ (λ i. let made : Made (Unit {0}) = Ok (tt, last i) in made)

-- an apply of one offer
applied_once : (old new : Replica) (offer : OfferForm) (answer : ℕ × ℕ × ℕ) → applying (offer ∷ []) old ≡ Ok (answer, new) → applied old offer ≡ Ok (tt, new)
applied_once old new offer answer made =
    let one = bound_parts (applied old offer) (λ (p : Unit {0} × Replica). applied_all p.1 []) (tt, new) (applies_all old new (offer ∷ []) answer made) in
    subst (λ (r : Replica). applied old offer ≡ Ok (tt, r)) (ap (λ (p : Unit {0} × Replica). p.1) (ok_one (tt, one.0.1) (tt, new) one.2)) one.1

pulls_bring : PullsBring
pulls_bring mine theirs table ops others old server new summary offer answer h k agree is theirs_is listed offers made read =
    let same = held_is mine table ops old h is in
    let there = held_is theirs table others server k theirs_is in
    let state : server.state ≡ state_of others = ap (λ (r : Replica). r.state) there in
    let agreed : Agree old.state server.state =
    subst (λ (s : State). Agree s server.state) (ap (λ (r : Replica). r.state) (sym same)) (subst (λ (s : State). Agree (state_of ops) s) (sym state) (parts_agree ops others agree)) in
    let offered : IsOffer server summary offer = record { schema = offers.0; state = offers.1 } in
    let joined : new ≡ joined_with old server.state = exchange_laws_hold.holding server old new summary offer offered listed agreed (applied_once old new offer answer made) in
    held_then table ops others new (join-adds table ops others old new server.state same state agree joined) read

-- ---- imports

import_holds : (load : LoadForm) (first : BatchName) → AddsTo (importing_as load first) (λ table ops. inserts (named_batches first load.batches))
import_holds load first input table ops old new answer h is made read =
    let same = held_is input table ops old h is in
    let told : Unit {0} × Replica → Imported × Replica = λ done. (imported_as load first old done.1, done.1) in
    let inner = bound_parts (merged old (loaded old load first)) (λ (done : Unit {0} × Replica). let made : Made Imported = Ok (told done) in made) (answer, new) made in
    let last : inner.0.1 ≡ new = ap (λ (p : Imported × Replica). p.1) (ok_one (told inner.0) (answer, new) inner.2) in
    let more : List Operation = inserts (named_batches first load.batches) in
    let adds : Adds table ops more inner.0.1 =
    merge-adds table ops more old (loaded old load first) inner.0.1 inner.0.0 (ap (λ (r : Replica). r.schema) same) (ap (λ (r : Replica). r.state) same) (sym (state_of-inserts (named_batches first load.batches))) h.agree (named_agree first load.batches) inner.1 in
    held_then table ops more new (subst (λ (r : Replica). Adds table ops more r) last adds) read

-- ---- merges

merged-adds : (table : Table) (ops : List Operation) (r new : Replica) (files : List (List ℕ)) (sets : List (List Operation)) → r.schema ≡ table → r.state ≡ state_of ops → AreAgreeing ops
    → EachHolds files table sets → merged_with r files ≡ Ok new → Adds table ops (all_of sets) new
merged-adds table ops r new [] [] schema state agree each e =
    let same : r ≡ new = ok_one r new e in
    record { schema = ap (λ (x : Replica). x.schema) (sym same) ∙ schema; state = ap (λ (x : Replica). x.state) (sym same) ∙ state; agree = agree }
merged-adds table ops r new [] (set ∷ sets) schema state agree each e = absurd each
merged-adds table ops r new (file ∷ files) [] schema state agree each e = absurd each
merged-adds table ops r new (file ∷ files) (more ∷ sets) schema state agree each e =
    let read = bound_parts (held_in file) (λ (other : Replica). merged r other >>= λ (done : Unit {0} × Replica). merged_with done.1 files) new e in
    let same = held_is file table more read.0 each.0 read.1 in
    let parts = bound_parts (merged r read.0) (λ (done : Unit {0} × Replica). merged_with done.1 files) new read.2 in
    let one : Adds table ops more parts.0.1 = merge-adds table ops more r read.0 parts.0.1 parts.0.0 schema state (ap (λ (x : Replica). x.state) same) agree each.0.agree parts.1 in
    let rest : Adds table (more ++ ops) (all_of sets) new = merged-adds table (more ++ ops) parts.0.1 new files sets one.schema one.state one.agree each.1 parts.2 in
    let P : List Operation → Type 0 = λ all. (new.state ≡ state_of all) × AreAgreeing all in
    let both = subst P (sym (append_assoc (all_of sets) more ops)) (rest.state, rest.agree) in
    record { schema = rest.schema; state = both.0; agree = both.1 }

merges_hold : MergesHold
merges_hold first others table ops sets new h each made read =
    let parts = bound_parts (held_in first) (λ (r : Replica). merged_with r others) new made in
    let same = held_is first table ops parts.0 h parts.1 in
    held_then table ops (all_of sets) new (merged-adds table ops parts.0 new others sets (ap (λ (r : Replica). r.schema) same) (ap (λ (r : Replica). r.state) same) h.agree each parts.2) read

-- ---- the law

empty_is : state_of [] ≡ empty_state
unfolding state_of
empty_is = refl

made_table : (name : List ℕ) (columns : List (List ℕ × ColType)) (table : Table) → schema_of name columns ≡ Ok table → IsTable table
made_table name columns table made =
    elim (is_schema name columns) as (λ b. is_schema name columns ≡ b → cond b (Ok (folded_table name columns)) (Err BadSchema) ≡ Ok table → IsTable table) [
      | true ↦ λ e h. subst IsTable (ok_one (folded_table name columns) table h) (IsTable-folded name columns e)
      | false ↦ λ e h. cc
    ] refl made

no_rows : rows_deleted [] ≡ set.empty
unfolding rows_deleted
no_rows = refl

-- the empty state has a file
empty_has_file : (table : Table) → IsTable table → HasFile table empty_state
empty_has_file table is =
    let none : map.entries {X = Batch} (map.empty {R = name_cmp}) ≡ [] = nil_from_length _ (sym (map.len-entries (map.empty {R = name_cmp})) ∙ map.len-empty name_cmp Batch) in
    record {
      schema = is;
      within = IsWithinLimits-empty table;
      names = subst (λ (es : List (BatchName × Batch)). All (λ (e : BatchName × Batch). IsNumbered e.0) es) (sym none) (All-nil (λ (e : BatchName × Batch). IsNumbered e.0));
      ranges = [];
      maximal = tt;
      rows = no_rows;
      count = omega arith;
    }

starts_empty : StartsEmpty
starts_empty name columns table made =
    let opens = files_open table empty_state (empty_has_file table (made_table name columns table made)) in
    record {
      agree = λ n a b g h. absurd g;
      file = ap (canonical_file table) (sym empty_is);
      read =
          ap (λ (read : Result OfferForm Refusal). read >>= λ o. Ok (offering (record { 0 = 1 }) o)) opens.1
          ∙ (λ i. let held : Result Replica Refusal = Ok (record { schema = opens.2 i; own = record { 0 = 1 }; state = (opens.3 ∙ sym empty_is) i }) in held);
    }

same_files : SameFiles
same_files a b table ops others h k same = h.file ∙ ap (canonical_file table) (state_of-same ops others h.agree same) ∙ sym k.file

pub file_laws_hold : FileLaws
file_laws_hold = record {
  create = starts_empty;
  import = import_holds;
  delete = delete_holds;
  delete_rows = delete_rows_holds;
  apply = apply_holds;
  merge = merges_hold;
  pull = pulls_bring;
  offers = SameOperations-operations;
  same = same_files;
}
