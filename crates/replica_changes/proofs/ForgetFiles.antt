-- What commands leave of a file in which batches were forgotten is what is left of the state of all that it took.
use Rattle.std.specs.Prelude.{◌≡◌, ℕ, List, [], ◌∷◌, ◌++◌, length, Option, Some, None, Result, Ok, Err, IsTrue, is_some}
use Rattle.std.proofs.Common.{refl, sym, ap, subst, ◌∙◌, inl, inr, append_assoc}
use Rattle.std.specs.FinMap as map
use Rattle.std.specs.FinSet as set
use Rattle.table_model.specs.Name.{row_name_cmp}
use Rattle.table_model.specs.Operation.{Operation, Insert, Among, AreAgreeing, SameOperations, inserts_of, state_of, operations_of}
use Rattle.table_model.specs.Query.{QueryShape}
use Rattle.table_model.specs.Reading.{◌>>=◌}
use Rattle.table_model.specs.State.{State, Batch, Agree, join}
use Rattle.table_model.specs.Table.{Table}
use Rattle.table_model.specs.declared.names.BatchName.{BatchName}
use Rattle.table_model.specs.declared.names.RowName.{RowName}
use Rattle.table_model.specs.declared.refusal.Refusal.{Refusal}
use Rattle.table_model.proofs.NameOrder.{names_total}
use Rattle.table_model.proofs.Operations.{Among-find, state_of-same, state_of-operations}
use Rattle.replica_store.specs.Forgotten.{forgotten, IsRestOf}
use Rattle.replica_store.specs.ForgetHistory.{TookListed}
use Rattle.replica_store.proofs.Rests.{forgets_all, rows_at, dead_first}
use Rattle.query_parser.specs.Descent.{query_of, condition_of}
use Rattle.query_parser.specs.Resolve.{resolved, resolved_condition}
use Rattle.replica_store.specs.Exchange.{OfferForm, offering, applied, summary_of}
use Rattle.replica_store.specs.Replica.{Replica, with_deleted, delete_fault, deleted_rows, rows_between, merged}
use Rattle.replica_store.proofs.ForgetAnswers.{forget_store_laws_hold}
use Rattle.replica_store.proofs.Limits.{ok_unless}
use Rattle.replica_store.proofs.MergeAnswers.{is_merge, made_of}
use Rattle.replica_store.proofs.Names.{contains-names_of}
use Rattle.store_view.specs.Asked.{query_answer, answer_where, unless_refused, condition_names}
use Rattle.column_file.specs.Files.{canonical_file}
use Rattle.replica_reports.specs.Held.{held_in}
use Rattle.replica_changes.specs.Commands.{file_of, as_held, Made, deleting, applied_all, applying, merged_with, merged_files}
use Rattle.replica_changes.specs.FileLaws.{replica_of, Holds, inserts, deletes, deletes_found, deletes_where, operations_in, all_of}
use Rattle.replica_changes.specs.Forgetting.{forgetting}
use Rattle.replica_changes.specs.ForgetFileLaws.{StandsFor, AddsToStanding, EachStandsFor, MergesStand, PullsStand, MeansWhole, AnswersAlike, SameForgottenFiles, ForgetFileLaws}
use Rattle.replica_changes.specs.Loads.{LoadForm, named_batches, loaded, imported_as, importing_as}
use Rattle.replica_changes.specs.declared.importing.Imported.{Imported}
use Rattle.replica_changes.proofs.FileLaws.{ok_one, bound_parts, applies_all}
use Rattle.replica_changes.proofs.OperationSets.{get-state_of, state_of-append, delete-adds, state_of-inserts}

-- a replica has what is left of the state of operations
pub record Rests (table : Table) (ops : List Operation) (r : Replica) : Type 0 where
  pub schema : r.schema ≡ table
  pub rest : IsRestOf r.state (state_of ops)

-- what was read of a file that stands for operations
pub stands_is : (input : List ℕ) (table : Table) (ops : List Operation) (r : Replica) → StandsFor input table ops → held_in input ≡ Ok r → Rests table ops r
stands_is input table ops r s is =
    let same : r ≡ record { schema = table; own = record { 0 = 1 }; state = s.state } = ok_one r (record { schema = table; own = record { 0 = 1 }; state = s.state }) (sym is ∙ s.read) in
    record {
      schema = ap (λ (x : Replica). x.schema) same;
      rest = subst (λ (x : Replica). IsRestOf x.state (state_of ops)) (sym same) s.rest;
    }

-- the file of such a replica stands for the operations
pub stands_then : (table : Table) (ops : List Operation) (new : Replica) → Rests table ops new → AreAgreeing ops → held_in (file_of new) ≡ Ok (as_held new) → StandsFor (file_of new) table ops
stands_then table ops new r agree read = record {
  agree = agree;
  state = new.state;
  rest = r.rest;
  file = λ i. canonical_file (r.schema i) new.state;
  read = read ∙ (λ i. let held : Result Replica Refusal = Ok (record { schema = r.schema i; own = record { 0 = 1 }; state = new.state }) in held);
}

-- ---- parts of operations that agree

among-front : (op : Operation) (more ops : List Operation) → Among op more → Among op (more ++ ops)
among-front op [] ops h = absurd h
among-front op (x ∷ more) ops (inl e) = inl e
among-front op (x ∷ more) ops (inr h) = inr (among-front op more ops h)

among-back : (op : Operation) (more ops : List Operation) → Among op ops → Among op (more ++ ops)
among-back op [] ops h = h
among-back op (x ∷ more) ops h = inr (among-back op more ops h)

back_agrees : (more ops : List Operation) → AreAgreeing (more ++ ops) → AreAgreeing ops
back_agrees more ops agree n a b g h = agree n a b (among-back (Insert n a) more ops g) (among-back (Insert n b) more ops h)

among-state : (ops : List Operation) (n : BatchName) (b : Batch) → map.get (state_of ops).batches n ≡ Some b → Among (Insert n b) ops
unfolding state_of
among-state ops n b has = Among-find ops n b (sym (map.get-from_entries names_total (inserts_of ops) n) ∙ has)

states_agree : (more ops : List Operation) → AreAgreeing (more ++ ops) → Agree (state_of ops) (state_of more)
states_agree more ops agree n a b has at = agree n a b (among-back (Insert n a) more ops (among-state ops n a has)) (among-front (Insert n b) more ops (among-state more n b at))

-- ---- merges

-- a merge joins what is left
merge-rests : (table : Table) (ops more : List Operation) (r other new : Replica) (done : Unit {0}) → Rests table ops r → IsRestOf other.state (state_of more) → AreAgreeing (more ++ ops)
    → merged r other ≡ Ok (done, new) → Rests table (more ++ ops) new
merge-rests table ops more r other new done ours theirs agree e =
    let m = is_merge r other new e in
    let both : Agree (state_of ops) (state_of more) = states_agree more ops agree in
    let left : IsRestOf (join r.state other.state) (state_of (more ++ ops)) =
    subst (IsRestOf (join r.state other.state)) (state_of-append ops more both) (forgets_all.joins r.state other.state (state_of ops) (state_of more) both ours.rest theirs) in
    record {
      schema = ap (λ (x : Replica). x.schema) (sym m.made) ∙ ours.schema;
      rest = subst (λ (x : Replica). IsRestOf x.state (state_of (more ++ ops))) m.made left;
    }

-- operations in order, one list after another
in_order : (table : Table) (last more ops : List Operation) (new : Replica) → Rests table (last ++ (more ++ ops)) new → Rests table ((last ++ more) ++ ops) new
in_order table last more ops new r = subst (λ (all : List Operation). Rests table all new) (sym (append_assoc last more ops)) r

in_turn : (last more ops : List Operation) → AreAgreeing ((last ++ more) ++ ops) → AreAgreeing (last ++ (more ++ ops))
in_turn last more ops agree = subst AreAgreeing (append_assoc last more ops) agree

merged-rests : (table : Table) (ops : List Operation) (r new : Replica) (files : List (List ℕ)) (sets : List (List Operation)) → Rests table ops r → EachStandsFor files table sets → AreAgreeing (all_of sets ++ ops)
    → merged_with r files ≡ Ok new → Rests table (all_of sets ++ ops) new
merged-rests table ops r new [] [] ours each agree e = subst (Rests table ops) (ok_one r new e) ours
merged-rests table ops r new [] (set ∷ sets) ours each agree e = absurd each
merged-rests table ops r new (file ∷ files) [] ours each agree e = absurd each
merged-rests table ops r new (file ∷ files) (more ∷ sets) ours each agree e =
    let read = bound_parts (held_in file) (λ (other : Replica). merged r other >>= λ (done : Unit {0} × Replica). merged_with done.1 files) new e in
    let theirs = stands_is file table more read.0 each.0 read.1 in
    let parts = bound_parts (merged r read.0) (λ (done : Unit {0} × Replica). merged_with done.1 files) new read.2 in
    let turned = in_turn (all_of sets) more ops agree in
    let one = merge-rests table ops more r read.0 parts.0.1 parts.0.0 ours theirs.rest (back_agrees (all_of sets) (more ++ ops) turned) parts.1 in
    in_order table (all_of sets) more ops new (merged-rests table (more ++ ops) parts.0.1 new files sets one each.1 turned parts.2)

-- what files are joined to is what is left of all that they stand for
pub files-rest : (first : List ℕ) (others : List (List ℕ)) (table : Table) (ops : List Operation) (sets : List (List Operation)) (new : Replica) → StandsFor first table ops → EachStandsFor others table sets → AreAgreeing (all_of sets ++ ops)
    → merged_files first others ≡ Ok new → Rests table (all_of sets ++ ops) new
files-rest first others table ops sets new s each agree made =
    let parts = bound_parts (held_in first) (λ (r : Replica). merged_with r others) new made in
    merged-rests table ops parts.0 new others sets (stands_is first table ops parts.0 s parts.1) each agree parts.2

merges_stand : MergesStand
merges_stand first others table ops sets new s each agree made read =
    stands_then table (all_of sets ++ ops) new (files-rest first others table ops sets new s each agree made) agree read

-- ---- imports

import_stands : (load : LoadForm) (first : BatchName) → AddsToStanding (importing_as load first) (λ table ops. inserts (named_batches first load.batches))
import_stands load first input table ops old new answer s agree is made read =
    let told : Unit {0} × Replica → Imported × Replica = λ done. (imported_as load first old done.1, done.1) in
    let inner = bound_parts (merged old (loaded old load first)) (λ (done : Unit {0} × Replica). let made : Made Imported = Ok (told done) in made) (answer, new) made in
    let last : inner.0.1 ≡ new = ap (λ (p : Imported × Replica). p.1) (ok_one (told inner.0) (answer, new) inner.2) in
    let more : List Operation = inserts (named_batches first load.batches) in
    let theirs : IsRestOf (loaded old load first).state (state_of more) = subst (IsRestOf (loaded old load first).state) (sym (state_of-inserts (named_batches first load.batches))) (forgets_all.nothing (loaded old load first).state) in
    let rests = merge-rests table ops more old (loaded old load first) inner.0.1 inner.0.0 (stands_is input table ops old s is) theirs agree inner.1 in
    stands_then table (more ++ ops) new (subst (Rests table (more ++ ops)) last rests) agree read

-- ---- offers

own_operations : (offer : OfferForm) → IsRestOf offer.state (state_of (operations_of offer.state))
own_operations offer = subst (IsRestOf offer.state) (sym (state_of-operations offer.state)) (forgets_all.nothing offer.state)

applied-rests : (table : Table) (ops : List Operation) (r new : Replica) (offers : List OfferForm) (done : Unit {0}) → Rests table ops r → AreAgreeing (operations_in offers ++ ops)
    → applied_all r offers ≡ Ok (done, new) → Rests table (operations_in offers ++ ops) new
applied-rests table ops r new [] done ours agree e = subst (Rests table ops) (made_of tt done r new e) ours
applied-rests table ops r new (offer ∷ offers) done ours agree e =
    let parts = bound_parts (applied r offer) (λ (p : Unit {0} × Replica). applied_all p.1 offers) (done, new) e in
    let more : List Operation = operations_of offer.state in
    let turned = in_turn (operations_in offers) more ops agree in
    let one = merge-rests table ops more r (offering r.own offer) parts.0.1 parts.0.0 ours (own_operations offer) (back_agrees (operations_in offers) (more ++ ops) turned) parts.1 in
    in_order table (operations_in offers) more ops new (applied-rests table (more ++ ops) parts.0.1 new offers done one turned parts.2)

apply_stands : (offers : List OfferForm) → AddsToStanding (applying offers) (λ table ops. operations_in offers)
apply_stands offers input table ops old new answer s agree is made read =
    stands_then table (operations_in offers ++ ops) new (applied-rests table ops old new offers tt (stands_is input table ops old s is) agree (applies_all old new offers answer made)) agree read

applies_one : (old new : Replica) (offer : OfferForm) → applied_all old (offer ∷ []) ≡ Ok (tt, new) → applied old offer ≡ Ok (tt, new)
applies_one old new offer e =
    let parts = bound_parts (applied old offer) (λ (p : Unit {0} × Replica). applied_all p.1 []) (tt, new) e in
    parts.1 ∙ parts.2

pulls_stand : PullsStand
pulls_stand input given table ops others server old new summary offer answer s t agree held is listed read_old made read =
    let ours = stands_is input table ops old s read_old in
    let theirs = stands_is given table others server t held in
    let applies : applied old offer ≡ Ok (tt, new) = applies_one old new offer (applies_all old new (offer ∷ []) answer made) in
    let both : Agree (state_of ops) (state_of others) = states_agree others ops agree in
    let taken : (name : BatchName) → IsTrue (set.contains summary.names name) → (rows : Batch) × (map.get (state_of ops).batches name ≡ Some rows) =
    λ name is_listed. let took = listed name is_listed in (took.0, get-state_of ops name took.0 s.agree took.1) in
    let left = forget_store_laws_hold.apply server old new summary offer (state_of ops) (state_of others) is taken both ours.rest theirs.rest applies in
    let rests : Rests table (others ++ ops) new = record {
      schema = ap (λ (x : Replica). x.schema) (sym (is_merge old (offering old.own offer) new applies).made) ∙ ours.schema;
      rest = subst (IsRestOf new.state) (state_of-append ops others both) left;
    } in
    stands_then table (others ++ ops) new rests agree read

some_get : (o : Option Batch) → IsTrue (is_some o) → (rows : Batch) × (o ≡ Some rows)
some_get None h = cc
some_get (Some rows) h = (rows, refl)

-- a file's summary lists what it took
summary_lists : (bytes : List ℕ) (table : Table) (ops more : List Operation) (r : Replica) → StandsFor bytes table ops → held_in bytes ≡ Ok r → TookListed (more ++ ops) (summary_of r).names
summary_lists bytes table ops more r s is name listed =
    let there = some_get (map.get r.state.batches name) (subst IsTrue (contains-names_of r.state.batches name) listed) in
    (there.0, among-back (Insert name there.0) more ops (among-state ops name there.0 ((stands_is bytes table ops r s is).rest.held name there.0 there.1)))

-- ---- deletes

-- more deletions leave what is left
deletes-rest : (s whole : State) (rows : List RowName) → IsRestOf s whole
    → IsRestOf (record { batches = s.batches; deleted = set.union s.deleted (set.from_list rows) }) (record { batches = whole.batches; deleted = set.union whole.deleted (set.from_list rows) })
deletes-rest s whole rows rest = record {
  deleted = ap (λ (d : set.FinSet row_name_cmp). set.union d (set.from_list rows)) rest.deleted;
  held = rest.held;
  dropped = λ name batch none has. dead_first whole.deleted (set.from_list rows) (rows_at (name, batch)) (rest.dropped name batch none has);
}

delete-rests : (table : Table) (ops : List Operation) (r new : Replica) (rows : List RowName) → Rests table ops r → AreAgreeing ops → with_deleted r rows ≡ new → Rests table (deletes rows ++ ops) new
delete-rests table ops r new rows ours agree made =
    let whole = delete-adds table ops (replica_of table ops) (with_deleted (replica_of table ops) rows) rows refl agree refl in
    record {
      schema = ap (λ (x : Replica). x.schema) (sym made) ∙ ours.schema;
      rest = subst (λ (x : Replica). IsRestOf x.state (state_of (deletes rows ++ ops))) made
          (subst (IsRestOf (with_deleted r rows).state) whole.state (deletes-rest r.state (state_of ops) rows ours.rest));
    }

-- a condition finds the same rows in what is left
names_alike : (text : List ℕ) (table : Table) (s whole : State) → IsRestOf s whole → condition_names text table s ≡ condition_names text table whole
unfolding condition_names
names_alike text table s whole rest = λ i. condition_of text >>= λ f. resolved_condition table f >>= λ done. Ok (forgets_all.finds s whole table f rest i)

delete_stands : (text : List ℕ) → AddsToStanding (deleting text) (deletes_where text)
delete_stands text input table ops old new answer s agree is made read =
    let ours = stands_is input table ops old s is in
    let parts = bound_parts (condition_names text old.schema old.state) (λ (names : List RowName). let made : Made ℕ = Ok (length names, with_deleted old names) in made) (answer, new) made in
    let found : condition_names text table (state_of ops) ≡ Ok parts.0 =
    sym (names_alike text table old.state (state_of ops) ours.rest) ∙ ap (λ (t : Table). condition_names text t old.state) (sym ours.schema) ∙ parts.1 in
    let rests = delete-rests table ops old new parts.0 ours s.agree (made_of (length parts.0) answer (with_deleted old parts.0) new parts.2) in
    let same : deletes parts.0 ++ ops ≡ deletes_where text table ops ++ ops = ap (λ (x : Result (List RowName) Refusal). deletes_found x ++ ops) (sym found) in
    stands_then table (deletes_where text table ops ++ ops) new (subst (λ (all : List Operation). Rests table all new) same rests) agree read

delete_rows_stand : (first : RowName) (last : ℕ) → AddsToStanding (λ r. deleted_rows r first last) (λ table ops. deletes (rows_between first last))
delete_rows_stand first last input table ops old new answer s agree is made read =
    let met = ok_unless (delete_fault first last) (Ok (tt, with_deleted old (rows_between first last))) (answer, new) made in
    let rests = delete-rests table ops old new (rows_between first last) (stands_is input table ops old s is) s.agree (made_of tt answer (with_deleted old (rows_between first last)) new met.1) in
    stands_then table (deletes (rows_between first last) ++ ops) new rests agree read

-- ---- forgets

-- what a forget makes
forget_made : (r new : Replica) (answer : ℕ × ℕ) → forgetting r ≡ Ok (answer, new) → record { schema = r.schema; own = r.own; state = forgotten r.state } ≡ new
forget_made r new answer made = ap (λ (p : (ℕ × ℕ) × Replica). p.1) (ok_one _ (answer, new) made)

-- what a forget leaves of what is left is left
pub forgotten-rests : (table : Table) (ops : List Operation) (old new : Replica) (answer : ℕ × ℕ) → Rests table ops old → forgetting old ≡ Ok (answer, new) → Rests table ops new
forgotten-rests table ops old new answer ours made =
    let left : Rests table ops (record { schema = old.schema; own = old.own; state = forgotten old.state }) = record {
      schema = ours.schema;
      rest = forgets_all.then (forgotten old.state) old.state (state_of ops) (forgets_all.forgets old.state) ours.rest;
    } in
    subst (Rests table ops) (forget_made old new answer made) left

forget_stands : AddsToStanding forgetting (λ table ops. [])
forget_stands input table ops old new answer s agree is made read =
    stands_then table ops new (forgotten-rests table ops old new answer (stands_is input table ops old s is) made) agree read

-- ---- what files that stand for operations answer, and their bytes

answers_alike : (sql : List ℕ) (table : Table) (s whole : State) → IsRestOf s whole → query_answer sql table s ≡ query_answer sql table whole
unfolding query_answer
answers_alike sql table s whole rest = go (query_of sql)
  where
    go : (x : Result QueryShape Refusal) → answer_where table s x ≡ answer_where table whole x
    go (Ok query) = ap (unless_refused (resolved table query)) (forgets_all.answers s whole table query rest)
    go (Err e) = refl

-- what is left of the state of operations has the rows and answers of the whole
pub rests-mean : (table : Table) (ops : List Operation) (r : Replica) → Rests table ops r → MeansWhole r table ops
rests-mean table ops r ours = record {
  rows = forgets_all.live r.state (state_of ops) ours.rest;
  answers = λ sql. ap (λ (t : Table). query_answer sql t r.state) ours.schema ∙ answers_alike sql table r.state (state_of ops) ours.rest;
}

means_whole : (bytes : List ℕ) (table : Table) (ops : List Operation) (r : Replica) → StandsFor bytes table ops → held_in bytes ≡ Ok r → MeansWhole r table ops
means_whole bytes table ops r s is = rests-mean table ops r (stands_is bytes table ops r s is)

files_alike : AnswersAlike
files_alike a b table ops others r q sql s t same read_a read_b =
    (means_whole a table ops r s read_a).answers sql
    ∙ ap (query_answer sql table) (state_of-same ops others s.agree same)
    ∙ sym ((means_whole b table others q t read_b).answers sql)

-- what is left of one state has one file, once it is forgotten
pub forgotten-alike : (table : Table) (ops others : List Operation) (r q new other : Replica) (dropped parted : ℕ × ℕ) → Rests table ops r → Rests table others q → AreAgreeing ops → SameOperations ops others
    → forgetting r ≡ Ok (dropped, new) → forgetting q ≡ Ok (parted, other) → file_of new ≡ file_of other
forgotten-alike table ops others r q new other dropped parted ours theirs agree same made_a made_b =
    let state : forgotten r.state ≡ forgotten q.state =
    forgets_all.least r.state (state_of ops) ours.rest ∙ ap forgotten (state_of-same ops others agree same) ∙ sym (forgets_all.least q.state (state_of others) theirs.rest) in
    sym (ap file_of (forget_made r new dropped made_a)) ∙ (λ i. canonical_file ((ours.schema ∙ sym theirs.schema) i) (state i)) ∙ ap file_of (forget_made q other parted made_b)

forgotten_files : SameForgottenFiles
forgotten_files a b table ops others r q new other dropped parted s t same read_a read_b made_a made_b =
    forgotten-alike table ops others r q new other dropped parted (stands_is a table ops r s read_a) (stands_is b table others q t read_b) s.agree same made_a made_b

-- ---- what is held

stands_held : (bytes : List ℕ) (table : Table) (ops : List Operation) → Holds bytes table ops → StandsFor bytes table ops
stands_held bytes table ops h = record { agree = h.agree; state = state_of ops; rest = forgets_all.nothing (state_of ops); file = h.file; read = h.read }

pub forget_file_laws_hold : ForgetFileLaws
forget_file_laws_hold = record {
  holds = stands_held;
  import = import_stands;
  delete = delete_stands;
  delete_rows = delete_rows_stand;
  apply = apply_stands;
  lists = summary_lists;
  pull = pulls_stand;
  merge = merges_stand;
  forget = forget_stands;
  means = means_whole;
  answers = files_alike;
  same = forgotten_files;
}
