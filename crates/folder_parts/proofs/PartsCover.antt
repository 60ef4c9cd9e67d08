-- Covering is an order; what is made of files covers each of them, and what covers a file represents all that it represents.
use Rattle.std.specs.Prelude.{◌≡◌, ◌⊎◌, ℕ, true, false, ◌||◌, ◌&&◌, List, [], ◌∷◌, ◌++◌, Result, Ok, Err}
use Rattle.std.proofs.Common.{refl, sym, ap, subst, ◌∙◌, inl, inr}
use Rattle.std.proofs.lemmas.Bool.{and_parts}
use Rattle.table_model.specs.Identifier.{same_text}
use Rattle.table_model.specs.Operation.{Operation, state_of, operations_of}
use Rattle.table_model.specs.Reading.{◌>>=◌}
use Rattle.table_model.specs.State.{State, Agree, join}
use Rattle.table_model.specs.Table.{Table, same_table}
use Rattle.table_model.specs.declared.refusal.Refusal.{Refusal}
use Rattle.table_model.proofs.Operations.{state_of-operations, AreAgreeing-operations}
use Rattle.table_model.proofs.SameTable.{one_text, itself_text, one_table, itself_table}
use Rattle.replica_store.specs.Forgotten.{forgotten, IsRestOf}
use Rattle.replica_store.proofs.Rests.{forgets_all}
use Rattle.replica_store.specs.Replica.{Replica, merged}
use Rattle.replica_store.proofs.MergeAnswers.{is_merge}
use Rattle.replica_reports.specs.Held.{held_in}
use Rattle.replica_changes.specs.Commands.{file_of, as_held, merged_with, merged_files}
use Rattle.replica_changes.specs.Forgetting.{forgetting}
use Rattle.replica_changes.proofs.FileLaws.{ok_one, bound_parts}
use Rattle.replica_changes.proofs.ForgetFiles.{Rests}
use Rattle.replica_changes.proofs.OperationSets.{state_of-append, parts_agree}
use Rattle.folder_parts.specs.Covers.{covers_state, covers_found, covers, HasAll, HasAllOf}
use Rattle.folder_parts.specs.CoverLaws.{CoversTells, PackCovers, ForgetCovers, CoversStand, CoveredAddsNothing, CoverLaws}
use Rattle.folder_parts.specs.FolderLaws.{IsOneOf}
use Rattle.folder_parts.proofs.ForgottenFolders.{alike, same_self}
use Rattle.folder_parts.proofs.PartNames.{no_part}
use Rattle.folder_parts.proofs.StateCovers.{has_all, all_is_had, has_itself, has_along, rest_has, has_first, has_second, has_rests, or_first, or_second}

-- ---- what the test tells

found_all : (file other : List ℕ) (x y : Result Replica Refusal) → held_in file ≡ x → held_in other ≡ y → covers_found x y ≡ true → HasAllOf file other
found_all file other (Ok one) (Ok two) read found e =
    let both = and_parts (same_table one.schema two.schema) (covers_state one.state two.state) e in
    record { one = one; two = two; read = read; read_other = found; table = one_table one.schema two.schema both.0; all = has_all one.state two.state both.1 }
found_all file other (Ok one) (Err f) read found e = cc
found_all file other (Err f) y read found e = cc

pub covers_is : (file other : List ℕ) → covers file other ≡ true → (file ≡ other) ⊎ HasAllOf file other
unfolding covers
covers_is file other e =
    elim (same_text file other) as (λ b. same_text file other ≡ b → (b || covers_found (held_in file) (held_in other)) ≡ true → (file ≡ other) ⊎ HasAllOf file other) [
      | true ↦ λ same _. inl (one_text file other same)
      | false ↦ λ _ found. inr (found_all file other (held_in file) (held_in other) refl refl found)
    ] refl e

pub covers_itself : (file : List ℕ) → covers file file ≡ true
unfolding covers
covers_itself file = or_first (same_text file file) (covers_found (held_in file) (held_in file)) (itself_text file)

pub is_covers : (file other : List ℕ) → HasAllOf file other → covers file other ≡ true
unfolding covers
is_covers file other h =
    let table : same_table h.one.schema h.two.schema ≡ true = subst (λ (t : Table). same_table h.one.schema t ≡ true) h.table (itself_table h.one.schema) in
    let state : covers_state h.one.state h.two.state ≡ true = all_is_had h.one.state h.two.state h.all in
    let found : covers_found (held_in file) (held_in other) ≡ true = (λ i. covers_found (h.read i) (h.read_other i)) ∙ (λ i. table i && state i) in
    or_second (same_text file other) (covers_found (held_in file) (held_in other)) found

covers_tells : CoversTells
covers_tells file other = (
  covers_is file other,
  λ how. elim how as (λ _. covers file other ≡ true) [
    | inl same ↦ subst (λ (f : List ℕ). covers file f ≡ true) same (covers_itself file)
    | inr all ↦ is_covers file other all
  ],
)

-- what is read of a file has all that is read of one that it covers
pub sides : (file other : List ℕ) (one two : Replica) → covers file other ≡ true → held_in file ≡ Ok one → held_in other ≡ Ok two → (one.schema ≡ two.schema) × HasAll one.state two.state
sides file other one two e read found =
    elim (covers_is file other e) as (λ _. (one.schema ≡ two.schema) × HasAll one.state two.state) [
      | inl same ↦
          let replica : one ≡ two = ok_one one two (sym read ∙ ap held_in same ∙ found) in
          (ap (λ (r : Replica). r.schema) replica, subst (λ (r : Replica). HasAll one.state r.state) replica (has_itself one.state))
      | inr h ↦
          let mine : h.one ≡ one = ok_one h.one one (sym h.read ∙ read) in
          let yours : h.two ≡ two = ok_one h.two two (sym h.read_other ∙ found) in (
            sym (ap (λ (r : Replica). r.schema) mine) ∙ h.table ∙ ap (λ (r : Replica). r.schema) yours,
            subst (λ (r : Replica). HasAll r.state two.state) mine (subst (λ (r : Replica). HasAll h.one.state r.state) yours h.all),
          )
    ]

pub covers_along : (c b a : List ℕ) → covers c b ≡ true → covers b a ≡ true → covers c a ≡ true
covers_along c b a over under =
    elim (covers_is c b over) as (λ _. covers c a ≡ true) [
      | inl same ↦ subst (λ (f : List ℕ). covers f a ≡ true) (sym same) under
      | inr h ↦ elim (covers_is b a under) as (λ _. covers c a ≡ true) [
        | inl same ↦ subst (λ (f : List ℕ). covers c f ≡ true) same over
        | inr g ↦
            let middle : h.two ≡ g.one = ok_one h.two g.one (sym h.read_other ∙ g.read) in
            is_covers c a (record {
              one = h.one;
              two = g.two;
              read = h.read;
              read_other = g.read_other;
              table = h.table ∙ ap (λ (r : Replica). r.schema) middle ∙ g.table;
              all = has_along h.one.state g.one.state g.two.state (subst (λ (r : Replica). HasAll h.one.state r.state) middle h.all) g.all;
            })
      ]
    ]

-- ---- what is made of files

-- a file was read, and a replica of its table has all that it has
record IsHad (new : Replica) (file : List ℕ) : Type 0 where
  pub held : Replica
  pub read : held_in file ≡ Ok held
  pub table : new.schema ≡ held.schema
  pub all : HasAll new.state held.state

-- a replica that is of the same table and has all that another has
record IsOver (new old : Replica) : Type 0 where
  pub table : new.schema ≡ old.schema
  pub all : HasAll new.state old.state

over_itself : (r : Replica) → IsOver r r
over_itself r = record { table = refl; all = has_itself r.state }

over_along : (t s r : Replica) → IsOver t s → IsOver s r → IsOver t r
over_along t s r a b = record { table = a.table ∙ b.table; all = has_along t.state s.state r.state a.all b.all }

had_under : (new old : Replica) (file : List ℕ) → IsOver new old → IsHad old file → IsHad new file
had_under new old file over had = record { held = had.held; read = had.read; table = over.table ∙ had.table; all = has_along new.state old.state had.held.state over.all had.all }

over_first : (r other new : Replica) → merged r other ≡ Ok (tt, new) → IsOver new r
over_first r other new e =
    let m = is_merge r other new e in
    subst (λ (x : Replica). IsOver x r) m.made (record { table = refl; all = has_first r.state other.state (join r.state other.state) (forgets_all.nothing (join r.state other.state)) })

over_second : (r other new : Replica) → merged r other ≡ Ok (tt, new) → IsOver new other
over_second r other new e =
    let m = is_merge r other new e in
    subst (λ (x : Replica). IsOver x other) m.made (record { table = m.schema; all = has_second r.state other.state (join r.state other.state) m.agree (forgets_all.nothing (join r.state other.state)) })

-- files that were merged into a replica, one after another
merged_over : (r new : Replica) (files : List (List ℕ)) → merged_with r files ≡ Ok new → IsOver new r × ((file : List ℕ) → IsOneOf file files → IsHad new file)
merged_over r new [] e = (subst (λ (x : Replica). IsOver x r) (ok_one r new e) (over_itself r), λ file one. absurd one)
merged_over r new (file ∷ files) e =
    let read = bound_parts (held_in file) (λ (other : Replica). merged r other >>= λ (done : Unit {0} × Replica). merged_with done.1 files) new e in
    let parts = bound_parts (merged r read.0) (λ (done : Unit {0} × Replica). merged_with done.1 files) new read.2 in
    let rest = merged_over parts.0.1 new files parts.2 in
    let over : IsOver new read.0 = over_along new parts.0.1 read.0 rest.0 (over_second r read.0 parts.0.1 parts.1) in
    let here : IsHad new file = record { held = read.0; read = read.1; table = over.table; all = over.all } in (
      over_along new parts.0.1 r rest.0 (over_first r read.0 parts.0.1 parts.1),
      λ other one. elim one as (λ _. IsHad new other) [ inl same ↦ subst (IsHad new) (sym same) here | inr later ↦ rest.1 other later ],
    )

-- what files are joined to has each of them
joined_had : (first : List ℕ) (others : List (List ℕ)) (new : Replica) → merged_files first others ≡ Ok new → (file : List ℕ) → IsOneOf file (first ∷ others) → IsHad new file
joined_had first others new e file one =
    let parts = bound_parts (held_in first) (λ (r : Replica). merged_with r others) new e in
    let rest = merged_over parts.0 new others parts.2 in
    elim one as (λ _. IsHad new file) [
      | inl same ↦ subst (IsHad new) (sym same) (record { held = parts.0; read = parts.1; table = rest.0.table; all = rest.0.all })
      | inr later ↦ rest.1 file later
    ]

-- a replica's own file covers what it has, if that file is read as it
had_covers : (new : Replica) (file : List ℕ) → held_in (file_of new) ≡ Ok (as_held new) → IsHad new file → covers (file_of new) file ≡ true
had_covers new file read had = is_covers (file_of new) file (record { one = as_held new; two = had.held; read = read; read_other = had.read; table = had.table; all = had.all })

pack_covers : PackCovers
pack_covers first others pack joins file one = had_covers pack file joins.read (joined_had first others pack joins.made file one)

over_forgotten : (r new : Replica) (dropped : ℕ × ℕ) → forgetting r ≡ Ok (dropped, new) → IsOver new r
over_forgotten r new dropped e =
    let same : record { schema = r.schema; own = r.own; state = forgotten r.state } ≡ new = ap (λ (p : (ℕ × ℕ) × Replica). p.1) (ok_one _ (dropped, new) e) in
    subst (λ (x : Replica). IsOver x r) same (record { table = refl; all = rest_has (forgotten r.state) r.state (forgets_all.forgets r.state) })

forget_covers : ForgetCovers
forget_covers first others left forgets file one =
    had_covers left file forgets.read (had_under left forgets.whole file (over_forgotten forgets.whole left forgets.dropped forgets.forgot) (joined_had first others forgets.whole forgets.made file one))

-- ---- what is represented

covers_stand : CoversStand
covers_stand file other table ops more e stands beside agree =
    let mine : Replica = record { schema = table; own = record { 0 = 1 }; state = stands.state } in
    let yours : Replica = record { schema = table; own = record { 0 = 1 }; state = beside.state } in
    let has : HasAll stands.state beside.state = (sides file other mine yours e stands.read beside.read).1 in
    let whole : Agree (state_of ops) (state_of more) = parts_agree ops more agree in
    let both : Agree stands.state beside.state = forgets_all.agree stands.state beside.state (state_of ops) (state_of more) whole stands.rest beside.rest in
    let joined : IsRestOf (join stands.state beside.state) (state_of (more ++ ops)) =
    subst (IsRestOf (join stands.state beside.state)) (state_of-append ops more whole) (forgets_all.joins stands.state beside.state (state_of ops) (state_of more) whole stands.rest beside.rest) in
    record {
      agree = agree;
      state = stands.state;
      rest = forgets_all.then stands.state (join stands.state beside.state) (state_of (more ++ ops)) (has_rests stands.state beside.state has both) joined;
      file = stands.file;
      read = stands.read;
    }

covered_adds_nothing : CoveredAddsNothing
covered_adds_nothing file other held new e read made =
    let found = bound_parts (held_in other) (λ (two : Replica). merged held two >>= λ (done : Unit {0} × Replica). merged_with done.1 []) new made in
    let parts = bound_parts (merged held found.0) (λ (done : Unit {0} × Replica). merged_with done.1 []) new found.2 in
    let m = is_merge held found.0 parts.0.1 parts.1 in
    let last : parts.0.1 ≡ new = ok_one parts.0.1 new parts.2 in
    let whole : State = join held.state found.0.state in
    let ops : List Operation = operations_of whole in
    let state : new.state ≡ whole = sym (ap (λ (r : Replica). r.state) (m.made ∙ last)) in
    let table : new.schema ≡ held.schema = sym (ap (λ (r : Replica). r.schema) (m.made ∙ last)) in
    let has : HasAll held.state found.0.state = (sides file other held found.0 e read found.1).1 in
    let here : Rests held.schema ops held = record { schema = refl; rest = subst (IsRestOf held.state) (sym (state_of-operations whole)) (has_rests held.state found.0.state has m.agree) } in
    let there : Rests held.schema ops new = record { schema = table; rest = subst (λ (s : State). IsRestOf s (state_of ops)) (sym state) (subst (IsRestOf whole) (sym (state_of-operations whole)) (forgets_all.nothing whole)) } in
    alike held.schema ops ops new held there here (AreAgreeing-operations whole) (same_self ops)

pub cover_laws_hold : CoverLaws
cover_laws_hold = record {
  order = record { itself = covers_itself; along = covers_along };
  tells = covers_tells;
  pack = pack_covers;
  forget = forget_covers;
  stands = covers_stand;
  nothing = covered_adds_nothing;
  others = no_part;
}
