-- An import applies an offer of its batches under consecutive names, so that it is a merge with a replica that has them.
use Rattle.std.specs.Prelude.{◌≡◌, ◌⊎◌, ℕ, ◌+◌, ◌-◌, Bool, true, false, cond, not, ◌&&◌, ◌==◌, nat_le, List, [], ◌∷◌, length, Option, Some, None, Result, Ok, Err, IsTrue, IsOk}
use Rattle.std.proofs.Common.{refl, sym, ap, subst, ◌∙◌, inl, inr, arith}
use Rattle.std.specs.List.{list_all}
use Rattle.std.specs.FinMap as map
use Rattle.std.specs.FinSet as set
use Rattle.table_model.specs.Name.{name_cmp, is_proper_name}
use Rattle.table_model.specs.Reading.{◌>>=◌}
use Rattle.table_model.specs.State.{State, Batch}
use Rattle.table_model.specs.declared.names.BatchName.{BatchName}
use Rattle.table_model.specs.declared.refusal.Refusal.{Refusal}
use Rattle.table_model.specs.declared.refusal.Refusal.TheVariants.{Memory, BadName, NumbersSpent}
use Rattle.table_model.proofs.NameOrder.{names_total}
use Rattle.table_model.proofs.Joins.{same_maps}
use Rattle.catalogue_join.specs.RowRange.{RowRange}
use Rattle.column_file.specs.Files.{ranges_of}
use Rattle.replica_store.specs.Exchange.{OfferForm, offering, applied}
use Rattle.replica_store.specs.Replica.{Replica, merged}
use Rattle.replica_store.specs.Segments.{Entry, rows_in, rows_entries}
use Rattle.replica_store.proofs.RowsIn.{entries-rows_in}
use Rattle.replica_changes.specs.Commands.{Made, Makes}
use Rattle.replica_changes.specs.Loads.{LoadForm, named_batches, named_entries, loaded, first_name, named_by, is_free, first_free, or_spent, chosen_name, new_since, imported_as, importing_as, importing, is_one_of}
use Rattle.replica_changes.specs.Refusals.{is_refusal_of_import, is_refusal_of_merge}
use Rattle.replica_changes.specs.declared.importing.Imported.{Imported}
use Rattle.replica_changes.proofs.StoreCommands.{merge_kept}

-- ---- the first name

first_fault : (first : BatchName) (e : Refusal) (a b c : Bool) → ◌≡◌ {A = Result BatchName Refusal} (cond a (Ok first) (cond b (cond c (Ok first) (Err NumbersSpent)) (Err BadName))) (Err e) → IsTrue (is_refusal_of_import e)
first_fault first e true b c is = cc
first_fault first e false true true is = cc
first_fault first e false true false is = let same : NumbersSpent ≡ e = cc in ap is_refusal_of_import (sym same)
first_fault first e false false c is = let same : BadName ≡ e = cc in ap is_refusal_of_import (sym same)

spent_fault : (o : Option BatchName) (e : Refusal) → or_spent o ≡ Err e → IsTrue (is_refusal_of_import e)
spent_fault (Some name) e is = cc
spent_fault None e is = let same : NumbersSpent ≡ e = cc in ap is_refusal_of_import (sym same)

pub name_listed : (s : State) (given : Option BatchName) (words : List ℕ) (count : ℕ) (e : Refusal) → chosen_name s given words count ≡ Err e → IsTrue (is_refusal_of_import e)
unfolding chosen_name first_name
name_listed s (Some name) words count e is = first_fault name e (count == 0) (is_proper_name name) (nat_le (name.number.0 + count) 4294967296) is
name_listed s None words count e is = spent_fault (first_free s count words) e is

-- a refusal of a merge is one of an import
pub merge_is_listed : (e : Refusal) → IsTrue (is_refusal_of_merge e) → IsTrue (is_refusal_of_import e)
merge_is_listed BadName listed = refl
merge_is_listed NumbersSpent listed = refl
merge_is_listed other listed = listed

given_again : (first name : BatchName) (a b c : Bool) → ◌≡◌ {A = Result BatchName Refusal} (cond a (Ok first) (cond b (cond c (Ok first) (Err NumbersSpent)) (Err BadName))) (Ok name) → first ≡ name
given_again first name true b c e = cc
given_again first name false true true e = cc
given_again first name false true false e = cc
given_again first name false false c e = cc

free_first : (name : BatchName) (count : ℕ) (a b c d : Bool) → is_proper_name name ≡ a → nat_le (name.number.0 + count) 4294967296 ≡ b → (a && (b && (c && d))) ≡ true → first_name name count ≡ Ok name
unfolding first_name
free_first name count true true c d x y e =
    ap (λ (p : Bool). cond (count == 0) (Ok name) (cond p (cond (nat_le (name.number.0 + count) 4294967296) (Ok name) (Err NumbersSpent)) (Err BadName))) x
    ∙ ap (λ (p : Bool). cond (count == 0) (Ok name) (cond p (Ok name) (Err NumbersSpent))) y
    ∙ either (count == 0)
  where
    either : (b : Bool) → ◌≡◌ {A = Result BatchName Refusal} (cond b (Ok name) (Ok name)) (Ok name)
    either true = refl
    either false = refl
free_first name count true false c d x y e = cc
free_first name count false b c d x y e = cc

is_free_first : (s : State) (name : BatchName) (count : ℕ) → is_free s name count ≡ true → first_name name count ≡ Ok name
unfolding is_free
is_free_first s name count e =
    free_first name count (is_proper_name name) (nat_le (name.number.0 + count) 4294967296)
    (list_all (λ (x : BatchName × Batch). not (is_one_of name count x.0)) (map.entries s.batches)) (list_all (λ (range : RowRange). not (is_one_of name count range.0.batch)) (ranges_of s.deleted)) refl refl e

drawn_first : (s : State) (count : ℕ) (words : List ℕ) (name : BatchName) → or_spent (first_free s count words) ≡ Ok name → first_name name count ≡ Ok name
drawn_first s count [] name e = cc
drawn_first s count (word ∷ words) name e =
    elim (is_free s (named_by word) count) as (λ b. is_free s (named_by word) count ≡ b → or_spent (cond b (Some (named_by word)) (first_free s count words)) ≡ Ok name → first_name name count ≡ Ok name) [
      | true ↦ λ t made.
          let same : named_by word ≡ name = cc in
          subst (λ (n : BatchName). first_name n count ≡ Ok n) same (is_free_first s (named_by word) count t)
      | false ↦ λ t made. drawn_first s count words name made
    ] refl e

-- a name that was chosen may begin
pub chosen_first : (s : State) (given : Option BatchName) (words : List ℕ) (count : ℕ) (name : BatchName) → chosen_name s given words count ≡ Ok name → first_name name count ≡ Ok name
unfolding chosen_name first_name
chosen_first s (Some first) words count name e =
    let same : first ≡ name = given_again first name (count == 0) (is_proper_name first) (nat_le (first.number.0 + count) 4294967296) e in
    subst (λ (n : BatchName). first_name n count ≡ Ok n) same (e ∙ ap Ok (sym same))
chosen_first s None words count name e = drawn_first s count words name e

-- ---- the offer

rows_named : (es : List Entry) → rows_entries es ≡ named_entries es
rows_named [] = refl
rows_named (e ∷ es) = ap (λ (rest : List (BatchName × Batch)). (e.0, e.1.rows) ∷ rest) (rows_named es)

-- the offer of a load's batches under their names is the replica that has them
pub offer_is : (r : Replica) (load : LoadForm) (name : BatchName) (offer : OfferForm) (entries : List Entry) → offer.schema ≡ load.schema → offer.state.batches ≡ rows_in offer.segments → offer.state.deleted ≡ set.empty → map.entries offer.segments ≡ entries
    → named_entries entries ≡ named_batches name load.batches → offering r.own offer ≡ loaded r load name
offer_is r load name offer entries schema rows none are named =
    let batches : offer.state.batches ≡ map.from_entries (named_batches name load.batches) = rows ∙ same_maps (rows_in offer.segments) (map.from_entries (named_batches name load.batches)) (λ q.
    map.get-entries (rows_in offer.segments) q
    ∙ ap (map.find name_cmp q) (entries-rows_in offer.segments ∙ ap rows_entries are ∙ rows_named entries ∙ named)
    ∙ sym (map.get-from_entries names_total (named_batches name load.batches) q)) in
    λ i. record { schema = schema i; own = r.own; state = record { batches = batches i; deleted = none i } }

import_made : (r : Replica) (load : LoadForm) (given : Option BatchName) (words : List ℕ) (name : BatchName) (offer : OfferForm) → chosen_name r.state given words (length load.batches) ≡ Ok name → offering r.own offer ≡ loaded r load name
    → importing load given words r ≡ (applied r offer >>= λ (done : Unit {0} × Replica). let made : Made Imported = Ok (imported_as load name r done.1, done.1) in made)
import_made r load given words name offer chosen is =
    ap (λ (x : Result BatchName Refusal). x >>= λ (n : BatchName). importing_as load n r) chosen
    ∙ ap (λ (other : Replica). merged r other >>= λ (done : Unit {0} × Replica). let made : Made Imported = Ok (imported_as load name r done.1, done.1) in made) (sym is)

-- an import that is refused, and one that is done
pub import_refused : (r new : Replica) (load : LoadForm) (given : Option BatchName) (words : List ℕ) (name : BatchName) (offer : OfferForm) (e : Refusal) → chosen_name r.state given words (length load.batches) ≡ Ok name → offering r.own offer ≡ loaded r load name
    → (applied r offer ≡ Err e) ⊎ ((e ≡ Memory) × IsOk (applied r offer)) → Makes {X = Imported} (λ done. done) (λ done. not (done.new == 0)) r (Err e) new (importing load given words r)
import_refused r new load given words name offer e chosen is (inl refused) =
    inl (import_made r load given words name offer chosen is ∙ ap (λ (m : Result (Unit {0} × Replica) Refusal). m >>= λ (done : Unit {0} × Replica). let made : Made Imported = Ok (imported_as load name r done.1, done.1) in made) refused)
import_refused r new load given words name offer e chosen is (inr lack) = inr lack.0

pub import_done : (r new : Replica) (load : LoadForm) (given : Option BatchName) (words : List ℕ) (name : BatchName) (offer : OfferForm) (u : Unit {0}) (answer : Imported) → chosen_name r.state given words (length load.batches) ≡ Ok name → offering r.own offer ≡ loaded r load name
    → applied r offer ≡ Ok (u, new) → answer ≡ imported_as load name r new → Makes (λ done. done) (λ done. not (done.new == 0)) r (Ok answer) new (importing load given words r)
import_done r new load given words name offer u answer chosen is made told = (
  import_made r load given words name offer chosen is
      ∙ ap (λ (m : Result (Unit {0} × Replica) Refusal). m >>= λ (done : Unit {0} × Replica). let made : Made Imported = Ok (imported_as load name r done.1, done.1) in made) made
      ∙ (λ i. let made : Made Imported = Ok (sym told i, new) in made),
  (
    λ none. merge_kept r (offering r.own offer) new u made (ap (λ (p : Replica). p.state.deleted) is) (sym (ap (λ (a : Imported). not (a.new == 0)) told) ∙ none),
    λ stays.
        let same : answer.new ≡ map.len r.state.batches - map.len r.state.batches = ap (λ (a : Imported). a.new) told ∙ ap (new_since r) stays in
        let none : answer.new ≡ 0 = omega (arith, same) in
        ap (λ (n : ℕ). not (n == 0)) none,
  ),
)
