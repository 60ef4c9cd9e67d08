-- The batches of a run, with the deletions that go to its share, are the share.
use Rattle.std.specs.Prelude.{◌≡◌, ◌≤◌, ℕ, Bool, true, false, cond, ◌==◌, List, Option, Some, None, is_some, Result, Ok, Err, IfOk}
use Rattle.std.proofs.Common.{refl, sym, ap, ◌∙◌, arith}
use Rattle.std.proofs.lemmas.List.Elements.{All-filter}
use Rattle.std.specs.List.{All}
use Rattle.std.specs.Option.{option_map}
use Rattle.std.specs.FinMap as map
use Rattle.std.specs.FinMap.Entries.{where_key, is_sorted-where_key, find-where_key}
use Rattle.table_model.specs.Name.{name_cmp}
use Rattle.table_model.specs.State.{Batch}
use Rattle.table_model.specs.Table.{Table}
use Rattle.table_model.specs.declared.names.BatchName.{BatchName}
use Rattle.table_model.specs.declared.refusal.Refusal.{Refusal}
use Rattle.table_model.proofs.NameOrder.{exact_names}
use Rattle.table_model.proofs.Joins.{same_maps, same_states}
use Rattle.segment_core.specs.Segment.{SegmentForm}
use Rattle.replica_store.specs.Exchange.{OfferForm, SummaryForm, AreOffered, offering}
use Rattle.replica_store.specs.Replica.{Replica, names_of, batch_limit}
use Rattle.replica_store.specs.Segments.{Entry, Segments, IsStored, rows_in}
use Rattle.replica_store.proofs.Names.{contains-names_of}
use Rattle.replica_store.proofs.RowsIn.{rows, get-rows_in, len-rows_in}
use Rattle.table_spread.specs.Spread.{run_of, is_in_run, goes_to, deletions_of, of_names, share_in}
use Rattle.table_spread.proofs.MergedShares.{length-where}

-- what passes of batches that a store may hold may be offered
pub offered_where : (p : BatchName → Bool) (table : Table) (m : Segments) → map.len (rows_in m) ≤ batch_limit → All (IsStored table) (map.entries m) → AreOffered table (where_key name_cmp p (map.entries m))
offered_where p table m limit stored = record {
  sorted = is_sorted-where_key name_cmp p (map.entries m) (map.entries_sorted m);
  limit = let few = length-where p (map.entries m) in omega (arith, few, limit, len-rows_in m, map.len-entries m);
  stored = All-filter (λ (e : Entry). p e.0) (IsStored table) (map.entries m) stored;
}

-- segments by their entries
pub segments_are : (p : BatchName → Bool) (m n : Segments) → map.entries m ≡ where_key name_cmp p (map.entries n) → m ≡ map.retain_keys n p
segments_are p m n is = same_maps _ _ (λ q.
    map.get-entries m q
    ∙ ap (map.find name_cmp q) is
    ∙ find-where_key name_cmp p q (λ x tied. ap p (sym (exact_names q x tied))) (map.entries n)
    ∙ ap (λ (o : Option SegmentForm). cond (p q) o None) (sym (map.get-entries n q))
    ∙ sym (map.get-retain_keys n p q (λ x tied. ap p (sym (exact_names q x tied)))))

module _ (firsts : List BatchName) (index : ℕ) where
  -- the rows of the segments of a run are the batches that go to the share
  rows_retained : (m : Segments) → rows_in (map.retain_keys m (is_in_run firsts index)) ≡ map.retain_keys (rows_in m) (goes_to firsts (names_of (rows_in m)) index)
  rows_retained m = same_maps _ _ (λ q.
      get-rows_in (map.retain_keys m (is_in_run firsts index)) q
      ∙ ap (option_map rows) (map.get-retain_keys m (is_in_run firsts index) q (λ x tied. ap (is_in_run firsts index) (sym (exact_names q x tied))))
      ∙ inside q (map.get m q) (map.get (rows_in m) q) (sym (get-rows_in m q))
      ∙ ap (λ b. cond (cond b (run_of firsts q) 0 == index) (map.get (rows_in m) q) None) (sym (contains-names_of (rows_in m) q))
      ∙ sym (map.get-retain_keys (rows_in m) (goes_to firsts (names_of (rows_in m)) index) q (λ x tied. ap (goes_to firsts (names_of (rows_in m)) index) (sym (exact_names q x tied)))))
    where
      inside : (q : BatchName) (s : Option SegmentForm) (o : Option Batch) → option_map rows s ≡ o → option_map rows (cond (is_in_run firsts index q) s None) ≡ cond (cond (is_some o) (run_of firsts q) 0 == index) o None
      inside q None None e = elim (run_of firsts q == index) as (λ b. option_map rows (cond b None None) ≡ cond (0 == index) None None) [ true ↦ none (0 == index) | false ↦ none (0 == index) ]
        where
          none : (b : Bool) → None ≡ cond {A = Option Batch} b None None
          none true = refl
          none false = refl
      inside q None (Some x) e = cc
      inside q (Some s) None e = cc
      inside q (Some s) (Some x) e = elim (run_of firsts q == index) as (λ b. option_map rows (cond b (Some s) None) ≡ cond b (Some x) None) [ true ↦ e | false ↦ refl ]

  pub share_is : (r : Replica) (segments : Segments) (o : OfferForm) → r.state.batches ≡ rows_in segments → o.schema ≡ r.schema → o.state.batches ≡ rows_in o.segments
      → map.entries o.segments ≡ where_key name_cmp (is_in_run firsts index) (map.entries segments) → o.state.deleted ≡ deletions_of (goes_to firsts (names_of r.state.batches) index) r.state.deleted
      → offering r.own o ≡ share_in firsts index r
  unfolding of_names
  share_is r segments o shown schema batches entries deleted =
      let kept : o.state.batches ≡ map.retain_keys r.state.batches (goes_to firsts (names_of r.state.batches) index) =
      batches ∙ ap rows_in (segments_are (is_in_run firsts index) o.segments segments entries) ∙ rows_retained segments
      ∙ ap (λ (m : map.FinMap name_cmp Batch). map.retain_keys m (goes_to firsts (names_of m) index)) (sym shown) in
      λ i. record { schema = schema i; own = r.own; state = same_states o.state (record { batches = map.retain_keys r.state.batches (goes_to firsts (names_of r.state.batches) index); deleted = deletions_of (goes_to firsts (names_of r.state.batches) index) r.state.deleted }) kept deleted i }

pub same_summary : (s t : SummaryForm) → ◌≡◌ {A = Result SummaryForm Refusal} (Ok t) (Ok s) → s ≡ t
same_summary s t e = cc

-- what is said of a value, if there is one, after what was said of it
pub if_then : {X E : Type 0} {P Q : X → Type 0} (r : Result X E) → ((x : X) → P x → Q x) → IfOk r P → IfOk r Q
if_then (Ok x) f h = f x h
if_then (Err e) f h = tt

pub same_replica : (r s : Replica) → ◌≡◌ {A = Result Replica Refusal} (Ok s) (Ok r) → r ≡ s
same_replica r s e = cc
