-- The entry goes in at its place.
use Rattle.std.proofs.Common.{arith, refl, ap, ◌∙◌, ◌≡◌, ℕ, List, Bool, true, cond}
use Rattle.std.specs.List.{insert}
use Rattle.table_model.specs.Name.{name_cmp}
use Rattle.segment_core.specs.Segment.{SegmentForm}
use Rattle.table_model.specs.declared.names.BatchName.{BatchName}
use Rattle.replica_store.specs.Entries.{count_below}
use Rattle.replica_store.specs.Segments.{Entry}
use Rattle.replica_store.proofs.Places.{count_below-le}
use Rattle.replica_store.proofs.batches.put_new.Goals as goal

pub insert-requires-2 : goal.insert-requires-2
insert-requires-2 c = let le = count_below-le name_cmp c.args.name c.as_slice.result.now in omega (arith, c.as_slice.ensures.len, c.place-at.ensures, le)

goes_in : (es seen old new : List Entry) (i : ℕ) (q : BatchName) (v : SegmentForm) (done : Bool) → new ≡ cond done (insert old i (q, v)) old → done ≡ true → old ≡ es → seen ≡ old → i ≡ count_below name_cmp q seen →
    new ≡ insert es (count_below name_cmp q es) (q, v)
goes_in es seen old new i q v done is ok same looked at =
    is ∙ ap (λ b. cond b (insert old i (q, v)) old) ok ∙ (λ k. insert (same k) (at k) (q, v)) ∙ ap (λ (xs : List Entry). insert es (count_below name_cmp q xs) (q, v)) (looked ∙ same)

pub returns-clause-entries : goal.returns-clause-entries
returns-clause-entries c =
    goes_in c.args.entries.now.items c.as_slice.result.now c.reserve.new.self.items c.insert-2.new.self.items c.place-at.result c.args.name c.args.segment true c.in_ok-insert-2.ensures.items
    refl c.in_ok-reserve.ensures.items c.as_slice.ensures.value c.place-at.ensures

-- where there is room the entry always goes in
pub returns-in_err-insert-2-clause-same_entries : goal.returns-in_err-insert-2-clause-same_entries
returns-in_err-insert-2-clause-same_entries c = absurd (omega (arith, c.in_ok-reserve.ensures.ok, c.in_err-insert-2.ensures.full))

pub returns-in_err-insert-2-clause-same_names : goal.returns-in_err-insert-2-clause-same_names
returns-in_err-insert-2-clause-same_names c = absurd (omega (arith, c.in_ok-reserve.ensures.ok, c.in_err-insert-2.ensures.full))
