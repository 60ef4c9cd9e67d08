-- The segment comes back to its place in its part, with its rows.
use Rattle.std.specs.Prelude.{◌≡◌, ◌++◌, List, take, drop, length, ℕ, Result}
use Rattle.std.proofs.Common.{◌∙◌, sym, ap, subst, arith}
use Rattle.std.proofs.lemmas.Bool.Decides.{nat_tests}
use Rattle.table_model.specs.Outcome.{Acts}
use Rattle.table_model.specs.Table.{Table}
use Rattle.table_model.specs.declared.names.BatchName.{BatchName}
use Rattle.table_model.specs.declared.refusal.Refusal.{Refusal}
use Rattle.segment_core.specs.declared.coding.Coding.{Coding}
use Rattle.replica_store.specs.Parted.{AreKeptInParts}
use Rattle.replica_store.specs.Segments.{Segments, BatchesForm, Entry, AreStored, RecodesEntries, rows_in, recoded_in}
use Rattle.replica_store.proofs.InParts.{Sorted-front, Sorted-back, recodes-up_to, recodes-past}
use Rattle.replica_store.proofs.Maps.{Sorted, as_map}
use Rattle.replica_store.proofs.Putting.{recoded_front, recoded_back}
use Rattle.replica_store.proofs.Recodes.{same_length, refill, rows_recoded, acts_recoded}
use Rattle.replica_store.proofs.Stored.{AreStored-recoded}
use Rattle.replica_store.proofs.batches.Batches.recode.Goals as goal

-- the entries as they come back are those that were made
back_in : (k : ℕ) (old new : List Entry) (result : Result (Unit {0}) Refusal) (n : BatchName) (column vector : ℕ) (coding : Coding) → k ≡ length old → RecodesEntries old new result n column vector coding → take k (new ++ drop (length new) old) ≡ new
back_in k old new result n column vector coding long recodes = refill k old new long (same_length old new result n column vector coding recodes)

acts_in : (m : Segments) (es new all : List Entry) (result : Result (Unit {0}) Refusal) (n : BatchName) (column vector : ℕ) (coding : Coding) → Sorted es → as_map es ≡ m → all ≡ new → RecodesEntries es new result n column vector coding
    → Acts (λ done. done) m result (as_map all) (recoded_in m n column vector coding)
acts_in m es new all result n column vector coding sorted is same recodes =
    subst (λ (x : Segments). Acts (λ done. done) x result (as_map all) (recoded_in x n column vector coding)) is
    (subst (λ (xs : List Entry). Acts (λ done. done) (as_map es) result (as_map xs) (recoded_in (as_map es) n column vector coding)) (sym same) (acts_recoded es new result n column vector coding sorted recodes))

stored_in : (m : Segments) (es new all : List Entry) (result : Result (Unit {0}) Refusal) (n : BatchName) (column vector : ℕ) (coding : Coding) → Sorted es → as_map es ≡ m → all ≡ new → RecodesEntries es new result n column vector coding
    → (table : Table) → AreStored table m → AreStored table (as_map all)
stored_in m es new all result n column vector coding sorted is same recodes = λ table stored.
    subst (λ (xs : List Entry). AreStored table (as_map xs)) (sym same) (AreStored-recoded table es new result n column vector coding sorted recodes (subst (AreStored table) (sym is) stored))

rows_same : (m : Segments) (es new all : List Entry) (result : Result (Unit {0}) Refusal) (n : BatchName) (column vector : ℕ) (coding : Coding) → Sorted es → as_map es ≡ m → all ≡ new → RecodesEntries es new result n column vector coding
    → rows_in (as_map all) ≡ rows_in m
rows_same m es new all result n column vector coding sorted is same recodes =
    ap (λ (xs : List Entry). rows_in (as_map xs)) same ∙ rows_recoded es new result n column vector coding sorted recodes ∙ ap rows_in is

pub recode_found-requires : goal.recode_found-requires
recode_found-requires c = subst Sorted (sym c.as_mut_slice.ensures.value) (Sorted-front c.self.inside.up_to.items c.self.inside.past.items c.self.invariant.kept.sorted)

pub recode_found-requires-else-name-self : goal.recode_found-requires-else-name-self
recode_found-requires-else-name-self c = subst Sorted (sym c.as_mut_slice-else-name-self.ensures.value) (Sorted-back c.self.inside.up_to.items c.self.inside.past.items c.self.invariant.kept.sorted)

pub invariant_of-self : goal.invariant_of-self
invariant_of-self c =
    let es : List Entry = c.self.inside.up_to.items in
    let fs : List Entry = c.self.inside.past.items in
    let recodes : RecodesEntries es c.recode_found.new.entries c.recode_found.result c.args.name c.args.column c.args.vector c.args.coding =
    subst (λ (xs : List Entry). RecodesEntries xs c.recode_found.new.entries c.recode_found.result c.args.name c.args.column c.args.vector c.args.coding) c.as_mut_slice.ensures.value c.recode_found.ensures.acts in
    let whole = back_in c.self.inside.up_to.len es c.recode_found.new.entries c.recode_found.result c.args.name c.args.column c.args.vector c.args.coding c.self.inside.up_to.ok.0 recodes in
    subst (λ (xs : List Entry). AreKeptInParts c.self.inside.own xs fs c.self.inside.held) (sym whole) (recoded_front c.self.inside.own es fs c.recode_found.new.entries c.self.inside.held c.recode_found.result c.args.name c.args.column c.args.vector c.args.coding c.self.invariant (grind (arith, nat_tests)) recodes)

pub returns-then-name-self-clause-segments : goal.returns-then-name-self-clause-segments
returns-then-name-self-clause-segments c =
    let es : List Entry = c.self.inside.up_to.items in
    let fs : List Entry = c.self.inside.past.items in
    let recodes : RecodesEntries es c.recode_found.new.entries c.recode_found.result c.args.name c.args.column c.args.vector c.args.coding =
    subst (λ (xs : List Entry). RecodesEntries xs c.recode_found.new.entries c.recode_found.result c.args.name c.args.column c.args.vector c.args.coding) c.as_mut_slice.ensures.value c.recode_found.ensures.acts in
    let whole = back_in c.self.inside.up_to.len es c.recode_found.new.entries c.recode_found.result c.args.name c.args.column c.args.vector c.args.coding c.self.inside.up_to.ok.0 recodes in
    acts_in c.args.self.now.segments (es ++ fs) (c.recode_found.new.entries ++ fs) _ c.recode_found.result c.args.name c.args.column c.args.vector c.args.coding c.self.invariant.kept.sorted (ap (λ (b : BatchesForm). b.segments) c.self.view_is) (ap (λ (xs : List Entry). xs ++ fs) whole) (recodes-up_to c.self.inside.own es fs c.recode_found.new.entries c.recode_found.result c.args.name c.args.column c.args.vector c.args.coding (grind (arith, nat_tests)) c.self.invariant.parted.past recodes)

pub returns-then-name-self-clause-rows : goal.returns-then-name-self-clause-rows
returns-then-name-self-clause-rows c =
    let es : List Entry = c.self.inside.up_to.items in
    let fs : List Entry = c.self.inside.past.items in
    let recodes : RecodesEntries es c.recode_found.new.entries c.recode_found.result c.args.name c.args.column c.args.vector c.args.coding =
    subst (λ (xs : List Entry). RecodesEntries xs c.recode_found.new.entries c.recode_found.result c.args.name c.args.column c.args.vector c.args.coding) c.as_mut_slice.ensures.value c.recode_found.ensures.acts in
    let whole = back_in c.self.inside.up_to.len es c.recode_found.new.entries c.recode_found.result c.args.name c.args.column c.args.vector c.args.coding c.self.inside.up_to.ok.0 recodes in
    rows_same c.args.self.now.segments (es ++ fs) (c.recode_found.new.entries ++ fs) _ c.recode_found.result c.args.name c.args.column c.args.vector c.args.coding c.self.invariant.kept.sorted (ap (λ (b : BatchesForm). b.segments) c.self.view_is) (ap (λ (xs : List Entry). xs ++ fs) whole) (recodes-up_to c.self.inside.own es fs c.recode_found.new.entries c.recode_found.result c.args.name c.args.column c.args.vector c.args.coding (grind (arith, nat_tests)) c.self.invariant.parted.past recodes)

pub returns-then-name-self-clause-stored : goal.returns-then-name-self-clause-stored
returns-then-name-self-clause-stored c =
    let es : List Entry = c.self.inside.up_to.items in
    let fs : List Entry = c.self.inside.past.items in
    let recodes : RecodesEntries es c.recode_found.new.entries c.recode_found.result c.args.name c.args.column c.args.vector c.args.coding =
    subst (λ (xs : List Entry). RecodesEntries xs c.recode_found.new.entries c.recode_found.result c.args.name c.args.column c.args.vector c.args.coding) c.as_mut_slice.ensures.value c.recode_found.ensures.acts in
    let whole = back_in c.self.inside.up_to.len es c.recode_found.new.entries c.recode_found.result c.args.name c.args.column c.args.vector c.args.coding c.self.inside.up_to.ok.0 recodes in
    stored_in c.args.self.now.segments (es ++ fs) (c.recode_found.new.entries ++ fs) _ c.recode_found.result c.args.name c.args.column c.args.vector c.args.coding c.self.invariant.kept.sorted (ap (λ (b : BatchesForm). b.segments) c.self.view_is) (ap (λ (xs : List Entry). xs ++ fs) whole) (recodes-up_to c.self.inside.own es fs c.recode_found.new.entries c.recode_found.result c.args.name c.args.column c.args.vector c.args.coding (grind (arith, nat_tests)) c.self.invariant.parted.past recodes)

pub invariant_of-self-else-name-self : goal.invariant_of-self-else-name-self
invariant_of-self-else-name-self c =
    let es : List Entry = c.self.inside.up_to.items in
    let fs : List Entry = c.self.inside.past.items in
    let recodes : RecodesEntries fs c.recode_found-else-name-self.new.entries c.recode_found-else-name-self.result c.args.name c.args.column c.args.vector c.args.coding =
    subst (λ (xs : List Entry). RecodesEntries xs c.recode_found-else-name-self.new.entries c.recode_found-else-name-self.result c.args.name c.args.column c.args.vector c.args.coding) c.as_mut_slice-else-name-self.ensures.value c.recode_found-else-name-self.ensures.acts in
    let whole = back_in c.self.inside.past.len fs c.recode_found-else-name-self.new.entries c.recode_found-else-name-self.result c.args.name c.args.column c.args.vector c.args.coding c.self.inside.past.ok.0 recodes in
    subst (λ (xs : List Entry). AreKeptInParts c.self.inside.own es xs c.self.inside.held) (sym whole) (recoded_back c.self.inside.own es fs c.recode_found-else-name-self.new.entries c.self.inside.held c.recode_found-else-name-self.result c.args.name c.args.column c.args.vector c.args.coding c.self.invariant (grind (arith, nat_tests)) recodes)

pub returns-else-name-self-clause-segments : goal.returns-else-name-self-clause-segments
returns-else-name-self-clause-segments c =
    let es : List Entry = c.self.inside.up_to.items in
    let fs : List Entry = c.self.inside.past.items in
    let recodes : RecodesEntries fs c.recode_found-else-name-self.new.entries c.recode_found-else-name-self.result c.args.name c.args.column c.args.vector c.args.coding =
    subst (λ (xs : List Entry). RecodesEntries xs c.recode_found-else-name-self.new.entries c.recode_found-else-name-self.result c.args.name c.args.column c.args.vector c.args.coding) c.as_mut_slice-else-name-self.ensures.value c.recode_found-else-name-self.ensures.acts in
    let whole = back_in c.self.inside.past.len fs c.recode_found-else-name-self.new.entries c.recode_found-else-name-self.result c.args.name c.args.column c.args.vector c.args.coding c.self.inside.past.ok.0 recodes in
    acts_in c.args.self.now.segments (es ++ fs) (es ++ c.recode_found-else-name-self.new.entries) _ c.recode_found-else-name-self.result c.args.name c.args.column c.args.vector c.args.coding c.self.invariant.kept.sorted (ap (λ (b : BatchesForm). b.segments) c.self.view_is) (ap (λ (xs : List Entry). es ++ xs) whole) (recodes-past c.self.inside.own es fs c.recode_found-else-name-self.new.entries c.recode_found-else-name-self.result c.args.name c.args.column c.args.vector c.args.coding (grind (arith, nat_tests)) c.self.invariant.parted.up_to recodes)

pub returns-else-name-self-clause-rows : goal.returns-else-name-self-clause-rows
returns-else-name-self-clause-rows c =
    let es : List Entry = c.self.inside.up_to.items in
    let fs : List Entry = c.self.inside.past.items in
    let recodes : RecodesEntries fs c.recode_found-else-name-self.new.entries c.recode_found-else-name-self.result c.args.name c.args.column c.args.vector c.args.coding =
    subst (λ (xs : List Entry). RecodesEntries xs c.recode_found-else-name-self.new.entries c.recode_found-else-name-self.result c.args.name c.args.column c.args.vector c.args.coding) c.as_mut_slice-else-name-self.ensures.value c.recode_found-else-name-self.ensures.acts in
    let whole = back_in c.self.inside.past.len fs c.recode_found-else-name-self.new.entries c.recode_found-else-name-self.result c.args.name c.args.column c.args.vector c.args.coding c.self.inside.past.ok.0 recodes in
    rows_same c.args.self.now.segments (es ++ fs) (es ++ c.recode_found-else-name-self.new.entries) _ c.recode_found-else-name-self.result c.args.name c.args.column c.args.vector c.args.coding c.self.invariant.kept.sorted (ap (λ (b : BatchesForm). b.segments) c.self.view_is) (ap (λ (xs : List Entry). es ++ xs) whole) (recodes-past c.self.inside.own es fs c.recode_found-else-name-self.new.entries c.recode_found-else-name-self.result c.args.name c.args.column c.args.vector c.args.coding (grind (arith, nat_tests)) c.self.invariant.parted.up_to recodes)

pub returns-else-name-self-clause-stored : goal.returns-else-name-self-clause-stored
returns-else-name-self-clause-stored c =
    let es : List Entry = c.self.inside.up_to.items in
    let fs : List Entry = c.self.inside.past.items in
    let recodes : RecodesEntries fs c.recode_found-else-name-self.new.entries c.recode_found-else-name-self.result c.args.name c.args.column c.args.vector c.args.coding =
    subst (λ (xs : List Entry). RecodesEntries xs c.recode_found-else-name-self.new.entries c.recode_found-else-name-self.result c.args.name c.args.column c.args.vector c.args.coding) c.as_mut_slice-else-name-self.ensures.value c.recode_found-else-name-self.ensures.acts in
    let whole = back_in c.self.inside.past.len fs c.recode_found-else-name-self.new.entries c.recode_found-else-name-self.result c.args.name c.args.column c.args.vector c.args.coding c.self.inside.past.ok.0 recodes in
    stored_in c.args.self.now.segments (es ++ fs) (es ++ c.recode_found-else-name-self.new.entries) _ c.recode_found-else-name-self.result c.args.name c.args.column c.args.vector c.args.coding c.self.invariant.kept.sorted (ap (λ (b : BatchesForm). b.segments) c.self.view_is) (ap (λ (xs : List Entry). es ++ xs) whole) (recodes-past c.self.inside.own es fs c.recode_found-else-name-self.new.entries c.recode_found-else-name-self.result c.args.name c.args.column c.args.vector c.args.coding (grind (arith, nat_tests)) c.self.invariant.parted.up_to recodes)
