-- The held segment's rows tell whether it has the vector.
use Rattle.std.proofs.Common.{◌≡◌, ◌∙◌, sym, ap, subst}
use Rattle.std.specs.Prelude.{true, false, Some, None, IsOk}
use Rattle.std.specs.Option.{option_copied, option_map}
use Rattle.std.specs.FinMap as map
use Rattle.table_model.specs.Outcome.{unless}
use Rattle.replica_store.specs.Replica.{Replica, recode_fault}
use Rattle.replica_store.specs.Segments.{StoreForm, rows_in, recoded_in, HasVector}
use Rattle.replica_store.proofs.RowsIn.{rows, get-rows_in}
use Rattle.replica_store.proofs.VectorPlaces.{fault_found, fault_none, recodes_there, recodes_missing, recodes_none}
use Rattle.replica_store.proofs.store.Store.recode_fault.Goals as goal

pub returns-in_default-clause-value : goal.returns-in_default-clause-value
returns-in_default-clause-value c =
    let none : map.get c.self.inside.batches.segments c.args.name ≡ None = sym c.get.ensures.segment ∙ ap option_copied c.in_default.is in
    let r : Replica = record { schema = c.self.inside.schema; own = c.self.inside.own; state = record { batches = rows_in c.self.inside.batches.segments; deleted = c.self.inside.tombs } } in
    sym (ap unless (ap (λ (s : StoreForm). recode_fault s.replica c.args.name c.args.column c.args.vector) (sym c.self.view_is)
    ∙ fault_none r c.args.name c.args.column c.args.vector (get-rows_in c.self.inside.batches.segments c.args.name ∙ ap (option_map rows) none)))

pub returns-in_default-clause-missing : goal.returns-in_default-clause-missing
returns-in_default-clause-missing c = λ coding.
    let none : map.get c.self.inside.batches.segments c.args.name ≡ None = sym c.get.ensures.segment ∙ ap option_copied c.in_default.is in
    ap (λ (s : StoreForm). recoded_in s.segments c.args.name c.args.column c.args.vector coding) (sym c.self.view_is) ∙ recodes_none c.self.inside.batches.segments c.args.name c.args.column c.args.vector none coding

pub returns-then-has_vector-clause-value : goal.returns-then-has_vector-clause-value
returns-then-has_vector-clause-value c =
    let has : map.get c.self.inside.batches.segments c.args.name ≡ Some c.in-Some.segment.now = sym c.get.ensures.segment ∙ ap option_copied c.in-Some.is in
    let r : Replica = record { schema = c.self.inside.schema; own = c.self.inside.own; state = record { batches = rows_in c.self.inside.batches.segments; deleted = c.self.inside.tombs } } in
    let there : HasVector c.in-Some.segment.now c.args.column c.args.vector true = subst (HasVector c.in-Some.segment.now c.args.column c.args.vector) c.if-has_vector.true c.has_vector.ensures in
    sym (ap unless (ap (λ (s : StoreForm). recode_fault s.replica c.args.name c.args.column c.args.vector) (sym c.self.view_is)
    ∙ fault_found r c.args.name c.args.column c.args.vector c.in-Some.segment.now true c.self.invariant.sound.within.fits (get-rows_in c.self.inside.batches.segments c.args.name ∙ ap (option_map rows) has) there))

pub returns-then-has_vector-clause-there : goal.returns-then-has_vector-clause-there
returns-then-has_vector-clause-there c = λ coding.
    let has : map.get c.self.inside.batches.segments c.args.name ≡ Some c.in-Some.segment.now = sym c.get.ensures.segment ∙ ap option_copied c.in-Some.is in
    let there : HasVector c.in-Some.segment.now c.args.column c.args.vector true = subst (HasVector c.in-Some.segment.now c.args.column c.args.vector) c.if-has_vector.true c.has_vector.ensures in
    subst (λ (s : StoreForm). IsOk (recoded_in s.segments c.args.name c.args.column c.args.vector coding)) c.self.view_is (recodes_there c.self.inside.batches.segments c.args.name c.args.column c.args.vector c.in-Some.segment.now has there coding)

pub returns-else-has_vector-clause-value : goal.returns-else-has_vector-clause-value
returns-else-has_vector-clause-value c =
    let has : map.get c.self.inside.batches.segments c.args.name ≡ Some c.in-Some.segment.now = sym c.get.ensures.segment ∙ ap option_copied c.in-Some.is in
    let r : Replica = record { schema = c.self.inside.schema; own = c.self.inside.own; state = record { batches = rows_in c.self.inside.batches.segments; deleted = c.self.inside.tombs } } in
    let missing : HasVector c.in-Some.segment.now c.args.column c.args.vector false = subst (HasVector c.in-Some.segment.now c.args.column c.args.vector) c.if-has_vector.false c.has_vector.ensures in
    sym (ap unless (ap (λ (s : StoreForm). recode_fault s.replica c.args.name c.args.column c.args.vector) (sym c.self.view_is)
    ∙ fault_found r c.args.name c.args.column c.args.vector c.in-Some.segment.now false c.self.invariant.sound.within.fits (get-rows_in c.self.inside.batches.segments c.args.name ∙ ap (option_map rows) has) missing))

pub returns-else-has_vector-clause-missing : goal.returns-else-has_vector-clause-missing
returns-else-has_vector-clause-missing c = λ coding.
    let has : map.get c.self.inside.batches.segments c.args.name ≡ Some c.in-Some.segment.now = sym c.get.ensures.segment ∙ ap option_copied c.in-Some.is in
    let missing : HasVector c.in-Some.segment.now c.args.column c.args.vector false = subst (HasVector c.in-Some.segment.now c.args.column c.args.vector) c.if-has_vector.false c.has_vector.ensures in
    ap (λ (s : StoreForm). recoded_in s.segments c.args.name c.args.column c.args.vector coding) (sym c.self.view_is) ∙ recodes_missing c.self.inside.batches.segments c.args.name c.args.column c.args.vector c.in-Some.segment.now has missing coding
