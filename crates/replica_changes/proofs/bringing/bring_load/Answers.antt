-- The offer of the load's batches is taken.
use Rattle.std.proofs.Common.{◌∙◌, ◌==◌, ℕ, not, sym, ap, subst, refl, inr, length, Ok}
use Rattle.std.proofs.lemmas.Result.{err_from_is_err_and}
use Rattle.std.specs.FinSet as set
use Rattle.table_model.specs.Name.{row_name_cmp}
use Rattle.std.specs.FinMap as map
use Rattle.replica_store.specs.Brought.{IsBrought, both_of}
use Rattle.replica_store.specs.Exchange.{offering}
use Rattle.replica_store.specs.Segments.{StoreForm}
use Rattle.replica_changes.specs.Brings.{BringsTo, load_brought}
use Rattle.replica_changes.specs.Loads.{chosen_name, deleted_among, importing, name_of_some, named_batches}
use Rattle.replica_changes.specs.Refusals.{is_refusal_of_import}
use Rattle.replica_changes.specs.declared.importing.Imported.{Imported}
use Rattle.replica_changes.proofs.CommandsBring.{load_done, load_stopped, load_unnamed, nothing_lacks}
use Rattle.replica_changes.proofs.Imports.{name_listed, merge_is_listed, chosen_first, offer_is}
use Rattle.replica_changes.proofs.StoreCommands.{merge_listed}
use Rattle.replica_changes.proofs.bringing.bring_load.Goals as goal

pub returns-in_err-name-clause-brings : goal.returns-in_err-name-clause-brings
returns-in_err-name-clause-brings c =
    let p = err_from_is_err_and c.from_residual.result c.from_residual.ensures.1 in
    rw (p.1, p.2) (load_unnamed c.args.held.now c.args.load c.args.given c.args.words.now c.in_err-name.field-0.0
    (ap (λ (n : ℕ). chosen_name c.args.held.now.replica.state c.args.given c.args.words.now n) (sym c.batches-batches.ensures.value) ∙ sym c.in_err-name.ensures))

pub returns-in_err-name-clause-refused : goal.returns-in_err-name-clause-refused
returns-in_err-name-clause-refused c =
    let p = err_from_is_err_and c.from_residual.result c.from_residual.ensures.1 in
    rw (p.1, p.2) (name_listed c.args.held.now.replica.state c.args.given c.args.words.now _ c.in_err-name.field-0.0 (sym c.in_err-name.ensures))

pub deleted_by-deleted-requires : goal.deleted_by-deleted-requires
deleted_by-deleted-requires c =
    chosen_first c.args.held.now.replica.state c.args.given c.args.words.now (length c.args.load.batches) c.in_ok-name.name
    (ap (λ (n : ℕ). chosen_name c.args.held.now.replica.state c.args.given c.args.words.now n) (sym c.batches-batches.ensures.value) ∙ sym c.in_ok-name.ensures)

pub into_entries-requires : goal.into_entries-requires
into_entries-requires c =
    chosen_first c.args.held.now.replica.state c.args.given c.args.words.now (length c.args.load.batches) c.in_ok-name.name
    (ap (λ (n : ℕ). chosen_name c.args.held.now.replica.state c.args.given c.args.words.now n) (sym c.batches-batches.ensures.value) ∙ sym c.in_ok-name.ensures)

pub returns-in_err-brought-clause-brings : goal.returns-in_err-brought-clause-brings
returns-in_err-brought-clause-brings c =
    let p = err_from_is_err_and c.from_residual-in_err-brought.result c.from_residual-in_err-brought.ensures.1 in
    rw (p.1, p.2) (inr (nothing_lacks c.args.held.now.replica.schema c.in_err-brought.field-0.0 c.in_err-brought.ensures.own))

pub returns-in_err-brought-clause-refused : goal.returns-in_err-brought-clause-refused
returns-in_err-brought-clause-refused c =
    let p = err_from_is_err_and c.from_residual-in_err-brought.result c.from_residual-in_err-brought.ensures.1 in
    rw (p.1, p.2) (ap is_refusal_of_import (nothing_lacks c.args.held.now.replica.schema c.in_err-brought.field-0.0 c.in_err-brought.ensures.own))

pub returns-in_err-take-clause-brings : goal.returns-in_err-take-clause-brings
returns-in_err-take-clause-brings c =
    let p = err_from_is_err_and c.from_residual-in_err-take.result c.from_residual-in_err-take.ensures.1 in
    let r = c.args.held.now.replica in
    let chosen = ap (λ (n : ℕ). chosen_name r.state c.args.given c.args.words.now n) (sym c.batches-batches.ensures.value) ∙ sym c.in_ok-name.ensures in
    let is = offer_is r c.args.load c.in_ok-name.name c.from_parts.result c.in_ok-schema.entries.items (c.from_parts.ensures.schema ∙ c.in_ok-schema.ensures.schema) c.from_parts.ensures.batches (c.from_parts.ensures.deleted ∙ c.new.ensures)
    c.from_parts.ensures.entries c.in_ok-schema.ensures.named in
    rw (p.1, p.2) (load_stopped c.args.held.now c.args.load c.args.given c.args.words.now c.in_ok-name.name c.from_parts.result c.in_ok-brought.brought r.schema c.in_err-take.field-0.0 c.in_ok-brought.ensures.held c.in_ok-brought.ensures.own chosen is c.in_err-take.ensures.acts.1)

pub returns-in_err-take-clause-refused : goal.returns-in_err-take-clause-refused
returns-in_err-take-clause-refused c =
    let p = err_from_is_err_and c.from_residual-in_err-take.result c.from_residual-in_err-take.ensures.1 in
    let whole = both_of c.in_ok-brought.brought in
    rw (p.1, p.2) (merge_is_listed c.in_err-take.field-0.0 (merge_listed whole (offering whole.own c.from_parts.result) c.in_err-take.field-0.0 c.in_err-take.ensures.acts.1))

pub returns-clause-brings : goal.returns-clause-brings
returns-clause-brings c =
    let r = c.args.held.now.replica in
    let chosen = ap (λ (n : ℕ). chosen_name r.state c.args.given c.args.words.now n) (sym c.batches-batches.ensures.value) ∙ sym c.in_ok-name.ensures in
    let is = offer_is r c.args.load c.in_ok-name.name c.from_parts.result c.in_ok-schema.entries.items (c.from_parts.ensures.schema ∙ c.in_ok-schema.ensures.schema) c.from_parts.ensures.batches (c.from_parts.ensures.deleted ∙ c.new.ensures)
    c.from_parts.ensures.entries c.in_ok-schema.ensures.named in
    let answer : Imported = record { batches = c.batches-batches.result; new = c.batches.result; rows = c.rows-rows.result; deleted = c.deleted_by-deleted.result; first = c.name_of_some.result } in
    let value = c.into_own-own.ensures.value in
    subst (λ (s : StoreForm). BringsTo (λ (done : Imported). done) (λ (done : Imported). not (done.new == 0)) (Ok (answer, s)) c.args.held.now (load_brought c.args.load c.args.given c.args.words.now r) (importing c.args.load c.args.given c.args.words.now r)) (sym value)
    (load_done c.args.held.now c.args.load c.args.given c.args.words.now c.in_ok-name.name c.from_parts.result c.in_ok-brought.brought c.take.new.self r.schema c.in_ok-take.field-0 answer
    c.in_ok-brought.ensures.held c.take.ensures.held refl c.in_ok-brought.ensures.own chosen is c.in_ok-take.ensures.acts c.in_ok-take.ensures.brought (subst (IsBrought c.take.new.self.held) value c.into_own-own.ensures.is_brought)
    (λ n same. λ i. record {
      batches = c.batches-batches.ensures.value i;
      new = (c.batches.ensures.value ∙ ap (λ s. map.len s.replica.state.batches) value ∙ sym same) i;
      rows = c.rows-rows.ensures i;
      deleted = (c.deleted_by-deleted.ensures ∙ ap (λ (d : set.FinSet row_name_cmp). deleted_among d (named_batches c.in_ok-name.name c.args.load.batches)) c.tombs.ensures) i;
      first = (c.name_of_some.ensures ∙ ap (λ (n : ℕ). name_of_some n c.in_ok-name.name) c.batches-batches.ensures.value) i;
    }))
