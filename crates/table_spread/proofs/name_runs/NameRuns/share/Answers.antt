-- The copies and the deletions are the share.
use Rattle.std.specs.Prelude.{◌≡◌, ◌==◌, Bool, false, cond, Result, Ok, Err}
use Rattle.std.proofs.Common.{ap, subst, ◌∙◌, arith}
use Rattle.std.proofs.lemmas.Bool.{ne_eqb}
use Rattle.table_model.specs.Outcome.{Gives}
use Rattle.table_model.specs.declared.names.Origin.{Origin}
use Rattle.table_model.specs.declared.refusal.Refusal.{Refusal}
use Rattle.table_model.specs.declared.refusal.Refusal.TheVariants.{BadName}
use Rattle.replica_store.specs.Exchange.{offering, summary_of}
use Rattle.replica_store.specs.Replica.{Replica}
use Rattle.replica_store.specs.declared.store.Store.{Store}
use Rattle.table_spread.specs.Spread.{is_in_run, goes_to, deletions_of, share_in}
use Rattle.table_spread.proofs.ShareForms.{segments_are, share_is, same_summary, if_then}
use Rattle.table_spread.proofs.name_runs.NameRuns.share.Goals as goal

pub returns-clause-value : goal.returns-clause-value
returns-clause-value c =
    let firsts = c.args.self.now in
    let index = c.args.index in
    let r = c.args.store.now.replica in
    let offer = c.from_parts.result in
    let names = c.names.ensures.value ∙ ap (λ s. s.names) (same_summary c.in_ok-summary.summary (summary_of r) c.in_ok-summary.ensures) in
    let deleted = c.from_parts.ensures.deleted ∙ c.in_ok-tombs.ensures ∙ (λ i. deletions_of (goes_to firsts (names i) index) (c.tombs.ensures i)) in
    let is : offering r.own offer ≡ share_in firsts index r =
    share_is firsts index r c.args.store.now.segments offer c.shows_its_segments.ensures (c.from_parts.ensures.schema ∙ c.in_ok-schema.ensures ∙ c.schema.ensures) c.from_parts.ensures.batches (c.from_parts.ensures.entries ∙ c.in_ok-entries.ensures.value) deleted in
    let proper : (c.own.result.0 == 0) ≡ false = ne_eqb c.own.result.0 0 (λ none. omega (arith, none, c.own.ensures.proper)) in
    subst (λ (given : Result Replica Refusal). Gives (λ (share : Store). share.replica) c.into_store.result given)
    (ap (λ (b : Bool). cond {A = Result Replica Refusal} b (Err BadName) (Ok (offering c.own.result offer))) proper ∙ ap (λ (own : Origin). Ok (offering own offer)) c.own.ensures.value ∙ ap Ok is)
    c.into_store.ensures.value

pub returns-clause-segments : goal.returns-clause-segments
returns-clause-segments c =
    if_then c.into_store.result (λ share is. is ∙ segments_are (is_in_run c.args.self.now c.args.index) c.from_parts.result.segments c.args.store.now.segments (c.from_parts.ensures.entries ∙ c.in_ok-entries.ensures.value)) c.into_store.ensures.segments
