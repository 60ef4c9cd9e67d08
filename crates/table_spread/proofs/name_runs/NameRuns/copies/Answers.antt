-- What passes of a store's batches may be offered.
use Rattle.std.proofs.Common.{◌≡◌, sym, ap, subst, ◌∙◌, ◌++◌, ◌≤◌, List}
use Rattle.std.proofs.lemmas.List.Elements.{All-append, filter-append}
use Rattle.std.specs.FinMap as map
use Rattle.std.specs.FinMap.Entries.{where_key}
use Rattle.std.specs.List.{All}
use Rattle.table_model.specs.Name.{name_cmp}
use Rattle.table_model.specs.State.{Batch}
use Rattle.replica_store.specs.Exchange.{AreOffered}
use Rattle.replica_store.specs.Replica.{batch_limit}
use Rattle.replica_store.specs.Segments.{Entry, IsStored}
use Rattle.table_spread.specs.Spread.{is_in_run}
use Rattle.table_spread.proofs.ShareForms.{offered_where}
use Rattle.table_spread.proofs.name_runs.NameRuns.copies.Goals as goal

pub returns-clause-offered : goal.returns-clause-offered
returns-clause-offered c =
    let p = is_in_run c.args.self.now c.args.index in
    let table = c.args.store.now.replica.schema in
    let first = c.parts.result.0.now in
    let second = c.parts.result.1.now in
    let items : c.push_copies-2.new.copies.items ≡ where_key name_cmp p (map.entries c.args.store.now.segments) =
    c.in_ok-push_copies-2.ensures
    ∙ (λ i. (c.in_ok-push_copies.ensures ∙ ap (λ (xs : List Entry). xs ++ where_key name_cmp p first) c.new-copies.ensures.items) i ++ where_key name_cmp p second)
    ∙ sym (filter-append (λ (e : Entry). p e.0) first second)
    ∙ ap (where_key name_cmp p) c.parts.ensures.value in
    subst (AreOffered table) (sym items)
    (offered_where p table c.args.store.now.segments
    (subst (λ (m : map.FinMap name_cmp Batch). map.len m ≤ batch_limit) c.parts.ensures.rows c.keeps_its_limits.ensures.limit)
    (subst (All (IsStored table)) c.parts.ensures.value (All-append (IsStored table) first second c.parts.ensures.first c.parts.ensures.second)))
