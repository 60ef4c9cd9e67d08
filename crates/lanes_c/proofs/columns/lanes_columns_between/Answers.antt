-- The handle stays as it was, and what was written of its store is told.
use Rattle.std.specs.Prelude.{◌≡◌, ℕ, List, MatchOption}
use Rattle.std.proofs.Common.{Some, Err, Option, sym, ap, subst, ◌∙◌}
use Rattle.replica_store.specs.Replica.{Replica}
use Rattle.replica_store.specs.Segments.{StoreForm}
use Rattle.live_columns.specs.Between.{rows_between}
use Rattle.lanes_c.specs.ColumnCalls.{AsksTexts, ColumnRooms, IsGiven, TellsColumns, columns_between}
use Rattle.lanes_c.specs.declared.fault.Fault.TheVariants.{NotOpen}
use Rattle.lanes_c.specs.declared.fault.Place.{Place}
use Rattle.lanes_c.specs.declared.handle.Table.{Table}
use Rattle.lanes_c.specs.declared.shared.Shared.{Shared}
use Rattle.lanes_c.proofs.ColumnGivings.{tells-put}
use Rattle.lanes_c.proofs.columns.lanes_columns_between.Goals as goal

pub returns : goal.returns
returns c =
    let names : List ℕ = c.args.names.now in
    let condition : List ℕ = c.args.condition.now in
    let was : ColumnRooms = record { values = c.args.values.now; valid = c.args.valid.now; nulls = c.args.nulls.now } in
    let rooms : ColumnRooms = record { values = c.columns_between-given.new.values; valid = c.columns_between-given.new.valid; nulls = c.columns_between-given.new.nulls } in
    let number : ℕ = c.tell_rows-2.result in
    let rows : ℕ = c.tell_rows-2.new.rows in
    let place : Place = c.tell_rows-2.new.place in
    let r : Replica = c.in-Some.shared.value.store.value.replica in
    let held : c.args.table.now.replica ≡ Some r = ap (λ (t : Table). t.replica) (sym c.replace.ensures.value) ∙ c.in-Some.ensures in
    let again : c.replace-2.new.dest.replica ≡ Some r = ap (λ (t : Table). t.replica) c.replace-2.ensures.after ∙ c.of_box.ensures in
    let same : c.deref-2.result.now.replica ≡ r = ap (λ (s : StoreForm). s.replica) (c.deref-2.ensures ∙ ap (λ (x : Shared). x.store.value) c.deref.ensures) in
    let told = tells-put c.columns_between-given.result names condition c.deref-2.result.now.replica.schema (λ x. rows_between c.deref-2.result.now.replica.schema x c.deref-2.result.now.replica.state c.args.first c.args.count) was rooms number rows place c.columns_between-given.ensures c.tell_rows-2.ensures.number c.tell_rows-2.ensures.rows c.tell_rows-2.ensures.place in (
      again ∙ sym held,
      subst
          (λ (o : Option Replica). MatchOption o (TellsColumns (λ given. given ≡ Err NotOpen) number was rooms rows place) (λ x. TellsColumns (λ given. AsksTexts (IsGiven (columns_between x.schema x.state c.args.first c.args.count names condition)) given names condition) number was rooms rows place))
          (sym held)
          (subst (λ (x : Replica). TellsColumns (λ given. AsksTexts (IsGiven (columns_between x.schema x.state c.args.first c.args.count names condition)) given names condition) number was rooms rows place) same told),
    )
