-- One file after another is read and joined.
use Rattle.std.specs.Prelude.{Err, IsTrue}
use Rattle.std.proofs.Common.{refl, ap, sym, arith, inl, inr}
use Rattle.std.proofs.lemmas.Result.{err_from_is_err_and}
use Rattle.table_model.specs.declared.refusal.Refusal.TheVariants.{Memory}
use Rattle.replica_store.specs.Segments.{StoreForm}
use Rattle.replica_changes.specs.Commands.{MergesAll}
use Rattle.replica_changes.specs.Refusals.{is_refusal_of_merge, reading_or, ReadInTurn}
use Rattle.replica_changes.proofs.FileLaws.{ok_one}
use Rattle.replica_changes.proofs.FileMerges.{merged_none, merged_next, merged_stops, merged_all, for_lack, for_ok, long_as}
use Rattle.replica_changes.proofs.ReadersInTurn.{none_read, read_next, read_then_written, stops_there, all_read}
use Rattle.replica_changes.proofs.merging.merge_others.Goals as goal

pub returns-in_err-joined-clause-merged : goal.returns-in_err-joined-clause-merged
returns-in_err-joined-clause-merged g c inputs known =
    let p = err_from_is_err_and c.from_residual.result c.from_residual.ensures.1 in
    rw (p.1, p.2) (for_lack {X = StoreForm} (λ (s : StoreForm). s) (λ e. MergesAll {X = StoreForm} (λ (s : StoreForm). s.replica) (Err e) c.args.first.replica inputs) c.args.first (Err c.in_err-joined.field-0.0) c.in_err-joined.ensures (inr (inl refl)))

pub returns-in_err-joined-clause-listed : goal.returns-in_err-joined-clause-listed
returns-in_err-joined-clause-listed g c =
    let p = err_from_is_err_and c.from_residual.result c.from_residual.ensures.1 in
    rw (p.1, p.2) (for_lack {X = StoreForm} (λ (s : StoreForm). s) (λ e. IsTrue (reading_or is_refusal_of_merge e)) c.args.first (Err c.in_err-joined.field-0.0) c.in_err-joined.ensures refl)

pub returns-in_err-joined-clause-in_turn : goal.returns-in_err-joined-clause-in_turn
returns-in_err-joined-clause-in_turn g c =
    let p = err_from_is_err_and c.from_residual.result c.from_residual.ensures.1 in
    rw (p.1, p.2) (for_lack {X = StoreForm} (λ (s : StoreForm). s) (λ e. ReadInTurn g.R.Read.remaining e c.args.readers.now c.args.readers.now) c.args.first (Err c.in_err-joined.field-0.0) c.in_err-joined.ensures (none_read g.R.Read.remaining c.args.readers.now))

pub loop-index-init : goal.loop-index-init
loop-index-init g c = record {
  merged = merged_none g.R.Read.remaining c.args.first.replica c.in_ok-joined.joined.replica c.args.readers.now (ap (λ (s : StoreForm). s.replica) (ok_one c.args.first c.in_ok-joined.joined c.in_ok-joined.ensures));
  read = refl;
}

pub returns-in_err-joined-2-clause-merged : goal.returns-in_err-joined-2-clause-merged
returns-in_err-joined-2-clause-merged g c =
    let p = err_from_is_err_and c.from_residual-in_err-joined-2.result c.from_residual-in_err-joined-2.ensures.1 in
    rw (p.1, p.2) (merged_stops g.R.Read.remaining (λ (s : StoreForm). s.replica) c.args.first.replica c.loop-index.joined.replica c.args.readers.now c.loop-index.readers c.loop-index.index c.index-readers-index.result c.in_err-joined-2.field-0.0
    c.loop-index.invariant.merged (long_as c.args.readers.now c.loop-index.readers c.loop-index.index (sym c.loop-index.invariant.merged.untouched) c.loop-index-test.true) c.loop-index-test.true c.in_err-joined-2.ensures.merged)

pub returns-in_err-joined-2-clause-in_turn : goal.returns-in_err-joined-2-clause-in_turn
returns-in_err-joined-2-clause-in_turn g c =
    let p = err_from_is_err_and c.from_residual-in_err-joined-2.result c.from_residual-in_err-joined-2.ensures.1 in
    rw (p.1, p.2) (stops_there g.R.Read.remaining c.in_err-joined-2.field-0.0 c.loop-index.index c.args.readers.now c.loop-index.readers c.index-readers-index.result c.merge_one.new.reader
    c.loop-index.invariant.read (long_as c.args.readers.now c.loop-index.readers c.loop-index.index (sym c.loop-index.invariant.merged.untouched) c.loop-index-test.true) c.in_err-joined-2.ensures.stops)

pub loop-index-preserved : goal.loop-index-preserved
loop-index-preserved g c = record {
  merged = merged_next g.R.Read.remaining (λ (s : StoreForm). s.replica) c.args.first.replica c.loop-index.joined.replica c.in_ok-joined-2.joined c.args.readers.now c.loop-index.readers c.loop-index.index c.index-readers-index.result c.merge_one.new.reader
      c.loop-index.invariant.merged (long_as c.args.readers.now c.loop-index.readers c.loop-index.index (sym c.loop-index.invariant.merged.untouched) c.loop-index-test.true) c.loop-index-test.true c.in_ok-joined-2.ensures.merged;
  read = read_next g.R.Read.remaining c.loop-index.index c.args.readers.now c.loop-index.readers c.index-readers-index.result c.merge_one.new.reader
      c.loop-index.invariant.read (long_as c.args.readers.now c.loop-index.readers c.loop-index.index (sym c.loop-index.invariant.merged.untouched) c.loop-index-test.true) c.in_ok-joined-2.ensures.read;
}

pub returns-clause-merged : goal.returns-clause-merged
returns-clause-merged g c =
    merged_all g.R.Read.remaining (λ (s : StoreForm). s.replica) c.args.first.replica c.loop-index.joined c.args.readers.now c.loop-index.readers c.loop-index.index c.into_store.result c.loop-index.invariant.merged (omega (arith, c.loop-index-test.false)) c.into_store.ensures

pub returns-clause-read : goal.returns-clause-read
returns-clause-read g c = for_ok c.into_store.result (all_read g.R.Read.remaining c.loop-index.index c.args.readers.now c.loop-index.readers c.loop-index.invariant.read (omega (arith, c.loop-index-test.false)))

pub returns-clause-listed : goal.returns-clause-listed
returns-clause-listed g c = for_lack (λ (s : StoreForm). s) (λ e. IsTrue (reading_or is_refusal_of_merge e)) c.loop-index.joined c.into_store.result c.into_store.ensures refl

pub returns-clause-in_turn : goal.returns-clause-in_turn
returns-clause-in_turn g c =
    for_lack (λ (s : StoreForm). s) (λ e. ReadInTurn g.R.Read.remaining e c.args.readers.now c.loop-index.readers) c.loop-index.joined c.into_store.result c.into_store.ensures
    (read_then_written g.R.Read.remaining Memory c.args.readers.now c.loop-index.readers (all_read g.R.Read.remaining c.loop-index.index c.args.readers.now c.loop-index.readers c.loop-index.invariant.read (omega (arith, c.loop-index-test.false))) (inl refl))
