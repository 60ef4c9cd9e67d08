-- All columns fit, and are written.
use Rattle.std.proofs.Common.{length, refl}
use Rattle.live_columns.specs.Between.{rows_between}
use Rattle.lanes_c.proofs.ColumnGivings.{put-done}
use Rattle.lanes_c.proofs.columns.put_columns.Goals as goal

pub returns-clause-put : goal.returns-clause-put
returns-clause-put g c =
    let seen = g.C.Columns.seen c.args.view.now in
    put-done (λ x. rows_between seen.table x seen.state c.args.batches.first c.args.batches.count) seen.state (g.C.Columns.seen c.rows_between.new.columns).state (record { condition = c.args.choice.now.condition; places = c.args.choice.now.places.items }) c.in_ok-chosen.chosen c.as_slice-places.result.now c.have_room-fit.result
    (length c.as_slice-places.result.now) (length c.args.values.now) (length c.args.valid.now) (length c.args.nulls.now) c.args.values.now c.write_columns.new.values c.args.valid.now c.write_columns.new.valid c.args.nulls.now c.write_columns.new.nulls
    c.rows_between.ensures.same.state c.as_slice-places.ensures.value c.in_ok-chosen.ensures.chosen refl refl refl refl c.have_room-fit.ensures c.if-not-fit.false
    c.write_columns.ensures.values c.write_columns.ensures.valid c.write_columns.ensures.nulls
