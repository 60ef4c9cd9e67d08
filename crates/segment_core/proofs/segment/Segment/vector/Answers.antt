-- A column has as many vectors as its rows take.
use Rattle.std.proofs.Common.{◌<◌, length, arith, ap}
use Rattle.segment_core.proofs.SegmentLemmas.{column_length, column_limit, vector_found}
use Rattle.segment_core.proofs.segment.Segment.vector.Goals as goal

pub offset_bounds-as_slice-vector : goal.offset_bounds-as_slice-vector
offset_bounds-as_slice-vector c =
    let limit = column_limit c.self.inside.rows c.self.inside.columns.items c.args.self.now (record { proper = c.self.invariant.segment; view = c.self.view_is }) in
    let below = c.requires.vector in
    record { fits = omega arith }

pub bounds-as_slice-vector : goal.bounds-as_slice-vector
bounds-as_slice-vector c =
    let count = column_length c.self.inside.rows c.self.inside.columns.items c.args.self.now c.args.column c.index.result.now (record { proper = c.self.invariant.segment; view = c.self.view_is }) c.requires.column c.index.ensures in
    let same = ap length c.as_slice.ensures in
    let below = c.requires.vector in
    omega arith

pub returns : goal.returns
returns c =
    let count = column_length c.self.inside.rows c.self.inside.columns.items c.args.self.now c.args.column c.index.result.now (record { proper = c.self.invariant.segment; view = c.self.view_is }) c.requires.column c.index.ensures in
    let same = c.as_slice.ensures in
    let below : c.args.vector < length c.index.result.now = let b = c.requires.vector in omega arith in
    vector_found c.self.inside.rows c.self.inside.columns.items c.args.self.now c.args.column c.args.vector c.index.result.now c.index-as_slice-vector.result
    (record { proper = c.self.invariant.segment; view = c.self.view_is }) c.requires.column c.index.ensures below
    (rw (← same) c.index-as_slice-vector.is)
