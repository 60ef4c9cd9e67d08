-- The row's vector covers it, and has its cell.
use Rattle.std.proofs.Common.{◌<◌, ◌/◌, length, sym, ◌∙◌, ap, arith}
use Rattle.segment_core.proofs.SegmentLemmas.{column_length}
use Rattle.segment_core.proofs.CellLemmas.{cell_place}
use Rattle.segment_core.proofs.segment.Segment.value.Goals as goal

pub bounds-vectors-ordinal : goal.bounds-vectors-ordinal
bounds-vectors-ordinal c =
    let count = column_length c.self.inside.rows c.self.inside.columns.items c.args.self.now c.args.column c.index.result.now (record { proper = c.self.invariant.segment; view = c.self.view_is }) c.requires.column c.index.ensures in
    let same = ap length c.as_slice-vectors.ensures in
    let below = c.requires.ordinal in
    omega arith

pub value-requires : goal.value-requires
value-requires c =
    let count = column_length c.self.inside.rows c.self.inside.columns.items c.args.self.now c.args.column c.index.result.now (record { proper = c.self.invariant.segment; view = c.self.view_is }) c.requires.column c.index.ensures in
    let same = c.as_slice-vectors.ensures in
    let within : c.args.ordinal / 1024 < length c.index.result.now = let b = c.requires.ordinal in omega arith in
    (cell_place c.self.inside.rows c.self.inside.columns.items c.args.self.now c.args.ordinal c.args.column c.index.result.now c.index-vectors-ordinal.result
    (record { proper = c.self.invariant.segment; view = c.self.view_is }) c.requires.ordinal c.requires.column c.index.ensures (rw (← same) c.index-vectors-ordinal.is) within).below

pub returns : goal.returns
returns c =
    let count = column_length c.self.inside.rows c.self.inside.columns.items c.args.self.now c.args.column c.index.result.now (record { proper = c.self.invariant.segment; view = c.self.view_is }) c.requires.column c.index.ensures in
    let same = c.as_slice-vectors.ensures in
    let within : c.args.ordinal / 1024 < length c.index.result.now = let b = c.requires.ordinal in omega arith in
    c.value.ensures
    ∙ sym (cell_place c.self.inside.rows c.self.inside.columns.items c.args.self.now c.args.ordinal c.args.column c.index.result.now c.index-vectors-ordinal.result
    (record { proper = c.self.invariant.segment; view = c.self.view_is }) c.requires.ordinal c.requires.column c.index.ensures (rw (← same) c.index-vectors-ordinal.is) within).is
