use Rattle.std.proofs.Common.{◌≡◌, ◌∙◌, ℕ, ◌-◌, ◌≤◌, List, length, map, drop, slice_range, sym, ap, arith}
use Rattle.std.proofs.lemmas.Result.{err_from_is_err_and}
use Rattle.table_model.proofs.OrMemory.{or_memory}
use Rattle.table_model.specs.Table.{ColumnShape, bits_of}
use Rattle.segment_core.specs.CodedVector.{VectorForm}
use Rattle.segment_core.specs.Segment.{batch_of, widths_in}
use Rattle.segment_core.specs.SegmentBytes.{columns, batch_columns, columns_then}
use Rattle.segment_core.proofs.FormatLaws.{bytes_at}
use Rattle.segment_core.proofs.SegmentLaws.{read_at, spelled_at, segment_bytes_are}
use Rattle.segment_core.proofs.segment.Segment.read_bytes.Goals as goal

pub returns-clause-next : goal.returns-clause-next
returns-clause-next c = omega (arith, c.saturating_sub-next.ensures)

pub returns-in_err-read-clause-only : goal.returns-in_err-read-clause-only
returns-in_err-read-clause-only c = λ forms rest valid parts.
    let width : ColumnShape → ℕ = λ s. bits_of s.column_type in
    let p = err_from_is_err_and c.from_residual.result c.from_residual.ensures.1 in
    rw (p.1, p.2) (or_memory c.in_err-read.ensures.read (λ fault.
    sym (spelled_at c.args.schema.now c.args.rows c.args.bytes.now c.args.at forms rest valid parts)
    ∙ ap (λ (shapes : List ColumnShape). (columns (map width shapes) c.args.rows).read (length c.args.bytes.now) (drop c.args.at c.args.bytes.now)) (sym c.column_list.ensures.list)
    ∙ ap ((columns (map width c.column_list.result.now) c.args.rows).read (length c.args.bytes.now)) (sym c.split_at.ensures.back)
    ∙ fault))

pub returns-clause-exact : goal.returns-clause-exact
returns-clause-exact c =
    let width : ColumnShape → ℕ = λ s. bits_of s.column_type in
    let whole : (batch_columns c.args.schema.now c.args.rows).read (length c.args.bytes.now) (drop c.args.at c.args.bytes.now) ≡ columns_then c.in_ok-read.read.items c.in_ok-read.rest.now =
    ap (λ (shapes : List ColumnShape). (columns (map width shapes) c.args.rows).read (length c.args.bytes.now) (drop c.args.at c.args.bytes.now)) (sym c.column_list.ensures.list)
    ∙ ap ((columns (map width c.column_list.result.now) c.args.rows).read (length c.args.bytes.now)) (sym c.split_at.ensures.back)
    ∙ c.in_ok-read.ensures.read in
    let placed = read_at c.args.schema.now c.args.rows c.args.bytes.now c.args.at c.in_ok-read.read.items c.in_ok-read.rest.now c.requires.at (bytes_at c.args.bytes.now (λ i. omega (arith, c.type_inv.bytes i))) whole in
    whole ∙ ap (columns_then c.in_ok-read.read.items) (sym placed.0 ∙ ap (λ (n : ℕ). drop n c.args.bytes.now) (sym c.saturating_sub-next.ensures)) ∙ ap (λ (forms : List (List VectorForm)). columns_then forms (drop c.saturating_sub-next.result c.args.bytes.now)) (sym c.from_columns.ensures.forms)

pub returns-clause-only : goal.returns-clause-only
returns-clause-only c = λ forms rest valid parts.
    sym (spelled_at c.args.schema.now c.args.rows c.args.bytes.now c.args.at forms rest valid parts) ∙ returns-clause-exact c

pub returns-clause-found : goal.returns-clause-found
returns-clause-found c =
    let width : ColumnShape → ℕ = λ s. bits_of s.column_type in
    let whole : (batch_columns c.args.schema.now c.args.rows).read (length c.args.bytes.now) (drop c.args.at c.args.bytes.now) ≡ columns_then c.in_ok-read.read.items c.in_ok-read.rest.now =
    ap (λ (shapes : List ColumnShape). (columns (map width shapes) c.args.rows).read (length c.args.bytes.now) (drop c.args.at c.args.bytes.now)) (sym c.column_list.ensures.list)
    ∙ ap ((columns (map width c.column_list.result.now) c.args.rows).read (length c.args.bytes.now)) (sym c.split_at.ensures.back)
    ∙ c.in_ok-read.ensures.read in
    let placed = read_at c.args.schema.now c.args.rows c.args.bytes.now c.args.at c.in_ok-read.read.items c.in_ok-read.rest.now c.requires.at (bytes_at c.args.bytes.now (λ i. omega (arith, c.type_inv.bytes i))) whole in
    ap (λ (n : ℕ). slice_range c.args.bytes.now c.args.at n) c.saturating_sub-next.ensures ∙ placed.1
    ∙ ap ((batch_columns c.args.schema.now c.args.rows).spell) (sym c.from_columns.ensures.forms)
    ∙ sym (segment_bytes_are c.from_columns.result c.args.schema.now c.args.rows
    (c.from_columns.ensures.rows ∙ ap (batch_of c.args.rows) (sym c.from_columns.ensures.forms))
    (ap widths_in c.from_columns.ensures.forms ∙ c.in_ok-read.ensures.lanes ∙ ap (map width) c.column_list.ensures.list))

pub returns-clause-onward : goal.returns-clause-onward
returns-clause-onward c =
    let width : ColumnShape → ℕ = λ s. bits_of s.column_type in
    let whole : (batch_columns c.args.schema.now c.args.rows).read (length c.args.bytes.now) (drop c.args.at c.args.bytes.now) ≡ columns_then c.in_ok-read.read.items c.in_ok-read.rest.now =
    ap (λ (shapes : List ColumnShape). (columns (map width shapes) c.args.rows).read (length c.args.bytes.now) (drop c.args.at c.args.bytes.now)) (sym c.column_list.ensures.list)
    ∙ ap ((columns (map width c.column_list.result.now) c.args.rows).read (length c.args.bytes.now)) (sym c.split_at.ensures.back)
    ∙ c.in_ok-read.ensures.read in
    let placed = read_at c.args.schema.now c.args.rows c.args.bytes.now c.args.at c.in_ok-read.read.items c.in_ok-read.rest.now c.requires.at (bytes_at c.args.bytes.now (λ i. omega (arith, c.type_inv.bytes i))) whole in
    let onward : c.args.at ≤ length c.args.bytes.now - length c.in_ok-read.rest.now = placed.2 in
    omega (arith, onward, c.saturating_sub-next.ensures)

pub returns-clause-widths : goal.returns-clause-widths
returns-clause-widths c =
    let width : ColumnShape → ℕ = λ s. bits_of s.column_type in
    ap widths_in c.from_columns.ensures.forms ∙ c.in_ok-read.ensures.lanes ∙ ap (map width) c.column_list.ensures.list

pub returns-clause-valid : goal.returns-clause-valid
returns-clause-valid c = c.from_columns.ensures.valid c.args.schema.now (returns-clause-widths c)
