-- The cells at one vector more.
use Rattle.std.proofs.Common.{◌≡◌, ◌+◌, ◌<◌, ◌≤◌, ℕ, ℤ, Bool, List, ◌++◌, map, length, take, get_or, is_none, refl, sym, ap, subst, ◌∙◌, arith}
use Rattle.std.proofs.lemmas.List.{length-append, length-map, take_all}
use Rattle.std.proofs.lemmas.List.Folds.{length-flat_map-take}
use Rattle.table_model.specs.State.{State, Cells}
use Rattle.table_model.specs.Table.{Table}
use Rattle.table_model.specs.declared.names.RowName.{RowName}
use Rattle.query_eval.specs.Vector.{IsThere}
use Rattle.query_eval.specs.declared.filter.kept_rows.KeptVector.{KeptVector}
use Rattle.live_columns.specs.Bits.{AreMarked, front_bit}
use Rattle.live_columns.specs.Chosen.{IsMasked, cells_in, kept_in, rows_in}
use Rattle.live_columns.specs.Columns.{null_count, number_at, stride_of}
use Rattle.live_columns.proofs.CellSteps.{valid-done}
use Rattle.live_columns.proofs.ColumnSteps.{cells-length, nulls-few, step-flags, step-nulls, step-values}
use Rattle.live_columns.proofs.RowLemmas.{length-kept, rows-more}
use Rattle.live_columns.proofs.column.write_column.Goals as goal

pub loop-kept-init : goal.loop-kept-init
loop-kept-init g c = record {
  first = refl;
  values = refl;
  valid = c.set_front.ensures;
  bytes = λ k. omega (arith, c.type_inv.valid k);
  nulls = refl;
  table = refl;
  state = refl;
  passes = omega arith;
}

pub write_vector-missing-requires-clause-there : goal.write_vector-missing-requires-clause-there
write_vector-missing-requires-clause-there g c =
    let s = (g.C.Columns.seen c.args.columns.now).state in
    let kept : KeptVector = c.kept-item.result in
    let same : c.deref-kept-items.result.now ≡ c.args.chosen.now.vectors.items = c.deref-kept-items.ensures.value in
    let inside : c.loop-kept.kept-index < length c.args.chosen.now.vectors.items = omega (arith, c.loop-kept-test.true, ap length same) in
    let is : kept ≡ get_or c.args.chosen.now.vectors.items c.loop-kept.kept-index kept = c.kept-item.is ∙ ap (λ (l : List KeptVector). get_or l c.loop-kept.kept-index kept) same in
    let here : IsMasked s kept = subst (IsMasked s) (sym is) (c.requires.chosen.there c.loop-kept.kept-index kept inside) in
    subst (λ (x : State). IsThere x kept.id.batch kept.id.vector) (sym c.loop-kept.invariant.state) here.there

pub write_vector-missing-requires-clause-column : goal.write_vector-missing-requires-clause-column
write_vector-missing-requires-clause-column g c = omega (arith, c.requires.column, ap (λ (t : Table). length t.columns) c.loop-kept.invariant.table)

pub write_vector-missing-requires-clause-values : goal.write_vector-missing-requires-clause-values
write_vector-missing-requires-clause-values g c =
    let s = (g.C.Columns.seen c.args.columns.now).state in
    let kept : KeptVector = c.kept-item.result in
    let same : c.deref-kept-items.result.now ≡ c.args.chosen.now.vectors.items = c.deref-kept-items.ensures.value in
    let inside : c.loop-kept.kept-index < length c.args.chosen.now.vectors.items = omega (arith, c.loop-kept-test.true, ap length same) in
    let is : kept ≡ get_or c.args.chosen.now.vectors.items c.loop-kept.kept-index kept = c.kept-item.is ∙ ap (λ (l : List KeptVector). get_or l c.loop-kept.kept-index kept) same in
    omega (
      arith,
      c.requires.values,
      c.requires.chosen.count,
      c.loop-kept.invariant.first,
      c.loop-kept.auto.values,
      length-flat_map-take (kept_in s) c.args.chosen.now.vectors.items c.loop-kept.kept-index kept inside,
      ap (λ (k : KeptVector). length (kept_in s k)) is,
      ap (λ (x : State). length (kept_in x kept)) c.loop-kept.invariant.state,
    )

pub overflow_add-nulls : goal.overflow_add-nulls
overflow_add-nulls g c =
    let s = (g.C.Columns.seen c.args.columns.now).state in
    let kept : KeptVector = c.kept-item.result in
    let same : c.deref-kept-items.result.now ≡ c.args.chosen.now.vectors.items = c.deref-kept-items.ensures.value in
    let inside : c.loop-kept.kept-index < length c.args.chosen.now.vectors.items = omega (arith, c.loop-kept-test.true, ap length same) in
    let is : kept ≡ get_or c.args.chosen.now.vectors.items c.loop-kept.kept-index kept = c.kept-item.is ∙ ap (λ (l : List KeptVector). get_or l c.loop-kept.kept-index kept) same in
    let front : List (RowName × Cells) = rows_in s (take c.loop-kept.kept-index c.args.chosen.now.vectors.items) in
    omega (
      arith,
      c.requires.chosen.count,
      c.requires.chosen.few,
      c.loop-kept.invariant.nulls,
      c.write_vector-missing.ensures.nulls,
      nulls-few c.args.column front,
      nulls-few c.args.column (kept_in (g.C.Columns.seen c.loop-kept.columns).state kept),
      length-flat_map-take (kept_in s) c.args.chosen.now.vectors.items c.loop-kept.kept-index kept inside,
      ap (λ (k : KeptVector). length (kept_in s k)) is,
      ap (λ (x : State). length (kept_in x kept)) c.loop-kept.invariant.state,
    )

pub overflow_add-first : goal.overflow_add-first
overflow_add-first g c =
    let s = (g.C.Columns.seen c.args.columns.now).state in
    let kept : KeptVector = c.kept-item.result in
    let same : c.deref-kept-items.result.now ≡ c.args.chosen.now.vectors.items = c.deref-kept-items.ensures.value in
    let inside : c.loop-kept.kept-index < length c.args.chosen.now.vectors.items = omega (arith, c.loop-kept-test.true, ap length same) in
    let is : kept ≡ get_or c.args.chosen.now.vectors.items c.loop-kept.kept-index kept = c.kept-item.is ∙ ap (λ (l : List KeptVector). get_or l c.loop-kept.kept-index kept) same in
    let here : IsMasked s kept = subst (IsMasked s) (sym is) (c.requires.chosen.there c.loop-kept.kept-index kept inside) in
    omega (
      arith,
      c.requires.chosen.count,
      c.requires.chosen.few,
      c.loop-kept.invariant.first,
      c.count-rows.ensures,
      length-kept s kept here.mask,
      length-flat_map-take (kept_in s) c.args.chosen.now.vectors.items c.loop-kept.kept-index kept inside,
      ap (λ (k : KeptVector). length (kept_in s k)) is,
    )

pub loop-kept-preserved : goal.loop-kept-preserved
loop-kept-preserved g c =
    let s = (g.C.Columns.seen c.args.columns.now).state in
    let r = (g.C.Columns.seen c.loop-kept.columns).state in
    let kept : KeptVector = c.kept-item.result in
    let same : c.deref-kept-items.result.now ≡ c.args.chosen.now.vectors.items = c.deref-kept-items.ensures.value in
    let inside : c.loop-kept.kept-index < length c.args.chosen.now.vectors.items = omega (arith, c.loop-kept-test.true, ap length same) in
    let is : kept ≡ get_or c.args.chosen.now.vectors.items c.loop-kept.kept-index kept = c.kept-item.is ∙ ap (λ (l : List KeptVector). get_or l c.loop-kept.kept-index kept) same in
    let vectors : List KeptVector = c.args.chosen.now.vectors.items in
    let i : ℕ = c.loop-kept.kept-index in
    let inv = c.loop-kept.invariant in
    let column : ℕ = c.args.column in
    let front : List (RowName × Cells) = rows_in s (take i vectors) in
    let all : List (RowName × Cells) = rows_in s (take (i + 1) vectors) in
    let here : IsMasked s kept = subst (IsMasked s) (sym is) (c.requires.chosen.there i kept inside) in
    let more : all ≡ front ++ kept_in s kept = rows-more s vectors i kept inside is in
    let many : c.count-rows.result ≡ length (kept_in s kept) = c.count-rows.ensures ∙ sym (length-kept s kept here.mask) in
    let flags : length (map is_none (cells_in column front)) ≡ c.loop-kept.first = omega (arith, inv.first, length-map {B = Bool} (cells_in column front) is_none, cells-length column front) in
    let ensures = c.write_vector-missing.ensures in
    record {
      first = omega (arith, inv.first, many, ap length more, length-append front (kept_in s kept));
      values = step-values s r column c.loop-kept.first c.count-rows.result kept front all c.loop-kept.values c.write_vector-missing.new.values inv.state more many inv.values ensures.values;
      valid = subst (λ (l : List Bool). AreMarked (front_bit c.args.chosen.now.count) l c.write_vector-missing.new.valid) (step-flags s r column kept front all inv.state more) (ensures.valid (front_bit c.args.chosen.now.count) (map is_none (cells_in column front)) flags inv.valid);
      bytes = λ k. omega (arith, c.type_inv.valid k);
      nulls = omega (arith, inv.nulls, ensures.nulls, step-nulls s r column kept front all inv.state more);
      table = ensures.same.table ∙ inv.table;
      state = ensures.same.state ∙ inv.state;
      passes = omega (arith, inv.passes, ensures.passes);
    }

pub returns-clause-values : goal.returns-clause-values
returns-clause-values g c =
    let s = (g.C.Columns.seen c.args.columns.now).state in
    let vectors : List KeptVector = c.args.chosen.now.vectors.items in
    let all : take c.loop-kept.kept-index vectors ≡ vectors = take_all c.loop-kept.kept-index vectors (omega (arith, c.loop-kept-test.false, ap length c.deref-kept-items.ensures.value)) in
    let whole : length c.loop-kept.values ≤ c.loop-kept.first = omega (arith, c.loop-kept.auto.values, c.loop-kept.invariant.first, ap (λ (l : List KeptVector). length (rows_in s l)) all, c.requires.values, c.requires.chosen.count) in
    sym (take_all c.loop-kept.first c.loop-kept.values whole) ∙ c.loop-kept.invariant.values ∙ ap (λ (l : List KeptVector). map number_at (cells_in c.args.column (rows_in s l))) all

pub returns-clause-valid : goal.returns-clause-valid
returns-clause-valid g c =
    let s = (g.C.Columns.seen c.args.columns.now).state in
    let vectors : List KeptVector = c.args.chosen.now.vectors.items in
    let all : take c.loop-kept.kept-index vectors ≡ vectors = take_all c.loop-kept.kept-index vectors (omega (arith, c.loop-kept-test.false, ap length c.deref-kept-items.ensures.value)) in
    let many : c.args.chosen.now.count ≡ length (cells_in c.args.column (rows_in s vectors)) = c.requires.chosen.count ∙ sym (cells-length c.args.column (rows_in s vectors)) in
    let long : length c.loop-kept.valid ≡ stride_of (length (cells_in c.args.column (rows_in s vectors))) = c.loop-kept.auto.valid ∙ c.set_front.auto.valid ∙ c.requires.valid ∙ ap stride_of many in
    valid-done (cells_in c.args.column (rows_in s vectors)) c.loop-kept.valid long c.loop-kept.invariant.bytes
    (subst (λ (n : ℕ). AreMarked (front_bit n) (map is_none (cells_in c.args.column (rows_in s vectors))) c.loop-kept.valid) many
    (subst (λ (l : List KeptVector). AreMarked (front_bit c.args.chosen.now.count) (map is_none (cells_in c.args.column (rows_in s l))) c.loop-kept.valid) all c.loop-kept.invariant.valid))

pub returns-clause-nulls : goal.returns-clause-nulls
returns-clause-nulls g c =
    let s = (g.C.Columns.seen c.args.columns.now).state in
    let vectors : List KeptVector = c.args.chosen.now.vectors.items in
    let all : take c.loop-kept.kept-index vectors ≡ vectors = take_all c.loop-kept.kept-index vectors (omega (arith, c.loop-kept-test.false, ap length c.deref-kept-items.ensures.value)) in
    c.loop-kept.invariant.nulls ∙ ap (λ (l : List KeptVector). null_count (cells_in c.args.column (rows_in s l))) all
