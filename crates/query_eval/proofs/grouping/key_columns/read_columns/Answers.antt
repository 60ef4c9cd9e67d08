-- One column more.
use Rattle.std.proofs.Common.{◌<◌, get_or, length, length-set, map, take, ap, sym, ◌∙◌, arith}
use Rattle.std.proofs.lemmas.List.{take_all, take_more_set}
use Rattle.table_model.specs.Group.{cell}
use Rattle.table_model.specs.State.{State}
use Rattle.query_eval.specs.Keys.{key_cell}
use Rattle.query_eval.specs.Vector.{cell_at, row_at, vector_at}
use Rattle.query_eval.proofs.ShownLemmas.{shown_more}
use Rattle.query_eval.proofs.grouping.key_columns.read_columns.Goals as goal

pub loop-index-preserved : goal.loop-index-preserved
loop-index-preserved g c =
    let s = (g.C.Columns.seen c.args.columns.now).state in
    let v = vector_at s c.args.id.batch c.args.id.vector in
    let inv = c.loop-index.invariant in
    let i = c.loop-index.index in
    let keys = c.loop-index.keys.items in
    let within : i < length keys = omega (arith, inv.size, c.loop-index-test.true) in
    record {
      size = length-set keys i c.read.new.self ∙ inv.size;
      cells = λ n h.
          shown_more (λ key. key_cell key n) (cell (row_at v n)) (take i keys) _ c.read.new.self c.args.places.now i 0 c.loop-index-test.true (inv.cells n h) (take_more_set keys i c.read.new.self within)
          (c.read.ensures.value n h ∙ ap (λ (x : State). cell_at (vector_at x c.args.id.batch c.args.id.vector) (get_or c.args.places.now i 0) n) inv.state);
      table = c.read.ensures.read.table ∙ inv.table;
      state = c.read.ensures.read.state ∙ inv.state;
      passes = omega (arith, c.read.ensures.read.passes, inv.passes);
    }

pub returns-clause-cells : goal.returns-clause-cells
returns-clause-cells g c = λ n h.
    let v = vector_at (g.C.Columns.seen c.args.columns.now).state c.args.id.batch c.args.id.vector in
    let inv = c.loop-index.invariant in
    ap (map (λ key. key_cell key n)) (sym (take_all c.loop-index.index c.loop-index.keys.items (omega (arith, inv.size, c.loop-index-test.false))))
    ∙ inv.cells n h ∙ ap (map (cell (row_at v n))) (take_all c.loop-index.index c.args.places.now (omega (arith, c.loop-index-test.false)))
