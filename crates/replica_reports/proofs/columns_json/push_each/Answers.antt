-- One object more; at the end none is left.
use Rattle.std.proofs.Common.{◌≡◌, ◌∙◌, [], ◌∷◌, ℕ, ◌<◌, List, length, map, get_or, ap, sym, arith}
use Rattle.std.proofs.lemmas.Grind.{common_steps}
use Rattle.std.proofs.lemmas.List.{get_or-map}
use Rattle.answer_formats.proofs.TextFormats.{next_written}
use Rattle.replica_reports.specs.ColumnTexts.{line_object}
use Rattle.replica_reports.proofs.columns_json.push_each.Goals as goal

pub loop-index-preserved : goal.loop-index-preserved
loop-index-preserved c =
    let objects : List (List ℕ) = map (line_object c.args.texts c.args.keys.now) c.args.lines.now in
    let below : c.loop-index.index < length objects = grind (arith, common_steps) in
    let is : line_object c.args.texts c.args.keys.now (get_or c.args.lines.now c.loop-index.index []) ≡ get_or objects c.loop-index.index [] = sym (get_or-map (line_object c.args.texts c.args.keys.now) c.args.lines.now c.loop-index.index [] [] c.loop-index-test.true) in
    let here : c.index-lines-index.result ≡ get_or c.args.lines.now c.loop-index.index [] = grind (arith, common_steps) in
    next_written (44 ∷ []) objects c.loop-index.index c.args.out.now.items c.loop-index.out.items c.separate.new.out.items c.push_object.new.out.items
    (line_object c.args.texts c.args.keys.now c.index-lines-index.result) below (ap (line_object c.args.texts c.args.keys.now) here ∙ is) c.loop-index.invariant c.in_ok-separate.ensures c.in_ok-push_object.ensures
