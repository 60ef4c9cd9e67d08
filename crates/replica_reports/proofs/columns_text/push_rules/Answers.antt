-- One rule more; then the line is ended.
use Rattle.std.proofs.Common.{◌≡◌, ◌∷◌, [], ◌<◌, length, map, get_or, sym, arith}
use Rattle.std.proofs.lemmas.Grind.{common_steps}
use Rattle.std.proofs.lemmas.List.{get_or-map}
use Rattle.answer_formats.specs.Formats.{rule}
use Rattle.answer_formats.proofs.TextFormats.{next_written}
use Rattle.replica_reports.proofs.columns_text.push_rules.Goals as goal

pub loop-column-preserved : goal.loop-column-preserved
loop-column-preserved c =
    let below : c.loop-column.column < length (map rule c.args.widths.now) = grind (arith, common_steps) in
    let is : rule (get_or c.args.widths.now c.loop-column.column 0) ≡ get_or (map rule c.args.widths.now) c.loop-column.column [] = sym (get_or-map rule c.args.widths.now c.loop-column.column 0 [] c.loop-column-test.true) in
    next_written (32 ∷ 32 ∷ []) (map rule c.args.widths.now) c.loop-column.column c.args.out.now.items c.loop-column.out.items c.separate.new.out.items c.push_times.new.out.items
    (rule (get_or c.args.widths.now c.loop-column.column 0)) below is c.loop-column.invariant c.in_ok-separate.ensures c.in_ok-push_times.ensures
