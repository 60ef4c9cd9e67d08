-- One member more; at the end none is left.
use Rattle.std.proofs.Common.{◌∙◌, ◌++◌, [], ◌∷◌, ℕ, ◌<◌, ◌≤◌, ◌⊎◌, nat_lt, List, length, ap, refl, arith}
use Rattle.std.proofs.lemmas.Grind.{common_steps}
use Rattle.answer_formats.specs.Formats.{separated}
use Rattle.answer_formats.proofs.TextFormats.{next_written}
use Rattle.replica_reports.specs.ColumnTexts.{member_text, line_members}
use Rattle.replica_reports.proofs.LinesInColumns.{members_below, member_at, members_end}
use Rattle.replica_reports.proofs.columns_json.push_members.Goals as goal

pub loop-index-preserved : goal.loop-index-preserved
loop-index-preserved c =
    let i : ℕ = c.loop-index.index in
    let below : i < length c.args.keys.now = grind (arith, common_steps) in
    let inside : i < length c.args.line.now = grind (arith, common_steps) in
    next_written (44 ∷ []) (line_members c.args.texts 0 c.args.keys.now c.args.line.now) i c.args.out.now.items c.loop-index.out.items c.separate.new.out.items c.push_member.new.out.items
    (member_text (nat_lt i c.args.texts) c.cell.result.now c.cell-in-loop-index.result.now)
    (members_below c.args.texts 0 c.args.keys.now c.args.line.now i below inside)
    (member_at c.args.texts c.args.keys.now c.args.line.now i (nat_lt i c.args.texts) c.cell.result.now c.cell-in-loop-index.result.now below inside refl c.cell.ensures c.cell-in-loop-index.ensures)
    c.loop-index.invariant c.in_ok-separate.ensures c.in_ok-push_member.ensures

pub returns : goal.returns
returns c =
    let end : (length c.args.keys.now ≤ c.loop-index.index) ⊎ (length c.args.line.now ≤ c.loop-index.index) = grind (arith, common_steps) in
    c.loop-index.invariant ∙ ap (λ (texts : List (List ℕ)). c.args.out.now.items ++ separated (44 ∷ []) texts) (members_end c.args.texts c.args.keys.now c.args.line.now c.loop-index.index end)
