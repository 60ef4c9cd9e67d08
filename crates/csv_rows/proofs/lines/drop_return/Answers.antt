use Rattle.std.proofs.Common.{◌≡◌, ◌∙◌, Some, rules, length, take}
use Rattle.csv_rows.specs.Line.{before_last}
use Rattle.csv_rows.proofs.Pieces.{front_kept}
use Rattle.csv_rows.proofs.lines.drop_return.Goals as goal

pub returns : goal.returns
returns c =
    let kept : c.truncate.new.self.items ≡ take (length c.in-Some.front.now) c.args.line.now.items = search rules in
    let some : Some c.in-Some.front.now ≡ before_last 13 c.args.line.now.items = search rules in
    kept ∙ front_kept 13 c.args.line.now.items c.in-Some.front.now some
