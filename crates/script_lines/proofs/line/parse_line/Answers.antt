use Rattle.std.proofs.Common.{◌≡◌, true, rules}
use Rattle.std.specs.List.{list_all}
use Rattle.script_lines.specs.Line.{is_printable}
use Rattle.script_lines.proofs.Printable.{IsUtf8-printable}
use Rattle.script_lines.proofs.line.parse_line.Goals as goal

pub returns-in_default : goal.returns-in_default
returns-in_default c =
    let printable : list_all is_printable c.args.line.now ≡ true = search rules in
    absurd (c.in_default.ensures.cases.0 (IsUtf8-printable c.args.line.now printable))
