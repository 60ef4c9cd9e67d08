use Rattle.std.proofs.Common.{◌≡◌, ◌∙◌, ◌==◌, Bool, true, false, Some, None, cond, ap, sym}
use Rattle.csv_rows.specs.Line.{before_last}
use Rattle.csv_rows.proofs.Pieces.{last_is, same_byte, other_byte}
use Rattle.csv_rows.proofs.bytes.before_last.Goals as goal

pub returns-then-last-byte : goal.returns-then-last-byte
returns-then-last-byte c =
    let test : (c.in-Some.last.now == c.args.byte) ≡ true = same_byte c.in-Some.last.now c.args.byte c.if-last-byte.true in
    sym (ap (before_last c.args.byte) c.in-Some.ensures.cases.0 ∙ last_is c.args.byte c.in-Some.front.now c.in-Some.last.now ∙ ap (λ (t : Bool). cond t (Some c.in-Some.front.now) None) test)

pub returns-else-last-byte : goal.returns-else-last-byte
returns-else-last-byte c =
    let test : (c.in-Some.last.now == c.args.byte) ≡ false = other_byte c.in-Some.last.now c.args.byte c.if-last-byte.false in
    sym (ap (before_last c.args.byte) c.in-Some.ensures.cases.0 ∙ last_is c.args.byte c.in-Some.front.now c.in-Some.last.now ∙ ap (λ (t : Bool). cond t (Some c.in-Some.front.now) None) test)
