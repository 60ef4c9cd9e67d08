use Rattle.std.proofs.Common.{◌≡◌, ◌∙◌, ◌+◌, ◌-◌, ◌<◌, ◌≤◌, ◌++◌, List, ℕ, ap, arith, rules, true, false, length, take}
use Rattle.std.proofs.lemmas.Bool.Decides.{nat_tests}
use Rattle.std.specs.Prelude.{nat_lt}
use Rattle.csv_rows.specs.Line.{line_limit, without_return}
use Rattle.csv_rows.proofs.LineFacts.{long_open, long_ended, long_line, line_taken, part_taken}
use Rattle.csv_rows.proofs.lines.take_line.Goals as goal

pub returns-then-bytes-room : goal.returns-then-bytes-room
returns-then-bytes-room c =
    let room : c.room_behind-room.result ≡ line_limit + 1 - length c.args.line.now.items = c.room_behind-room.ensures ∙ ap (λ (l : List ℕ). line_limit + 1 - length l) c.as_slice.ensures.value in
    long_open c.args.line.now.items c.args.bytes.now c.room_behind-room.result room (omega arith) c.in-None.ensures

pub returns-then-end-room : goal.returns-then-end-room
returns-then-end-room c =
    let room : c.room_behind-room.result ≡ line_limit + 1 - length c.args.line.now.items = c.room_behind-room.ensures ∙ ap (λ (l : List ℕ). line_limit + 1 - length l) c.as_slice.ensures.value in
    long_ended c.args.line.now.items c.args.bytes.now c.room_behind-room.result c.in-Some.end room (omega arith) c.in-Some.ensures

pub returns-then-is_too_long : goal.returns-then-is_too_long
returns-then-is_too_long c =
    let line : List ℕ = c.drop_return.new.line.items in
    let is : line ≡ without_return (c.args.line.now.items ++ take c.in-Some.end c.args.bytes.now) = search rules in
    let test : nat_lt line_limit (length line) ≡ true = search rules in
    let past : line_limit < length line = grind (arith, nat_tests) in
    long_line c.args.line.now.items c.args.bytes.now line c.in-Some.end c.in-Some.ensures is past

pub returns-in_ok-extend_from_slice-in-None : goal.returns-in_ok-extend_from_slice-in-None
returns-in_ok-extend_from_slice-in-None c = part_taken c.args.line.now.items c.args.bytes.now c.extend_from_slice.new.self.items c.in-None.ensures c.in_ok-extend_from_slice-in-None.ensures.items

pub returns-else-is_too_long : goal.returns-else-is_too_long
returns-else-is_too_long c =
    let line : List ℕ = c.drop_return.new.line.items in
    let is : line ≡ without_return (c.args.line.now.items ++ take c.in-Some.end c.args.bytes.now) = search rules in
    let test : nat_lt line_limit (length line) ≡ false = search rules in
    let short : length line ≤ line_limit = grind (arith, nat_tests) in
    line_taken c.args.line.now.items c.args.bytes.now line c.in-Some.end c.in-Some.ensures is short
