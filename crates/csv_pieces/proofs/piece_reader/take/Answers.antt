-- Whole lines are read with the part of a line before them.
use Rattle.std.proofs.Common.{◌≡◌, ◌<◌, ◌++◌, ◌∙◌, List, ℕ, ap, arith, take}
use Rattle.std.proofs.lemmas.List.{length-take-le}
use Rattle.std.proofs.lemmas.Result.{err_from_is_err_and}
use Rattle.csv_pieces.proofs.Takings.{lines_end, lines_room, lines_refused, lines_taken}
use Rattle.csv_pieces.proofs.piece_reader.take.Goals as goal
use Rattle.std.proofs.Common.{length}

pub read_lines-requires-clause-room : goal.read_lines-requires-clause-room
read_lines-requires-clause-room c =
    let some : 0 < c.whole_len-whole.result = omega arith in
    let is : c.as_slice.result.now ≡ c.args.part.now.items ++ take c.whole_len-whole.result c.args.bytes.now =
    c.as_slice.ensures.value ∙ c.in_ok-extend_from_slice.ensures.items ∙ ap (λ (l : List ℕ). c.args.part.now.items ++ l) c.split_at.ensures.front in
    lines_room c.args.csv.now c.args.part.now.items (take c.whole_len-whole.result c.args.bytes.now) c.as_slice.result.now (length c.args.rows.now) c.requires.waits.none c.requires.waits.no_end
    (lines_end c.args.bytes.now c.whole_len-whole.result some c.whole_len-whole.ensures.bound c.whole_len-whole.ensures.whole) is
    (omega (arith, length-take-le c.whole_len-whole.result c.args.bytes.now c.whole_len-whole.ensures.bound, c.requires.room, c.whole_len-whole.ensures.bound))

pub returns-in_err-read_lines-clause-fault : goal.returns-in_err-read_lines-clause-fault
returns-in_err-read_lines-clause-fault c =
    let some : 0 < c.whole_len-whole.result = omega arith in
    let is : c.as_slice.result.now ≡ c.args.part.now.items ++ take c.whole_len-whole.result c.args.bytes.now =
    c.as_slice.ensures.value ∙ c.in_ok-extend_from_slice.ensures.items ∙ ap (λ (l : List ℕ). c.args.part.now.items ++ l) c.split_at.ensures.front in
    let p = err_from_is_err_and c.from_residual-in_err-read_lines.result c.from_residual-in_err-read_lines.ensures.1 in
    rw (p.1, p.2) (lines_refused c.args.csv.now c.args.part.now.items c.args.bytes.now c.as_slice.result.now c.whole_len-whole.result c.in_err-read_lines.field-0.0 is
    (lines_end c.args.bytes.now c.whole_len-whole.result some c.whole_len-whole.ensures.bound c.whole_len-whole.ensures.whole) c.in_err-read_lines.ensures.fault)

pub returns-clause-taken : goal.returns-clause-taken
returns-clause-taken c =
    let some : 0 < c.whole_len-whole.result = omega arith in
    let is : c.as_slice.result.now ≡ c.args.part.now.items ++ take c.whole_len-whole.result c.args.bytes.now =
    c.as_slice.ensures.value ∙ c.in_ok-extend_from_slice.ensures.items ∙ ap (λ (l : List ℕ). c.args.part.now.items ++ l) c.split_at.ensures.front in
    lines_taken c.args.csv.now c.read_lines.new.csv c.args.part.now.items c.clear.new.self.items c.args.bytes.now c.as_slice.result.now c.args.rows.now c.read_lines.new.rows c.whole_len-whole.result is c.clear.ensures.items
    c.whole_len-whole.ensures.bound some (lines_end c.args.bytes.now c.whole_len-whole.result some c.whole_len-whole.ensures.bound c.whole_len-whole.ensures.whole) c.in_ok-read_lines.ensures.onward
