-- A part of a line that is too long has no rows, whatever follows.
use Rattle.std.proofs.Common.{◌≡◌, ◌<◌, ◌++◌, ◌∙◌, sym, ap, arith, subst, length}
use Rattle.std.proofs.lemmas.Result.{err_from_is_err_and}
use Rattle.csv_pieces.specs.PieceReading.{IsOpen, part_limit}
use Rattle.csv_pieces.proofs.Parts.{open_both}
use Rattle.csv_pieces.proofs.Takings.{bytes_kept, waits_on, part_room, long_refused, long_unread}
use Rattle.csv_pieces.proofs.piece_reader.keep.Goals as goal

pub returns-then-len-le-PART_LIMIT-clause-taken : goal.returns-then-len-le-PART_LIMIT-clause-taken
returns-then-len-le-PART_LIMIT-clause-taken c = bytes_kept c.args.csv.now c.args.part.now.items c.extend_from_slice.new.self.items c.args.bytes.now c.args.rows.now c.in_ok-extend_from_slice.ensures.items

pub returns-then-len-le-PART_LIMIT-clause-waits : goal.returns-then-len-le-PART_LIMIT-clause-waits
returns-then-len-le-PART_LIMIT-clause-waits c =
    waits_on c.args.csv.now c.args.part.now.items c.extend_from_slice.new.self.items c.args.bytes.now c.requires.waits c.requires.no_end c.in_ok-extend_from_slice.ensures.items (omega (arith, c.len.ensures, c.if-len-le-PART_LIMIT.true))

pub read_lines-requires-clause-room : goal.read_lines-requires-clause-room
read_lines-requires-clause-room c =
    part_room c.args.csv.now c.extend_from_slice.new.self.items c.as_slice.result.now (length c.args.rows.now) c.requires.waits.none
    (subst IsOpen (sym c.in_ok-extend_from_slice.ensures.items) (open_both c.args.part.now.items c.args.bytes.now c.requires.waits.no_end c.requires.no_end)) c.as_slice.ensures.value c.requires.few

pub returns-in_err-read_lines-clause-fault : goal.returns-in_err-read_lines-clause-fault
returns-in_err-read_lines-clause-fault c =
    let is : c.as_slice.result.now ≡ c.args.part.now.items ++ c.args.bytes.now = c.as_slice.ensures.value ∙ c.in_ok-extend_from_slice.ensures.items in
    let long : part_limit < length c.as_slice.result.now = omega (arith, ap length c.as_slice.ensures.value, c.len.ensures, c.if-len-le-PART_LIMIT.false) in
    let p = err_from_is_err_and c.from_residual-in_err-read_lines.result c.from_residual-in_err-read_lines.ensures.1 in
    rw (p.1, p.2) (long_refused c.args.csv.now c.args.part.now.items c.as_slice.result.now c.args.bytes.now c.in_err-read_lines.field-0.0 c.requires.waits c.requires.no_end is long c.in_err-read_lines.ensures.fault)

pub returns-clause-taken : goal.returns-clause-taken
returns-clause-taken c =
    let is : c.as_slice.result.now ≡ c.args.part.now.items ++ c.args.bytes.now = c.as_slice.ensures.value ∙ c.in_ok-extend_from_slice.ensures.items in
    let long : part_limit < length c.as_slice.result.now = omega (arith, ap length c.as_slice.ensures.value, c.len.ensures, c.if-len-le-PART_LIMIT.false) in
    absurd (long_unread c.args.csv.now c.args.part.now.items c.as_slice.result.now c.args.bytes.now c.args.rows.now c.read_lines.new.rows c.requires.waits c.requires.no_end is long c.in_ok-read_lines.ensures.rows)

pub returns-clause-waits : goal.returns-clause-waits
returns-clause-waits c =
    let is : c.as_slice.result.now ≡ c.args.part.now.items ++ c.args.bytes.now = c.as_slice.ensures.value ∙ c.in_ok-extend_from_slice.ensures.items in
    let long : part_limit < length c.as_slice.result.now = omega (arith, ap length c.as_slice.ensures.value, c.len.ensures, c.if-len-le-PART_LIMIT.false) in
    absurd (long_unread c.args.csv.now c.args.part.now.items c.as_slice.result.now c.args.bytes.now c.args.rows.now c.read_lines.new.rows c.requires.waits c.requires.no_end is long c.in_ok-read_lines.ensures.rows)

pub returns-clause-rows : goal.returns-clause-rows
returns-clause-rows c =
    let is : c.as_slice.result.now ≡ c.args.part.now.items ++ c.args.bytes.now = c.as_slice.ensures.value ∙ c.in_ok-extend_from_slice.ensures.items in
    let long : part_limit < length c.as_slice.result.now = omega (arith, ap length c.as_slice.ensures.value, c.len.ensures, c.if-len-le-PART_LIMIT.false) in
    absurd (long_unread c.args.csv.now c.args.part.now.items c.as_slice.result.now c.args.bytes.now c.args.rows.now c.read_lines.new.rows c.requires.waits c.requires.no_end is long c.in_ok-read_lines.ensures.rows)
