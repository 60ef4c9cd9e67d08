-- Rows have room for all lines, so the reader below is read to its end.
use Rattle.std.proofs.Common.{◌≡◌, List, ℕ, ◌≤◌, ◌+◌, length, subst, sym, refl}
use Rattle.table_model.specs.Table.{row_limit}
use Rattle.csv_rows.specs.Reading.{lines_left}
use Rattle.csv_pieces.specs.PieceReading.{ReadsText, ReadsOnward}
use Rattle.csv_pieces.proofs.Texts.{Called, pending_none, reads_text, reads_onward}
use Rattle.csv_pieces.proofs.lines.read_lines.Goals as goal

called : (c : goal.In_ok-fill_batch) → Called c.args.csv.now c.fill_batch.new.self c.args.rows.now c.fill_batch.new.rows c.new-reader.result.0.now c.fill_batch.new.reader.0.now
called c =
    let is : c.new-reader.result.0.now ≡ c.args.text.now = rw c.new-reader.ensures refl in record {
      few = c.requires.few;
      room = subst (λ (t : List ℕ). length c.args.rows.now + length (lines_left c.args.csv.now t) ≤ row_limit) (sym is) c.requires.room;
      none = c.requires.none;
      filled = c.in_ok-fill_batch.ensures.rows;
      onward = c.in_ok-fill_batch.ensures.onward;
      counted = c.in_ok-fill_batch.ensures.counted;
      further = c.in_ok-fill_batch.ensures.further;
      limit = c.in_ok-fill_batch.ensures.limit;
      between = c.in_ok-fill_batch.ensures.between;
      began = (c.in_ok-fill_batch.ensures.began.0, c.in_ok-fill_batch.ensures.began.1);
    }

pub returns-clause-rows : goal.returns-clause-rows
returns-clause-rows c =
    let is : c.new-reader.result.0.now ≡ c.args.text.now = rw c.new-reader.ensures refl in
    subst (λ (t : List ℕ). ReadsText c.args.csv.now c.args.rows.now c.fill_batch.new.rows t) is (reads_text c.args.csv.now c.fill_batch.new.self c.args.rows.now c.fill_batch.new.rows c.new-reader.result.0.now c.fill_batch.new.reader.0.now (called c))

pub returns-clause-onward : goal.returns-clause-onward
returns-clause-onward c =
    let is : c.new-reader.result.0.now ≡ c.args.text.now = rw c.new-reader.ensures refl in
    subst (λ (t : List ℕ). ReadsOnward c.args.csv.now c.fill_batch.new.self c.args.rows.now c.fill_batch.new.rows t) is
    (reads_onward c.args.csv.now c.fill_batch.new.self c.args.rows.now c.fill_batch.new.rows c.new-reader.result.0.now c.fill_batch.new.reader.0.now (called c))

pub returns-clause-none : goal.returns-clause-none
returns-clause-none c = pending_none c.args.csv.now c.fill_batch.new.self c.args.rows.now c.fill_batch.new.rows c.new-reader.result.0.now c.fill_batch.new.reader.0.now (called c)
