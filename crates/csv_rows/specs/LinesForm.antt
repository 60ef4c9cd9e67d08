-- What a reader of lines has read.
use Rattle.std.specs.Prelude.{ℕ, Bool, true, List, []}
use Rattle.csv_rows.specs.Line.{TextLine, text_line}

-- A reader of lines: where the bytes that it has not taken begin in its buffer, these bytes, the line that was read last, whether it
-- has an end, how many lines were read, how many bytes came in all, and how many of those that it took are more than one a line.
pub record LinesForm : Type 0 where
  pub at : ℕ
  pub pending : List ℕ
  pub line : List ℕ
  pub has_end : Bool
  pub number : ℕ
  pub given : ℕ
  pub spare : ℕ

-- nothing was read
abbrev pub no_lines : LinesForm
no_lines = record { at = 0; pending = []; line = []; has_end = true; number = 0; given = 0; spare = 0 }

-- the line that was read last
abbrev pub last_read : LinesForm → TextLine
last_read lines = text_line lines.line lines.has_end
