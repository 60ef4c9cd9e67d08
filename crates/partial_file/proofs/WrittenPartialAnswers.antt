-- A partial answer has bytes where its schema and what comes after it have.
use Rattle.std.proofs.Common.{◌≡◌, true, eqb, List, ℕ, length, codes, refl}
use Rattle.std.specs.List.{list_all}
use Rattle.std.proofs.lemmas.Bool.{and_from, eq-eqb}
use Rattle.table_model.specs.Identifier.{same_text}
use Rattle.table_model.specs.Table.{IsTable, Table}
use Rattle.table_model.proofs.SameTable.{itself_text}
use Rattle.segment_core.specs.Format.{AreBytes, is_byte, raw}
use Rattle.column_file.specs.SummaryBytes.{head}
use Rattle.column_file.proofs.FileLaws.{head_valid}
use Rattle.partial_file.specs.PartialAnswerBytes.{Body, body, partial}

-- what a format begins with is valid, whatever its own bytes are
pub head_given : (magic : List ℕ) (t : Table) → AreBytes magic → IsTable t → (head magic).valid t ≡ true
head_given magic t bytes table =
    let n = length magic in
    head_valid magic t (and_from ((raw n).valid magic) (same_text magic magic) (and_from (eqb n n) (list_all is_byte magic) (eq-eqb n n refl) bytes) (itself_text magic)) table

pub partial_answer_valid : (t : Table) (b : Body) → (head (codes "FLPT")).valid t ≡ true → body.valid b ≡ true → partial.valid (t, b) ≡ true
unfolding partial
partial_answer_valid t b first rest = and_from ((head (codes "FLPT")).valid t) (body.valid b) first rest
