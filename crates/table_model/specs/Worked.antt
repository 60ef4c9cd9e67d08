-- Worked queries with answers found by hand, as docs/SQL.md shows them.
use Rattle.std.specs.Prelude.{◌≡◌, true, false, List, [], ◌∷◌, codes, Option, Some, None, pos}
use Rattle.table_model.specs.Formula.{Formula, says, negation, no_factor, both, no_term, either}
use Rattle.table_model.specs.Meaning.{answer_over}
use Rattle.table_model.specs.Query.{QueryShape}
use Rattle.table_model.specs.State.{Cells}
use Rattle.table_model.specs.Table.{Table}
use Rattle.table_model.specs.declared.answer.Field.TheVariants.{Null, Whole, Millionths}
use Rattle.table_model.specs.declared.op.Op.TheVariants.{Equal, Greater}
use Rattle.table_model.specs.declared.query.ColumnMention.{ColumnMention}
use Rattle.table_model.specs.declared.query.Fold.TheVariants.{Count, Sum, Avg}
use Rattle.table_model.specs.declared.query.Item.{Item}
use Rattle.table_model.specs.declared.query.ItemValue.TheVariants.{Grouped, Computed}
use Rattle.table_model.specs.declared.query.Operand.TheVariants.{Column, Literal, Function}
use Rattle.table_model.specs.declared.query.Predicate.{Predicate}
use Rattle.table_model.specs.declared.query.Predicate.TheVariants.{Compare}
use Rattle.table_model.specs.declared.query.SetFunction.{SetFunction}
use Rattle.table_model.specs.declared.query.SetFunction.TheVariants.{CountRows, Of}
use Rattle.table_model.specs.declared.schema.ColType.TheVariants.{SmallInt}

-- the table T with columns A and B
abbrev pub table : Table
table = record {
  name = codes "T";
  columns = record { name = codes "A"; column_type = SmallInt } ∷ record { name = codes "B"; column_type = SmallInt } ∷ [];
}

-- its rows (1,10), (1,NULL), (NULL,5), (2,7), (2,7)
abbrev pub rows : List Cells
rows =
    (Some (pos 1) ∷ Some (pos 10) ∷ []) ∷ (Some (pos 1) ∷ None ∷ []) ∷ (None ∷ Some (pos 5) ∷ [])
    ∷ (Some (pos 2) ∷ Some (pos 7) ∷ []) ∷ (Some (pos 2) ∷ Some (pos 7) ∷ []) ∷ []

-- A where a query names it; where that is in its text changes no answer
abbrev pub a : ColumnMention
a = record { name = codes "A"; at = 0 }

-- B where a query names it
abbrev pub b : ColumnMention
b = record { name = codes "B"; at = 0 }

-- a select item that is a grouping column, without an alias
abbrev pub grouped : ColumnMention → Item
grouped column = record { value = Grouped column; alias = None }

-- a select item that is a set function
abbrev pub computed : SetFunction → Item
computed f = record { value = Computed f; alias = None }

-- a condition of one predicate
abbrev pub one : Predicate → Option Formula
one predicate = Some (either no_term (both no_factor (says predicate)))

-- a condition of the negation of one predicate
abbrev pub not_one : Predicate → Option Formula
not_one predicate = Some (either no_term (both no_factor (negation (says predicate))))

-- SELECT COUNT(*), COUNT(B), SUM(B) FROM T
abbrev pub totals : QueryShape
totals = record { items = computed CountRows ∷ computed (Of Count false b) ∷ computed (Of Sum false b) ∷ []; table = codes "T"; filter = None; grouping = []; having = None }

-- SELECT COUNT(*) FROM T WHERE NOT A = 1
abbrev pub negated : QueryShape
negated = record { items = computed CountRows ∷ []; table = codes "T"; filter = not_one (Compare (Column a) Equal (Literal (pos 1))); grouping = []; having = None }

-- SELECT A, COUNT(*), SUM(DISTINCT B) FROM T GROUP BY A
abbrev pub by_a : QueryShape
by_a = record { items = grouped a ∷ computed CountRows ∷ computed (Of Sum true b) ∷ []; table = codes "T"; filter = None; grouping = a ∷ []; having = None }

-- SELECT A, AVG(B) FROM T GROUP BY A HAVING AVG(B) > 6
abbrev pub means : QueryShape
means = record { items = grouped a ∷ computed (Of Avg false b) ∷ []; table = codes "T"; filter = None; grouping = a ∷ []; having = one (Compare (Function (Of Avg false b)) Greater (Literal (pos 6))) }

-- SELECT SUM(A) FROM T WHERE A > 9
abbrev pub none : QueryShape
none = record { items = computed (Of Sum false a) ∷ []; table = codes "T"; filter = one (Compare (Column a) Greater (Literal (pos 9))); grouping = []; having = None }

-- SELECT SUM(A) FROM T WHERE A > 9 GROUP BY B
abbrev pub none_by_b : QueryShape
none_by_b = record { items = computed (Of Sum false a) ∷ []; table = codes "T"; filter = one (Compare (Column a) Greater (Literal (pos 9))); grouping = b ∷ []; having = None }

-- each query has its answer
pub record WorkedAnswers : Type 0 where
  pub of_totals : answer_over table totals rows ≡ record {
    heading = codes "COUNT(*)" ∷ codes "COUNT(B)" ∷ codes "SUM(B)" ∷ [];
    rows = (Whole (pos 5) ∷ Whole (pos 4) ∷ Whole (pos 29) ∷ []) ∷ [];
  }
  pub of_negated : answer_over table negated rows ≡ record { heading = codes "COUNT(*)" ∷ []; rows = (Whole (pos 2) ∷ []) ∷ [] }
  pub of_by_a : answer_over table by_a rows ≡ record {
    heading = codes "A" ∷ codes "COUNT(*)" ∷ codes "SUM(DISTINCT B)" ∷ [];
    rows = (Null ∷ Whole (pos 1) ∷ Whole (pos 5) ∷ []) ∷ (Whole (pos 1) ∷ Whole (pos 2) ∷ Whole (pos 10) ∷ []) ∷ (Whole (pos 2) ∷ Whole (pos 2) ∷ Whole (pos 7) ∷ []) ∷ [];
  }
  pub of_means : answer_over table means rows ≡ record {
    heading = codes "A" ∷ codes "AVG(B)" ∷ [];
    rows = (Whole (pos 1) ∷ Millionths (pos 10000000) ∷ []) ∷ (Whole (pos 2) ∷ Millionths (pos 7000000) ∷ []) ∷ [];
  }
  pub of_none : answer_over table none rows ≡ record { heading = codes "SUM(A)" ∷ []; rows = (Null ∷ []) ∷ [] }
  pub of_none_by_b : answer_over table none_by_b rows ≡ record { heading = codes "SUM(A)" ∷ []; rows = [] }
