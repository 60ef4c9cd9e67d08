-- Forms of values in which a loop over rows that lie together needs no mask.
use Rattle.std.specs.Prelude.{◌≡◌, ℕ, ◌<◌, ◌-◌, ◌^◌, Bool, cond, unwrap_or, List, map, slice_index_or, ℤ, pos, negsuc, ◌+ℤ◌, ◌*ℤ◌}
use Rattle.transpose_order.specs.Mask.{has}
use Rattle.table_model.specs.Extreme.{turned}
use Rattle.table_model.specs.Values.{greatest}
use Rattle.query_eval.specs.Slices.{rows_between, values_at, values_below}
use Rattle.table_model.specs.declared.extreme.Extreme.{Extreme}
use Rattle.query_eval.specs.declared.tallies.forms.Form.{Form}
use Rattle.query_eval.specs.declared.tallies.forms.Form.TheVariants.{Packed, Shown}

-- the least number of 64 bits
abbrev pub least_number : ℤ
least_number = negsuc (2 ^ 63 - 1)

-- the greatest of some values, or the least number over none
abbrev pub top_of : List ℤ → ℤ
top_of zs = unwrap_or (greatest zs) least_number

-- a value in a form
abbrev pub formed : Form → ℤ → ℤ
formed Packed z = pos 2048 *ℤ z +ℤ pos 1
formed (Shown extreme) z = turned extreme z

-- what a form has at a row without a value
abbrev pub formed_none : Form → ℤ
formed_none Packed = pos 0
formed_none (Shown extreme) = least_number

-- a value in a form where it is taken, else what the form has for no value
abbrev pub taken_form : Form → Bool → ℤ → ℤ
taken_form form taken z = cond taken (formed form z) (formed_none form)

-- a row's value in a form, where a mask has the row
abbrev pub formed_at : Form → List Bool → List ℤ → ℕ → ℤ
formed_at form rows values n = taken_form form (has rows n) (slice_index_or values n (pos 0))

-- the values at the rows of a mask are in a form
abbrev pub AreFormed : Form → List Bool → List ℤ → List ℤ → Type 0
AreFormed form rows values room = (n : ℕ) → n < 1024 → slice_index_or room n (pos 0) ≡ formed_at form rows values n

-- the greatest turned value at the rows of a mask below an end
abbrev pub top_below : Extreme → ℕ → List Bool → List ℤ → ℤ
top_below extreme end rows values = top_of (map (turned extreme) (values_below end rows values))

-- the greatest turned value at the rows of a mask from a first one up to an end
abbrev pub top_between : Extreme → List Bool → List ℤ → ℕ → ℕ → ℤ
top_between extreme rows values first end = top_of (map (turned extreme) (values_at (rows_between rows first end) values))
