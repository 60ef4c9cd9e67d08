-- Lines of texts: in columns below a heading, and as objects of JSON.
use Rattle.std.specs.Prelude.{ℕ, ◌+◌, max, nat_lt, Bool, cond, List, [], ◌∷◌, ◌++◌, codes, map, length, get_or}
use Rattle.std.specs.List.{flat_map}
use Rattle.std.specs.Str.{bytes_eq}
use Rattle.answer_formats.specs.Formats.{separated, in_columns, spaced_line, rule}

-- the width of a column: that of its widest text
abbrev pub widest_in : ℕ → ℕ → List (List (List ℕ)) → ℕ
widest_in column width [] = width
widest_in column width (line ∷ lines) = widest_in column (max width (length (get_or line column []))) lines

-- the widths of the columns of some headings, the first of which is this column
abbrev pub column_widths : ℕ → List (List ℕ) → List (List (List ℕ)) → List ℕ
column_widths column [] lines = []
column_widths column (heading ∷ headings) lines = widest_in column (length heading) lines ∷ column_widths (column + 1) headings lines

-- a line, each text at the right of its column
abbrev pub aligned_line : List ℕ → List (List ℕ) → List ℕ
aligned_line widths line = spaced_line (in_columns widths line)

-- lines in columns of these widths: the headings, a rule below each, and the lines
abbrev pub lines_below : List ℕ → List (List ℕ) → List (List (List ℕ)) → List ℕ
lines_below widths headings lines = aligned_line widths headings ++ (spaced_line (map rule widths) ++ flat_map (aligned_line widths) lines)

-- lines below headings, each column as wide as its widest text
abbrev pub aligned_lines : List (List ℕ) → List (List (List ℕ)) → List ℕ
aligned_lines headings lines = lines_below (column_widths 0 headings lines) headings lines

-- a text as a value of JSON: null if it is "-", else in quotes or as the number that it is
abbrev pub json_cell : Bool → List ℕ → List ℕ
json_cell is_text cell = cond (bytes_eq cell (codes "-")) (codes "null") (cond is_text (codes "\"" ++ (cell ++ codes "\"")) cell)

-- a key and a cell as a member of an object
abbrev pub member_text : Bool → List ℕ → List ℕ → List ℕ
member_text is_text key cell = codes "\"" ++ (key ++ (codes "\":" ++ json_cell is_text cell))

-- the members of a line's object from a place on; those before the place `texts` are texts, and the others numbers
abbrev pub line_members : ℕ → ℕ → List (List ℕ) → List (List ℕ) → List (List ℕ)
line_members texts at [] line = []
line_members texts at (key ∷ keys) [] = []
line_members texts at (key ∷ keys) (cell ∷ line) = member_text (nat_lt at texts) key cell ∷ line_members texts (at + 1) keys line

-- a line as an object
abbrev pub line_object : ℕ → List (List ℕ) → List (List ℕ) → List ℕ
line_object texts keys line = codes "{" ++ (separated (codes ",") (line_members texts 0 keys line) ++ codes "}")

-- lines as a list of objects
abbrev pub line_objects : ℕ → List (List ℕ) → List (List (List ℕ)) → List ℕ
line_objects texts keys lines = codes "[" ++ (separated (codes ",") (map (line_object texts keys) lines) ++ codes "]")
