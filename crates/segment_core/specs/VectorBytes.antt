-- A vector in bytes: its null mask where it has one, its coding, width and count, and the payload of that coding.
use Rattle.std.specs.Prelude.{ℕ, ◌+◌, ◌-◌, ◌*◌, ◌/◌, ◌^◌, nat_le, nat_lt, int_lt, Bool, cond, not, ◌&&◌, ◌||◌, ◌==◌, ℤ, List, length, Option, Some, None}
use Rattle.std.specs.List.{list_all, range_with_len}
use Rattle.table_model.specs.declared.refusal.Refusal.TheVariants.{BadMask, BadTag, BadWidth, BadCount, BadDictionary, BadCode}
use Rattle.transpose_order.specs.Mask.{has, count_below}
use Rattle.transpose_order.specs.MaskBytes.{mask_bytes, rows_of_bytes}
use Rattle.bit_interleave.specs.PackedWords.{PackedWords}
use Rattle.bit_interleave.specs.PackedBytes.{words_of_bytes, bytes_of}
use Rattle.bit_interleave.specs.Range.{value_at}
use Rattle.frame_delta.specs.Frame.{FrameForm}
use Rattle.frame_delta.specs.Delta.{DeltaForm}
use Rattle.run_dictionary.specs.Runs.{RunForm, run_of}
use Rattle.run_dictionary.specs.Dict.{DictForm, packed_code}
use Rattle.segment_core.specs.declared.coding.Coding.{Coding}
use Rattle.segment_core.specs.declared.coding.Coding.TheVariants.{For as ByFrame, Delta as ByDeltas, Runs as ByRuns, Dict as ByDictionary}
use Rattle.segment_core.specs.declared.coded.Coded.{Coded}
use Rattle.segment_core.specs.declared.coded.Coded.TheVariants.{For, Delta, Runs, Dict}
use Rattle.segment_core.specs.declared.vector_bytes.Header.{Header}
use Rattle.segment_core.specs.CodedVector.{VectorForm}
use Rattle.segment_core.specs.Format.{Format, raw, seen, checked, before, optional, all, number, signed}

-- 1024 truth values in 128 bytes
unfoldable pub mask : Format (List Bool)
mask = seen (raw 128) rows_of_bytes (λ rows. cond (length rows == 1024) (Some (mask_bytes rows)) None)

-- whether words are of t bits, and each fits them
abbrev pub are_words : ℕ → PackedWords → Bool
are_words t packed = packed.lane_width == t && list_all (λ n. nat_lt n (2 ^ t)) packed.numbers

-- the 128 * w bytes of packed words of t bits for 1024 values of w bits: one word after another, the lowest byte first
unfoldable pub words : ℕ → ℕ → Format PackedWords
words t w = seen (raw (128 * w)) (words_of_bytes t) (λ packed. cond (are_words t packed) (Some (bytes_of packed)) None)

-- ---- null masks

-- whether a null mask has at least one of the rows that are covered, and no row past them
abbrev pub is_null_mask : ℕ → List Bool → Bool
is_null_mask rows nulls = nat_lt 0 (count_below (has nulls) rows) && (count_below (has nulls) rows == count_below (has nulls) 1024)

-- 1 where there is a null mask, else 0
abbrev pub null_flag : Option (List Bool) → ℕ
null_flag None = 0
null_flag (Some nulls) = 1

-- a null flag, and the null mask where it is 1
unfoldable pub nulls : ℕ → Format (Option (List Bool))
nulls rows =
    seen (before (checked (number 1) (λ flag. nat_le flag 1) BadMask) (λ flag. optional (flag == 1) (checked mask (is_null_mask rows) BadMask))) (λ p. p.1) (λ found. Some (null_flag found, found))

-- ---- codings, widths and counts

-- the number of a coding
abbrev pub tag_of : Coding → ℕ
tag_of ByFrame = 0
tag_of ByDeltas = 1
tag_of ByRuns = 2
tag_of ByDictionary = 3

-- the coding of a number
abbrev pub coding_tagged : ℕ → Coding
coding_tagged tag = cond (tag == 0) ByFrame (cond (tag == 1) ByDeltas (cond (tag == 2) ByRuns ByDictionary))

-- a coding
unfoldable pub coding : Format Coding
coding = seen (checked (number 1) (λ tag. nat_le tag 3) BadTag) coding_tagged (λ c. Some (tag_of c))

-- whether a coding may have a width at lanes of t bits
abbrev pub is_width : ℕ → Coding → ℕ → Bool
is_width t ByFrame width = nat_le width t
is_width t ByDeltas width = nat_le width t
is_width t ByRuns width = width == 1
is_width t ByDictionary width = nat_le width 16

-- whether a coding may have that number of runs or values of a dictionary
abbrev pub is_count : Coding → ℕ → Bool
is_count ByFrame count = count == 0
is_count ByDeltas count = count == 0
is_count ByRuns count = nat_le 1 count && nat_le count 1024
is_count ByDictionary count = nat_le 1 count && nat_le count 1024

-- a coding, its width in a byte, and its count in two
unfoldable pub header : ℕ → Format Header
header t =
    seen (before coding (λ c. before (checked (number 1) (is_width t c) BadWidth) (λ _. checked (number 2) (is_count c) BadCount))) (λ p. record { coding = p.0; width = p.1.0; count = p.1.1 }) (λ h. Some (h.coding, (h.width, h.count)))

-- ---- payloads

-- a reference and packed words
unfoldable pub frame : ℕ → ℕ → Format FrameForm
frame t width =
    seen (before (signed t) (λ _. words t width)) (λ p. record { lane_width = t; width = width; reference = p.0; words = p.1 }) (λ c. cond (c.lane_width == t && c.width == width) (Some (c.reference, c.words)) None)

-- a least delta, a base for each lane, and packed words
unfoldable pub deltas : ℕ → ℕ → Format DeltaForm
deltas t width =
    seen (before (signed t) (λ _. before (all (1024 / t) (λ _. signed t)) (λ _. words t width))) (λ p. record { lane_width = t; width = width; least = p.0; bases = p.1.0; words = p.1.1 }) (λ c. cond (c.lane_width == t && c.width == width) (Some (c.least, (c.bases, c.words))) None)

-- the rows after row 0 at which a number of runs start; the count is in the two bytes before
unfoldable pub starts : ℕ → Format (List Bool)
starts count = checked (checked mask (λ rows. not (has rows 0)) BadMask) (λ rows. run_of rows 1023 + 1 == count) (λ at. BadCount (at - 2))

-- the rows where runs start, and the value of each run
unfoldable pub runs : ℕ → ℕ → Format RunForm
runs t count =
    seen (before (starts count) (λ _. all count (λ _. signed t))) (λ p. record { lane_width = t; starts = p.0; values = p.1 }) (λ r. cond (r.lane_width == t) (Some (r.starts, r.values)) None)

-- whether a value is greater than the last of those before it, if there is one
abbrev pub is_above : List ℤ → ℤ → Bool
is_above front value = length front == 0 || int_lt (value_at front (length front - 1)) value

-- a number of values in ascending order
unfoldable pub dictionary : ℕ → ℕ → Format (List ℤ)
dictionary t count = all count (λ front. checked (signed t) (is_above front) BadDictionary)

-- whether the code of each of 1024 rows is below a count
unfoldable pub are_codes_below : ℕ → ℕ → PackedWords → Bool
are_codes_below width count codes = list_all (λ n. nat_lt (packed_code width codes n) count) (range_with_len 0 1024)

-- packed codes in lanes of 16 bits, all below a count
unfoldable pub codes : ℕ → ℕ → Format PackedWords
codes width count = checked (words 16 width) (are_codes_below width count) BadCode

-- a dictionary and packed codes
unfoldable pub dict : ℕ → ℕ → ℕ → Format DictForm
dict t width count =
    seen (before (dictionary t count) (λ _. codes width count)) (λ p. record { lane_width = t; width = width; values = p.0; codes = p.1 }) (λ d. cond (d.lane_width == t && d.width == width) (Some (d.values, d.codes)) None)

-- ---- vectors

-- the form of FOR, where the values are coded so
abbrev pub in_frame : Coded → Option FrameForm
in_frame (For c) = Some c
in_frame (Delta c) = None
in_frame (Runs c) = None
in_frame (Dict c) = None

-- the form of DELTA, where the values are coded so
abbrev pub in_deltas : Coded → Option DeltaForm
in_deltas (For c) = None
in_deltas (Delta c) = Some c
in_deltas (Runs c) = None
in_deltas (Dict c) = None

-- the form of RLE, where the values are coded so
abbrev pub in_runs : Coded → Option RunForm
in_runs (For c) = None
in_runs (Delta c) = None
in_runs (Runs c) = Some c
in_runs (Dict c) = None

-- the form of DICT, where the values are coded so
abbrev pub in_dictionary : Coded → Option DictForm
in_dictionary (For c) = None
in_dictionary (Delta c) = None
in_dictionary (Runs c) = None
in_dictionary (Dict c) = Some c

-- the payload of a coding with a width and a count
abbrev pub payload_of : ℕ → Coding → ℕ → ℕ → Format Coded
payload_of t ByFrame width count = seen (frame t width) For in_frame
payload_of t ByDeltas width count = seen (deltas t width) Delta in_deltas
payload_of t ByRuns width count = seen (runs t count) Runs in_runs
payload_of t ByDictionary width count = seen (dict t width count) Dict in_dictionary

-- the payload after a header
abbrev pub payload : ℕ → Header → Format Coded
payload t h = payload_of t h.coding h.width h.count

-- the coding, width and count of coded values
abbrev pub header_of : Coded → Header
header_of (For c) = record { coding = ByFrame; width = c.width; count = 0 }
header_of (Delta c) = record { coding = ByDeltas; width = c.width; count = 0 }
header_of (Runs c) = record { coding = ByRuns; width = 1; count = length c.values }
header_of (Dict c) = record { coding = ByDictionary; width = c.width; count = length c.values }

-- coded values: the coding, width and count, and the payload
unfoldable pub coded : ℕ → Format Coded
coded t = seen (before (header t) (payload t)) (λ p. p.1) (λ c. Some (header_of c, c))

-- a vector of a number of rows: its nulls and its coded values
unfoldable pub vector : ℕ → ℕ → Format VectorForm
vector t rows =
    seen (before (nulls rows) (λ _. coded t)) (λ p. record { rows = rows; nulls = p.0; coded = p.1 }) (λ v. cond (v.rows == rows) (Some (v.nulls, v.coded)) None)
