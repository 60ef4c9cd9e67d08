-- A partial answer in bytes: its table's schema, the query's text, the batches that it counted and the strays as runs of numbers, and its groups.
use Rattle.std.specs.Prelude.{ℕ, ◌+◌, ◌-◌, nat_le, nat_lt, Bool, true, not, cond, ◌&&◌, ◌||◌, ◌==◌, List, [], ◌∷◌, length, slice_index_or, map as each, codes, Option, Some, None, ℤ}
use Rattle.std.specs.Int.{w128, cast_signed, cast_unsigned}
use Rattle.std.specs.FinSet as set
use Rattle.std.specs.Global.{Vec}
use Rattle.std.specs.Ordering.{int_cmp, is_lt}
use Rattle.std.specs.Str.{is_utf8}
use Rattle.std.specs.String.{string_bytes}
use Rattle.table_model.specs.Group.{key_cmp}
use Rattle.table_model.specs.Name.{name_cmp, is_proper_name}
use Rattle.table_model.specs.State.{Cells}
use Rattle.table_model.specs.Table.{Table}
use Rattle.table_model.specs.declared.names.BatchName.{BatchName}
use Rattle.table_model.specs.declared.refusal.Refusal.TheVariants.{BadName, BadOrder, BadRange, BadTag, BadWidth, Syntax}
use Rattle.catalogue_join.specs.Run.{name_at}
use Rattle.catalogue_join.specs.declared.run.Run.{Run}
use Rattle.segment_core.specs.Format.{Format, IsLawful, raw, seen, checked, before, optional, all, number, signed, is_in_bits}
use Rattle.column_file.specs.Ordered.{in_order}
use Rattle.column_file.specs.SummaryBytes.{head}
use Rattle.partial_answers.specs.Refusing.{kept_kind}
use Rattle.partial_answers.specs.declared.kept.Kept.{Kept}
use Rattle.partial_answers.specs.declared.kept.Kept.TheVariants.{Count, Sum, Least, Greatest, Distinct}
use Rattle.partial_answers.specs.declared.partial_answer.PartialAnswer.{PartialAnswer}

-- how many items there are, and these
unfoldable pub counted : {A : Type 0} → (List A → Format A) → Format (List A)
counted item = seen (before (number 8) (λ n. all n item)) (λ p. p.1) (λ xs. Some (length xs, xs))

-- the query's text: how many bytes it has, and these, which are UTF-8
unfoldable pub text : Format (List ℕ)
text = checked (seen (before (number 8) raw) (λ p. p.1) (λ t. Some (length t, t))) is_utf8 Syntax

-- ---- names of batches

-- an origin, and the first and the last number
unfoldable pub run_parts : Format Run
run_parts =
    seen (before (number 4) (λ _. before (number 4) (λ _. number 4))) (λ p. record { first = name_at (record { 0 = p.0 }) p.1.0; last = record { 0 = p.1.1 } }) (λ r. Some (r.first.origin.0, (r.first.number.0, r.last.0)))

-- whether a run's first name is proper
abbrev pub is_named : Run → Bool
is_named r = is_proper_name r.first

-- whether a run's first number is not past its last
abbrev pub is_run : Run → Bool
is_run r = nat_le r.first.number.0 r.last.0

-- whether a run ends before another one begins, and leaves a number free between them if they are of one origin
abbrev pub ends_before : Run → Run → Bool
ends_before a b = nat_lt a.first.origin.0 b.first.origin.0 || (a.first.origin.0 == b.first.origin.0 && nat_lt (a.last.0 + 1) b.first.number.0)

-- whether a run begins after the end of the last of those before it, if there are any
abbrev pub begins_after : List Run → Run → Bool
begins_after front r = length front == 0 || ends_before (slice_index_or front (length front - 1) r) r

-- a run, after the runs before it, whose fields are judged once all are there
unfoldable pub run : List Run → Format Run
run front = checked (checked (checked run_parts is_named (λ _. BadName)) is_run BadRange) (begins_after front) BadOrder

-- maximal runs in ascending order
unfoldable pub runs : Format (List Run)
runs = counted run

-- ---- groups

-- a signed number of 16 bytes in two's complement, the lowest byte first
unfoldable pub wide : Format ℤ
wide = seen (number 16) (cast_signed w128) (λ z. cond (is_in_bits 128 z) (Some (cast_unsigned w128 z)) None)

-- whether a number takes more than 8 bytes
abbrev pub is_long : ℤ → Bool
is_long z = not (is_in_bits 64 z)

-- how many times 8 bytes a key's cell takes: none for null
abbrev pub cell_words : Option ℤ → ℕ
cell_words None = 0
cell_words (Some z) = cond (is_long z) 2 1

-- a key's number of that many times 8 bytes, as few as it takes
abbrev pub cell_value : ℕ → Format (Option ℤ)
cell_value n = cond (n == 2) (optional true (checked wide is_long BadWidth)) (optional (n == 1) (signed 64))

-- a key's cell: how many times 8 bytes it takes, and its number
unfoldable pub cell : Format (Option ℤ)
cell = seen (before (checked (number 1) (λ n. nat_le n 2) BadTag) cell_value) (λ p. p.1) (λ o. Some (cell_words o, o))

-- a group's keys
unfoldable pub key : Format Cells
key = counted (λ _. cell)

-- whether there is a value, as a number
abbrev pub flag_of : Option ℤ → ℕ
flag_of None = 0
flag_of (Some z) = 1

-- the least or the greatest value, if there is one
unfoldable pub extreme : Format (Option ℤ)
extreme = seen (before (checked (number 1) (λ n. nat_le n 1) BadTag) (λ n. optional (n == 1) (signed 64))) (λ p. p.1) (λ o. Some (flag_of o, o))

-- whether a value is greater than the last of those before it, if there are any
abbrev pub is_greater : List ℤ → ℤ → Bool
is_greater front z = length front == 0 || is_lt (int_cmp (slice_index_or front (length front - 1) z) z)

-- a value, after the values before it
unfoldable pub value : List ℤ → Format ℤ
value front = checked (signed 64) (is_greater front) BadOrder

-- distinct values in ascending order
unfoldable pub values : Format (List ℤ)
values = counted value

-- a count, if that is what is kept
abbrev pub as_count : Kept → Option ℕ
as_count (Count n) = Some n
as_count other = None

-- a count and a sum, if that is what is kept
abbrev pub as_sum : Kept → Option (ℕ × ℤ)
as_sum (Sum sums) = Some (sums.count, sums.sum)
as_sum other = None

-- the least value, if that is what is kept
abbrev pub as_least : Kept → Option (Option ℤ)
as_least (Least o) = Some o
as_least other = None

-- the greatest value, if that is what is kept
abbrev pub as_greatest : Kept → Option (Option ℤ)
as_greatest (Greatest o) = Some o
as_greatest other = None

-- distinct values, if that is what is kept
abbrev pub as_distinct : Kept → Option (List ℤ)
as_distinct (Distinct zs) = Some zs
as_distinct other = None

-- a count and a sum
unfoldable pub sum_parts : Format (ℕ × ℤ)
sum_parts = before (number 8) (λ _. wide)

-- what is kept of each kind: a count, a count and a sum, the least value, the greatest, or the distinct values
abbrev pub kept_as : ℕ → Format Kept
kept_as n =
    cond (n == 0) (seen (number 8) Count as_count)
    (cond (n == 1) (seen sum_parts (λ p. Sum (record { count = p.0; sum = p.1 })) as_sum)
    (cond (n == 2) (seen extreme Least as_least)
    (cond (n == 3) (seen extreme Greatest as_greatest) (seen values Distinct as_distinct))))

-- what is kept for a measure: its kind, and what is kept
unfoldable pub kept : Format Kept
kept = seen (before (checked (number 1) (λ n. nat_le n 4) BadTag) kept_as) (λ p. p.1) (λ k. Some (kept_kind k, k))

-- a group: its keys, and what is kept for each measure
abbrev pub Entry : Type 0
Entry = Cells × List Kept

-- whether a group's keys come after those of the last of the groups before it, if there are any
abbrev pub is_after : List Entry → Entry → Bool
is_after front g = length front == 0 || is_lt (key_cmp (slice_index_or front (length front - 1) g).0 g.0)

-- a group, after the groups before it
unfoldable pub group : List Entry → Format Entry
group front = checked (before key (λ _. counted (λ _. kept))) (is_after front) BadOrder

-- groups in ascending order of their keys
unfoldable pub groups : Format (List Entry)
groups = counted group

-- ---- the whole

-- what comes after the schema: the query's text, the batches that were counted, the strays, and the groups
abbrev pub Body : Type 0
Body = List ℕ × (List Run × (List Run × List Entry))

-- that in bytes
unfoldable pub body : Format Body
body = before text (λ _. before runs (λ _. before runs (λ _. groups)))

-- a partial answer in bytes
unfoldable pub partial : Format (Table × Body)
partial = before (head (codes "FLPT")) (λ _. body)

-- whether a name is the one just before another
abbrev pub is_just_before : BatchName → BatchName → Bool
is_just_before a b = a.origin.0 == b.origin.0 && a.number.0 + 1 == b.number.0

-- one more name before runs: the first of them begins with it, or it is a run by itself
abbrev pub with_name : BatchName → List Run → List Run
with_name q [] = record { first = q; last = q.number } ∷ []
with_name q (r ∷ rs) = cond (is_just_before q r.first) (record { first = q; last = r.last } ∷ rs) (record { first = q; last = q.number } ∷ r ∷ rs)

-- names in ascending order, gathered into runs
abbrev pub gathered : List BatchName → List Run
gathered [] = []
gathered (q ∷ qs) = with_name q (gathered qs)

-- the maximal runs of a set of names, in ascending order
unfoldable pub runs_of : set.FinSet name_cmp → List Run
runs_of names = gathered (in_order name_cmp names)

-- a group of a partial answer
abbrev pub entry_of : Cells × Vec Kept → Entry
entry_of e = (e.0, e.1.items)

-- what a partial answer has after its schema
abbrev pub body_of : PartialAnswer → Body
body_of p = (string_bytes p.text, (runs_of p.held, (runs_of p.strays, each entry_of p.groups.entries)))

-- the bytes of a partial answer
abbrev pub partial_answer_bytes : PartialAnswer → List ℕ
partial_answer_bytes p = partial.spell (p.schema, body_of p)

-- what is read of a partial answer is spelled so and valid, and what is valid and spelled so is read
abbrev pub PartialAnswersComeBack : Type 0
PartialAnswersComeBack = IsLawful partial
