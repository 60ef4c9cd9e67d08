-- Lines come between line feeds: what is read of one before its end is a part, and a part that is too long stays so.
use Rattle.std.specs.Prelude.{◌≡◌, ℕ, suc, ◌+◌, ◌-◌, ◌<◌, ◌≤◌, true, false, cond, ◌==◌, List, [], ◌∷◌, ◌++◌, length, take, drop, Option, Some, None, position}
use Rattle.std.proofs.Common.{refl, sym, ap, ◌∙◌, arith, subst}
use Rattle.std.proofs.lemmas.Bool.{eqb-true}
use Rattle.std.proofs.lemmas.List.{length-append, append-nil, length_push, length-take-le}
use Rattle.csv_rows.specs.Line.{TextLine, line_limit, before_last, text_or, without_return, ended, unended, lines_between, lines_of}
use Rattle.table_model.specs.Pieces.{pieces}
use Rattle.csv_rows.specs.LineReading.{onto_piece, lines_after, FirstTooLong, Takes}
use Rattle.csv_rows.specs.declared.lines.Taken.TheVariants as taken
use Rattle.csv_rows.proofs.Pieces.{first_piece, onto_nothing, onto_both, at_none, at_some, front_is}

-- with nothing before them
pub lines_start : (bs : List ℕ) → lines_of bs ≡ lines_after [] bs
lines_start bs = ap lines_between (sym (onto_nothing 10 bs))

-- a line feed ends the line
pub lines_ended : (part bytes more : List ℕ) (i : ℕ) → Some i ≡ position (λ b. b == 10) bytes → lines_after part (bytes ++ more) ≡ ended (without_return (part ++ take i bytes)) ∷ lines_of (drop (i + 1) bytes ++ more)
lines_ended part bytes more i some =
    let at = at_some 10 bytes i some in
    let next = first_piece 10 (drop (i + 1) bytes ++ more) in
    ap (λ (ps : List (List ℕ)). lines_between (onto_piece part ps)) (at.1 more)
    ∙ ap (λ (ps : List (List ℕ)). lines_between ((part ++ take i bytes) ∷ ps)) next.2
    ∙ ap (λ (ps : List (List ℕ)). ended (without_return (part ++ take i bytes)) ∷ lines_between ps) (sym next.2)

-- without a line feed the part grows
pub lines_open : (part bytes more : List ℕ) → None ≡ position (λ b. b == 10) bytes → lines_after part (bytes ++ more) ≡ lines_after (part ++ bytes) more
lines_open part bytes more none =
    ap (λ (ps : List (List ℕ)). lines_between (onto_piece part ps)) (at_none 10 bytes none more) ∙ ap lines_between (onto_both part bytes (pieces 10 more))

-- without its carriage return a line is at most a byte shorter
pub return_len : (line : List ℕ) → length line ≤ suc (length (without_return line))
return_len line = by (before_last 13 line) refl where
  by : (o : Option (List ℕ)) → before_last 13 line ≡ o → length line ≤ suc (length (text_or o line))
  by None is = omega arith
  by (Some front) is = let lengths : length line ≡ length front + 1 = ap length (front_is 13 line front is) ∙ length_push front 13 in omega (arith, lengths)

long_first : (line : List ℕ) (ps : List (List ℕ)) → line_limit + 1 < length line → FirstTooLong (lines_between (line ∷ ps))
long_first line [] past = elim (length line == 0) as (λ t. (length line == 0) ≡ t → FirstTooLong (cond t [] (unended line ∷ []))) [
  | true ↦ λ e. let none : length line ≡ 0 = eqb-true (length line) 0 e in absurd (omega arith)
  | false ↦ λ e. omega arith
] refl
long_first line (p ∷ ps) past = omega (arith, return_len line)

-- a part that is longer than a line and its carriage return is of a line that is too long
pub part_too_long : (part more : List ℕ) → line_limit + 1 < length part → FirstTooLong (lines_after part more)
part_too_long part more past =
    let p = first_piece 10 more in
    subst (λ (ps : List (List ℕ)). FirstTooLong (lines_between (onto_piece part ps))) (sym p.2) (long_first (part ++ p.0) p.1 (omega (arith, length-append part p.0)))

-- with so many bytes more a line has no room
pub long_open : (part bytes : List ℕ) (room : ℕ) → room ≡ line_limit + 1 - length part → room < length bytes → None ≡ position (λ b. b == 10) bytes → (more : List ℕ) → FirstTooLong (lines_after part (bytes ++ more))
long_open part bytes room is past none more =
    subst (λ (lines : List TextLine). FirstTooLong lines) (sym (lines_open part bytes more none)) (part_too_long (part ++ bytes) more (omega (arith, is, length-append part bytes)))

pub long_ended : (part bytes : List ℕ) (room end : ℕ) → room ≡ line_limit + 1 - length part → room < end → Some end ≡ position (λ b. b == 10) bytes → (more : List ℕ) → FirstTooLong (lines_after part (bytes ++ more))
long_ended part bytes room end is past some more =
    let within = (at_some 10 bytes end some).0 in
    let taken : length (take end bytes) ≡ end = length-take-le end bytes (omega arith) in
    let lengths : length (part ++ take end bytes) ≡ length part + length (take end bytes) = length-append part (take end bytes) in
    let returned = return_len (part ++ take end bytes) in
    subst (λ (lines : List TextLine). FirstTooLong lines) (sym (lines_ended part bytes more end some)) (omega (arith, is, taken, lengths, returned))

pub long_line : (part bytes line : List ℕ) (end : ℕ) → Some end ≡ position (λ b. b == 10) bytes → line ≡ without_return (part ++ take end bytes) → line_limit < length line → (more : List ℕ) → FirstTooLong (lines_after part (bytes ++ more))
long_line part bytes line end some is past more =
    subst (λ (lines : List TextLine). FirstTooLong lines) (sym (lines_ended part bytes more end some)) (subst (λ (l : List ℕ). line_limit < length l) is past)

-- a line is taken, with its line feed
pub line_taken : (part bytes line : List ℕ) (end : ℕ) → Some end ≡ position (λ b. b == 10) bytes → line ≡ without_return (part ++ take end bytes) → length line ≤ line_limit
    → Takes (taken.Line (end + 1)) part bytes line
line_taken part bytes line end some is short =
    let within = (at_some 10 bytes end some).0 in
    (omega arith, omega arith, short, λ more. lines_ended part bytes more end some ∙ ap (λ (l : List ℕ). ended l ∷ lines_of (drop (end + 1) bytes ++ more)) (sym is))

pub part_taken : (part bytes line : List ℕ) → None ≡ position (λ b. b == 10) bytes → line ≡ part ++ bytes → Takes taken.Part part bytes line
part_taken part bytes line none is = (is, λ more. lines_open part bytes more none ∙ ap (λ (l : List ℕ). lines_after l more) (sym is))

-- at the end of the text the part is the last line, unless it is empty
pub lines_last : (part : List ℕ) → lines_after part [] ≡ cond (length part == 0) [] (unended part ∷ [])
lines_last part = ap (λ (line : List ℕ). cond (length line == 0) [] (unended line ∷ [])) (append-nil part)
