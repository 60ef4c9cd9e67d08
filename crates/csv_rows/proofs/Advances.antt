-- The lines that are to come, told further with each piece that is taken and each chunk that comes.
use Rattle.std.specs.Prelude.{◌≡◌, ◌⊎◌, ℕ, ◌<◌, ◌≤◌, Bool, true, false, cond, ◌==◌, List, [], ◌∷◌, ◌++◌, length, drop, Option, Some, None}
use Rattle.std.specs.Io.KnownBytes.{IsAtEnd}
use Rattle.std.proofs.Common.{refl, sym, ap, ◌∙◌, arith, subst, append_assoc, inl, inr}
use Rattle.std.proofs.lemmas.Bool.Decides.{nat_tests}
use Rattle.std.proofs.lemmas.List.{append-nil}
use Rattle.csv_rows.specs.Line.{TextLine, line_limit, text_line, ended, unended, lines_of, unmarked}
use Rattle.csv_rows.specs.LineReading.{lines_after, FirstTooLong, Grows}
use Rattle.csv_rows.specs.Reading.{AsKnown}
use Rattle.csv_rows.proofs.KnownFacts.{known_both, known_map, known_self, consumed}
use Rattle.csv_rows.proofs.LineFacts.{lines_start, lines_last}
use Rattle.csv_rows.proofs.Marks.{mark_more}

-- a part of a line was read, and these bytes wait to be taken
abbrev pub Sofar : List ℕ → List ℕ → List ℕ → Option (List ℕ) → Option (List ℕ) → Type 0
Sofar first part pending a b = AsKnown (λ bytes rest. lines_of (first ++ bytes) ≡ lines_after part (pending ++ rest)) a b

pub sofar_start : (first part pending : List ℕ) (a : Option (List ℕ)) → part ≡ [] → pending ≡ first → Sofar first part pending a a
sofar_start first part pending a none same = known_self (λ bytes rest. lines_of (first ++ bytes) ≡ lines_after part (pending ++ rest)) (λ x. lines_start (first ++ x) ∙ (λ i. lines_after (sym none i) (sym same i ++ x))) a

-- all was taken, and a chunk came
pub sofar_part : (first part pending part' pending' : List ℕ) (count : ℕ) (a b c : Option (List ℕ)) → Sofar first part pending a b → ((more : List ℕ) → lines_after part (pending ++ more) ≡ lines_after part' more)
    → Grows count [] pending' b c → Sofar first part' pending' a c
sofar_part first part pending part' pending' count a b c so_far goes grows =
    known_both (λ bytes rest. lines_of (first ++ bytes) ≡ lines_after part (pending ++ rest)) (λ x y. x ≡ grows.0 ++ y) (λ bytes rest. lines_of (first ++ bytes) ≡ lines_after part' (pending' ++ rest))
    (λ x y z p q. p ∙ goes y ∙ ap (lines_after part') q ∙ ap (λ (chunk : List ℕ). lines_after part' (chunk ++ z)) (sym grows.2)) a b c so_far (consumed b c grows.0 grows.3)

-- a line was taken
pub sofar_line : (first part pending line pending' : List ℕ) (has_end : Bool) (count : ℕ) (a b : Option (List ℕ)) → Sofar first part pending a b
    → ((more : List ℕ) → lines_after part (pending ++ more) ≡ ended line ∷ lines_of (drop count pending ++ more)) → pending' ≡ drop count pending → has_end ≡ true
    → AsKnown (λ bytes rest. lines_of (first ++ bytes) ≡ text_line line has_end ∷ lines_of (pending' ++ rest)) a b
sofar_line first part pending line pending' has_end count a b so_far takes is end =
    known_map (λ bytes rest. lines_of (first ++ bytes) ≡ lines_after part (pending ++ rest)) (λ bytes rest. lines_of (first ++ bytes) ≡ text_line line has_end ∷ lines_of (pending' ++ rest))
    (λ x y p. p ∙ takes y ∙ (λ i. text_line line (sym end i) ∷ lines_of (sym is i ++ y))) a b so_far

-- the line is too long
pub sofar_long : (first part pending : List ℕ) (a b : Option (List ℕ)) → Sofar first part pending a b → ((more : List ℕ) → FirstTooLong (lines_after part (pending ++ more)))
    → AsKnown (λ bytes rest. FirstTooLong (lines_of (first ++ bytes))) a b
sofar_long first part pending a b so_far long =
    known_map (λ bytes rest. lines_of (first ++ bytes) ≡ lines_after part (pending ++ rest)) (λ bytes rest. FirstTooLong (lines_of (first ++ bytes)))
    (λ x y p. subst (λ (lines : List TextLine). FirstTooLong lines) (sym p) (long y)) a b so_far

-- at the end the part alone is left
at_last : (first part pending' : List ℕ) (a b : Option (List ℕ)) → Sofar first part pending' a b → pending' ≡ [] → IsAtEnd b
    → AsKnown (λ bytes rest. (lines_of (first ++ bytes) ≡ cond (length part == 0) [] (unended part ∷ [])) × (rest ≡ [])) a b
at_last first part pending' None b so_far none end = tt
at_last first part pending' (Some x) None so_far none end = absurd so_far
at_last first part pending' (Some x) (Some y) so_far none end = (so_far ∙ (λ i. lines_after part (none i ++ end i)) ∙ lines_last part, end)

pub last_line : (first part pending' line new : List ℕ) (has_end : Bool) (a b : Option (List ℕ)) → Sofar first part pending' a b → pending' ≡ [] → IsAtEnd b → 0 < length part → line ≡ part → has_end ≡ false → new ≡ pending'
    → AsKnown (λ bytes rest. lines_of (first ++ bytes) ≡ text_line line has_end ∷ lines_of (new ++ rest)) a b
last_line first part pending' line new has_end a b so_far none end some same cut kept =
    let test : (length part == 0) ≡ false = grind (arith, nat_tests) in
    known_map (λ bytes rest. (lines_of (first ++ bytes) ≡ cond (length part == 0) [] (unended part ∷ [])) × (rest ≡ [])) (λ bytes rest. lines_of (first ++ bytes) ≡ text_line line has_end ∷ lines_of (new ++ rest))
    (λ x y p. p.0 ∙ ap (λ (t : Bool). cond t [] (unended part ∷ [])) test ∙ (λ i. text_line (sym same i) (sym cut i) ∷ lines_of (sym (kept ∙ none) i ++ sym p.1 i))) a b (at_last first part pending' a b so_far none end)

pub no_line : (first part pending' new : List ℕ) (a b : Option (List ℕ)) → Sofar first part pending' a b → pending' ≡ [] → IsAtEnd b → length part ≡ 0 → new ≡ pending'
    → AsKnown (λ bytes rest. (lines_of (first ++ bytes) ≡ []) × (lines_of (new ++ rest) ≡ [])) a b
no_line first part pending' new a b so_far none end empty kept =
    let test : (length part == 0) ≡ true = grind (arith, nat_tests) in
    known_map (λ bytes rest. (lines_of (first ++ bytes) ≡ cond (length part == 0) [] (unended part ∷ [])) × (rest ≡ [])) (λ bytes rest. (lines_of (first ++ bytes) ≡ []) × (lines_of (new ++ rest) ≡ []))
    (λ x y p. (p.0 ∙ ap (λ (t : Bool). cond t [] (unended part ∷ [])) test, (λ i. lines_of ((kept ∙ none) i ++ p.1 i)))) a b (at_last first part pending' a b so_far none end)

pub long_last : (first part pending' : List ℕ) (a b : Option (List ℕ)) → Sofar first part pending' a b → pending' ≡ [] → IsAtEnd b → line_limit < length part
    → AsKnown (λ bytes rest. FirstTooLong (lines_of (first ++ bytes))) a b
long_last first part pending' a b so_far none end long =
    let test : (length part == 0) ≡ false = grind (arith, nat_tests) in
    known_map (λ bytes rest. (lines_of (first ++ bytes) ≡ cond (length part == 0) [] (unended part ∷ [])) × (rest ≡ [])) (λ bytes rest. FirstTooLong (lines_of (first ++ bytes)))
    (λ x y p. subst (λ (lines : List TextLine). FirstTooLong lines) (sym (p.0 ∙ ap (λ (t : Bool). cond t [] (unended part ∷ [])) test)) long) a b (at_last first part pending' a b so_far none end)

-- the bytes before a mark was sought
abbrev pub Head : List ℕ → List ℕ → Option (List ℕ) → Option (List ℕ) → Type 0
Head first pending a b = AsKnown (λ bytes rest. first ++ bytes ≡ pending ++ rest) a b

pub head_start : (first : List ℕ) (a : Option (List ℕ)) → Head first first a a
head_start first a = known_self (λ bytes rest. first ++ bytes ≡ first ++ rest) (λ x. refl) a

pub head_more : (first pending pending' : List ℕ) (count : ℕ) (a b c : Option (List ℕ)) → Head first pending a b → Grows count pending pending' b c → Head first pending' a c
head_more first pending pending' count a b c head grows =
    known_both (λ bytes rest. first ++ bytes ≡ pending ++ rest) (λ x y. x ≡ grows.0 ++ y) (λ bytes rest. first ++ bytes ≡ pending' ++ rest)
    (λ x y z p q. p ∙ ap (λ (r : List ℕ). pending ++ r) q ∙ sym (append_assoc pending grows.0 z) ∙ ap (λ (r : List ℕ). r ++ z) (sym grows.2)) a b c head (consumed b c grows.0 grows.3)

-- three bytes came, or all
pub mark_gone : (first pending pending' : List ℕ) (a b : Option (List ℕ)) → Head first pending a b → (3 ≤ length pending) ⊎ IsAtEnd b → pending' ≡ unmarked pending
    → AsKnown (λ bytes rest. unmarked (first ++ bytes) ≡ pending' ++ rest) a b
mark_gone first pending pending' None b head enough is = tt
mark_gone first pending pending' (Some x) None head enough is = absurd head
mark_gone first pending pending' (Some x) (Some y) head (inl three) is = ap unmarked head ∙ mark_more pending y three ∙ ap (λ (r : List ℕ). r ++ y) (sym is)
mark_gone first pending pending' (Some x) (Some y) head (inr end) is =
    ap unmarked (head ∙ ap (λ (r : List ℕ). pending ++ r) end ∙ append-nil pending) ∙ sym is ∙ sym (append-nil pending') ∙ ap (λ (r : List ℕ). pending' ++ r) (sym end)
