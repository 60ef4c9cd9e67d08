-- Lines of queries are told one after another, however the text is cut into chunks; a line past the limit is too long however long it is.
use Rattle.std.specs.Prelude.{◌≡◌, ◌≢◌, ◌⊎◌, ℕ, ◌+◌, ◌-◌, ◌<◌, ◌≤◌, Bool, true, false, ◌&&◌, ◌==◌, cond, nat_lt, List, [], ◌++◌, length, take, drop, position, Option, Some, None, Result, Ok, Err}
use Rattle.std.specs.Io.KnownBytes.{Appends, Consumes, IsAtEnd}
use Rattle.std.specs.Str.{IsUtf8, is_utf8}
use Rattle.std.specs.Str.Lossy.{utf8_valid_len}
use Rattle.std.proofs.lemmas.Str.{is_utf8-from_IsUtf8, IsUtf8-from_is_utf8}
use Rattle.std.proofs.Common.{refl, sym, ap, ◌∙◌, arith, inl, inr, subst, append_assoc}
use Rattle.std.proofs.lemmas.Bool.Decides.{nat_tests}
use Rattle.std.proofs.lemmas.Bool.{cases_lt}
use Rattle.std.proofs.lemmas.List.{take_all, length-append, append-nil}
use Rattle.std.proofs.Math.ListN.{length-take}
use Rattle.table_model.proofs.Written.{appends_both}
use Rattle.table_model.specs.Faults.{AppendsFront, CountsWrites, IsWithin, GaveMore, Failed}
use Rattle.table_model.specs.declared.counted.TheConstants.{READ_LIMIT}
use Rattle.table_model.specs.declared.refusal.Refusal.{Refusal}
use Rattle.table_model.specs.declared.refusal.Refusal.TheVariants.{Memory, ReadFault, Syntax, WriteFault, LineTooLong}
use Rattle.answer_formats.specs.declared.format.Format.{Format}
use Rattle.csv_rows.specs.Line.{line_limit}
use Rattle.table_model.specs.Pieces.{pieces}
use Rattle.csv_rows.specs.LineReading.{onto_piece}
use Rattle.csv_rows.proofs.Pieces.{first_piece, onto_nothing, onto_both, at_none, at_some}
use Rattle.replica_store.specs.Replica.{Replica}
use Rattle.replica_reports.specs.Asking.{WritesText, answered_in}
use Rattle.replica_reports.specs.QueryLines.{grown, CutAt, answer_in_bytes, line_answer, Told, both, nothing_told, told_of, lines_told, queries_told, still_told, Heard, HeardAll, HeardFront, Fed, FedFront, HeardMore, EndsEarly}
use Rattle.replica_reports.proofs.AskedTexts.{appends_none, front_none}

-- ---- what is told

pub both_more : (a b c : Told) → both (both a b) c ≡ both a (both b c)
both_more a b c = (λ i. (append_assoc a.0 b.0 c.0 i, ands a.1 i)) where
  ands : (t : Bool) → ((t && b.1) && c.1) ≡ (t && (b.1 && c.1))
  ands true = refl
  ands false = refl

and_true : (t : Bool) → (t && true) ≡ t
and_true true = refl
and_true false = refl

pub both_nothing : (a : Told) → both a nothing_told ≡ a
both_nothing a = (λ i. (append-nil a.0 i, and_true a.1 i))

-- ---- a line past the limit

abbrev pub Long : List ℕ → Type 0
Long line = line_limit < length line

pub long_answer : (format : Format) (r : Replica) (line : List ℕ) → Long line → line_answer format r line ≡ Err LineTooLong
unfolding line_answer
long_answer format r line long =
    let some : (length line == 0) ≡ false = grind (arith, nat_tests) in
    let test : nat_lt line_limit (length line) ≡ true = grind (arith, nat_tests) in
    (λ i. cond (some i) (Ok []) (cond (test i) (Err LineTooLong) (answer_in_bytes format r line)))

-- two lines that are one, or are both past the limit, are told alike
same_told : (format : Format) (r : Replica) (a b : List ℕ) → (a ≡ b) ⊎ (Long a × Long b) → told_of (line_answer format r a) ≡ told_of (line_answer format r b)
same_told format r a b (inl same) = ap (λ (line : List ℕ). told_of (line_answer format r line)) same
same_told format r a b (inr long) = ap told_of (long_answer format r a long.0 ∙ sym (long_answer format r b long.1))

pub grown_same : (part more : List ℕ) → (grown part more ≡ part ++ more) ⊎ (Long (grown part more) × Long (part ++ more))
grown_same part more = elim (cases_lt (line_limit + 1 - length part) (length more)) [
  | inl past ↦
      let taken : length (take (line_limit + 1 - length part) more) ≡ line_limit + 1 - length part = length-taken (line_limit + 1 - length part) more (omega arith) in
      inr (omega (arith, length-append part (take (line_limit + 1 - length part) more)), omega (arith, length-append part more))
  | inr fits ↦ inl (ap (λ (m : List ℕ). part ++ m) (take_all (line_limit + 1 - length part) more fits))
] where
  length-taken : (n : ℕ) (xs : List ℕ) → n ≤ length xs → length (take n xs) ≡ n
  length-taken n xs h = omega (arith, length-take n xs)

longer_same : (a b rest : List ℕ) → (a ≡ b) ⊎ (Long a × Long b) → (a ++ rest ≡ b ++ rest) ⊎ (Long (a ++ rest) × Long (b ++ rest))
longer_same a b rest (inl same) = inl (ap (λ (x : List ℕ). x ++ rest) same)
longer_same a b rest (inr long) = inr (omega (arith, long.0, length-append a rest), omega (arith, long.1, length-append b rest))

-- ---- a chunk

-- a line feed ends the line, and the text goes on after it
line_ended : (format : Format) (r : Replica) (part left piece after more : List ℕ) → CutAt left piece after
    → still_told format r part (left ++ more) ≡ both (told_of (line_answer format r (grown part piece))) (still_told format r [] (after ++ more))
line_ended format r part left piece after more cut =
    let at = at_some 10 left cut.at cut.found in
    let rest : List ℕ = drop (cut.at + 1) left ++ more in
    ap (λ (ps : List (List ℕ)). lines_told format r (onto_piece part ps)) (at.1 more)
    ∙ ap (λ (p : List ℕ). both (told_of (line_answer format r (part ++ p))) (lines_told format r (pieces 10 rest))) (sym cut.before)
    ∙ ap (λ (t : Told). both t (lines_told format r (pieces 10 rest))) (sym (same_told format r (grown part piece) (part ++ piece) (grown_same part piece)))
    ∙ ap (λ (ps : List (List ℕ)). both (told_of (line_answer format r (grown part piece))) (lines_told format r ps)) (sym (onto_nothing 10 rest))
    ∙ ap (λ (a : List ℕ). both (told_of (line_answer format r (grown part piece))) (still_told format r [] (a ++ more))) (sym cut.after)

-- without a line feed the part grows
line_open : (format : Format) (r : Replica) (part left more : List ℕ) → None ≡ position (λ byte. byte == 10) left → still_told format r part (left ++ more) ≡ still_told format r (grown part left) more
line_open format r part left more none =
    let p = first_piece 10 more in
    ap (λ (ps : List (List ℕ)). lines_told format r (onto_piece part ps)) (at_none 10 left none more)
    ∙ ap (lines_told format r) (onto_both part left (pieces 10 more))
    ∙ ap (λ (ps : List (List ℕ)). lines_told format r (onto_piece (part ++ left) ps)) p.2
    ∙ ap (λ (t : Told). both t (lines_told format r p.1)) (sym (same_told format r (grown part left ++ p.0) ((part ++ left) ++ p.0) (longer_same (grown part left) (part ++ left) p.0 (grown_same part left))))
    ∙ ap (λ (ps : List (List ℕ)). lines_told format r (onto_piece (grown part left) ps)) (sym p.2)

-- at the end the part is the last line
line_last : (format : Format) (r : Replica) (part : List ℕ) → still_told format r part [] ≡ told_of (line_answer format r part)
line_last format r part =
    both_nothing (told_of (line_answer format r (part ++ [])))
    ∙ ap (λ (line : List ℕ). told_of (line_answer format r line)) (append-nil part)

-- ---- a query in bytes

pub bytes_answered : (format : Format) (r : Replica) (bytes sql : List ℕ) (result : Result (Unit {0}) Refusal) (before now : Option (List ℕ)) (w w' : ℕ) → (sql ≡ bytes) × IsUtf8 bytes
    → WritesText result before now w w' (answered_in format r sql) → WritesText result before now w w' (answer_in_bytes format r bytes)
bytes_answered format r bytes sql result before now w w' (same, text) h =
    let is : is_utf8 bytes ≡ true = is_utf8-from_IsUtf8 bytes text in
    let P : Result (List ℕ) Refusal → Type 0 = λ m. WritesText result before now w w' m in
    subst P (ap (answered_in format r) same ∙ sym (ap (λ (b : Bool). cond b (answered_in format r bytes) (Err (Syntax (utf8_valid_len bytes)))) is)) h

pub bytes_refused : (format : Format) (r : Replica) (bytes : List ℕ) (e : Refusal) (known : Option (List ℕ)) (w : ℕ) → (IsUtf8 bytes → ⊥) × (e ≡ Syntax (utf8_valid_len bytes))
    → WritesText (Err e) known known w w (answer_in_bytes format r bytes)
bytes_refused format r bytes e known w (none, is) =
    let P : Refusal → Type 0 = λ x. WritesText (Err x) known known w w (answer_in_bytes format r bytes) in
    subst P (sym is) (at (is_utf8 bytes) refl, refl, refl)
  where
    at : (b : Bool) → is_utf8 bytes ≡ b → cond b (answered_in format r bytes) (Err (Syntax (utf8_valid_len bytes))) ≡ Err (Syntax (utf8_valid_len bytes))
    at true test = absurd (none (IsUtf8-from_is_utf8 bytes test))
    at false test = refl

-- ---- a line is told

-- what came of it
pub line_passed : (result : Result (Unit {0}) Refusal) (e : Refusal) (before now : Option (List ℕ)) (w w' : ℕ) (made : Result (List ℕ) Refusal) → WritesText result before now w w' made
    → (result ≡ Err e) × (e ≢ Memory) × (e ≢ WriteFault) → Appends before now (told_of made).0 × ((told_of made).1 ≡ false) × (w' ≡ w)
line_passed (Ok done) e before now w w' made h why = absurd cc
line_passed (Err Memory) e before now w w' made h why = let same : Memory ≡ e = cc in absurd (why.1 (sym same))
line_passed (Err WriteFault) e before now w w' made h why = let same : WriteFault ≡ e = cc in absurd (why.2 (sym same))
line_passed (Err other) e before now w w' made h why =
    let P : Result (List ℕ) Refusal → Type 0 = λ m. Appends before now (told_of m).0 × ((told_of m).1 ≡ false) in
    let Q : Option (List ℕ) → Type 0 = λ k. Appends before k [] in
    let both_are = subst P (sym h.0) (subst Q (sym h.1) (appends_none before), refl) in
    (both_are.0, both_are.1, h.2)

pub line_answered : (result : Result (Unit {0}) Refusal) (before now : Option (List ℕ)) (w w' : ℕ) (made : Result (List ℕ) Refusal) → WritesText result before now w w' made
    → result ≡ Ok tt → Appends before now (told_of made).0 × ((told_of made).1 ≡ true) × (w' ≡ w)
line_answered (Ok done) before now w w' made h is =
    let P : Result (List ℕ) Refusal → Type 0 = λ m. Appends before now (told_of m).0 × ((told_of m).1 ≡ true) in
    let both_are = subst P (sym h.1) (h.2, refl) in
    (both_are.0, both_are.1, h.3)
line_answered (Err e) before now w w' made h is = absurd cc

pub line_stopped : (result : Result (Unit {0}) Refusal) (e : Refusal) (before now : Option (List ℕ)) (w w' : ℕ) (made : Result (List ℕ) Refusal) → WritesText result before now w w' made
    → (result ≡ Err e) × ((e ≡ Memory) ⊎ (e ≡ WriteFault)) → AppendsFront before now (told_of made).0 × CountsWrites e w w'
line_stopped (Ok done) e before now w w' made h why = absurd cc
line_stopped (Err Memory) e before now w w' made h why =
    let same : Memory ≡ e = cc in
    let P : Refusal → Type 0 = λ x. CountsWrites x w w' in
    let Q : Option (List ℕ) → Type 0 = λ k. AppendsFront before k (told_of made).0 in
    (subst Q (sym h.0) (front_none before (told_of made).0), subst P same h.1)
line_stopped (Err WriteFault) e before now w w' made h why =
    let same : WriteFault ≡ e = cc in
    let P : Refusal → Type 0 = λ x. CountsWrites x w w' in
    let Q : Result (List ℕ) Refusal → Type 0 = λ m. AppendsFront before now (told_of m).0 in
    (subst Q (sym h.1) h.2, subst P same h.3)
line_stopped (Err other) e before now w w' made h (is, inl lack) = absurd cc
line_stopped (Err other) e before now w w' made h (is, inr fault) = absurd cc

-- ---- chunks

-- so far in a chunk: what is left of it is still to be told
pub record FedSoFar (format : Format) (r : Replica) (before now : Option (List ℕ)) (was whole : Bool) (part chunk line left : List ℕ) : Type 0 where
  pub done : List ℕ
  pub answered : Bool
  pub told : Appends before now done
  pub is_whole : whole ≡ (was && answered)
  pub goes : (more : List ℕ) → still_told format r part (chunk ++ more) ≡ both (done, answered) (still_told format r line (left ++ more))

pub fed_start : (format : Format) (r : Replica) (known : Option (List ℕ)) (whole : Bool) (part chunk : List ℕ) → FedSoFar format r known known whole whole part chunk part chunk
fed_start format r known whole part chunk = record { done = []; answered = true; told = appends_none known; is_whole = sym (and_true whole); goes = λ more. refl }

and_more : (a b c : Bool) → ((a && b) && c) ≡ (a && (b && c))
and_more true b c = refl
and_more false b c = refl

-- one line more
pub fed_line : (format : Format) (r : Replica) (before now next : Option (List ℕ)) (was whole whole' : Bool) (part chunk line line' left piece after : List ℕ)
    → FedSoFar format r before now was whole part chunk line left → CutAt left piece after
    → Appends now next (told_of (line_answer format r (grown line piece))).0 → whole' ≡ (whole && (told_of (line_answer format r (grown line piece))).1) → line' ≡ []
    → FedSoFar format r before next was whole' part chunk line' after
fed_line format r before now next was whole whole' part chunk line line' left piece after so cut wrote is empty =
    let one : Told = told_of (line_answer format r (grown line piece)) in
    record {
      done = so.done ++ one.0;
      answered = so.answered && one.1;
      told = appends_both before now next so.done one.0 so.told wrote;
      is_whole = is ∙ ap (λ (b : Bool). b && one.1) so.is_whole ∙ and_more was so.answered one.1;
      goes = λ more.
          so.goes more
          ∙ ap (both (so.done, so.answered)) (line_ended format r line left piece after more cut)
          ∙ sym (both_more (so.done, so.answered) one (still_told format r [] (after ++ more)))
          ∙ ap (λ (l : List ℕ). both (both (so.done, so.answered) one) (still_told format r l (after ++ more))) (sym empty);
    }

-- the rest is kept
pub fed_whole : (format : Format) (r : Replica) (before now : Option (List ℕ)) (was whole : Bool) (part chunk line line' left : List ℕ)
    → FedSoFar format r before now was whole part chunk line left → None ≡ position (λ byte. byte == 10) left → line' ≡ grown line left → Fed format r before now was whole part chunk line'
fed_whole format r before now was whole part chunk line line' left so none kept = record {
  done = so.done;
  answered = so.answered;
  told = so.told;
  is_whole = so.is_whole;
  goes = λ more.
      so.goes more
      ∙ ap (both (so.done, so.answered)) (line_open format r line left more none ∙ ap (λ (l : List ℕ). still_told format r l more) (sym kept));
}

-- fronts
front_after : (before now next : Option (List ℕ)) (done text rest : List ℕ) → Appends before now done → AppendsFront now next text → AppendsFront before next (done ++ (text ++ rest))
front_after before now next done text rest told front = (
  done ++ front.0,
  front.1 ++ rest,
  ap (λ (t : List ℕ). done ++ (t ++ rest)) front.2 ∙ ap (λ (t : List ℕ). done ++ t) (append_assoc front.0 front.1 rest) ∙ sym (append_assoc done front.0 (front.1 ++ rest)),
  appends_both before now next done front.0 told front.3,
)

-- a line stopped early
pub fed_stops : (format : Format) (r : Replica) (before now next : Option (List ℕ)) (was whole : Bool) (part chunk line left piece after : List ℕ)
    → FedSoFar format r before now was whole part chunk line left → CutAt left piece after → AppendsFront now next (told_of (line_answer format r (grown line piece))).0 → FedFront format r before next part chunk
fed_stops format r before now next was whole part chunk line left piece after so cut front more =
    let one : Told = told_of (line_answer format r (grown line piece)) in
    let P : Told → Type 0 = λ t. AppendsFront before next t.0 in
    subst P (sym (so.goes more ∙ ap (both (so.done, so.answered)) (line_ended format r line left piece after more cut)))
    (front_after before now next so.done one.0 (still_told format r [] (after ++ more)).0 so.told front)

-- memory lacked for the part
pub fed_lacks : (format : Format) (r : Replica) (before now : Option (List ℕ)) (was whole : Bool) (part chunk line left : List ℕ)
    → FedSoFar format r before now was whole part chunk line left → FedFront format r before now part chunk
fed_lacks format r before now was whole part chunk line left so more =
    let P : Told → Type 0 = λ t. AppendsFront before now t.0 in
    subst P (sym (so.goes more)) (so.done, (still_told format r line (left ++ more)).0, refl, so.told)

-- ---- rounds

-- nothing was read
pub heard_start : (format : Format) (r : Replica) (input before : Option (List ℕ)) → Heard format r input input before before true [] 0
heard_start format r None before = tt
heard_start format r (Some xs) before = ([], [], refl, refl, appends_none before, λ more. ap (lines_told format r) (sym (onto_nothing 10 more)))

-- a chunk was read and told
pub heard_more : (format : Format) (r : Replica) (rest rest' now now' : Option (List ℕ)) (whole whole' : Bool) (part part' taken chunk : List ℕ) (n : ℕ)
    → Consumes rest rest' taken → chunk ≡ taken → length chunk ≡ n → Fed format r now now' whole whole' part chunk part' → HeardMore format r rest rest' now now' whole whole' part part' n
heard_more format r rest rest' now now' whole whole' part part' taken chunk n consumed same long fed None before total h = tt
heard_more format r None rest' now now' whole whole' part part' taken chunk n consumed same long fed (Some xs) before total h = absurd h
heard_more format r (Some ys) None now now' whole whole' part part' taken chunk n consumed same long fed (Some xs) before total h = absurd consumed
heard_more format r (Some ys) (Some zs) now now' whole whole' part part' taken chunk n consumed same long fed (Some xs) before total h = (
  h.0 ++ chunk,
  h.1 ++ fed.done,
  h.2 ∙ ap (λ (l : List ℕ). h.0 ++ l) (consumed ∙ ap (λ (c : List ℕ). c ++ zs) (sym same)) ∙ sym (append_assoc h.0 chunk zs),
  omega (arith, length-append h.0 chunk, h.3, long),
  appends_both before now now' h.1 fed.done h.4 fed.told,
  λ more.
      ap (queries_told format r) (append_assoc h.0 chunk more)
      ∙ h.5 (chunk ++ more)
      ∙ ap (both (h.1, whole)) (fed.goes more)
      ∙ sym (both_more (h.1, whole) (fed.done, fed.answered) (still_told format r part' more))
      ∙ ap (λ (b : Bool). both (h.1 ++ fed.done, b) (still_told format r part' more)) (sym fed.is_whole),
)

-- what was told is a front of the whole
pub heard_front : (format : Format) (r : Replica) (input rest before now : Option (List ℕ)) (whole : Bool) (part : List ℕ) (total : ℕ) → Heard format r input rest before now whole part total → HeardFront format r input before now
heard_front format r None rest before now whole part total h = tt
heard_front format r (Some xs) None before now whole part total h = absurd h
heard_front format r (Some xs) (Some ys) before now whole part total h =
    let P : List ℕ → Type 0 = λ x. AppendsFront before now (queries_told format r x).0 in
    let Q : Told → Type 0 = λ t. AppendsFront before now t.0 in
    subst P (sym h.2) (subst Q (sym (h.5 ys)) (h.1, (still_told format r part ys).0, refl, h.4))

-- a chunk whose telling stopped early
pub heard_cut : (format : Format) (r : Replica) (rest rest' now now' : Option (List ℕ)) (whole : Bool) (part taken chunk : List ℕ)
    → Consumes rest rest' taken → chunk ≡ taken → FedFront format r now now' part chunk → EndsEarly format r rest now now' whole part
heard_cut format r rest rest' now now' whole part taken chunk consumed same front None before total h = tt
heard_cut format r None rest' now now' whole part taken chunk consumed same front (Some xs) before total h = absurd h
heard_cut format r (Some ys) None now now' whole part taken chunk consumed same front (Some xs) before total h = absurd consumed
heard_cut format r (Some ys) (Some zs) now now' whole part taken chunk consumed same front (Some xs) before total h =
    let P : List ℕ → Type 0 = λ x. AppendsFront before now' (queries_told format r x).0 in
    let Q : Told → Type 0 = λ t. AppendsFront before now' t.0 in
    let here = front zs in
    let S : List ℕ → Type 0 = λ y. AppendsFront now now' (still_told format r part y).0 in
    let last : AppendsFront now now' (still_told format r part ys).0 = subst S (sym (consumed ∙ ap (λ (c : List ℕ). c ++ zs) (sym same))) here in
    let R : List ℕ → Type 0 = λ t. AppendsFront before now' t in
    subst P (sym h.2) (subst Q (sym (h.5 ys)) (subst R (ap (λ (t : List ℕ). h.1 ++ t) (append-nil (still_told format r part ys).0)) (front_after before now now' h.1 (still_told format r part ys).0 [] h.4 last)))

-- nothing was told of a failed read
pub heard_unread : (format : Format) (r : Replica) (rest now : Option (List ℕ)) (whole : Bool) (part : List ℕ) → EndsEarly format r rest now now whole part
heard_unread format r rest now whole part input before total h = heard_front format r input rest before now whole part total h

-- the last line was told at the end of the input
pub heard_all : (format : Format) (r : Replica) (input rest before now now' : Option (List ℕ)) (whole whole' : Bool) (part : List ℕ) (total : ℕ) → Heard format r input rest before now whole part total → IsAtEnd rest
    → Appends now now' (told_of (line_answer format r part)).0 → whole' ≡ (whole && (told_of (line_answer format r part)).1) → HeardAll format r input before now' whole'
heard_all format r None rest before now now' whole whole' part total h end wrote is = tt
heard_all format r (Some xs) None before now now' whole whole' part total h end wrote is = absurd h
heard_all format r (Some xs) (Some ys) before now now' whole whole' part total h end wrote is =
    let one : Told = told_of (line_answer format r part) in
    let all : queries_told format r xs ≡ both (h.1, whole) one = ap (queries_told format r) h.2 ∙ h.5 ys ∙ ap (λ (y : List ℕ). both (h.1, whole) (still_told format r part y)) end ∙ ap (both (h.1, whole)) (line_last format r part) in
    let P : Told → Type 0 = λ t. Appends before now' t.0 × (whole' ≡ t.1) in
    subst P (sym all) (appends_both before now now' h.1 one.0 h.4 wrote, is)

pub heard_last : (format : Format) (r : Replica) (input rest before now now' : Option (List ℕ)) (whole : Bool) (part : List ℕ) (total : ℕ) → Heard format r input rest before now whole part total → IsAtEnd rest
    → AppendsFront now now' (told_of (line_answer format r part)).0 → HeardFront format r input before now'
heard_last format r None rest before now now' whole part total h end front = tt
heard_last format r (Some xs) None before now now' whole part total h end front = absurd h
heard_last format r (Some xs) (Some ys) before now now' whole part total h end front =
    let one : Told = told_of (line_answer format r part) in
    let all : queries_told format r xs ≡ both (h.1, whole) one = ap (queries_told format r) h.2 ∙ h.5 ys ∙ ap (λ (y : List ℕ). both (h.1, whole) (still_told format r part y)) end ∙ ap (both (h.1, whole)) (line_last format r part) in
    let P : Told → Type 0 = λ t. AppendsFront before now' t.0 in
    let R : List ℕ → Type 0 = λ t. AppendsFront before now' t in
    subst P (sym all) (subst R (ap (λ (t : List ℕ). h.1 ++ t) (append-nil one.0)) (front_after before now now' h.1 one.0 [] h.4 front))

-- ---- how much was read, and what failed

pub heard_past : (format : Format) (r : Replica) (input rest before now : Option (List ℕ)) (whole : Bool) (part : List ℕ) (total : ℕ) → Heard format r input rest before now whole part total → READ_LIMIT < total → GaveMore input rest
heard_past format r None rest before now whole part total h past = tt
heard_past format r (Some xs) None before now whole part total h past = absurd h
heard_past format r (Some xs) (Some ys) before now whole part total h past =
    let lengths : length xs ≡ length h.0 + length ys = ap length h.2 ∙ length-append h.0 ys in omega (arith, h.3)

pub heard_within : (format : Format) (r : Replica) (input rest before now : Option (List ℕ)) (whole : Bool) (part : List ℕ) (total : ℕ) → Heard format r input rest before now whole part total → IsAtEnd rest → total ≤ READ_LIMIT → IsWithin input
heard_within format r None rest before now whole part total h end within = tt
heard_within format r (Some xs) None before now whole part total h end within = absurd h
heard_within format r (Some xs) (Some ys) before now whole part total h end within =
    let lengths : length xs ≡ length h.0 + length ys = ap length h.2 ∙ length-append h.0 ys in
    let none : length ys ≡ 0 = ap length end in
    omega (arith, h.3)

pub failed_since : (many : Type 0) (e : Refusal) (r0 r r' w0 w w' : ℕ) → r ≡ r0 → w ≡ w0 → Failed ⊥ e r r' w w' → Failed many e r0 r' w0 w'
failed_since many e r0 r r' w0 w w' same_r same_w h =
    let P : ℕ → Type 0 = λ k. Failed many e k r' w0 w' in
    let Q : ℕ → Type 0 = λ k. Failed many e r r' k w' in
    subst P same_r (subst Q same_w (weaker e h)) where
      weaker : (e : Refusal) → Failed ⊥ e r r' w w' → Failed many e r r' w w'
      weaker Memory h = h
      weaker ReadFault h = (elim h.0 [ inl rose ↦ inl rose | inr none ↦ absurd none.0 ], h.1)
      weaker WriteFault h = h
      weaker other h = h

pub telling_failed : (many : Type 0) (e : Refusal) (r r' w w' : ℕ) → r' ≡ r → (e ≡ Memory) ⊎ (e ≡ WriteFault) → CountsWrites e w w' → Failed many e r r' w w'
telling_failed many Memory r r' w w' same why h = (same, h)
telling_failed many WriteFault r r' w w' same why h = (same, h)
telling_failed many other r r' w w' same (inl lack) h = absurd cc
telling_failed many other r r' w w' same (inr fault) h = absurd cc
