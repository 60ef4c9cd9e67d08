-- The refused ones of lines of queries are told one after another, however the text is cut into chunks.
use Rattle.std.specs.Prelude.{◌≡◌, ◌≢◌, ◌⊎◌, ℕ, ◌+◌, ◌-◌, ◌<◌, ◌≤◌, ◌==◌, List, [], ◌∷◌, ◌++◌, length, take, drop, position, Option, Some, None, Result, Ok, Err, MatchOption}
use Rattle.std.specs.Io.KnownBytes.{Consumes, IsAtEnd}
use Rattle.std.proofs.Common.{refl, sym, ap, ◌∙◌, arith, inl, inr, subst, append_assoc}
use Rattle.std.proofs.lemmas.Bool.{cases_lt}
use Rattle.std.proofs.lemmas.List.{take_all, append-nil, length-append, take-append-le, take-take}
use Rattle.std.proofs.Math.Seq.{take-append-add}
use Rattle.table_model.specs.declared.refusal.Refusal.{Refusal}
use Rattle.table_model.specs.declared.refusal.Refusal.TheVariants.{Memory, WriteFault, LineTooLong}
use Rattle.answer_formats.specs.declared.format.Format.{Format}
use Rattle.csv_rows.specs.Line.{line_limit}
use Rattle.table_model.specs.Pieces.{pieces}
use Rattle.csv_rows.specs.LineReading.{onto_piece}
use Rattle.csv_rows.proofs.Pieces.{first_piece, onto_nothing, onto_both, at_none, at_some}
use Rattle.replica_store.specs.Replica.{Replica}
use Rattle.replica_reports.specs.Asking.{WritesText}
use Rattle.replica_reports.specs.QueryLines.{grown, CutAt, line_answer}
use Rattle.replica_reports.specs.RefusedLines.{RefusedLine, refused_line, next_number, refused_of, lines_refused, queries_refused, still_refused, HearsMore, HearsFront, HearsRefused, HearsSome, Hearing, HearsChunk, HearsChunkFront, HearingMore, HearingEnds}
use Rattle.replica_reports.proofs.LinesTold.{Long, long_answer, grown_same}

abbrev Heard : Type 0
Heard = Option (List RefusedLine)

-- ---- what is told

pub hears_both : (old mid new : Heard) (xs ys : List RefusedLine) → HearsMore old mid xs → HearsMore mid new ys → HearsMore old new (xs ++ ys)
hears_both None mid new xs ys h k = tt
hears_both (Some a) None new xs ys h k = absurd h
hears_both (Some a) (Some b) None xs ys h k = absurd k
hears_both (Some a) (Some b) (Some c) xs ys h k = k ∙ ap (λ (x : List RefusedLine). x ++ ys) h ∙ append_assoc a xs ys

pub hears_nothing : (known : Heard) → HearsMore known known []
hears_nothing None = tt
hears_nothing (Some xs) = sym (append-nil xs)

pub hears_same : (old new : Heard) → new ≡ old → HearsMore old new []
hears_same old new same = subst (λ (x : Heard). HearsMore old x []) (sym same) (hears_nothing old)

-- fronts
hears_front_after : (before now next : Heard) (done lines rest : List RefusedLine) → HearsMore before now done → HearsFront now next lines → HearsFront before next (done ++ (lines ++ rest))
hears_front_after before now next done lines rest told front = (
  done ++ front.0,
  front.1 ++ rest,
  ap (λ (t : List RefusedLine). done ++ (t ++ rest)) front.2 ∙ ap (λ (t : List RefusedLine). done ++ t) (append_assoc front.0 front.1 rest) ∙ sym (append_assoc done front.0 (front.1 ++ rest)),
  hears_both before now next done front.0 told front.3,
)

no_front : (before now : Heard) (lines : List RefusedLine) → now ≡ before → HearsFront before now lines
no_front before now lines same = ([], lines, refl, hears_same before now same)

-- ---- lines that are told alike

abbrev limit : ℕ
limit = line_limit + 1

-- they are one, or both past the limit and the same up to it
abbrev Alike : List ℕ → List ℕ → Type 0
Alike a b = (a ≡ b) ⊎ ((Long a × Long b) × (take limit a ≡ take limit b))

alike_refused : (format : Format) (r : Replica) (n : ℕ) (a b : List ℕ) → Alike a b → refused_of n a (line_answer format r a) ≡ refused_of n b (line_answer format r b)
alike_refused format r n a b (inl same) = ap (λ (line : List ℕ). refused_of n line (line_answer format r line)) same
alike_refused format r n a b (inr both) =
    ap (refused_of n a) (long_answer format r a both.0.0)
    ∙ ap (λ (line : List ℕ). refused_line n line LineTooLong ∷ []) both.1
    ∙ sym (ap (refused_of n b) (long_answer format r b both.0.1))

taken_same : (part more : List ℕ) → take limit (grown part more) ≡ take limit (part ++ more)
taken_same part more = elim (cases_lt (length part) limit) [
  | inl below ↦
      let room : length part + (limit - length part) ≡ limit = omega (arith, below) in
      let first : take limit (grown part more) ≡ part ++ take (limit - length part) (take (limit - length part) more) =
      ap (λ (n : ℕ). take n (grown part more)) (sym room) ∙ take-append-add part (take (limit - length part) more) (limit - length part) in
      let second : take limit (part ++ more) ≡ part ++ take (limit - length part) more = ap (λ (n : ℕ). take n (part ++ more)) (sym room) ∙ take-append-add part more (limit - length part) in
      first ∙ ap (λ (t : List ℕ). part ++ t) (take-take (limit - length part) (limit - length part) more (omega arith)) ∙ sym second
  | inr past ↦ take-append-le limit part (take (limit - length part) more) past ∙ sym (take-append-le limit part more past)
]

grown_alike : (part more : List ℕ) → Alike (grown part more) (part ++ more)
grown_alike part more = elim (grown_same part more) [ inl same ↦ inl same | inr long ↦ inr (long, taken_same part more) ]

long_more : (a rest : List ℕ) → Long a → Long (a ++ rest) × (take limit (a ++ rest) ≡ take limit a)
long_more a rest long = (omega (arith, long, length-append a rest), take-append-le limit a rest (omega (arith, long)))

longer_alike : (a b rest : List ℕ) → Alike a b → Alike (a ++ rest) (b ++ rest)
longer_alike a b rest (inl same) = inl (ap (λ (x : List ℕ). x ++ rest) same)
longer_alike a b rest (inr both) =
    let one = long_more a rest both.0.0 in
    let two = long_more b rest both.0.1 in
    inr ((one.0, two.0), one.1 ∙ both.1 ∙ sym two.1)

-- ---- a chunk

-- a line feed ends the line, and the text goes on after it
refused_ended : (format : Format) (r : Replica) (n : ℕ) (part left piece after more : List ℕ) → CutAt left piece after
    → still_refused format r n part (left ++ more) ≡ refused_of (next_number n) (grown part piece) (line_answer format r (grown part piece)) ++ still_refused format r (next_number n) [] (after ++ more)
refused_ended format r n part left piece after more cut =
    let at = at_some 10 left cut.at cut.found in
    let m : ℕ = next_number n in
    let rest : List ℕ = drop (cut.at + 1) left ++ more in
    let line : List ℕ → List RefusedLine = λ text. refused_of m text (line_answer format r text) in
    ap (λ (ps : List (List ℕ)). lines_refused format r n (onto_piece part ps)) (at.1 more)
    ∙ ap (λ (p : List ℕ). line (part ++ p) ++ lines_refused format r m (pieces 10 rest)) (sym cut.before)
    ∙ ap (λ (t : List RefusedLine). t ++ lines_refused format r m (pieces 10 rest)) (sym (alike_refused format r m (grown part piece) (part ++ piece) (grown_alike part piece)))
    ∙ ap (λ (ps : List (List ℕ)). line (grown part piece) ++ lines_refused format r m ps) (sym (onto_nothing 10 rest))
    ∙ ap (λ (a : List ℕ). line (grown part piece) ++ still_refused format r m [] (a ++ more)) (sym cut.after)

-- without a line feed the part grows
refused_open : (format : Format) (r : Replica) (n : ℕ) (part left more : List ℕ) → None ≡ position (λ byte. byte == 10) left → still_refused format r n part (left ++ more) ≡ still_refused format r n (grown part left) more
refused_open format r n part left more none =
    let p = first_piece 10 more in
    ap (λ (ps : List (List ℕ)). lines_refused format r n (onto_piece part ps)) (at_none 10 left none more)
    ∙ ap (lines_refused format r n) (onto_both part left (pieces 10 more))
    ∙ ap (λ (ps : List (List ℕ)). lines_refused format r n (onto_piece (part ++ left) ps)) p.2
    ∙ ap (λ (t : List RefusedLine). t ++ lines_refused format r (next_number n) p.1)
    (sym (alike_refused format r (next_number n) (grown part left ++ p.0) ((part ++ left) ++ p.0) (longer_alike (grown part left) (part ++ left) p.0 (grown_alike part left))))
    ∙ ap (λ (ps : List (List ℕ)). lines_refused format r n (onto_piece (grown part left) ps)) (sym p.2)

-- at the end the part is the last line
refused_last : (format : Format) (r : Replica) (n : ℕ) (part : List ℕ) → still_refused format r n part [] ≡ refused_of (next_number n) part (line_answer format r part)
refused_last format r n part =
    append-nil (refused_of (next_number n) (part ++ []) (line_answer format r (part ++ [])))
    ∙ ap (λ (line : List ℕ). refused_of (next_number n) line (line_answer format r line)) (append-nil part)

-- ---- a line is told

-- a line that is answered
pub none_refused : (result : Result (Unit {0}) Refusal) (before now : Option (List ℕ)) (w w' n : ℕ) (line : List ℕ) (made : Result (List ℕ) Refusal) (known : Heard) → WritesText result before now w w' made
    → result ≡ Ok tt → HearsMore known known (refused_of n line made)
none_refused (Ok done) before now w w' n line made known h is = subst (λ (m : Result (List ℕ) Refusal). HearsMore known known (refused_of n line m)) (sym h.1) (hears_nothing known)
none_refused (Err e) before now w w' n line made known h is = absurd cc

-- what was refused is what the line is refused as
refused_so : (result : Result (Unit {0}) Refusal) (e : Refusal) (before now : Option (List ℕ)) (w w' : ℕ) (made : Result (List ℕ) Refusal) → WritesText result before now w w' made
    → (result ≡ Err e) × (e ≢ Memory) × (e ≢ WriteFault) → made ≡ Err e
refused_so (Ok done) e before now w w' made h why = absurd cc
refused_so (Err Memory) e before now w w' made h why = let same : Memory ≡ e = cc in absurd (why.1 (sym same))
refused_so (Err WriteFault) e before now w w' made h why = let same : WriteFault ≡ e = cc in absurd (why.2 (sym same))
refused_so (Err other) e before now w w' made h why = let same : other ≡ e = cc in h.0 ∙ ap Err same

-- why a line was passed over
pub why_refused : (passed : Option Refusal) (e : Refusal) (outcome : Result (Unit {0}) Refusal) → MatchOption passed (outcome ≡ Ok tt) (λ (x : Refusal). (outcome ≡ Err x) × (x ≢ Memory) × (x ≢ WriteFault)) → passed ≡ Some e
    → (outcome ≡ Err e) × (e ≢ Memory) × (e ≢ WriteFault)
why_refused None e outcome h is = absurd cc
why_refused (Some x) e outcome h is = let same : x ≡ e = cc in subst (λ (y : Refusal). (outcome ≡ Err y) × (y ≢ Memory) × (y ≢ WriteFault)) same h

-- a line that is refused
pub one_refused : (result : Result (Unit {0}) Refusal) (e : Refusal) (before now : Option (List ℕ)) (w w' n m : ℕ) (line slice : List ℕ) (answer : List ℕ → Result (List ℕ) Refusal) (heard told : Heard) → WritesText result before now w w' (answer slice)
    → (result ≡ Err e) × (e ≢ Memory) × (e ≢ WriteFault) → m ≡ n → slice ≡ line → length slice ≤ limit → HearsMore heard told (refused_line m slice e ∷ []) → HearsMore heard told (refused_of n line (answer line))
one_refused result e before now w w' n m line slice answer heard told h why number same short hears =
    let short_line : take limit line ≡ slice = ap (take limit) (sym same) ∙ take_all limit slice short in
    let P : List RefusedLine → Type 0 = λ lines. HearsMore heard told lines in
    let made : answer line ≡ Err e = ap answer (sym same) ∙ refused_so result e before now w w' (answer slice) h why in
    let is : refused_of n line (answer line) ≡ refused_line m slice e ∷ [] = ap (refused_of n line) made ∙ (λ i. refused_line (sym number i) (short_line i) e ∷ []) in
    subst P (sym is) hears

-- ---- chunks

-- so far in a chunk: what is left of it is still to be told
pub record ChunkSoFar (format : Format) (r : Replica) (before now : Heard) (was n : ℕ) (part chunk line left : List ℕ) : Type 0 where
  pub done : List RefusedLine
  pub told : HearsMore before now done
  pub goes : (more : List ℕ) → still_refused format r was part (chunk ++ more) ≡ done ++ still_refused format r n line (left ++ more)

pub chunk_start : (format : Format) (r : Replica) (known : Heard) (n : ℕ) (part chunk : List ℕ) → ChunkSoFar format r known known n n part chunk part chunk
chunk_start format r known n part chunk = record { done = []; told = hears_nothing known; goes = λ more. refl }

-- one line more
pub chunk_line : (format : Format) (r : Replica) (before now next : Heard) (was n n' : ℕ) (part chunk line line' left piece after : List ℕ)
    → ChunkSoFar format r before now was n part chunk line left → CutAt left piece after
    → HearsMore now next (refused_of (next_number n) (grown line piece) (line_answer format r (grown line piece))) → n' ≡ next_number n → line' ≡ []
    → ChunkSoFar format r before next was n' part chunk line' after
chunk_line format r before now next was n n' part chunk line line' left piece after so cut hears number empty =
    let one : List RefusedLine = refused_of (next_number n) (grown line piece) (line_answer format r (grown line piece)) in
    record {
      done = so.done ++ one;
      told = hears_both before now next so.done one so.told hears;
      goes = λ more.
          so.goes more
          ∙ ap (λ (t : List RefusedLine). so.done ++ t) (refused_ended format r n line left piece after more cut)
          ∙ sym (append_assoc so.done one (still_refused format r (next_number n) [] (after ++ more)))
          ∙ (λ i. (so.done ++ one) ++ still_refused format r (sym number i) (sym empty i) (after ++ more));
    }

-- the rest is kept
pub chunk_whole : (format : Format) (r : Replica) (before now : Heard) (was n : ℕ) (part chunk line line' left : List ℕ)
    → ChunkSoFar format r before now was n part chunk line left → None ≡ position (λ byte. byte == 10) left → line' ≡ grown line left → HearsChunk format r before now was n part chunk line'
chunk_whole format r before now was n part chunk line line' left so none kept = record {
  done = so.done;
  told = so.told;
  goes = λ more.
      so.goes more
      ∙ ap (λ (t : List RefusedLine). so.done ++ t) (refused_open format r n line left more none ∙ ap (λ (l : List ℕ). still_refused format r n l more) (sym kept));
}

-- it stopped early
pub chunk_stops : (format : Format) (r : Replica) (before now next : Heard) (was n : ℕ) (part chunk line left : List ℕ)
    → ChunkSoFar format r before now was n part chunk line left → next ≡ now → HearsChunkFront format r before next was part chunk
chunk_stops format r before now next was n part chunk line left so same more =
    let P : List RefusedLine → Type 0 = λ t. HearsFront before next t in
    subst P (sym (so.goes more)) (so.done, still_refused format r n line (left ++ more), refl, subst (λ (x : Heard). HearsMore before x so.done) (sym same) so.told)

-- a call before that told nothing
pub chunk_since : (format : Format) (r : Replica) (before since now : Heard) (was n : ℕ) (part chunk left : List ℕ) → since ≡ before → HearsChunk format r since now was n part chunk left → HearsChunk format r before now was n part chunk left
chunk_since format r before since now was n part chunk left same h = subst (λ (x : Heard). HearsChunk format r x now was n part chunk left) same h

pub front_since : (format : Format) (r : Replica) (before since now : Heard) (n : ℕ) (part chunk : List ℕ) → since ≡ before → HearsChunkFront format r since now n part chunk → HearsChunkFront format r before now n part chunk
front_since format r before since now n part chunk same h = subst (λ (x : Heard). HearsChunkFront format r x now n part chunk) same h

-- ---- rounds

-- nothing was read
pub hearing_start : (format : Format) (r : Replica) (input : Option (List ℕ)) (known : Heard) → Hearing format r input input known known 0 []
hearing_start format r None known = tt
hearing_start format r (Some xs) known = ([], [], refl, hears_nothing known, λ more. ap (lines_refused format r 0) (sym (onto_nothing 10 more)))

-- a chunk was read and told
pub hearing_more : (format : Format) (r : Replica) (rest rest' : Option (List ℕ)) (now now' : Heard) (n n' : ℕ) (part part' taken chunk : List ℕ)
    → Consumes rest rest' taken → chunk ≡ taken → HearsChunk format r now now' n n' part chunk part' → HearingMore format r rest rest' now now' n n' part part'
hearing_more format r rest rest' now now' n n' part part' taken chunk consumed same fed None before h = tt
hearing_more format r None rest' now now' n n' part part' taken chunk consumed same fed (Some xs) before h = absurd h
hearing_more format r (Some ys) None now now' n n' part part' taken chunk consumed same fed (Some xs) before h = absurd consumed
hearing_more format r (Some ys) (Some zs) now now' n n' part part' taken chunk consumed same fed (Some xs) before h = (
  h.0 ++ chunk,
  h.1 ++ fed.done,
  h.2 ∙ ap (λ (l : List ℕ). h.0 ++ l) (consumed ∙ ap (λ (c : List ℕ). c ++ zs) (sym same)) ∙ sym (append_assoc h.0 chunk zs),
  hears_both before now now' h.1 fed.done h.3 fed.told,
  λ more.
      ap (queries_refused format r) (append_assoc h.0 chunk more)
      ∙ h.4 (chunk ++ more)
      ∙ ap (λ (t : List RefusedLine). h.1 ++ t) (fed.goes more)
      ∙ sym (append_assoc h.1 fed.done (still_refused format r n' part' more)),
)

-- what was told is a front of the whole
pub hearing_front : (format : Format) (r : Replica) (input rest : Option (List ℕ)) (before now : Heard) (n : ℕ) (part : List ℕ) → Hearing format r input rest before now n part → HearsSome format r input before now
hearing_front format r None rest before now n part h = tt
hearing_front format r (Some xs) None before now n part h = absurd h
hearing_front format r (Some xs) (Some ys) before now n part h =
    let all : queries_refused format r xs ≡ h.1 ++ still_refused format r n part ys = ap (queries_refused format r) h.2 ∙ h.4 ys in
    (h.1, still_refused format r n part ys, all, h.3)

-- a chunk whose telling stopped early
pub hearing_cut : (format : Format) (r : Replica) (rest rest' : Option (List ℕ)) (now now' : Heard) (n : ℕ) (part taken chunk : List ℕ)
    → Consumes rest rest' taken → chunk ≡ taken → HearsChunkFront format r now now' n part chunk → HearingEnds format r rest now now' n part
hearing_cut format r rest rest' now now' n part taken chunk consumed same front None before h = tt
hearing_cut format r None rest' now now' n part taken chunk consumed same front (Some xs) before h = absurd h
hearing_cut format r (Some ys) None now now' n part taken chunk consumed same front (Some xs) before h = absurd consumed
hearing_cut format r (Some ys) (Some zs) now now' n part taken chunk consumed same front (Some xs) before h =
    let P : List RefusedLine → Type 0 = λ t. HearsFront before now' t in
    let S : List ℕ → Type 0 = λ y. HearsFront now now' (still_refused format r n part y) in
    let still : List RefusedLine = still_refused format r n part ys in
    let last : HearsFront now now' still = subst S (sym (consumed ∙ ap (λ (c : List ℕ). c ++ zs) (sym same))) (front zs) in
    let all : queries_refused format r xs ≡ h.1 ++ (still ++ []) = ap (queries_refused format r) h.2 ∙ h.4 ys ∙ ap (λ (t : List RefusedLine). h.1 ++ t) (sym (append-nil still)) in
    subst P (sym all) (hears_front_after before now now' h.1 still [] h.3 last)

-- nothing was told of a failed read
pub hearing_unread : (format : Format) (r : Replica) (rest : Option (List ℕ)) (now now' : Heard) (n : ℕ) (part : List ℕ) → now' ≡ now → HearingEnds format r rest now now' n part
hearing_unread format r rest now now' n part same input before h = subst (λ (x : Heard). HearsSome format r input before x) (sym same) (hearing_front format r input rest before now n part h)

-- the last line was told at the end of the input
pub hearing_all : (format : Format) (r : Replica) (input rest : Option (List ℕ)) (before now now' : Heard) (n : ℕ) (part : List ℕ) → Hearing format r input rest before now n part → IsAtEnd rest
    → HearsMore now now' (refused_of (next_number n) part (line_answer format r part)) → HearsRefused format r input before now'
hearing_all format r None rest before now now' n part h end hears = tt
hearing_all format r (Some xs) None before now now' n part h end hears = absurd h
hearing_all format r (Some xs) (Some ys) before now now' n part h end hears =
    let one : List RefusedLine = refused_of (next_number n) part (line_answer format r part) in
    let all : queries_refused format r xs ≡ h.1 ++ one =
    ap (queries_refused format r) h.2 ∙ h.4 ys ∙ ap (λ (y : List ℕ). h.1 ++ still_refused format r n part y) end ∙ ap (λ (t : List RefusedLine). h.1 ++ t) (refused_last format r n part) in
    subst (λ (t : List RefusedLine). HearsMore before now' t) (sym all) (hears_both before now now' h.1 one h.3 hears)

-- or it was not told
pub hearing_last : (format : Format) (r : Replica) (input rest : Option (List ℕ)) (before now now' : Heard) (n : ℕ) (part : List ℕ) → Hearing format r input rest before now n part → now' ≡ now → HearsSome format r input before now'
hearing_last format r input rest before now now' n part h same = hearing_unread format r rest now now' n part same input before h

-- nothing was told
pub some_nothing : (format : Format) (r : Replica) (input : Option (List ℕ)) (known : Heard) → HearsSome format r input known known
some_nothing format r None known = tt
some_nothing format r (Some xs) known = no_front known known (queries_refused format r xs) refl
