-- One query after another is answered.
use Rattle.std.specs.Prelude.{◌≡◌, ℕ, ◌+◌, ◌<◌, ◌≤◌, List, [], ◌∷◌, ◌++◌, length, take, get_or, map, Ok, Err}
use Rattle.std.specs.List.{concat}
use Rattle.std.specs.Str.Lossy.{utf8_valid_len}
use Rattle.std.proofs.Common.{refl, sym, ap, subst, ◌∙◌, append_assoc, arith, inr, Bor}
use Rattle.std.proofs.lemmas.List.{append-nil, get_or-map, length-append, length-map, take_all, take_more}
use Rattle.table_model.specs.declared.refusal.Refusal.TheVariants.{Syntax}
use Rattle.replica_reports.specs.Held.{held_in}
use Rattle.replica_store.specs.Replica.{Replica}
use Rattle.lanes_c.specs.Calls.{Asks}
use Rattle.lanes_c.specs.Faults.{of_query}
use Rattle.lanes_c.specs.Opened.{answered_at}
use Rattle.lanes_c.specs.Queries.{Meaning, AreAnswers, AreAnswered, AsksAll, IsWhyNotAnswered, ends_from, queries_in}
use Rattle.lanes_c.specs.Rooms.{filled}
use Rattle.lanes_c.specs.declared.fault.Fault.{Fault}
use Rattle.lanes_c.specs.declared.fault.Fault.TheVariants.{Refused}
use Rattle.lanes_c.proofs.Openings.{at_file}

-- one answer more
answers_more : (meaning : Meaning) (queries texts : List (List ℕ)) (query text : List ℕ) → AreAnswers meaning queries texts → Asks (Ok text) query (meaning query)
    → AreAnswers meaning (queries ++ query ∷ []) (texts ++ text ∷ [])
answers_more meaning [] [] query text h one = (one, tt)
answers_more meaning [] (other ∷ texts) query text h one = absurd h
answers_more meaning (other ∷ queries) [] query text h one = absurd h
answers_more meaning (other ∷ queries) (first ∷ texts) query text h one = (h.0, answers_more meaning queries texts query text h.1 one)

pub concat_more : (texts : List (List ℕ)) (text : List ℕ) → concat (texts ++ text ∷ []) ≡ concat texts ++ text
concat_more [] text = append-nil text
concat_more (first ∷ texts) text = ap (λ (rest : List ℕ). first ++ rest) (concat_more texts text) ∙ sym (append_assoc first (concat texts) text)

pub ends_more : (at : ℕ) (texts : List (List ℕ)) (text : List ℕ) → ends_from at (texts ++ text ∷ []) ≡ ends_from at texts ++ (at + length (concat (texts ++ text ∷ []))) ∷ []
ends_more at [] text = ap (λ (t : List ℕ). (at + length t) ∷ []) (sym (append-nil text))
ends_more at (first ∷ texts) text =
    let rest : List ℕ = concat (texts ++ text ∷ []) in
    let lengths : length (first ++ rest) ≡ length first + length rest = length-append first rest in
    let sums : at + length first + length rest ≡ at + length (first ++ rest) = omega arith in
    ap (λ (ends : List ℕ). (at + length first) ∷ ends) (ends_more (at + length first) texts text ∙ ap (λ (end : ℕ). ends_from (at + length first) texts ++ end ∷ []) sums)

-- the queries before this one are answered
abbrev pub SoFar : Meaning → List (List ℕ) → ℕ → List ℕ → List ℕ → Type 0
SoFar meaning queries at bytes ends = AreAnswered meaning (take at queries) bytes ends

pub none_so_far : (meaning : Meaning) (queries : List (List ℕ)) → SoFar meaning queries 0 [] []
none_so_far meaning queries = record { texts = []; answered = tt; joined = refl; ended = refl }

pub one_more_so_far : (meaning : Meaning) (queries : List (List ℕ)) (at : ℕ) (query text bytes ends bytes' ends' : List ℕ) → at < length queries → query ≡ get_or queries at []
    → SoFar meaning queries at bytes ends → Asks (Ok text) query (meaning query) → bytes' ≡ bytes ++ text → ends' ≡ ends ++ length bytes' ∷ []
    → SoFar meaning queries (at + 1) bytes' ends'
one_more_so_far meaning queries at query text bytes ends bytes' ends' within is so one joined ended =
    let more : take (at + 1) queries ≡ take at queries ++ query ∷ [] = take_more queries at [] within ∙ ap (λ (q : List ℕ). take at queries ++ q ∷ []) (sym is) in
    let whole : bytes' ≡ concat (so.texts ++ text ∷ []) = joined ∙ ap (λ (b : List ℕ). b ++ text) so.joined ∙ sym (concat_more so.texts text) in
    let same : length bytes' ≡ length (concat (so.texts ++ text ∷ [])) = ap (λ (b : List ℕ). length b) whole in
    let end : length bytes' ≡ 0 + length (concat (so.texts ++ text ∷ [])) = omega arith in
    let P : List (List ℕ) → Type 0 = λ qs. AreAnswered meaning qs bytes' ends' in
    subst P (sym more) (record {
      texts = so.texts ++ text ∷ [];
      answered = answers_more meaning (take at queries) so.texts query text so.answered one;
      joined = whole;
      ended = ended ∙ ap (λ (e : List ℕ). e ++ length bytes' ∷ []) so.ended ∙ ap (λ (e : ℕ). ends_from 0 so.texts ++ e ∷ []) end ∙ sym (ends_more 0 so.texts text);
    })

-- all of them are
pub all_answered : (meaning : Meaning) (queries : List (List ℕ)) (at : ℕ) (bytes ends : List ℕ) → at ≡ length queries → SoFar meaning queries at bytes ends → AreAnswered meaning queries bytes ends
all_answered meaning queries at bytes ends is so =
    let P : List (List ℕ) → Type 0 = λ qs. AreAnswered meaning qs bytes ends in
    let Q : ℕ → Type 0 = λ n. SoFar meaning queries n bytes ends in
    let most : length queries ≤ length queries = omega arith in
    let full : take (length queries) queries ≡ queries = take_all (length queries) queries most in
    subst P full (subst Q is so)

-- a query that is refused is the first one
refused_at : (meaning : Meaning) (queries : List (List ℕ)) (at : ℕ) (query bytes ends : List ℕ) (fault : Fault) → at < length queries → query ≡ get_or queries at []
    → SoFar meaning queries at bytes ends → Asks (Err fault) query (meaning query) → IsWhyNotAnswered meaning queries (of_query fault at)
refused_at meaning queries at query bytes ends (Refused refusal) within is so why =
    let P : List ℕ → Type 0 = λ q. Asks (Err (Refused refusal)) q (meaning q) in
    record { texts = so.texts; answered = so.answered; within = within; refused = subst P is why }
refused_at meaning queries at query bytes ends fault within is so why =
    let wrong : Err fault ≡ Err (Refused (Syntax (utf8_valid_len query))) = why.1 why.0 in
    absurd cc

-- ---- of a list of bytes that are lent

abbrev pub Lent : Type 0
Lent = List (Bor (List ℕ))

abbrev pub texts_of : Lent → List (List ℕ)
texts_of queries = map (λ query. query.now) queries

within_texts : (queries : Lent) (at : ℕ) → at < length queries → at < length (texts_of queries)
within_texts queries at within =
    let lengths : length (texts_of queries) ≡ length queries = length-map queries (λ query. query.now) in
    omega arith

text_at : (queries : Lent) (at : ℕ) (d : Bor (List ℕ)) → at < length queries → (get_or queries at d).now ≡ get_or (texts_of queries) at []
text_at queries at d within = sym (get_or-map (λ (query : Bor (List ℕ)). query.now) queries at d [] within)

pub next_so_far : (meaning : Meaning) (queries : Lent) (at : ℕ) (d : Bor (List ℕ)) (text bytes ends bytes' ends' : List ℕ) → at < length queries → SoFar meaning (texts_of queries) at bytes ends
    → Asks (Ok text) (get_or queries at d).now (meaning (get_or queries at d).now) → bytes' ≡ bytes ++ text → ends' ≡ ends ++ length bytes' ∷ [] → SoFar meaning (texts_of queries) (at + 1) bytes' ends'
next_so_far meaning queries at d text bytes ends bytes' ends' within so one joined ended =
    one_more_so_far meaning (texts_of queries) at (get_or queries at d).now text bytes ends bytes' ends' (within_texts queries at within) (text_at queries at d within) so one joined ended

pub stopped_at : (meaning : Meaning) (queries : Lent) (at : ℕ) (d : Bor (List ℕ)) (bytes ends : List ℕ) (fault : Fault) → at < length queries → SoFar meaning (texts_of queries) at bytes ends
    → Asks (Err fault) (get_or queries at d).now (meaning (get_or queries at d).now) → IsWhyNotAnswered meaning (texts_of queries) (of_query fault at)
stopped_at meaning queries at d bytes ends fault within so why =
    refused_at meaning (texts_of queries) at (get_or queries at d).now bytes ends fault (within_texts queries at within) (text_at queries at d within) so why

-- ---- over a file

pub all_given : (sqls file bytes ends put was is : List ℕ) (r : Replica) (lent queries : Lent) → held_in file ≡ Ok r → lent ≡ queries → texts_of queries ≡ queries_in sqls
    → AreAnswered (answered_at r) (texts_of lent) bytes ends → put ≡ ends → is ≡ filled put was → AsksAll (Ok bytes) sqls file was is
all_given sqls file bytes ends put was is r lent queries held same cut answered whole room =
    let P : Meaning → Type 0 = λ meaning. AreAnswered meaning (queries_in sqls) bytes ends in
    let Q : List (List ℕ) → Type 0 = λ qs. AreAnswered (answered_at r) qs bytes ends in
    (ends, at_file P file r held (subst Q (ap texts_of same ∙ cut) answered), room ∙ ap (λ (e : List ℕ). filled e was) whole)

pub none_given : (fault : Fault) (sqls file was : List ℕ) (r : Replica) (lent queries : Lent) → held_in file ≡ Ok r → lent ≡ queries → texts_of queries ≡ queries_in sqls
    → IsWhyNotAnswered (answered_at r) (texts_of lent) fault → AsksAll (Err fault) sqls file was was
none_given fault sqls file was r lent queries held same cut why =
    let P : Meaning → Type 0 = λ meaning. IsWhyNotAnswered meaning (queries_in sqls) fault in
    let Q : List (List ℕ) → Type 0 = λ qs. IsWhyNotAnswered (answered_at r) qs fault in
    (inr (at_file P file r held (subst Q (ap texts_of same ∙ cut) why)), refl)
