-- Partial answers of a tree of states, combined.
use Rattle.std.specs.Prelude.{◌≡◌, ◌↔◌, ◌⊎◌, ℕ, true, List, Result, Ok, Err}
use Rattle.std.proofs.Common.{inl, inr, refl, sym, ap, ◌∙◌}
use Rattle.std.specs.String.{string_bytes}
use Rattle.table_model.specs.Answer.{AnswerParts}
use Rattle.table_model.specs.Meaning.{answer_of}
use Rattle.table_model.specs.Query.{QueryShape}
use Rattle.table_model.specs.Reading.{◌>>=◌}
use Rattle.table_model.specs.State.{State, join}
use Rattle.table_model.specs.Table.{Table}
use Rattle.table_model.specs.declared.refusal.Refusal.{Refusal}
use Rattle.query_parser.specs.Descent.{query_of}
use Rattle.query_parser.specs.Resolve.{resolved}
use Rattle.partial_answers.specs.Combining.{AreCombined, counted_in}
use Rattle.partial_answers.specs.Counted.{Counted, combined_with, counted_of, may_be_combined}
use Rattle.partial_answers.specs.PartialAnswer.{partial_answer_of, finish}
use Rattle.partial_answers.specs.PartialAnswerLaws.{Shards, One, Two, joined}
use Rattle.partial_answers.specs.Shape.{IsShaped, RefusesFinishing}
use Rattle.partial_answers.specs.declared.fault.PartialAnswerFault.{PartialAnswerFault}
use Rattle.partial_answers.specs.declared.fault.PartialAnswerFault.TheVariants.{Memory, SchemaDiffers, QueryDiffers, NotApart, TooMany, Query}
use Rattle.partial_answers.specs.declared.partial_answer.PartialAnswer.{PartialAnswer}
use Rattle.partial_answers.proofs.Names.{counted}
use Rattle.partial_answers.proofs.Whole.{alone}
use Rattle.store_view.specs.Asked.{answer_where, query_answer, unless_refused}
use Rattle.partial_commands.specs.PartialCommandLaws.{ComesOf, PartialCommandLaws}
use Rattle.partial_commands.proofs.PartialAnswersAgain.{read_again}
use Rattle.partial_commands.specs.StorePartialAnswer.{PartialAnswerMeaning, finished, meaning_of, meaning_with, query_partial_answer}

ok_one : {X : Type 0} (x y : X) → ◌≡◌ {A = Result X Refusal} (Ok x) (Ok y) → x ≡ y
ok_one x y e = cc

err_one : {X : Type 0} (e f : Refusal) → ◌≡◌ {A = Result X Refusal} (Err e) (Err f) → e ≡ f
err_one e f same = cc

module _ (text : List ℕ) (table : Table) where
  -- the partial answer of a state to a query
  abbrev given : QueryShape → State → PartialAnswerMeaning
  given query s = meaning_with table text (partial_answer_of table query s) s

  abbrev partial_answer_from : State → Result QueryShape Refusal → Result PartialAnswerMeaning Refusal
  partial_answer_from s x = x >>= λ query. resolved table query >>= λ done. Ok (given query s)

  -- ---- refused as the query is

  partial_answer_named : (r : Result (Unit {0}) Refusal) (p : PartialAnswerMeaning) (a : AnswerParts) (e : Refusal) → (r >>= λ done. Ok p) ≡ Err e → unless_refused r a ≡ Err e
  partial_answer_named (Ok done) p a e is = cc
  partial_answer_named (Err f) p a e is = ap Err (err_one f e is)

  partial_answer_refused : (s : State) (x : Result QueryShape Refusal) (e : Refusal) → partial_answer_from s x ≡ Err e → answer_where table s x ≡ Err e
  partial_answer_refused s (Ok query) e is = partial_answer_named (resolved table query) (given query s) (answer_of table query s) e is
  partial_answer_refused s (Err f) e is = ap Err (err_one f e is)

  answer_named : (r : Result (Unit {0}) Refusal) (p : PartialAnswerMeaning) (a : AnswerParts) (e : Refusal) → unless_refused r a ≡ Err e → (r >>= λ done. Ok p) ≡ Err e
  answer_named (Ok done) p a e is = cc
  answer_named (Err f) p a e is = ap Err (err_one f e is)

  answer_refused : (s : State) (x : Result QueryShape Refusal) (e : Refusal) → answer_where table s x ≡ Err e → partial_answer_from s x ≡ Err e
  answer_refused s (Ok query) e is = answer_named (resolved table query) (given query s) (answer_of table query s) e is
  answer_refused s (Err f) e is = ap Err (err_one f e is)

  refused : (s : State) (e : Refusal) → (query_partial_answer text table s ≡ Err e) ↔ (query_answer text table s ≡ Err e)
  unfolding query_partial_answer query_answer
  refused s e = (partial_answer_refused s (query_of text) e, answer_refused s (query_of text) e)

  -- ---- answered as the query is

  partial_answer_answers : (s : State) (query : QueryShape) (r : Result (Unit {0}) Refusal) (p : PartialAnswerMeaning) → query_of text ≡ Ok query → (r >>= λ done. Ok (given query s)) ≡ Ok p → finished p ≡ unless_refused r (answer_of table query s)
  partial_answer_answers s query (Ok done) p asked is =
      ap finished (sym (ok_one (given query s) p is))
      ∙ ap (λ (x : Result QueryShape Refusal). x >>= λ q. Ok (finish table q (partial_answer_of table query s))) asked
      ∙ ap Ok (alone table query s)
  partial_answer_answers s query (Err f) p asked is = absurd cc

  answered_from : (s : State) (x : Result QueryShape Refusal) (p : PartialAnswerMeaning) → query_of text ≡ x → partial_answer_from s x ≡ Ok p → finished p ≡ answer_where table s x
  answered_from s (Ok query) p asked is = partial_answer_answers s query (resolved table query) p asked is
  answered_from s (Err f) p asked is = absurd cc

  answered : (s : State) (p : PartialAnswerMeaning) → query_partial_answer text table s ≡ Ok p → finished p ≡ query_answer text table s
  unfolding query_partial_answer query_answer
  answered s p is = answered_from s (query_of text) p refl is

  -- ---- trees

  -- the text is a query of the table
  record IsAsked (query : QueryShape) : Type 0 where
    read : query_of text ≡ Ok query
    named : resolved table query ≡ Ok tt

  asked_named : (s : State) (query : QueryShape) (r : Result (Unit {0}) Refusal) (p : PartialAnswerMeaning) → query_of text ≡ Ok query → resolved table query ≡ r → (r >>= λ done. Ok (given query s)) ≡ Ok p → IsAsked query
  asked_named s query (Ok done) p read named is = record { read = read; named = named }
  asked_named s query (Err f) p read named is = absurd cc

  asked_from : (s : State) (x : Result QueryShape Refusal) (p : PartialAnswerMeaning) → query_of text ≡ x → partial_answer_from s x ≡ Ok p → (query : QueryShape) × IsAsked query
  asked_from s (Ok query) p read is = (query, asked_named s query (resolved table query) p read refl is)
  asked_from s (Err f) p read is = absurd cc

  asked : (s : State) (p : PartialAnswerMeaning) → query_partial_answer text table s ≡ Ok p → (query : QueryShape) × IsAsked query
  unfolding query_partial_answer
  asked s p is = asked_from s (query_of text) p refl is

  first_asked : (shards : Shards) (p : PartialAnswer) → ComesOf text table shards p → (query : QueryShape) × IsAsked query
  first_asked (One s) p comes = asked s (meaning_of p) comes.0
  first_asked (Two a b) p comes = first_asked a comes.0 comes.2

  module _ (query : QueryShape) (is : IsAsked query) where
    given_is : (s : State) → query_partial_answer text table s ≡ Ok (given query s)
    unfolding query_partial_answer
    given_is s =
        ap (λ (x : Result QueryShape Refusal). partial_answer_from s x) is.read
        ∙ ap (λ (r : Result (Unit {0}) Refusal). r >>= λ done. let partial : Result PartialAnswerMeaning Refusal = Ok (given query s) in partial) is.named

    both : (s t : State) (first second p : PartialAnswer) → meaning_of first ≡ given query s → meaning_of second ≡ given query t → AreCombined first second p → meaning_of p ≡ given query (join s t)
    both s t first second p one other combined =
        let ours : counted_in first ≡ counted_of table query s = ap (λ (f : PartialAnswerMeaning). f.counted) one in
        let theirs : counted_in second ≡ counted_of table query t = ap (λ (f : PartialAnswerMeaning). f.counted) other in
        let may : may_be_combined (counted_of table query s) (counted_of table query t) ≡ true = sym (λ i. may_be_combined (ours i) (theirs i)) ∙ combined.apart in
        let made : counted_in p ≡ counted_of table query (join s t) = combined.counted ∙ (λ i. combined_with (ours i) (theirs i)) ∙ counted table query s t may in
        let schema : p.schema ≡ table = combined.schema ∙ ap (λ (f : PartialAnswerMeaning). f.schema) one in
        let words : string_bytes p.text ≡ text = ap string_bytes combined.text ∙ ap (λ (f : PartialAnswerMeaning). f.text) one in
        λ i. record { schema = schema i; text = words i; counted = made i }

    comes_as : (shards : Shards) (p : PartialAnswer) → ComesOf text table shards p → meaning_of p ≡ given query (joined shards)
    comes_as (One s) p comes = ok_one (meaning_of p) (given query s) (sym comes.0 ∙ given_is s)
    comes_as (Two a b) p comes =
        both (joined a) (joined b) comes.0 comes.1 p (comes_as a comes.0 comes.2) (comes_as b comes.1 comes.3) comes.4

  joins : (shards : Shards) (p : PartialAnswer) → ComesOf text table shards p → query_partial_answer text table (joined shards) ≡ Ok (meaning_of p)
  joins shards p comes =
      let found = first_asked shards p comes in
      given_is found.0 found.1 (joined shards) ∙ ap Ok (sym (comes_as found.0 found.1 shards p comes))

  -- ---- finished

  shaped : (shards : Shards) (p : PartialAnswer) → ComesOf text table shards p → IsShaped p
  shaped (One s) p comes = comes.1
  shaped (Two a b) p comes = comes.4.shape (shaped a comes.0 comes.2) (shaped b comes.1 comes.3)

  never_refused : (e : Refusal) → ◌≡◌ {A = Result (Unit {0}) Refusal} (Ok tt) (Err e) → ⊥
  never_refused e is = cc

  is_named : (query : QueryShape) (s : State) (p : PartialAnswer) → IsAsked query → meaning_of p ≡ given query s → (query_of (string_bytes p.text) >>= λ q. resolved p.schema q) ≡ Ok tt
  is_named query s p is comes =
      let words : string_bytes p.text ≡ text = ap (λ (f : PartialAnswerMeaning). f.text) comes in
      let schema : p.schema ≡ table = ap (λ (f : PartialAnswerMeaning). f.schema) comes in
      (λ i. query_of (words i) >>= λ q. resolved (schema i) q) ∙ ap (λ (x : Result QueryShape Refusal). x >>= λ q. resolved table q) is.read ∙ is.named

  finishes : (shards : Shards) (p : PartialAnswer) (fault : PartialAnswerFault) → ComesOf text table shards p → RefusesFinishing fault p → (fault ≡ Memory) ⊎ (fault ≡ TooMany)
  finishes shards p Memory comes why = inl refl
  finishes shards p TooMany comes why = inr refl
  finishes shards p QueryDiffers comes why = absurd (why (shaped shards p comes))
  finishes shards p (Query refusal) comes why =
      let found = first_asked shards p comes in
      absurd (never_refused refusal (sym (is_named found.0 (joined shards) p found.1 (comes_as found.0 found.1 shards p comes)) ∙ why))
  finishes shards p SchemaDiffers comes why = absurd why
  finishes shards p (NotApart name) comes why = absurd why

pub partial_command_laws : PartialCommandLaws
partial_command_laws = record {
  refused = refused;
  answered = answered;
  joins = joins;
  answers = λ text table shards p comes. answered text table (joined shards) (meaning_of p) (joins text table shards p comes);
  read_again = read_again;
  shaped = shaped;
  finishes = finishes;
}
