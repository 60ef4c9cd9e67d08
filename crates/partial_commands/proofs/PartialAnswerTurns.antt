-- The answer of a partial answer, step by step.
use Rattle.std.specs.Prelude.{◌≡◌, ◌⊎◌, ℕ, List, Option, Some, None, Result, Ok, Err, true, false, IsTrue}
use Rattle.std.proofs.Common.{inl, inr, refl, sym, ap, ◌∙◌, subst}
use Rattle.std.specs.String.{string_bytes}
use Rattle.table_model.specs.Answer.{AnswerParts}
use Rattle.table_model.specs.Counted.{one_more}
use Rattle.table_model.specs.Faults.{CountsBoth, CountsReads}
use Rattle.table_model.specs.Query.{QueryShape}
use Rattle.table_model.specs.Reading.{◌>>=◌}
use Rattle.table_model.specs.declared.refusal.Refusal.{Refusal}
use Rattle.table_model.specs.declared.refusal.Refusal.TheVariants.{Memory, ReadFault, WriteFault}
use Rattle.answer_formats.specs.Formats.{formatted}
use Rattle.answer_formats.specs.declared.format.Format.{Format}
use Rattle.partial_answers.specs.Groups.{partial_answer_in}
use Rattle.partial_answers.specs.PartialAnswer.{finish}
use Rattle.partial_answers.specs.declared.partial_answer.PartialAnswer.{PartialAnswer}
use Rattle.column_file.specs.Input.{Judges}
use Rattle.partial_file.specs.PartialAnswerReading.{form_of, is_refusal_of_partial_answer, partial_answer_read}
use Rattle.partial_answers.specs.Shape.{IsQueryOf}
use Rattle.query_parser.specs.Descent.{query_of}
use Rattle.query_parser.specs.Resolve.{resolved}
use Rattle.partial_commands.specs.PartialAnswerTurns.{CountsBothErrors, IsAnswerText, IsUnfinished, WritesAnswer}
use Rattle.partial_commands.specs.StorePartialAnswer.{finished}
use Rattle.partial_commands.specs.declared.partial_answer_error.PartialAnswerError.{PartialAnswerError}
use Rattle.partial_commands.specs.declared.partial_answer_error.PartialAnswerError.TheVariants.{Refused, Fault}

-- a text that is a query has an answer
finished_from : (x : Result QueryShape Refusal) (p : PartialAnswer) (found : AnswerParts) → query_of (string_bytes p.text) ≡ x → (x >>= λ query. resolved p.schema query) ≡ Ok tt
    → ((query : QueryShape) → query_of (string_bytes p.text) ≡ Ok query → found ≡ finish p.schema query (partial_answer_in p.groups))
    → (x >>= λ query. Ok (finish p.schema query (partial_answer_in p.groups))) ≡ Ok found
finished_from (Ok query) p found asked names is = ap Ok (sym (is query asked))
finished_from (Err e) p found asked names is = absurd cc

-- what a partial answer finishes to is its answer
pub answer_is : (format : Format) (p : PartialAnswer) (found : AnswerParts) (text : List ℕ) → IsQueryOf p.schema (string_bytes p.text)
    → ((query : QueryShape) → query_of (string_bytes p.text) ≡ Ok query → found ≡ finish p.schema query (partial_answer_in p.groups))
    → text ≡ formatted format found → IsAnswerText format p text
answer_is format p found text asked is written = record {
  asked = asked;
  answer = found;
  finishes = finished_from (query_of (string_bytes p.text)) p found refl asked is;
  written = written;
}

memory_judged : (e : Refusal) (input : Option (List ℕ)) → e ≡ Memory → Judges {X = PartialAnswer} form_of (Err e) input partial_answer_read
memory_judged e None lacks = tt
memory_judged e (Some bytes) lacks = λ no _. absurd (no lacks)

-- a partial answer that isn't finished: nothing is written
pub unfinished : (format : Format) (p : PartialAnswer) (e : PartialAnswerError) (input known : Option (List ℕ)) → Judges form_of (Ok p) input partial_answer_read → IsUnfinished e p → WritesAnswer format (Err e) input known known
unfinished format p (Fault fault) input known h why = (p, h, why, refl)
unfinished format p (Refused e) input known h lacks = inl (memory_judged e input lacks, refl)

-- and nothing is counted
pub unfinished_counts : (many : Type 0) (e : PartialAnswerError) (p : PartialAnswer) (r r' w : ℕ) → r' ≡ r → IsUnfinished e p → CountsBothErrors many e r r' w w
unfinished_counts many (Fault fault) p r r' w same why = (same, refl)
unfinished_counts many (Refused e) p r r' w same lacks = subst (λ (x : Refusal). CountsBoth many x r r' w w) (sym lacks) (same, refl)

-- the counts after a refusal of reading a partial answer
pub partial_answer_counts : (many : Type 0) (e : Refusal) (r r' w : ℕ) → IsTrue (is_refusal_of_partial_answer e) → CountsReads many e r r' → CountsBoth many e r r' w w
partial_answer_counts many ReadFault r r' w listed h = (h, refl)
partial_answer_counts many WriteFault r r' w listed h = let wrong : false ≡ true = listed in absurd cc
partial_answer_counts many other r r' w listed h = (h, refl)

-- and after a write that failed
pub written_counts : (many : Type 0) (e : Refusal) (r r' w w' : ℕ) → r' ≡ r → e ≡ WriteFault → w' ≡ one_more w → CountsBoth many e r r' w w'
written_counts many e r r' w w' same is more = subst (λ (x : Refusal). CountsBoth many x r r' w w') (sym is) (same, more)
