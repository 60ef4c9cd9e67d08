-- The bytes that were written of a state's partial answer are read as a partial answer that means the same.
use Rattle.std.specs.Prelude.{◌≡◌, ℕ, true, List, [], ◌∷◌, ◌++◌, map as each, Some, Result, Ok}
use Rattle.std.proofs.Common.{refl, sym, ap, ◌∙◌}
use Rattle.std.specs.FinMap as map
use Rattle.std.specs.Global.{Vec}
use Rattle.std.specs.String.{string_bytes}
use Rattle.table_model.specs.Reading.{◌>>=◌}
use Rattle.table_model.specs.State.{Cells, State}
use Rattle.table_model.specs.Table.{Table}
use Rattle.table_model.specs.declared.refusal.Refusal.{Refusal}
use Rattle.partial_answers.specs.Groups.{partial_answer_in}
use Rattle.partial_answers.specs.Kept.{tallies_in}
use Rattle.partial_answers.specs.PartialAnswer.{Tallies}
use Rattle.partial_answers.specs.declared.kept.Kept.{Kept}
use Rattle.partial_answers.specs.declared.partial_answer.PartialAnswer.{PartialAnswer}
use Rattle.partial_file.specs.PartialAnswerBytes.{entry_of, partial_answer_bytes}
use Rattle.partial_file.specs.PartialAnswerReading.{PartialAnswerForm, form_of, has_bytes}
use Rattle.partial_file.proofs.PartialAnswersRead.{partial_answers_are_read_again}
use Rattle.partial_commands.specs.PartialAnswerWriting.{WritesPartialAnswer, meaning_in, meaning_read, tallied}
use Rattle.partial_commands.specs.StorePartialAnswer.{PartialAnswerMeaning, meaning_of, query_partial_answer}

tallies_are : (es : List (Cells × Vec Kept)) → each tallied (each entry_of es) ≡ each (λ (e : Cells × Vec Kept). (e.0, tallies_in e.1.items)) es
tallies_are [] = refl
tallies_are (e ∷ es) = ap (λ (ts : List (Cells × Tallies)). (e.0, tallies_in e.1.items) ∷ ts) (tallies_are es)

-- a partial answer of the code means what its form does
meaning_is : (p : PartialAnswer) → meaning_in (form_of p) ≡ meaning_of p
unfolding partial_answer_in
meaning_is p =
    let same = tallies_are p.groups.entries in
    λ i. record { schema = p.schema; text = string_bytes p.text; counted = record { partial = map.from_entries (same i); held = p.held; strays = p.strays } }

again : (p : PartialAnswer) → has_bytes p ≡ true → meaning_read (partial_answer_bytes p) ≡ Ok (meaning_of p)
again p has =
    let done : PartialAnswerMeaning → Result PartialAnswerMeaning Refusal = λ m. Ok m in
    ap (λ (x : Result PartialAnswerForm Refusal). x >>= λ f. done (meaning_in f)) (partial_answers_are_read_again p has) ∙ ap done (meaning_is p)

pub read_again : (text : List ℕ) (table : Table) (s : State) (start now : List ℕ) → WritesPartialAnswer (Ok tt) (Some start) (Some now) (query_partial_answer text table s)
    → (bytes : List ℕ) × (now ≡ start ++ bytes) × (meaning_read bytes ≡ query_partial_answer text table s)
read_again text table s start now wrote = (partial_answer_bytes wrote.0, wrote.2, again wrote.0 wrote.3 ∙ sym wrote.1)
