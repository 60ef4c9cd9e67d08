-- Summaries that are read one after another, and a partial answer that is finished under what they expect.
use Rattle.std.specs.Prelude.{◌≡◌, ◌⊎◌, ℕ, ◌+◌, ◌<◌, ◌≤◌, List, [], ◌∷◌, ◌++◌, length, take, drop, get_or, Option, Some, Result, Ok, Err}
use Rattle.std.specs.Global.{Vec}
use Rattle.std.proofs.Common.{refl, sym, ap, subst, ◌∙◌, append_assoc, inl, inr, arith}
use Rattle.std.proofs.lemmas.List.{append-nil, drop_more, drop_all}
use Rattle.table_model.specs.declared.refusal.Refusal.{Refusal}
use Rattle.table_model.specs.declared.refusal.Refusal.TheVariants.{Memory, ReadFault, WriteFault}
use Rattle.answer_formats.specs.declared.format.Format.{Format}
use Rattle.column_file.specs.Input.{IsUnread}
use Rattle.column_file.specs.SummaryBytes.{summary_read}
use Rattle.partial_answers.specs.declared.partial_answer.PartialAnswer.{PartialAnswer}
use Rattle.partial_commands.specs.Expecting.{WritesExpected}
use Rattle.partial_commands.specs.PartialAnswerTurns.{IsAnswerText}
use Rattle.partial_commands.specs.declared.expectation_error.ExpectationError.{ExpectationError}
use Rattle.partial_commands.specs.declared.expectation_error.ExpectationError.TheVariants.{SchemaDiffers, Missing, Unanswered}
use Rattle.partial_commands.specs.declared.partial_answer_error.PartialAnswerError.TheVariants as errors
use Rattle.partial_file.specs.PartialAnswerReading.{form_of, partial_answer_read}
use Rattle.replica_store.specs.Exchange.{SummaryForm}
use Rattle.lanes_c.specs.Coverage.{IsWhyNoPartial}
use Rattle.lanes_c.specs.Expecting.{AreSummaries, FinishesExpected, IsWhyNoSummaries, IsWhyNoSummary, pieces}
use Rattle.lanes_c.specs.Faults.{told, told_of_expectation}
use Rattle.lanes_c.specs.declared.fault.Fault.{Fault}
use Rattle.lanes_c.specs.declared.fault.Fault.TheVariants.{Refused, OfSummary}

-- ---- summaries, one after another

-- Those that were read, with any that the pieces left are, are those of all pieces; and why one of the pieces left is refused is why all are.
pub record AreReadTo (lengths bytes : List ℕ) (at : ℕ) (read : List SummaryForm) (rest : List ℕ) : Type 0 where
  pub more : (later : List SummaryForm) → AreSummaries (pieces (drop at lengths) rest) later → AreSummaries (pieces lengths bytes) (read ++ later)
  pub refused : (fault : Fault) → IsWhyNoSummaries fault (at + 1) (pieces (drop at lengths) rest) → IsWhyNoSummaries fault 1 (pieces lengths bytes)

pub none_read : (lengths bytes : List ℕ) → AreReadTo lengths bytes 0 [] bytes
none_read lengths bytes = record { more = λ later h. h; refused = λ fault h. h }

-- the pieces left begin with the next one
next_piece : (lengths rest : List ℕ) (at : ℕ) → at < length lengths → pieces (drop at lengths) rest ≡ take (get_or lengths at 0) rest ∷ pieces (drop (at + 1) lengths) (drop (get_or lengths at 0) rest)
next_piece lengths rest at within = ap (λ (ls : List ℕ). pieces ls rest) (drop_more lengths at 0 within)

-- one summary more
pub one_read : (lengths bytes : List ℕ) (at : ℕ) (read read' : List SummaryForm) (rest rest' input : List ℕ) (s : SummaryForm) → at < length lengths → AreReadTo lengths bytes at read rest
    → input ≡ take (get_or lengths at 0) rest → summary_read input ≡ Ok s → rest' ≡ drop (get_or lengths at 0) rest → read' ≡ read ++ s ∷ [] → AreReadTo lengths bytes (at + 1) read' rest'
one_read lengths bytes at read read' rest rest' input s within so same is left joined =
    let n : ℕ = get_or lengths at 0 in
    let piece : summary_read (take n rest) ≡ Ok s = ap summary_read (sym same) ∙ is in
    let cut : pieces (drop at lengths) rest ≡ take n rest ∷ pieces (drop (at + 1) lengths) (drop n rest) = next_piece lengths rest at within in
    let here : pieces (drop (at + 1) lengths) rest' ≡ pieces (drop (at + 1) lengths) (drop n rest) = ap (λ (r : List ℕ). pieces (drop (at + 1) lengths) r) left in
    record {
      more = λ later h.
          let tail : AreSummaries (pieces (drop (at + 1) lengths) (drop n rest)) later = subst (λ (ps : List (List ℕ)). AreSummaries ps later) here h in
          let whole : AreSummaries (pieces (drop at lengths) rest) (s ∷ later) = subst (λ (ps : List (List ℕ)). AreSummaries ps (s ∷ later)) (sym cut) (piece, tail) in
          let order : read ++ s ∷ later ≡ read' ++ later = sym (append_assoc read (s ∷ []) later) ∙ ap (λ (r : List SummaryForm). r ++ later) (sym joined) in
          subst (λ (ss : List SummaryForm). AreSummaries (pieces lengths bytes) ss) order (so.more (s ∷ later) whole);
      refused = λ fault h.
          let tail : IsWhyNoSummaries fault (at + 1 + 1) (pieces (drop (at + 1) lengths) (drop n rest)) = subst (λ (ps : List (List ℕ)). IsWhyNoSummaries fault (at + 1 + 1) ps) here h in
          let whole : IsWhyNoSummaries fault (at + 1) (pieces (drop at lengths) rest) = subst (λ (ps : List (List ℕ)). IsWhyNoSummaries fault (at + 1) ps) (sym cut) (inr ((s, piece), tail)) in
          so.refused fault whole;
    }

-- all are read
pub all_read : (lengths bytes : List ℕ) (at : ℕ) (read : List SummaryForm) (rest : List ℕ) → length lengths ≤ at → AreReadTo lengths bytes at read rest → AreSummaries (pieces lengths bytes) read
all_read lengths bytes at read rest end so =
    let none : pieces (drop at lengths) rest ≡ [] = ap (λ (ls : List ℕ). pieces ls rest) (drop_all at lengths end) in
    let empty : AreSummaries (pieces (drop at lengths) rest) [] = subst (λ (ps : List (List ℕ)). AreSummaries ps []) (sym none) tt in
    subst (λ (ss : List SummaryForm). AreSummaries (pieces lengths bytes) ss) (append-nil read) (so.more [] empty)

-- why a piece isn't a summary
unread_piece : (e : Refusal) (piece input : List ℕ) → input ≡ piece → ((e ≡ Memory → ⊥) → (e ≡ ReadFault → ⊥) → summary_read input ≡ Err e) → (summary_read piece ≡ Err e) ⊎ IsUnread e
unread_piece Memory piece input same h = inr (inl refl)
unread_piece ReadFault piece input same h = inr (inr refl)
unread_piece other piece input same h = inl (ap summary_read (sym same) ∙ h (λ is. cc) (λ is. cc))

-- the first that is refused
pub refused_here : (lengths bytes : List ℕ) (at number : ℕ) (read : List SummaryForm) (rest input : List ℕ) (e : Refusal) → at < length lengths → AreReadTo lengths bytes at read rest → input ≡ take (get_or lengths at 0) rest
    → ((e ≡ Memory → ⊥) → (e ≡ ReadFault → ⊥) → summary_read input ≡ Err e) → number ≡ at + 1 → IsWhyNoSummaries (OfSummary e number) 1 (pieces lengths bytes)
refused_here lengths bytes at number read rest input e within so same why is =
    let n : ℕ = get_or lengths at 0 in
    let first : IsWhyNoSummary (OfSummary e number) (at + 1) (take n rest) = (is, unread_piece e (take n rest) input same why) in
    so.refused (OfSummary e number) (subst (λ (ps : List (List ℕ)). IsWhyNoSummaries (OfSummary e number) (at + 1) ps) (sym (next_piece lengths rest at within)) (inl first))

-- ---- what is finished under them

-- the answer that was written
pub expected_given : (format : Format) (unit : Unit {0}) (p : PartialAnswer) (expected slice : List SummaryForm) (partial input start written : List ℕ) (more : List (List ℕ)) → input ≡ partial → partial_answer_read input ≡ Ok (form_of p)
    → AreSummaries more expected → slice ≡ expected → start ≡ [] → WritesExpected format (Ok unit) p slice (Some start) (Some written) → FinishesExpected (Ok written) format partial more
expected_given format unit p expected slice partial input start written more same read are is empty h =
    let P : List ℕ → Type 0 = λ s. WritesExpected format (Ok unit) p slice (Some s) (Some written) in
    let Q : List SummaryForm → Type 0 = λ ss. WritesExpected format (Ok unit) p ss (Some []) (Some written) in
    gives (subst Q is (subst P empty h))
  where
    gives : WritesExpected format (Ok unit) p expected (Some []) (Some written) → FinishesExpected (Ok written) format partial more
    gives (covers, (text, answer, all)) = (p, ap partial_answer_read (sym same) ∙ read, (expected, are, covers, (let R : List ℕ → Type 0 = λ t. IsAnswerText format p t in subst R (sym all) answer)))

-- or why there is none
pub expected_refused : (format : Format) (e : ExpectationError) (p : PartialAnswer) (expected slice : List SummaryForm) (partial input : List ℕ) (start now : Option (List ℕ)) (more : List (List ℕ)) → input ≡ partial → partial_answer_read input ≡ Ok (form_of p)
    → AreSummaries more expected → slice ≡ expected → WritesExpected format (Err e) p slice start now → FinishesExpected (Err (told_of_expectation e)) format partial more
expected_refused format e p expected slice partial input start now more same read are is h =
    let Q : List SummaryForm → Type 0 = λ ss. WritesExpected format (Err e) p ss start now in
    why e (subst Q is h)
  where
    there : partial_answer_read partial ≡ Ok (form_of p)
    there = ap partial_answer_read (sym same) ∙ read

    why : (e : ExpectationError) → WritesExpected format (Err e) p expected start now → FinishesExpected (Err (told_of_expectation e)) format partial more
    why SchemaDiffers (differs, kept) = inr (inr (p, there, inr (expected, are, (SchemaDiffers, refl, differs))))
    why (Missing name) (tables, least, kept) = inr (inr (p, there, inr (expected, are, (Missing name, refl, (tables, least)))))
    why (Unanswered (errors.Fault fault)) (covers, refuses, kept) = inr (inr (p, there, inr (expected, are, (Unanswered (errors.Fault fault), refl, (covers, refuses)))))
    why (Unanswered (errors.Refused f)) (inl (lack, kept)) = inl (ap told lack)
    why (Unanswered (errors.Refused f)) (inr (fails, front)) = inl (ap told fails)

-- a summary that is refused, or memory lacks
pub summaries_refused : (fault : Fault) (format : Format) (p : PartialAnswer) (partial input : List ℕ) (more : List (List ℕ)) → input ≡ partial → partial_answer_read input ≡ Ok (form_of p) → (fault ≡ Refused Memory) ⊎ IsWhyNoSummaries fault 1 more
    → FinishesExpected (Err fault) format partial more
summaries_refused fault format p partial input more same read (inl lack) = inl lack
summaries_refused fault format p partial input more same read (inr why) = inr (inr (p, ap partial_answer_read (sym same) ∙ read, inl why))
