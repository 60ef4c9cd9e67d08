-- What a call says that writes a partial answer, and what bytes are read as.
use Rattle.std.specs.Prelude.{◌≡◌, ◌⊎◌, ℕ, List, map as each, Option, Result, Ok, Err, IsTrue}
use Rattle.std.specs.FinMap as map
use Rattle.std.specs.Io.KnownBytes.{Appends}
use Rattle.table_model.specs.Faults.{AppendsFront}
use Rattle.table_model.specs.Reading.{◌>>=◌}
use Rattle.table_model.specs.State.{Cells}
use Rattle.table_model.specs.declared.refusal.Refusal.{Refusal}
use Rattle.table_model.specs.declared.refusal.Refusal.TheVariants.{Memory, WriteFault}
use Rattle.partial_answers.specs.Kept.{tallies_in}
use Rattle.partial_answers.specs.PartialAnswer.{Tallies}
use Rattle.partial_answers.specs.declared.partial_answer.PartialAnswer.{PartialAnswer}
use Rattle.partial_file.specs.PartialAnswerBytes.{Entry, partial_answer_bytes}
use Rattle.partial_file.specs.PartialAnswerReading.{PartialAnswerForm, has_bytes, partial_answer_read}
use Rattle.partial_commands.specs.StorePartialAnswer.{PartialAnswerMeaning, meaning_of}

-- A call that writes the partial answer that is given: it was written whole, and has bytes that are read again; or it was refused as it has to be, or memory ran out,
-- and nothing was written; or a write failed after a front of its bytes.
abbrev pub WritesPartialAnswer : Result (Unit {0}) Refusal → Option (List ℕ) → Option (List ℕ) → Result PartialAnswerMeaning Refusal → Type 0
WritesPartialAnswer (Ok done) before now given = (p : PartialAnswer) × (given ≡ Ok (meaning_of p)) × Appends before now (partial_answer_bytes p) × IsTrue (has_bytes p)
WritesPartialAnswer (Err e) before now given =
    ((now ≡ before) × ((given ≡ Err e) ⊎ (e ≡ Memory))) ⊎ ((e ≡ WriteFault) × ((p : PartialAnswer) × (given ≡ Ok (meaning_of p)) × AppendsFront before now (partial_answer_bytes p)))

-- the tallies of a group that was read, at its keys
abbrev pub tallied : Entry → Cells × Tallies
tallied g = (g.0, tallies_in g.1)

-- what a partial answer that was read means
abbrev pub meaning_in : PartialAnswerForm → PartialAnswerMeaning
meaning_in f = record { schema = f.schema; text = f.text; counted = record { partial = map.from_entries (each tallied f.groups); held = f.held; strays = f.strays } }

-- what the partial answer that bytes are means, or their first fault
abbrev pub meaning_read : List ℕ → Result PartialAnswerMeaning Refusal
meaning_read bytes = partial_answer_read bytes >>= λ f. Ok (meaning_in f)
