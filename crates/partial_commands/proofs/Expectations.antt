-- What came of a tree of states and covers what is expected: the states hold it.
use Rattle.std.specs.Prelude.{◌≡◌, ℕ, List, Bool, true, Result, Ok, Err, is_some}
use Rattle.std.proofs.Common.{sym, ap, ◌∙◌}
use Rattle.std.specs.FinMap as map
use Rattle.std.specs.FinSet as set
use Rattle.table_model.specs.Query.{QueryShape}
use Rattle.table_model.specs.Reading.{◌>>=◌}
use Rattle.table_model.specs.State.{State}
use Rattle.table_model.specs.Table.{Table}
use Rattle.table_model.specs.declared.names.BatchName.{BatchName}
use Rattle.table_model.specs.declared.refusal.Refusal.{Refusal}
use Rattle.table_model.proofs.NameOrder.{names_total}
use Rattle.query_parser.specs.Descent.{query_of}
use Rattle.query_parser.specs.Resolve.{resolved}
use Rattle.partial_answers.specs.Counted.{Names, held_of}
use Rattle.partial_answers.specs.PartialAnswer.{partial_answer_of}
use Rattle.partial_answers.specs.PartialAnswerLaws.{joined}
use Rattle.partial_commands.specs.Expecting.{ExpectationLaws}
use Rattle.partial_commands.specs.StorePartialAnswer.{PartialAnswerMeaning, meaning_of, meaning_with, query_partial_answer}
use Rattle.partial_commands.proofs.Trees.{partial_command_laws}

ok_one : {X : Type 0} (x y : X) → ◌≡◌ {A = Result X Refusal} (Ok x) (Ok y) → x ≡ y
ok_one x y e = cc

contains_held : (s : State) (q : BatchName) → set.contains (held_of s) q ≡ is_some (map.get s.batches q)
unfolding held_of
contains_held s q = set.contains-from_list names_total (map.keys s.batches) q ∙ sym (map.contains_key-keys s.batches q)

module _ (text : List ℕ) (table : Table) (s : State) (m : PartialAnswerMeaning) where
  held_resolved : (r : Result (Unit {0}) Refusal) (query : QueryShape) → (r >>= λ done. Ok (meaning_with table text (partial_answer_of table query s) s)) ≡ Ok m → held_of s ≡ m.counted.held
  held_resolved (Ok done) query is = ap (λ (f : PartialAnswerMeaning). f.counted.held) (ok_one (meaning_with table text (partial_answer_of table query s) s) m is)
  held_resolved (Err e) query is = absurd cc

  held_asked : (x : Result QueryShape Refusal) → (x >>= λ query. resolved table query >>= λ done. Ok (meaning_with table text (partial_answer_of table query s) s)) ≡ Ok m → held_of s ≡ m.counted.held
  held_asked (Ok query) is = held_resolved (resolved table query) query is
  held_asked (Err e) is = absurd cc

  -- the partial answer of a state counts the state's batches
  held_is : query_partial_answer text table s ≡ Ok m → held_of s ≡ m.counted.held
  unfolding query_partial_answer
  held_is is = held_asked (query_of text) is

pub expectation_laws : ExpectationLaws
expectation_laws = record {
  holds = λ text table shards p expected comes covers name named.
      sym (contains_held (joined shards) name)
      ∙ ap (λ (held : Names). set.contains held name) (held_is text table (joined shards) (meaning_of p) (partial_command_laws.joins text table shards p comes))
      ∙ covers.names name named;
  answers = λ text table shards p expected comes covers. partial_command_laws.answers text table shards p comes;
}
