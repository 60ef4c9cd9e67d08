-- Several queries of one opening: the texts of their answers, one after another, and where each ends.
use Rattle.std.specs.Prelude.{◌≡◌, ◌⊎◌, ℕ, ◌+◌, ◌<◌, ◌==◌, List, [], ◌∷◌, length, take, get_or, Result, Ok, Err}
use Rattle.std.specs.List.{concat, slice_split}
use Rattle.table_model.specs.declared.refusal.Refusal.{Refusal}
use Rattle.column_file.specs.Input.{IsUnread}
use Rattle.lanes_c.specs.Calls.{Asks, query_of}
use Rattle.lanes_c.specs.Opened.{IsWhyNotOpened}
use Rattle.lanes_c.specs.Rooms.{Given, filled}
use Rattle.lanes_c.specs.declared.fault.Fault.{Fault}
use Rattle.lanes_c.specs.declared.fault.Fault.TheVariants.{Refused, OfQuery}

-- the queries of a text: what is between its line feeds
abbrev pub queries_in : List ℕ → List (List ℕ)
queries_in text = slice_split (λ byte. byte == 10) text

-- what queries mean, one by one
abbrev pub Meaning : Type 0
Meaning = List ℕ → Result (List ℕ) Refusal

-- texts are the answers of queries, one of each
abbrev pub AreAnswers : Meaning → List (List ℕ) → List (List ℕ) → Type 0
AreAnswers meaning [] [] = Unit {0}
AreAnswers meaning (query ∷ queries) (text ∷ texts) = Asks (Ok text) query (meaning query) × AreAnswers meaning queries texts
AreAnswers meaning queries texts = ⊥

-- where each text ends if they come one after another, the first from a place on
abbrev pub ends_from : ℕ → List (List ℕ) → List ℕ
ends_from at [] = []
ends_from at (text ∷ texts) = (at + length text) ∷ ends_from (at + length text) texts

-- the queries before one are answered, and this one is refused
pub record IsRefusedAt (meaning : Meaning) (queries : List (List ℕ)) (at : ℕ) (refusal : Refusal) : Type 0 where
  pub texts : List (List ℕ)
  pub answered : AreAnswers meaning (take at queries) texts
  pub within : at < length queries
  pub refused : Asks (Err (Refused refusal)) (get_or queries at []) (meaning (get_or queries at []))

-- the answers of queries, one after another, and where each ends
pub record AreAnswered (meaning : Meaning) (queries : List (List ℕ)) (bytes ends : List ℕ) : Type 0 where
  pub texts : List (List ℕ)
  pub answered : AreAnswers meaning queries texts
  pub joined : bytes ≡ concat texts
  pub ended : ends ≡ ends_from 0 texts

-- why queries aren't answered: the first that is refused is, or memory runs out
abbrev pub IsWhyNotAnswered : Meaning → List (List ℕ) → Fault → Type 0
IsWhyNotAnswered meaning queries (OfQuery refusal at) = IsRefusedAt meaning queries at refusal
IsWhyNotAnswered meaning queries (Refused refusal) = IsUnread refusal
IsWhyNotAnswered meaning queries other = ⊥

-- lanes_queries: each query's answer is what lanes_query gives of it, and ends are where these end, where there is room for all; else the
-- file is refused, or the first query that lanes_query refuses, and the ends are as they were
abbrev pub AsksAll : Given → List ℕ → List ℕ → List ℕ → List ℕ → Type 0
AsksAll (Ok bytes) sqls file was is = (ends : List ℕ) × AreAnswered (λ sql. query_of sql file) (queries_in sqls) bytes ends × (is ≡ filled ends was)
AsksAll (Err fault) sqls file was is = (IsWhyNotOpened fault file ⊎ IsWhyNotAnswered (λ sql. query_of sql file) (queries_in sqls) fault) × (is ≡ was)
