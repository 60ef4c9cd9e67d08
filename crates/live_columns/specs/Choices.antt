-- Which rows and which columns are asked for.
use Rattle.std.specs.Prelude.{◌≡◌, ◌⊎◌, ℕ, List, [], ◌∷◌, Option, Some, None, Result, Ok, Err}
use Rattle.table_model.specs.Formula.{Formula}
use Rattle.table_model.specs.Reading.{◌>>=◌}
use Rattle.table_model.specs.Table.{Table}
use Rattle.table_model.specs.declared.refusal.Refusal.{Refusal}
use Rattle.table_model.specs.declared.refusal.Refusal.TheVariants.{Memory}
use Rattle.query_parser.specs.Descent.{condition_of}
use Rattle.query_parser.specs.Resolve.{resolved_condition}
use Rattle.live_columns.specs.Names.{places_named}
use Rattle.live_columns.specs.declared.choice.Choice.{Choice}
use Rattle.live_columns.specs.declared.choice.Unchosen.{Unchosen}
use Rattle.live_columns.specs.declared.choice.Unchosen.TheVariants.{Refused, NoSuchName}

-- a condition, or none; and the places of columns
pub record ChoiceForm : Type 0 where
  pub condition : Option Formula
  pub places : List ℕ

-- the condition that a text is; none of an empty text
abbrev pub condition_in : List ℕ → Result (Option Formula) Refusal
condition_in [] = Ok None
condition_in (byte ∷ text) = condition_of (byte ∷ text) >>= λ f. Ok (Some f)

-- whether the names of a condition are a table's, if there is a condition
abbrev pub resolved_in : Table → Option Formula → Result (Unit {0}) Refusal
resolved_in table None = Ok tt
resolved_in table (Some f) = resolved_condition table f

-- what is asked for, where the condition's names are a table's
abbrev pub where_resolved : Result (Unit {0}) Refusal → Option Formula → List ℕ → Result ChoiceForm Unchosen
where_resolved (Ok done) condition places = Ok (record { condition = condition; places = places })
where_resolved (Err e) condition places = Err (Refused e)

-- the same, where all names are columns'
abbrev pub where_named : Result (List ℕ) ℕ → Table → Option Formula → Result ChoiceForm Unchosen
where_named (Ok places) table condition = where_resolved (resolved_in table condition) condition places
where_named (Err at) table condition = Err (NoSuchName at)

-- the same, where the condition's text is one
abbrev pub where_read : Result (Option Formula) Refusal → Table → ℕ → List ℕ → Result ChoiceForm Unchosen
where_read (Ok condition) table separator names = where_named (places_named table.columns separator names) table condition
where_read (Err e) table separator names = Err (Refused e)

-- What is asked for by a list of names and a condition's text, or the first refusal: of the condition's text, of a name, of the
-- condition's names.
abbrev pub choice_of : Table → ℕ → List ℕ → List ℕ → Result ChoiceForm Unchosen
choice_of table separator names text = where_read (condition_in text) table separator names

-- what a call answers to that; out of memory may come in the place of anything
abbrev pub Chooses : Result Choice Unchosen → Result ChoiceForm Unchosen → Type 0
Chooses (Ok choice) meaning = meaning ≡ Ok (record { condition = choice.condition; places = choice.places.items })
Chooses (Err e) meaning = (meaning ≡ Err e) ⊎ (e ≡ Refused Memory)
