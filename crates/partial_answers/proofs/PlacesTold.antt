-- One group more moves from the index to the groups that are made.
use Rattle.std.proofs.Common.{◌≡◌, ℕ, ◌∷◌, Bool, true, false, cond, List, Option, Some, None, refl, sym, ap, ◌∙◌}
use Rattle.std.specs.Global.{Vec}
use Rattle.std.specs.List.Sorted.{IsStrictlySortedBy}
use Rattle.std.specs.Map.{keys_of}
use Rattle.std.specs.Ordering.{eq_by_cmp}
use Rattle.std.proofs.lemmas.Map.{lookup-none}
use Rattle.std.proofs.lemmas.Map.Entries.{none_past_head}
use Rattle.table_model.specs.Group.{key_cmp}
use Rattle.table_model.specs.State.{Cells, same_cells}
use Rattle.table_model.proofs.Keys.{tied_keys}
use Rattle.query_eval.proofs.IndexLemmas.{apart_from_order, key_equivalence}
use Rattle.query_eval.specs.Entries.{Entries, place_in}
use Rattle.query_eval.specs.declared.tallies.tally.Tally.{Tally as Running}
use Rattle.partial_answers.specs.PartialAnswer.{Tallies}
use Rattle.partial_answers.specs.Evaluated.{told_places}

-- what is made, else what the index tells
abbrev pub first_told : Option Tallies → Option Tallies → Option Tallies
first_told None told = told
first_told (Some made) told = Some made

pub taken_place : (columns : List (Vec Running)) (t : Running) (b : Bool) (o : Option ℕ) → told_places columns t (cond b None o) ≡ cond b None (told_places columns t o)
taken_place columns t true o = refl
taken_place columns t false o = refl

-- at the key that moves the index had its place, and nothing was made
pub place_moved : (b : Bool) (made here left : Option Tallies) (ts : Tallies) → here ≡ Some ts → (b ≡ true → left ≡ here) → (b ≡ true → first_told made left ≡ here) → first_told (cond b (Some ts) made) (cond b None left) ≡ first_told made left
place_moved true made here left ts e f g = sym (g refl ∙ e)
place_moved false made here left ts e f g = refl

pub nothing_left : (made : Option Tallies) → first_told made None ≡ made
nothing_left None = refl
nothing_left (Some ts) = refl

-- of entries whose keys ascend, those after the first give each key but the first its place
pub first_left : (key : Cells) (place : ℕ) (rest : Entries) → IsStrictlySortedBy key_cmp (keys_of ((key, place) ∷ rest)) → (k : Cells) → place_in rest k ≡ cond (eq_by_cmp key_cmp key k) None (place_in ((key, place) ∷ rest) k)
first_left key place rest up k = by_test (same_cells k key) refl ∙ ap (λ b. cond b None (place_in ((key, place) ∷ rest) k)) (key_equivalence.symm k key ∙ tied_keys key k)
  where
    by_test : (b : Bool) → same_cells k key ≡ b → place_in rest k ≡ cond (same_cells k key) None (place_in ((key, place) ∷ rest) k)
    by_test true e =
        lookup-none (same_cells k) rest (none_past_head key_equivalence k (key, place) rest (apart_from_order (keys_of ((key, place) ∷ rest)) up) e)
        ∙ sym (ap (λ b. cond b None (place_in ((key, place) ∷ rest) k)) e)
    by_test false e = sym (ap (λ b. cond b None (cond b (Some place) (place_in rest k))) e)
