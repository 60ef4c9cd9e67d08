-- Parts are joined one after another, as they are read.
use Rattle.std.specs.Prelude.{◌≡◌, ◌⊎◌, ℕ, List, [], ◌∷◌, ◌++◌, reverse, Result, Ok}
use Rattle.std.proofs.Common.{refl, sym, ap, subst, ◌∙◌, inl, inr, ⊎_elim}
use Rattle.std.proofs.lemmas.List.{reverse-append}
use Rattle.table_model.specs.Reading.{◌>>=◌}
use Rattle.table_model.specs.declared.refusal.Refusal.{Refusal}
use Rattle.folder_model.specs.Disk.{Among}
use Rattle.replica_store.specs.Replica.{Replica}
use Rattle.replica_reports.specs.Held.{held_in}
use Rattle.replica_changes.specs.Commands.{merged_with}
use Rattle.replica_changes.proofs.FileLaws.{bound_parts}
use Rattle.folder_parts.specs.Parts.{OpensPart, JoinsPart}
use Rattle.folder_parts.proofs.JoinedSoFar.{merged_more}
use Rattle.lanes_c.specs.PartsJoined.{IsJoinOf}

-- the first part
pub first_joined : (name bytes : List ℕ) (next : Replica) → OpensPart {X = Replica} (λ r. r) (Ok next) (record { name = name; bytes = bytes }) → IsJoinOf next (bytes ∷ [])
first_joined name bytes next opens = (
  bytes,
  [],
  refl,
  ap (λ (x : Result Replica Refusal). x >>= λ (r : Replica). merged_with r []) opens.1,
)

-- a further one
pub next_joined : (name bytes : List ℕ) (taken : List (List ℕ)) (old next : Replica) → JoinsPart {X = Replica} (λ r. r) (Ok next) old (record { name = name; bytes = bytes }) → IsJoinOf old taken → IsJoinOf next (bytes ∷ taken)
next_joined name bytes taken old next joins (first, others, is, made) =
    let parts = bound_parts (held_in first) (λ (r : Replica). merged_with r others) old made in (
      first,
      others ++ bytes ∷ [],
      ap (λ (l : List (List ℕ)). bytes ∷ l) is ∙ sym (reverse-append (first ∷ others) (bytes ∷ [])),
      ap (λ (x : Result Replica Refusal). x >>= λ (r : Replica). merged_with r (others ++ bytes ∷ [])) parts.1
          ∙ merged_more others bytes parts.0 old parts.2 ∙ joins.1,
    )

-- ---- among files in their order, or the newest first

among_either : (x : List ℕ) (xs ys : List (List ℕ)) → Among x (xs ++ ys) → Among x xs ⊎ Among x ys
among_either x [] ys among = inr among
among_either x (y ∷ xs) ys (inl is) = inl (inl is)
among_either x (y ∷ xs) ys (inr among) = ⊎_elim (λ a. inl (inr a)) (λ b. inr b) (among_either x xs ys among)

among_first : (x : List ℕ) (xs ys : List (List ℕ)) → Among x xs → Among x (xs ++ ys)
among_first x [] ys among = absurd among
among_first x (y ∷ xs) ys (inl is) = inl is
among_first x (y ∷ xs) ys (inr among) = inr (among_first x xs ys among)

among_last : (x : List ℕ) (xs ys : List (List ℕ)) → Among x ys → Among x (xs ++ ys)
among_last x [] ys among = among
among_last x (y ∷ xs) ys among = inr (among_last x xs ys among)

pub from_reverse : (x : List ℕ) (xs : List (List ℕ)) → Among x (reverse xs) → Among x xs
from_reverse x [] among = among
from_reverse x (y ∷ xs) among =
    ⊎_elim (λ a. inr (from_reverse x xs a)) (λ e. ⊎_elim (λ is. inl is) (λ none. absurd none) e)
    (among_either x (reverse xs) (y ∷ []) (subst (λ (l : List (List ℕ)). Among x l) (reverse-append (y ∷ []) xs) among))

or_reverse : (x y : List ℕ) (xs : List (List ℕ)) → (Among x xs → Among x (reverse xs)) → (x ≡ y) ⊎ Among x xs → Among x (reverse xs ++ (y ∷ []))
or_reverse x y xs onward (inl is) = among_last x (reverse xs) (y ∷ []) (inl is)
or_reverse x y xs onward (inr among) = among_first x (reverse xs) (y ∷ []) (onward among)

pub to_reverse : (x : List ℕ) (xs : List (List ℕ)) → Among x xs → Among x (reverse xs)
to_reverse x [] among = among
to_reverse x (y ∷ xs) among = subst (λ (l : List (List ℕ)). Among x l) (sym (reverse-append (y ∷ []) xs)) (or_reverse x y xs (to_reverse x xs) among)
