-- One vector more in the groups.
use Rattle.std.proofs.Common.{◌≡◌, ℕ, ◌<◌, Bool, List, ◌++◌, length, get_or, ap, subst, arith}
use Rattle.std.specs.Global.{Vec}
use Rattle.table_model.specs.State.{Cells}
use Rattle.query_eval.specs.Grouping.{AreGroups, IsTaken}
use Rattle.query_eval.specs.Kept.{rows_at}
use Rattle.query_eval.specs.Places.{IsIndex}
use Rattle.query_eval.specs.Slices.{IsSplit}
use Rattle.query_eval.specs.Vector.{Vector}
use Rattle.query_eval.specs.declared.tallies.aggregate.Aggregate.{Aggregate}
use Rattle.query_eval.specs.declared.grouping.places.Places.{Places}
use Rattle.query_eval.specs.declared.grouping.split.Split.{Split}
use Rattle.query_eval.specs.declared.tallies.tally.Tally.{Tally}
use Rattle.query_eval.proofs.GroupingLemmas.{groups_more}

pub vector_more : (by places : List ℕ) (named first : List Aggregate) (v w : Vector) (mask : List Bool) (before after : Places) (split : Split) (count : ℕ) (old new : List (Vec Tally)) → places ≡ by → first ≡ named → w ≡ v
    → (IsIndex before → IsSplit places v mask before.index.entries after.index.entries split)
    → (IsIndex before → IsIndex after) → count ≡ length after.index.entries → length new ≡ length old
    → ((i : ℕ) (a : Aggregate) (c : Vec Tally) → i < length first → i < length old → IsTaken (get_or first i a) w split count (get_or old i c).items (get_or new i c).items)
    → (rows : List Cells) → IsIndex before → AreGroups by named rows before.index.entries old → AreGroups by named (rows ++ rows_at v mask) after.index.entries new
vector_more by places named first v w mask before after split count old new p f same placing indexed many size taking rows ib h =
    groups_more by named v mask rows before after split old new (indexed ib) (subst (λ (b : List ℕ). IsSplit b v mask before.index.entries after.index.entries split) p (placing ib)) size one h
  where
    one : (i : ℕ) (a : Aggregate) (c : Vec Tally) → i < length named → i < length old → IsTaken (get_or named i a) v split (length after.index.entries) (get_or old i c).items (get_or new i c).items
    one i a c l m =
        subst (λ (l2 : List Aggregate). IsTaken (get_or l2 i a) v split (length after.index.entries) (get_or old i c).items (get_or new i c).items) f
        (subst (λ (n : ℕ). IsTaken (get_or first i a) v split n (get_or old i c).items (get_or new i c).items) many
        (subst (λ (x : Vector). IsTaken (get_or first i a) x split count (get_or old i c).items (get_or new i c).items) same
        (taking i a c (omega (arith, l, ap length f)) m)))
