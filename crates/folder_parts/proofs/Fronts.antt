-- The number of batches at the front of a part is at most as many as a replica may have.
use Rattle.std.specs.Prelude.{◌≡◌, ℕ, ◌-◌, ◌≤◌, Bool, true, false, cond, nat_le, List, length, Result, Ok, Err}
use Rattle.std.proofs.Common.{refl, subst}
use Rattle.std.proofs.lemmas.Bool.{leb-true}
use Rattle.table_model.specs.declared.refusal.Refusal.{Refusal}
use Rattle.table_model.specs.declared.refusal.Refusal.TheVariants.{BadCount}
use Rattle.segment_core.specs.Format.{number}
use Rattle.replica_store.specs.Replica.{batch_limit}
use Rattle.column_file.specs.SummaryBytes.{name_count}
use Rattle.replica_changes.proofs.FileLaws.{ok_one, bound_parts}

abbrev Found : Type 0
Found = ℕ × List ℕ

judged : (b : Bool) (y x : Found) (at : ℕ) → nat_le y.0 batch_limit ≡ b → cond b (Ok y) (Err (BadCount at)) ≡ Ok x → x.0 ≤ batch_limit
judged true y x at h is = subst (λ (p : Found). p.0 ≤ batch_limit) (ok_one y x is) (leb-true y.0 batch_limit h)
judged false y x at h is = cc

pub counted : (total : ℕ) (bytes : List ℕ) (x : Found) → name_count.read total bytes ≡ Ok x → x.0 ≤ batch_limit
unfolding name_count
counted total bytes x is =
    let parts = bound_parts ((number 4).read total bytes) (λ (y : Found). let made : Result Found Refusal = cond (nat_le y.0 batch_limit) (Ok y) (Err (BadCount (total - length bytes))) in made) x is in
    judged (nat_le parts.0.0 batch_limit) parts.0 x (total - length bytes) refl parts.2
