-- What a forget of a store says is what the command drops; if it drops none nothing changes.
use Rattle.std.specs.Prelude.{◌≡◌, ◌⊎◌, ℕ, ◌-◌, Bool, false, not, ◌==◌, length, Result, Ok, Err, IsOk, IfOk, IfErr, IsTrue}
use Rattle.std.proofs.Common.{refl, sym, ap, ◌∙◌, inr, arith}
use Rattle.std.proofs.lemmas.Bool.Decides.{nat_tests}
use Rattle.std.specs.FinMap as map
use Rattle.table_model.specs.Outcome.{Acts}
use Rattle.table_model.specs.declared.refusal.Refusal.{Refusal}
use Rattle.table_model.specs.declared.refusal.Refusal.TheVariants.{Memory}
use Rattle.replica_store.specs.Forgotten.{forgotten}
use Rattle.replica_store.specs.Forgets.{forgotten_batches, batches_of, dead_batches, row_count}
use Rattle.replica_store.specs.Replica.{Replica}
use Rattle.replica_store.proofs.ForgetCounts.{dropped_batches, none_dropped}
use Rattle.replica_store.proofs.MergeAnswers.{made_of}
use Rattle.replica_changes.specs.Commands.{Made, Makes}
use Rattle.replica_changes.specs.Refusals.{is_refusal_of_forget}
use Rattle.replica_changes.specs.Forgetting.{forgetting}
use Rattle.replica_changes.proofs.CommandSteps.{lacks_memory}

zero_count : (n : ℕ) → not (n == 0) ≡ false → n ≡ 0
zero_count n e = grind (arith, nat_tests, e)

-- what is told is what a forget drops
pub forget_ok : {X : Type 0} (view : X → ℕ × ℕ) (x : X) (old new : Replica) (u : Unit {0}) → forgotten_batches old ≡ Ok (u, new)
    → (view x).0 ≡ length (dead_batches old.state) → (view x).1 ≡ row_count (batches_of (dead_batches old.state))
    → Makes view (λ (d : X). not ((view d).0 == 0)) old (Ok x) new (forgetting old)
forget_ok {X = X} view x old new u made batches rows =
    let left : Replica = record { schema = old.schema; own = old.own; state = forgotten old.state } in
    let is : left ≡ new = made_of tt u left new made in
    let count : length (dead_batches old.state) ≡ (view x).0 = sym batches in
    let lost : row_count (batches_of (dead_batches old.state)) ≡ (view x).1 = sym rows in (
      λ i. let made : Made (ℕ × ℕ) = Ok ((count i, lost i), is i) in made,
      (
        λ none. sym is ∙ (λ i. record { schema = old.schema; own = old.own; state = none_dropped old.state (count ∙ zero_count (view x).0 none) i }),
        λ stays.
            let same : (view x).0 ≡ map.len old.state.batches - map.len old.state.batches = batches ∙ dropped_batches old.state ∙ ap (λ (r : Replica). map.len old.state.batches - map.len r.state.batches) (is ∙ stays) in
            let none : (view x).0 ≡ 0 = omega (arith, same) in
            ap (λ (n : ℕ). not (n == 0)) none,
      ),
    )

-- a forget is refused for want of memory alone
only_memory : (old : Replica) (e : Refusal) → (forgotten_batches old ≡ Err e) ⊎ ((e ≡ Memory) × IsOk (forgotten_batches old)) → e ≡ Memory
only_memory old e why = lacks_memory (tt, record { schema = old.schema; own = old.own; state = forgotten old.state }) e (forgotten_batches old) refl why

pub forget_refused : {X : Type 0} (view : X → ℕ × ℕ) (changed : X → Bool) (old new : Replica) (e : Refusal) → (forgotten_batches old ≡ Err e) ⊎ ((e ≡ Memory) × IsOk (forgotten_batches old))
    → Makes {X = X} view changed old (Err e) new (forgetting old)
forget_refused view changed old new e why = inr (only_memory old e why)

pub forget_listed : (old : Replica) (e : Refusal) → (forgotten_batches old ≡ Err e) ⊎ ((e ≡ Memory) × IsOk (forgotten_batches old)) → IsTrue (is_refusal_of_forget e)
forget_listed old e why = ap is_refusal_of_forget (only_memory old e why)

-- what a forget of a store says and leaves is what the command makes
pub forget_makes : {X : Type 0} (view : X → ℕ × ℕ) (old new : Replica) (result : Result X Refusal) → Acts (λ (d : X). tt) old result new (forgotten_batches old)
    → IfOk result (λ (d : X). (view d).0 ≡ length (dead_batches old.state)) → IfOk result (λ (d : X). (view d).1 ≡ row_count (batches_of (dead_batches old.state)))
    → Makes view (λ (d : X). not ((view d).0 == 0)) old result new (forgetting old)
forget_makes view old new (Ok x) acts batches rows = forget_ok view x old new tt acts batches rows
forget_makes {X = X} view old new (Err e) acts batches rows = forget_refused view (λ (d : X). not ((view d).0 == 0)) old new e acts.1

pub forget_refusals : {X : Type 0} (old new : Replica) (result : Result X Refusal) → Acts (λ (d : X). tt) old result new (forgotten_batches old) → IfErr result (λ e. IsTrue (is_refusal_of_forget e))
forget_refusals old new (Ok x) acts = tt
forget_refusals old new (Err e) acts = forget_listed old e acts.1
