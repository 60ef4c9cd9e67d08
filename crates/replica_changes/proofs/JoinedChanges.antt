-- What a command brings, joined with what is held, is what the command makes.
use Rattle.std.specs.Prelude.{◌≡◌, ◌⊎◌, Bool, Some, None, Result, Ok, Err, IsTrue}
use Rattle.std.proofs.Common.{refl, sym, ap, subst, ◌∙◌, inl, inr, arith}
use Rattle.std.specs.FinMap as map
use Rattle.table_model.specs.Outcome.{Gives}
use Rattle.table_model.specs.State.{Agree}
use Rattle.table_model.specs.declared.refusal.Refusal.{Refusal}
use Rattle.table_model.specs.declared.refusal.Refusal.TheVariants.{Memory}
use Rattle.replica_store.specs.Brought.{IsBrought}
use Rattle.replica_store.specs.Replica.{Replica, merged, with_join}
use Rattle.replica_store.specs.Segments.{StoreForm}
use Rattle.replica_store.proofs.Brings.{len_apart}
use Rattle.replica_store.proofs.MergeAnswers.{made_of, merges}
use Rattle.replica_changes.specs.Brings.{BringsTo}
use Rattle.replica_changes.specs.CommandForms.{CommandForm, Import, Delete, DeleteRows, Apply, is_refusal_of}
use Rattle.replica_changes.specs.Commands.{Made, Makes}

-- a store merges with what was brought to it
brought_merges : (held own : StoreForm) → IsBrought held own → merged held.replica own.replica ≡ Ok (tt, with_join held.replica own.replica)
brought_merges held own brought =
    let count = len_apart held.replica.state.batches own.replica.state.batches brought.apart in
    let limit = brought.limit in
    merges held.replica own.replica (sym brought.schema) agree (omega (arith, count, limit))
  where
    agree : Agree held.replica.state own.replica.state
    agree name a b has come = let none = brought.apart name a has in let lost : None ≡ Some b = sym none ∙ come in cc

-- what was brought and joined is what the command makes
pub brings_makes : {X Y : Type 0} (view : X → Y) (changed : X → Bool) (held own : StoreForm) (store : Replica) (x : X) (brought made : Made Y) → BringsTo view changed (Ok (x, own)) held brought made
    → merged held.replica own.replica ≡ Ok (tt, store) → Makes view changed held.replica (Ok x) store made
brings_makes view changed held own store x brought made (came, is) joined =
    let same : with_join held.replica own.replica ≡ store = made_of tt tt (with_join held.replica own.replica) store (sym (brought_merges held own is.brought) ∙ joined) in
    let makes : Makes view changed held.replica (Ok x) (with_join held.replica own.replica) made = (is.joined, is.more) in
    subst (λ (r : Replica). Makes view changed held.replica (Ok x) r made) same makes

-- what a command that is refused makes
pub brought_refused : {X Y : Type 0} (view : X → Y) (changed : X → Bool) (e : Refusal) (held : StoreForm) (brought made : Made Y) → BringsTo {X = X} view changed (Err e) held brought made → (made ≡ Err e) ⊎ (e ≡ Memory)
brought_refused view changed e held brought made (inl refused) = inl refused.1
brought_refused view changed e held brought made (inr lack) = inr lack

-- what is made is not refused
ok_or_err : {X : Type 0} (x : X) (e : Refusal) → ◌≡◌ {A = Result X Refusal} (Ok x) (Err e) → ⊥
ok_or_err x e is = cc

-- and so only memory can run out
pub joins_memory : {X Y : Type 0} (view : X → Y) (changed : X → Bool) (x : X) (held own : StoreForm) (brought made : Made Y) (e : Refusal) → BringsTo view changed (Ok (x, own)) held brought made
    → (merged held.replica own.replica ≡ Err e) ⊎ (e ≡ Memory) → e ≡ Memory
joins_memory view changed x held own brought made e brings (inr lack) = lack
joins_memory view changed x held own brought made e brings (inl refused) = absurd (ok_or_err (tt, with_join held.replica own.replica) e (sym (brought_merges held own brings.1.brought) ∙ refused))

memory_listed : (command : CommandForm) → IsTrue (is_refusal_of command Memory)
memory_listed (Import load given words) = refl
memory_listed (Delete text) = refl
memory_listed (DeleteRows first last) = refl
memory_listed (Apply offers) = refl

-- each command may be refused for want of memory
pub lack_listed : (command : CommandForm) (e : Refusal) → e ≡ Memory → IsTrue (is_refusal_of command e)
lack_listed command e is = ap (is_refusal_of command) is ∙ memory_listed command

-- the steps of a join
pub ok_one : {X : Type 0} (x y : X) → ◌≡◌ {A = Result X Refusal} (Ok x) (Ok y) → x ≡ y
ok_one x y e = cc

-- what has no fault is refused for memory alone
pub no_fault : {X : Type 0} (x : X) (e : Refusal) → Gives {X = X} {Y = X} (λ (y : X). y) (Err e) (Ok x) → e ≡ Memory
no_fault x e (inl is) = absurd (let y : ⊥ = cc in y)
no_fault x e (inr is) = is.0
