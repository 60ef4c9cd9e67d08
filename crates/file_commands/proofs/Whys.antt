-- Why a command is refused, and how it gives the lock back.
use Rattle.std.proofs.Common.{◌≡◌, ◌⊎◌, inl, inr, ⊎_elim, ℕ, Bool, true, List, [], ◌∷◌, ◌++◌, Option, Some, None, Result, Ok, Err, IfErr, OnErr, refl, sym, ◌∙◌, ap, subst}
use Rattle.table_model.specs.Reading.{◌>>=◌}
use Rattle.table_model.specs.Table.{Table}
use Rattle.table_model.specs.declared.refusal.Refusal.{Refusal}
use Rattle.table_model.specs.declared.refusal.Refusal.TheVariants.{Memory, ReadFault, WriteFault}
use Rattle.replica_store.specs.Replica.{Replica, unless_fault}
use Rattle.column_file.specs.Input.{IsUnread}
use Rattle.replica_reports.specs.Held.{held_in}
use Rattle.replica_changes.specs.Commands.{Made, file_made, Changes, Refuses, WritesFront, CreatesOf}
use Rattle.file_protocol.specs.Event.{Event, Read}
use Rattle.file_protocol.specs.Failed.{HasFailed}
use Rattle.file_protocol.specs.Owning.{OwnLock, SomeLock, GivesBack}
use Rattle.file_protocol.proofs.Failing.{fails_later}
use Rattle.file_protocol.proofs.Owning.{owns_one, then_owns}
use Rattle.file_commands.specs.Finished.{in_memory}
use Rattle.file_commands.specs.Refused.{IsRefusedOver, HasRead, IsWhyUnread, IsWhyRefused, IsWhyUnmade}

-- what isn't out of memory stays as it is
in_kind : (e : Refusal) → (in_memory e ≡ e) ⊎ (in_memory e ≡ Memory)
in_kind WriteFault = inr refl
in_kind other = inl refl

module _ (name : List ℕ) (before mid after : List Event) where
  -- the first call read the file
  pub read_first : (answer : Option (Option (List ℕ))) (calls : List Event) → mid ≡ Read name answer ∷ before → after ≡ calls ++ mid → HasRead name answer before after
  read_first answer calls was is = (calls, is ∙ ap (λ (h : List Event). calls ++ h) was)

  module _ {Y : Type 0} (command : Replica → Made Y) where
    pub unread_why : (e : Refusal) → IsWhyUnread name before after e → IsWhyRefused command name before after e
    unread_why e why = inl why

    -- the bytes were read, and are refused so
    pub over_why : (bytes slice : List ℕ) (e : Refusal) (calls : List Event) → mid ≡ Read name (Some (Some bytes)) ∷ before → slice ≡ bytes → after ≡ calls ++ mid
        → IsRefusedOver command slice e → IsWhyRefused command name before after e
    over_why bytes slice e calls was same is over =
        inr (inr (bytes, read_first (Some (Some bytes)) calls was is, subst (λ (b : List ℕ). IsRefusedOver command b e) same over))

    -- a call failed while the file was replaced
    pub fault_why : (bytes : List ℕ) (e : Refusal) → mid ≡ Read name (Some (Some bytes)) ∷ before → e ≡ WriteFault → HasFailed mid after → IsWhyRefused command name before after e
    fault_why bytes e was is failed = inr (inl (is, fails_later before mid after (Read name (Some (Some bytes)) ∷ []) was failed))

-- the file was read, and then the lock was given back
pub read_then_gives : (lock name : List ℕ) (answer : Option (Option (List ℕ))) (before mid after : List Event) → mid ≡ Read name answer ∷ before → GivesBack lock mid after → GivesBack lock before after
read_then_gives lock name answer before mid after is gives =
    then_owns lock before mid after OwnLock OwnLock SomeLock (owns_one lock (Read name answer) before mid OwnLock is tt) gives

-- the table is refused so, or memory ran out
pub unmade_at : (made : Result Table Refusal) (e refusal : Refusal) (before now : Option (List ℕ)) → refusal ≡ in_memory e → CreatesOf (Err e) before now made → (refusal ≡ Memory) ⊎ (made ≡ Err refusal)
unmade_at made e refusal before now is (inl (kept, inl so)) =
    ⊎_elim (λ k. inr (so ∙ ap (λ (x : Refusal). let r : Result Table Refusal = Err x in r) (sym (is ∙ k)))) (λ k. inl (is ∙ k)) (in_kind e)
unmade_at made e refusal before now is (inl (kept, inr lacks)) = inl (is ∙ ap in_memory lacks)
unmade_at made e refusal before now is (inr (write, front)) = inl (is ∙ ap in_memory write)

module _ (made : Result Table Refusal) (before after : List Event) where
  pub unmade_why : (e : Refusal) → (e ≡ Memory) ⊎ (made ≡ Err e) → IsWhyUnmade made before after e
  unmade_why e (inl is) = inl is
  unmade_why e (inr is) = inr (inl is)

  pub put_why : {T : Type 0} (r : Result T Refusal) → IfErr r (λ e. e ≡ WriteFault) → OnErr r (HasFailed before after) → IfErr r (λ e. IsWhyUnmade made before after e)
  put_why (Ok x) is failed = tt
  put_why (Err e) is failed = inr (inr (is, failed))
