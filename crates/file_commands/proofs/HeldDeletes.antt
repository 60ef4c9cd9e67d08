-- Rows of a batch are deleted if the batch is held.
use Rattle.std.specs.Prelude.{◌≡◌, ◌⊎◌, ℕ, Bool, true, false, cond, List, [], Option, Some, None, Result, Ok, Err}
use Rattle.std.proofs.Common.{inl, inr, refl, sym, ap, subst, ◌∙◌}
use Rattle.table_model.specs.declared.names.RowName.{RowName}
use Rattle.table_model.specs.declared.refusal.Refusal.{Refusal}
use Rattle.table_model.specs.declared.refusal.Refusal.TheVariants.{Memory}
use Rattle.catalogue_join.specs.RowRange.{rows_between}
use Rattle.replica_store.specs.Replica.{Replica, SaysChange, delete_fault, deleted_rows, holds, unless_fault, with_deleted}
use Rattle.replica_changes.specs.CommandForms.{AnswerForm, DeleteRows, OfDeleteRows, adding, answer_of, has_changed, tagged}
use Rattle.replica_changes.specs.Commands.{Puts}
use Rattle.replica_changes.specs.declared.command.Answer.{Answer}
use Rattle.file_commands.specs.HeldDeletes.{deleted_if_held}
use Rattle.file_commands.specs.Rewriting.{Rewrites}
use Rattle.file_commands.specs.declared.held_rows.HeldRows.{HeldRows}
use Rattle.file_commands.proofs.Rewrites.{ok_one}

-- a delete that is made has no fault, and makes what it says
unfaulted : (fault : Option Refusal) (answer : AnswerForm) (made new : Replica) → tagged OfDeleteRows (unless_fault {X = Unit {0} × Replica} fault (Ok (tt, made))) ≡ Ok (answer, new) → (fault ≡ None) × (made ≡ new)
unfaulted None answer made new is = (refl, ap (λ (p : AnswerForm × Replica). p.1) (ok_one (OfDeleteRows tt, made) (answer, new) is))
unfaulted (Some e) answer made new is = absurd (let no : ⊥ = cc in no)

module _ (first : RowName) (last : ℕ) (old : Replica) (answer : Answer) (bytes : List ℕ) (rewrites : Rewrites answer_of has_changed old answer bytes (adding (DeleteRows first last))) where
  abbrev new : Replica
  new = rewrites.0

  made : (delete_fault first last ≡ None) × (with_deleted old (rows_between first last) ≡ new)
  made = unfaulted (delete_fault first last) (answer_of answer) (with_deleted old (rows_between first last)) new rewrites.1.0

  chosen : (b : Bool) → holds old first.batch ≡ b → deleted_if_held old first last ≡ cond b (Ok (true, new)) (Ok (false, old))
  chosen b is = λ i. unless_fault {X = Bool × Replica} (made.0 i) (cond (is i) (Ok (true, made.1 i)) (Ok (false, old)))

  -- the batch is held
  pub held_rewrites : (is : Bool) → is ≡ has_changed answer → true ≡ holds old first.batch
      → Rewrites {X = HeldRows} (λ (a : HeldRows). a.is_held) (λ (a : HeldRows). a.is_changed) old (record { is_held = true; is_changed = is }) bytes (λ (r : Replica). deleted_if_held r first last)
  held_rewrites is says has =
      (new, (chosen true (sym has), subst (λ (b : Bool). SaysChange b old new) (sym says) rewrites.1.1), subst (λ (b : Bool). Puts b (Ok tt) (Some []) (Some bytes) new) (sym says) rewrites.2)

  -- it isn't
  pub absent_rewrites : (now : List ℕ) → now ≡ [] → false ≡ holds old first.batch
      → Rewrites {X = HeldRows} (λ (a : HeldRows). a.is_held) (λ (a : HeldRows). a.is_changed) old (record { is_held = false; is_changed = false }) now (λ (r : Replica). deleted_if_held r first last)
  absent_rewrites now empty lacks =
      (old, (chosen false (sym lacks), ((λ _. refl), (λ _. refl))), ap (λ (l : List ℕ). let some : Option (List ℕ) = Some l in some) empty)

err_one : (x y : Refusal) → ◌≡◌ {A = Result (AnswerForm × Replica) Refusal} (Err x) (Err y) → x ≡ y
err_one x y e = cc

-- a delete that is refused is refused whether the batch is held or not
pub delete_refused : (first : RowName) (last : ℕ) (old : Replica) (e : Refusal) → (adding (DeleteRows first last) old ≡ Err e) ⊎ (e ≡ Memory) → (deleted_if_held old first last ≡ Err e) ⊎ (e ≡ Memory)
delete_refused first last old e (inr lack) = inr lack
delete_refused first last old e (inl refused) = inl (of (delete_fault first last) refused)
  where
    of : (fault : Option Refusal) → tagged OfDeleteRows (unless_fault {X = Unit {0} × Replica} fault (Ok (tt, with_deleted old (rows_between first last)))) ≡ Err e
        → unless_fault {X = Bool × Replica} fault (cond (holds old first.batch) (Ok (true, with_deleted old (rows_between first last))) (Ok (false, old))) ≡ Err e
    of None is = absurd (let no : ⊥ = cc in no)
    of (Some fault) is = let same : fault ≡ e = err_one fault e is in ap (λ (x : Refusal). let r : Result (Bool × Replica) Refusal = Err x in r) same
