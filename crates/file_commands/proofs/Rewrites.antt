-- What a command makes of the store that a file holds, as what it makes of the file.
use Rattle.std.specs.Prelude.{◌≡◌, ◌⊎◌, ℕ, Bool, List, [], Some, Ok, Err, Result, MatchResult}
use Rattle.std.proofs.Common.{refl, ap, subst, ◌∙◌, inl, inr}
use Rattle.std.specs.FinMap as map
use Rattle.std.specs.Global.{Vec}
use Rattle.table_model.specs.Outcome.{Gives}
use Rattle.table_model.specs.Reading.{◌>>=◌}
use Rattle.table_model.specs.declared.refusal.Refusal.{Refusal}
use Rattle.table_model.specs.declared.refusal.Refusal.TheVariants.{Memory}
use Rattle.replica_store.specs.Replica.{Replica}
use Rattle.replica_reports.specs.Held.{held_in}
use Rattle.replica_changes.specs.Commands.{Made, Makes, Puts, Changes, file_made}
use Rattle.replica_changes.proofs.CommandSteps.{written_changes}
use Rattle.file_commands.specs.Refused.{IsRefusedOver}
use Rattle.file_commands.specs.Rewriting.{Rewrites}

module _ {X Y : Type 0} (view : X → Y) (changed : X → Bool) (command : Replica → Made Y) where
  -- a command on what a file holds changes the file
  pub rewrites_changes : (file : List ℕ) (old : Replica) (x : X) (bytes : List ℕ) → held_in file ≡ Ok old → Rewrites view changed old x bytes command → Changes view changed (Ok x) (Some file) (Some []) (Some bytes) command
  rewrites_changes file old x bytes held (new, made, put) = written_changes (λ (r : Replica). r) old view changed x (changed x) (Some file) (Some []) (Some bytes) new command refl held made put

  -- what the command makes of the store was written
  pub made_rewrites : (old new : Replica) (x : X) (is : Bool) (bytes : List ℕ) → Makes view changed old (Ok x) new (command old) → is ≡ changed x → Puts is (Ok tt) (Some []) (Some bytes) new → Rewrites view changed old x bytes command
  made_rewrites old new x is bytes made says put = (new, made, subst (λ (b : Bool). Puts b (Ok tt) (Some []) (Some bytes) new) says put)

  -- refused as what the file holds is refused
  pub held_refused : (file : List ℕ) (old : Replica) (e : Refusal) → held_in file ≡ Ok old → (command old ≡ Err e) ⊎ (e ≡ Memory) → IsRefusedOver command file e
  held_refused file old e held (inl refused) = inr (ap (λ (r : Result Replica Refusal). file_made (r >>= command)) held ∙ ap (λ (m : Made Y). file_made m) refused)
  held_refused file old e held (inr lack) = inl lack

-- what is made of the store that a file holds, as what is made of the file
pub made_of_file : {X Y : Type 0} (view : X → Y) (changed : X → Bool) (command : Replica → Made Y) (file : List ℕ) (old : Replica) (result : Result (X × Vec ℕ) Refusal) → held_in file ≡ Ok old
    → MatchResult result (λ made. Rewrites view changed old made.0 made.1.items command) (λ e. (command old ≡ Err e) ⊎ (e ≡ Memory))
    → MatchResult result (λ made. Changes view changed (Ok made.0) (Some file) (Some []) (Some made.1.items) command) (λ e. IsRefusedOver command file e)
made_of_file view changed command file old (Ok made) held h = rewrites_changes view changed command file old made.0 made.1.items held h
made_of_file view changed command file old (Err e) held h = held_refused view changed command file old e held h

-- the same of bytes that are equal
pub puts_at : (is_changed : Bool) (start now written : List ℕ) (r : Replica) → start ≡ [] → now ≡ written → Puts is_changed (Ok tt) (Some start) (Some now) r → Puts is_changed (Ok tt) (Some []) (Some written) r
puts_at is_changed start now written r nothing is put =
    subst (λ (w : List ℕ). Puts is_changed (Ok tt) (Some []) (Some w) r) is (subst (λ (s : List ℕ). Puts is_changed (Ok tt) (Some s) (Some now) r) nothing put)

-- refused as the file is
pub file_refused : {Y : Type 0} (command : Replica → Made Y) (file : List ℕ) (e : Refusal) → (held_in file ≡ Err e) ⊎ (e ≡ Memory) → IsRefusedOver command file e
file_refused command file e (inl refused) = inr (ap (λ (r : Result Replica Refusal). file_made (r >>= command)) refused)
file_refused command file e (inr lack) = inl lack

-- the steps of a join
pub ok_one : {X : Type 0} (x y : X) → ◌≡◌ {A = Result X Refusal} (Ok x) (Ok y) → x ≡ y
ok_one x y e = cc

-- what has no fault is refused for memory alone
pub no_fault : {X : Type 0} (x : X) (e : Refusal) → Gives {X = X} {Y = X} (λ (y : X). y) (Err e) (Ok x) → e ≡ Memory
no_fault x e (inl is) = absurd (let y : ⊥ = cc in y)
no_fault x e (inr is) = is.0
