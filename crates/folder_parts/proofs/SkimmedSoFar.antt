-- Parts are skimmed one after another: of parts that are whole and hold a replica, those before the last one do so too, and what is enough
-- of all of them answers loads.
use Rattle.std.specs.Prelude.{◌≡◌, ℕ, ◌+◌, ◌≤◌, List, [], ◌∷◌, ◌++◌, Result, Ok}
use Rattle.std.proofs.Common.{refl, ap, subst, ◌∙◌, arith}
use Rattle.table_model.specs.Reading.{◌>>=◌}
use Rattle.table_model.specs.declared.names.BatchName.{BatchName}
use Rattle.table_model.specs.declared.refusal.Refusal.{Refusal}
use Rattle.replica_store.specs.Replica.{Replica, batch_limit, merged}
use Rattle.replica_reports.specs.Held.{held_in}
use Rattle.replica_changes.specs.Commands.{merged_with}
use Rattle.replica_changes.proofs.FileLaws.{ok_one, bound_parts}
use Rattle.folder_parts.specs.Parts.{PartForm, IsWhole, AreWhole, bytes_of, OpensParts}
use Rattle.folder_parts.specs.Skims.{IsEnough, AnswersLoads}
use Rattle.folder_parts.proofs.JoinedSoFar.{bytes_more}
use Rattle.folder_parts.proofs.SkimmedLoads.{answers_loads}

-- ---- the first part

-- a part alone, which is whole, holds what is read of it
pub opens_one : (part : PartForm) (whole : Replica) → OpensParts {X = Replica} (λ r. r) (Ok whole) part [] → IsWhole part × (held_in part.bytes ≡ Ok whole)
opens_one part whole opens =
    let first = bound_parts (held_in part.bytes) (λ (r : Replica). merged_with r []) whole opens.1 in
    (opens.0.0, first.1 ∙ ap Ok (ok_one first.0 whole first.2))

-- ---- one more

whole_parts : (parts : List PartForm) (part : PartForm) → AreWhole (parts ++ part ∷ []) → AreWhole parts × IsWhole part
whole_parts [] part all = (tt, all.0)
whole_parts (first ∷ parts) part all = let rest = whole_parts parts part all.1 in ((all.0, rest.0), rest.1)

-- a file that was merged after others
record IsLast (files : List (List ℕ)) (file : List ℕ) (start made : Replica) : Type 0 where
  pub held : Replica
  pub read : Replica
  pub before : merged_with start files ≡ Ok held
  pub opens : held_in file ≡ Ok read
  pub merges : merged held read ≡ Ok (tt, made)

last_of : (files : List (List ℕ)) (file : List ℕ) (start made : Replica) → merged_with start (files ++ file ∷ []) ≡ Ok made → IsLast files file start made
last_of [] file start made e =
    let read = bound_parts (held_in file) (λ (other : Replica). merged start other >>= λ (done : Unit {0} × Replica). merged_with done.1 []) made e in
    let next = bound_parts (merged start read.0) (λ (done : Unit {0} × Replica). merged_with done.1 []) made read.2 in
    record {
      held = start;
      read = read.0;
      before = refl;
      opens = read.1;
      merges = next.1 ∙ ap (λ (r : Replica). Ok (tt, r)) (ok_one next.0.1 made next.2);
    }
last_of (first ∷ files) file start made e =
    let read = bound_parts (held_in first) (λ (other : Replica). merged start other >>= λ (done : Unit {0} × Replica). merged_with done.1 (files ++ file ∷ [])) made e in
    let next = bound_parts (merged start read.0) (λ (done : Unit {0} × Replica). merged_with done.1 (files ++ file ∷ [])) made read.2 in
    let rest = last_of files file next.0.1 made next.2 in
    record {
      held = rest.held;
      read = rest.read;
      before = ap (λ (x : Result Replica Refusal). x >>= λ (other : Replica). merged start other >>= λ (done : Unit {0} × Replica). merged_with done.1 files) read.1
          ∙ ap (λ (m : Result (Unit {0} × Replica) Refusal). m >>= λ (done : Unit {0} × Replica). merged_with done.1 files) next.1
          ∙ rest.before;
      opens = rest.opens;
      merges = rest.merges;
    }

-- parts are whole and hold a replica: so are and do those before the last one, which is merged into what they hold
pub record OpensMore (part : PartForm) (others : List PartForm) (last : PartForm) (whole : Replica) : Type 0 where
  pub held : Replica
  pub read : Replica
  pub before : OpensParts {X = Replica} (λ r. r) (Ok held) part others
  pub one : IsWhole last
  pub opens : held_in last.bytes ≡ Ok read
  pub merges : merged held read ≡ Ok (tt, whole)

pub opens_more : (part : PartForm) (others : List PartForm) (last : PartForm) (whole : Replica) → OpensParts {X = Replica} (λ r. r) (Ok whole) part (others ++ last ∷ []) → OpensMore part others last whole
opens_more part others last whole opens =
    let wholes = whole_parts others last opens.0.1 in
    let first = bound_parts (held_in part.bytes) (λ (r : Replica). merged_with r (bytes_of (others ++ last ∷ []))) whole opens.1 in
    let more = last_of (bytes_of others) last.bytes first.0 whole (subst (λ (files : List (List ℕ)). merged_with first.0 files ≡ Ok whole) (bytes_more others last) first.2) in
    record {
      held = more.held;
      read = more.read;
      before = ((opens.0.0, wholes.0), ap (λ (x : Result Replica Refusal). x >>= λ (r : Replica). merged_with r (bytes_of others)) first.1 ∙ more.before);
      one = wholes.1;
      opens = more.opens;
      merges = more.merges;
    }

-- ---- all of them

-- what is enough answers loads
pub parts_answer : (first : BatchName) (count : ℕ) (known held whole : Replica) (batches : ℕ) → IsEnough first count known batches whole → known ≡ held → batches + count ≤ batch_limit → AnswersLoads first count held whole
parts_answer first count known held whole batches enough same room =
    let counted = enough.counted in
    subst (λ (r : Replica). AnswersLoads first count r whole) same
    (answers_loads first count known whole enough.knows (omega (arith, counted, room)))
