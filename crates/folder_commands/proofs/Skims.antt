-- The parts of a folder are skimmed one after another, as they are read.
use Rattle.std.specs.Prelude.{◌≡◌, ℕ, suc, ◌+◌, ◌≤◌, Bool, true, false, cond, List, [], ◌∷◌, ◌++◌, filter, length, Option, Some, None, Result, Ok, Err, IfOk, IfErr}
use Rattle.std.proofs.Common.{refl, sym, ap, subst, ◌∙◌, arith, inl, inr, ⊎_elim, append_assoc}
use Rattle.table_model.specs.declared.names.BatchName.{BatchName}
use Rattle.table_model.specs.declared.refusal.Refusal.TheVariants.{Memory}
use Rattle.folder_model.specs.Call.{Call}
use Rattle.folder_model.specs.Disk.{Among}
use Rattle.folder_model.specs.Turn.{Gave, listing_of}
use Rattle.folder_protocol.proofs.Causing.{Follows}
use Rattle.replica_store.specs.Replica.{Replica, batch_limit, merged}
use Rattle.replica_reports.specs.Held.{held_in}
use Rattle.folder_parts.specs.PartReads.{IsListed, is_refusal_of_part}
use Rattle.folder_parts.specs.Parts.{PartForm, IsWhole}
use Rattle.folder_parts.specs.Skims.{AnswersLoads, IsEnough, SkimsTo}
use Rattle.folder_parts.specs.declared.fault.PartFault.{PartFault}
use Rattle.folder_parts.specs.declared.fault.PartFault.TheVariants.{Refused}
use Rattle.folder_parts.specs.declared.fault.PartRefusal.{PartRefusal}
use Rattle.folder_parts.proofs.SkimmedSoFar.{opens_one, opens_more}
use Rattle.folder_commands.specs.Joined.{AreUnwanted, WereGiven}
use Rattle.folder_commands.specs.ReadParts.{AreFound, AreReadSoFar, More, StopsReading, names_of}
use Rattle.folder_commands.specs.Skims.{AreSkimmed, IsSkimOf, IsSkimRefused, SkimsRead}
use Rattle.folder_commands.specs.Wanted.{is_wanted}
use Rattle.folder_commands.proofs.Going.{none_kept}
use Rattle.folder_commands.proofs.ReadParts.{count_names, found_later}

-- ---- one part after another

-- what came of one part more
abbrev pub SkimsMore : Option (Replica × ℕ) → Result (Replica × ℕ) PartFault → BatchName → ℕ → PartForm → Type 0
SkimsMore had result first count part = (parts : List PartForm) → IsSkimOf had first count parts → SkimsRead result first count (parts ++ part ∷ [])

-- the first part
pub first_more : (had : Option (Replica × ℕ)) (r : Result (Replica × ℕ) PartFault) (first : BatchName) (count : ℕ) (part : PartForm) → had ≡ None
    → ((read : Replica) → IsWhole part → held_in part.bytes ≡ Ok read → SkimsTo r first count read) → SkimsMore had r first count part
first_more had r first count part is skims parts so =
    let none : parts ≡ [] = subst (λ (o : Option (Replica × ℕ)). IsSkimOf o first count parts) is so in
    let alone : SkimsRead r first count (part ∷ []) = λ whole opens. let one = opens_one part whole opens in skims whole one.0 one.1 in
    subst (λ (l : List PartForm). SkimsRead r first count (l ++ part ∷ [])) (sym none) alone

-- a further one
module _ (skim : Replica × ℕ) (r : Result (Replica × ℕ) PartFault) (first : BatchName) (count : ℕ) (part : PartForm) (skims : (held read new : Replica) → IsWhole part → held_in part.bytes ≡ Ok read → merged held read ≡ Ok (tt, new) → IsEnough first count skim.0 skim.1 held → SkimsTo r first count new) where
  with_one : (parts : List PartForm) → SkimsRead (Ok skim) first count parts → SkimsRead r first count (parts ++ part ∷ [])
  with_one [] so = absurd so
  with_one (one ∷ others) so = λ whole opens.
      let more = opens_more one others part whole opens in
      skims more.held more.read whole more.one more.opens more.merges (so more.held more.before)

  pub next_more : (had : Option (Replica × ℕ)) → had ≡ Some skim → SkimsMore had r first count part
  next_more had is parts so = with_one parts (subst (λ (o : Option (Replica × ℕ)). IsSkimOf o first count parts) is so)

-- it is enough
pub more_made : (r : Result (Replica × ℕ) PartFault) (had : Option (Replica × ℕ)) (first : BatchName) (count : ℕ) (part : PartForm) → SkimsMore had r first count part → IfOk r (λ next. More (IsSkimOf had first count) (IsSkimOf (Some next) first count) part)
more_made (Ok next) had first count part more = more
more_made (Err fault) had first count part more = tt

-- or refused
pub more_stopped : (r : Result (Replica × ℕ) PartFault) (had : Option (Replica × ℕ)) (first : BatchName) (count : ℕ) (part : PartForm) → SkimsMore had r first count part → IfErr r (λ fault. More (IsSkimOf had first count) (SkimsRead (Err fault) first count) part)
more_stopped (Ok next) had first count part more = tt
more_stopped (Err fault) had first count part more = more

-- if memory runs out, that is told of any part
pub more_lacking : (had : Option (Replica × ℕ)) (first : BatchName) (count : ℕ) (part : PartForm) → More (IsSkimOf had first count) (SkimsRead (Err (Refused Memory)) first count) part
more_lacking had first count part [] so = λ whole opens. inl refl
more_lacking had first count part (one ∷ others) so = λ whole opens. inl refl

-- ---- all of them

-- what loads are answered from
pub all_skimmed : {X : Type 0} (view : X → Replica) (batches : X → ℕ) (x : X) (skim : Replica × ℕ) (many : ℕ) (passed names : List (List ℕ)) (first : BatchName) (count : ℕ) (before after : List Call)
    → AreReadSoFar (IsSkimOf (Some skim) first count) many (filter (is_wanted passed) names) before after
    → ((whole : Replica) → IsEnough first count skim.0 skim.1 whole → batches x + count ≤ batch_limit → AnswersLoads first count (view x) whole)
    → AreSkimmed view batches (Ok x) passed names first count before after
all_skimmed {X} view batches x skim many passed names first count before after read answers = by read.parts read.found read.named read.so
  where
    by : (parts : List PartForm) → AreFound parts before after → names_of parts ≡ filter (is_wanted passed) names → SkimsRead (Ok skim) first count parts → AreSkimmed view batches (Ok x) passed names first count before after
    by [] found named so = absurd so
    by (part ∷ others) found named so = record {
      part = part;
      others = others;
      found = found;
      named = named;
      answers = λ whole opens room. answers whole (so whole opens) room;
    }

-- memory ran out once all were read
pub all_lack : (refusal : PartRefusal) (skim : Replica × ℕ) (many : ℕ) (passed names : List (List ℕ)) (first : BatchName) (count : ℕ) (before after : List Call)
    → AreReadSoFar (IsSkimOf (Some skim) first count) many (filter (is_wanted passed) names) before after → refusal ≡ record { part = 0; fault = Refused Memory } → WereGiven names before after
    → IsSkimRefused refusal passed first count before after
all_lack refusal skim many passed names first count before after read is given = by read.parts read.found read.named read.so
  where
    by : (parts : List PartForm) → AreFound parts before after → names_of parts ≡ filter (is_wanted passed) names → SkimsRead (Ok skim) first count parts → IsSkimRefused refusal passed first count before after
    by [] found named so = absurd so
    by (part ∷ others) found named so = subst (λ (r : PartRefusal). IsSkimRefused r passed first count before after) (sym is) (record {
      names = names;
      given = given;
      read = record {
        part = part;
        others = others;
        found = found;
        named = inr (named, refl, refl);
        answers = λ whole opens. inl refl;
      };
      listed = refl;
    })

-- one of them is refused
pub one_refused : (refusal : PartRefusal) (passed names : List (List ℕ)) (first : BatchName) (count : ℕ) (before after : List Call)
    → StopsReading (λ parts. SkimsRead (Err refusal.fault) first count parts × IsListed is_refusal_of_part refusal.fault) refusal (filter (is_wanted passed) names) before after → WereGiven names before after
    → IsSkimRefused refusal passed first count before after
one_refused refusal passed names first count before after stops given = by stops.parts stops.found stops.named stops.counted stops.so.0
  where
    by : (parts : List PartForm) → AreFound parts before after → filter (is_wanted passed) names ≡ names_of parts ++ stops.rest → length parts ≡ suc refusal.part → SkimsRead (Err refusal.fault) first count parts
        → IsSkimRefused refusal passed first count before after
    by [] found named counted so = absurd so
    by (part ∷ others) found named counted so = record {
      names = names;
      given = given;
      read = record {
        part = part;
        others = others;
        found = found;
        named = inl (stops.rest, named, count_names (part ∷ others) (suc refusal.part) counted);
        answers = so;
      };
      listed = stops.so.1;
    }

-- none is wanted
pub none_wanted : (skim : Option (Replica × ℕ)) (many : ℕ) (passed names : List (List ℕ)) (first : BatchName) (count : ℕ) (before after : List Call) → skim ≡ None
    → AreReadSoFar (IsSkimOf skim first count) many (filter (is_wanted passed) names) before after → AreUnwanted passed names
none_wanted skim many passed names first count before after is read name among wanted =
    let none : read.parts ≡ [] = subst (λ (o : Option (Replica × ℕ)). IsSkimOf o first count read.parts) is read.so in
    none_kept (is_wanted passed) names name (sym read.named ∙ ap names_of none) among wanted

-- ---- after the listing

pub skimmed_later : {X : Type 0} (view : X → Replica) (batches : X → ℕ) (r : Result X PartRefusal) (passed names : List (List ℕ)) (first : BatchName) (count : ℕ) (before mid after : List Call) → Follows before mid
    → AreSkimmed view batches r passed names first count mid after → AreSkimmed view batches r passed names first count before after
skimmed_later view batches r passed names first count before mid after follows read = record {
  part = read.part;
  others = read.others;
  found = found_later (read.part ∷ read.others) before mid after follows read.found;
  named = read.named;
  answers = read.answers;
}

given_later : (names : List (List ℕ)) (before mid after : List Call) → Follows before mid → WereGiven names mid after → WereGiven names before after
given_later names before mid after (calls, was) (first, rest, is, gave) =
    let joined : first ++ mid ≡ (first ++ calls) ++ before = ap (λ (l : List Call). first ++ l) was ∙ sym (append_assoc first calls before) in
    (first ++ calls, rest, is ∙ ap (λ (l : List Call). rest ++ l) joined, subst (λ (l : List Call). listing_of l ≡ Gave names) joined gave)

pub refused_later : (refusal : PartRefusal) (passed : List (List ℕ)) (first : BatchName) (count : ℕ) (before mid after : List Call) → Follows before mid → IsSkimRefused refusal passed first count mid after → IsSkimRefused refusal passed first count before after
refused_later refusal passed first count before mid after follows is = record {
  names = is.names;
  given = given_later is.names before mid after follows is.given;
  read = skimmed_later {X = Replica × ℕ} (λ s. s.0) (λ s. s.1) (Err refusal) passed is.names first count before mid after follows is.read;
  listed = is.listed;
}
