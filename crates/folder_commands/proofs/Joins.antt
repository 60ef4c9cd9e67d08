-- Parts are joined one after another, as they are read.
use Rattle.std.specs.Prelude.{◌≡◌, ◌⊎◌, ℕ, suc, ◌+◌, ◌<◌, Bool, true, false, not, ◌&&◌, cond, List, [], ◌∷◌, ◌++◌, filter, length, take, slice_get, Option, Some, None, Result, Ok, Err, IfOk, IfErr}
use Rattle.std.proofs.Common.{refl, sym, ap, subst, ◌∙◌, arith, inl, inr, ⊎_elim, length-append, get_or}
use Rattle.std.proofs.Math.Seq.{get_or-append_seam, take-append_seam}
use Rattle.std.proofs.lemmas.Option.{slice_get-get_or}
use Rattle.std.specs.List.{list_any}
use Rattle.table_model.specs.Identifier.{same_text}
use Rattle.table_model.specs.Reading.{◌>>=◌}
use Rattle.table_model.specs.declared.refusal.Refusal.{Refusal}
use Rattle.table_model.specs.declared.refusal.Refusal.TheVariants.{Memory}
use Rattle.folder_model.specs.Call.{Call, Read, Began}
use Rattle.folder_model.specs.Disk.{Among}
use Rattle.folder_model.specs.Parts.{Parts}
use Rattle.folder_model.specs.Turn.{HasRead, HasReadSince, HasReadAll, Gave, listing_of}
use Rattle.replica_store.specs.Replica.{Replica}
use Rattle.replica_reports.specs.Held.{held_in}
use Rattle.replica_changes.specs.Commands.{merged_with}
use Rattle.replica_changes.proofs.FileLaws.{bound_parts}
use Rattle.folder_parts.specs.Covers.{folder_parts}
use Rattle.folder_parts.specs.Parts.{PartForm, IsWhole, AreWhole, IsFaultOf, IsPartRefusal, JoinsPart, OpensPart, OpensParts, StopsAt, bytes_of}
use Rattle.folder_parts.specs.PartName.{is_part_name, part_name}
use Rattle.folder_parts.specs.declared.fault.PartFault.{PartFault}
use Rattle.folder_parts.specs.declared.fault.PartFault.TheVariants.{Refused}
use Rattle.folder_parts.specs.declared.fault.PartRefusal.{PartRefusal}
use Rattle.folder_parts.proofs.JoinedSoFar.{bytes_more, merged_more, whole_more}
use Rattle.folder_parts.proofs.PartNames.{no_part}
use Rattle.folder_commands.specs.Joined.{AreOpened, AreRead, AreUnwanted, IsJoinedOf, IsReadAs, IsStopped}
use Rattle.folder_commands.specs.ReadParts.{AreFound, AreReadSoFar, More, StopsReading, names_of}
use Rattle.folder_commands.specs.Refusals.{IsPartAtFault}
use Rattle.folder_commands.specs.Wanted.{is_wanted}
use Rattle.folder_commands.proofs.Going.{none_kept}

-- ---- one part after another

-- parts that were opened: the first, and what the others are joined to
pub record Opened (part : PartForm) (others : List PartForm) (whole : Replica) : Type 0 where
  pub held : Replica
  pub one : IsWhole part
  pub opens : held_in part.bytes ≡ Ok held
  pub are : AreWhole others
  pub joined : merged_with held (bytes_of others) ≡ Ok whole

pub opened_of : (part : PartForm) (others : List PartForm) (whole : Replica) → OpensParts {X = Replica} (λ r. r) (Ok whole) part others → Opened part others whole
opened_of part others whole opens =
    let parts = bound_parts (held_in part.bytes) (λ (r : Replica). merged_with r (bytes_of others)) whole opens.1 in
    record { held = parts.0; one = opens.0.0; opens = parts.1; are = opens.0.1; joined = parts.2 }

-- the first part
alone : (part : PartForm) (next : Replica) → OpensPart {X = Replica} (λ r. r) (Ok next) part → AreOpened next (part ∷ [])
alone part next opens = ((opens.0, tt), ap (λ (x : Result Replica Refusal). x >>= λ (r : Replica). merged_with r []) opens.1)

-- a further one
beside : (part : PartForm) (others : List PartForm) (last : PartForm) (old next : Replica) → JoinsPart {X = Replica} (λ r. r) (Ok next) old last → OpensParts {X = Replica} (λ r. r) (Ok old) part others → AreOpened next (part ∷ others ++ last ∷ [])
beside part others last old next joins opens =
    let so = opened_of part others old opens in (
      (so.one, whole_more others last so.are joins.0),
      ap (λ (x : Result Replica Refusal). x >>= λ (r : Replica). merged_with r (bytes_of (others ++ last ∷ []))) so.opens
          ∙ ap (merged_with so.held) (bytes_more others last) ∙ merged_more (bytes_of others) last.bytes so.held old so.joined ∙ joins.1,
    )

-- a further one that is at fault
fails_beside : (part : PartForm) (others : List PartForm) (last : PartForm) (old : Replica) (fault : PartFault) → IsFaultOf fault last (merged_with old (last.bytes ∷ [])) → OpensParts {X = Replica} (λ r. r) (Ok old) part others → IsStopped fault (part ∷ others ++ last ∷ [])
fails_beside part others last old fault is opens =
    let so = opened_of part others old opens in
    let front : take (length others) (others ++ last ∷ []) ≡ others = take-append_seam others (last ∷ []) in
    let long = length-append others (last ∷ []) in
    let stops : StopsAt (record { part = length (others ++ last ∷ []); fault = fault }) so.held (others ++ last ∷ []) = record {
      at = length others;
      part = last;
      held = old;
      place = long;
      found = slice_get-get_or (others ++ last ∷ []) (length others) last (omega (arith, long)) ∙ ap (λ (p : PartForm). Some p) (get_or-append_seam others last [] last);
      whole = subst AreWhole (sym front) so.are;
      joined = ap (λ (l : List PartForm). merged_with so.held (bytes_of l)) front ∙ so.joined;
      fault = is;
    } in
    inr (so.held, so.one, so.opens, stops)

next_opened : (had : Replica) (next : Replica) (last : PartForm) → JoinsPart {X = Replica} (λ r. r) (Ok next) had last → More (AreOpened had) (AreOpened next) last
next_opened had next last joins [] so = absurd so
next_opened had next last joins (part ∷ others) so = beside part others last had next joins so

next_fails : (had : Replica) (fault : PartFault) (last : PartForm) → IsFaultOf fault last (merged_with had (last.bytes ∷ [])) → More (AreOpened had) (IsStopped fault) last
next_fails had fault last is [] so = absurd so
next_fails had fault last is (part ∷ others) so = fails_beside part others last had fault is so

first_fails : (fault : PartFault) (part : PartForm) → IsFaultOf fault part (held_in part.bytes) → More (IsJoinedOf None) (IsStopped fault) part
first_fails fault part is parts none = subst (λ (l : List PartForm). IsStopped fault (l ++ part ∷ [])) (sym none) (inl (refl, is))

-- what one call answers
pub first_made : (r : Result Replica PartFault) (had : Option Replica) (part : PartForm) → had ≡ None → OpensPart {X = Replica} (λ j. j) r part → IfOk r (λ next. More (IsJoinedOf had) (IsJoinedOf (Some next)) part)
first_made (Ok next) had part is opens = λ parts so.
    let none : parts ≡ [] = subst (λ (o : Option Replica). IsJoinedOf o parts) is so in
    subst (λ (l : List PartForm). AreOpened next (l ++ part ∷ [])) (sym none) (alone part next opens)
first_made (Err fault) had part is opens = tt

pub first_stopped : (r : Result Replica PartFault) (had : Option Replica) (part : PartForm) → had ≡ None → OpensPart {X = Replica} (λ j. j) r part → IfErr r (λ fault. More (IsJoinedOf had) (IsStopped fault) part)
first_stopped (Ok next) had part is opens = tt
first_stopped (Err fault) had part is opens = λ parts so. first_fails fault part opens parts (subst (λ (o : Option Replica). IsJoinedOf o parts) is so)

pub next_made : (r : Result Replica PartFault) (had : Option Replica) (old : Replica) (part : PartForm) → had ≡ Some old → JoinsPart {X = Replica} (λ j. j) r old part → IfOk r (λ next. More (IsJoinedOf had) (IsJoinedOf (Some next)) part)
next_made (Ok next) had old part is joins = λ parts so. next_opened old next part joins parts (subst (λ (o : Option Replica). IsJoinedOf o parts) is so)
next_made (Err fault) had old part is joins = tt

pub next_stopped : (r : Result Replica PartFault) (had : Option Replica) (old : Replica) (part : PartForm) → had ≡ Some old → JoinsPart {X = Replica} (λ j. j) r old part → IfErr r (λ fault. More (IsJoinedOf had) (IsStopped fault) part)
next_stopped (Ok next) had old part is joins = tt
next_stopped (Err fault) had old part is joins = λ parts so. next_fails old fault part joins parts (subst (λ (o : Option Replica). IsJoinedOf o parts) is so)

-- if memory runs out, that is told of any part
pub lacks_beside : (had : Option Replica) (part : PartForm) → More (IsJoinedOf had) (IsStopped (Refused Memory)) part
lacks_beside None part = first_fails (Refused Memory) part (inr (inl refl))
lacks_beside (Some old) part = next_fails old (Refused Memory) part (inr (inl refl))

-- ---- parts, their names and their bytes

pub among_bytes : (parts : List PartForm) (file : List ℕ) → Among file (bytes_of parts) → (part : PartForm) × Among part parts × (part.bytes ≡ file)
among_bytes [] file among = absurd among
among_bytes (part ∷ parts) file (inl is) = (part, inl refl, sym is)
among_bytes (part ∷ parts) file (inr among) = let one = among_bytes parts file among in (one.0, inr one.1, one.2)

among_names : (parts : List PartForm) (name : List ℕ) → Among name (names_of parts) → (part : PartForm) × Among part parts × (part.name ≡ name)
among_names [] name among = absurd among
among_names (part ∷ parts) name (inl is) = (part, inl refl, sym is)
among_names (part ∷ parts) name (inr among) = let one = among_names parts name among in (one.0, inr one.1, one.2)

bytes_among : (parts : List PartForm) (part : PartForm) → Among part parts → Among part.bytes (bytes_of parts)
bytes_among [] part among = absurd among
bytes_among (one ∷ parts) part (inl is) = inl (ap (λ (p : PartForm). p.bytes) is)
bytes_among (one ∷ parts) part (inr among) = inr (bytes_among parts part among)

pub all_whole : (parts : List PartForm) → AreWhole parts → (part : PartForm) → Among part parts → IsWhole part
all_whole [] are part among = absurd among
all_whole (one ∷ parts) are part (inl is) = subst IsWhole (sym is) are.0
all_whole (one ∷ parts) are part (inr among) = all_whole parts are.1 part among

filter_among : (p : List ℕ → Bool) (xs : List (List ℕ)) (x : List ℕ) → Among x xs → p x ≡ true → Among x (filter p xs)
filter_among p [] x among passes = absurd among
filter_among p (y ∷ xs) x among passes =
    elim (p y) as (λ b. p y ≡ b → Among x (cond b (y ∷ filter p xs) (filter p xs))) [
      | true ↦ λ is. ⊎_elim (λ here. inl here) (λ there. inr (filter_among p xs x there passes)) among
      | false ↦ λ fails. ⊎_elim (λ here. let both : true ≡ false = sym passes ∙ ap p here ∙ fails in cc) (λ there. filter_among p xs x there passes) among
    ] refl

-- ---- what was read

-- what was read since a listing was read
since_read : (parts : Parts) (b : List ℕ) (calls : List Call) → HasReadSince parts b calls → HasRead parts b calls
since_read parts b [] has = absurd has
since_read parts b (Began ∷ calls) has = absurd has
since_read parts b (Read name (Some (Some found)) ∷ calls) (inl is) = inl is
since_read parts b (Read name (Some (Some found)) ∷ calls) (inr has) = inr (since_read parts b calls has)
since_read parts b (call ∷ calls) has = since_read parts b calls has

-- whole parts that were read
pub was_read : (P : List PartForm → Type 0) (many : ℕ) (names : List (List ℕ)) (before after : List Call) (read : AreReadSoFar P many names before after) → AreWhole read.parts → (part : PartForm) → Among part read.parts → HasRead folder_parts part.bytes after
was_read P many names before after read are part among = since_read folder_parts part.bytes after (read.since part among (all_whole read.parts are part among))

are_whole : (held : Option Replica) (parts : List PartForm) → IsJoinedOf held parts → AreWhole parts
are_whole None parts none = subst AreWhole (sym none) tt
are_whole (Some held) [] so = absurd so
are_whole (Some held) (part ∷ others) so = so.0

drop_true : (b : Bool) → (b && not false) ≡ false → b ≡ false
drop_true true e = e
drop_true false e = refl

none_passed : (passed : List (List ℕ)) (name : List ℕ) → passed ≡ [] → is_wanted passed name ≡ false → is_part_name name ≡ false
unfolding is_wanted
none_passed passed name none is =
    drop_true (is_part_name name) (ap (λ (l : List (List ℕ)). is_part_name name && not (list_any (λ (other : List ℕ). same_text other name) l)) (sym none) ∙ is)

module _ (passed names : List (List ℕ)) (held : Option Replica) (Also : List PartForm → Type 0) (many : ℕ) (before after : List Call) (read : AreReadSoFar (λ parts. IsJoinedOf held parts × Also parts) many (filter (is_wanted passed) names) before after) where
  abbrev P : List PartForm → Type 0
  P parts = IsJoinedOf held parts × Also parts

  are : AreWhole read.parts
  are = are_whole held read.parts read.so.0

  -- under each name that is wanted there is a part
  under : (name : List ℕ) → Among name names → is_wanted passed name ≡ true → (part : PartForm) × Among part read.parts × (part.name ≡ name)
  under name among wanted = among_names read.parts name (subst (λ (l : List (List ℕ)). Among name l) (sym read.named) (filter_among (is_wanted passed) names name among wanted))

  read_as : (whole : Option Replica) → whole ≡ held → IsReadAs passed names whole after
  read_as None is = λ name among wanted.
      let one = under name among wanted in
      let none : read.parts ≡ [] = subst (λ (o : Option Replica). IsJoinedOf o read.parts) (sym is) read.so.0 in
      subst (λ (l : List PartForm). Among one.0 l) none one.1
  read_as (Some whole) is = by read.parts refl
    where
      so : AreOpened whole read.parts
      so = subst (λ (o : Option Replica). IsJoinedOf o read.parts) (sym is) read.so.0

      by : (parts : List PartForm) → read.parts ≡ parts → AreRead passed names whole after
      by [] same = absurd (subst (AreOpened whole) same so)
      by (part ∷ others) same =
          let opens : AreOpened whole (part ∷ others) = subst (AreOpened whole) same so in
          record {
            first = part.bytes;
            others = bytes_of others;
            made = opens.1;
            read = λ file among.
                let one = among_bytes (part ∷ others) file among in
                subst (λ (f : List ℕ). HasRead folder_parts f after) one.2 (was_read P many (filter (is_wanted passed) names) before after read are one.0 (subst (λ (l : List PartForm). Among one.0 l) (sym same) one.1));
            each = λ name among wanted.
                let one = under name among wanted in
                let there : Among one.0 (part ∷ others) = subst (λ (l : List PartForm). Among one.0 l) same one.1 in
                (one.0.bytes, sym one.2 ∙ all_whole read.parts are one.0 one.1, bytes_among (part ∷ others) one.0 there);
          }

  -- what is answered is the join
  pub all_read : (whole : Option Replica) → whole ≡ held → IsReadAs passed names whole after
  all_read = read_as

  -- if no name was passed over, all that was listed was read
  pub all_listed : listing_of after ≡ Gave names → passed ≡ [] → HasReadAll folder_parts after
  all_listed listed none = record {
    names = names;
    listed = listed;
    each = λ bytes among.
        elim (is_wanted passed (part_name bytes)) as (λ b. is_wanted passed (part_name bytes) ≡ b → (found : List ℕ) × (part_name found ≡ part_name bytes) × HasReadSince folder_parts found after) [
          | true ↦ λ wanted.
              let one = under (part_name bytes) among wanted in
              let whole = all_whole read.parts are one.0 one.1 in
              (one.0.bytes, sym whole ∙ one.2, read.since one.0 one.1 whole)
          | false ↦ λ unwanted. absurd (no_part (part_name bytes) (none_passed passed (part_name bytes) none unwanted) bytes refl)
        ] refl;
  }

-- a part is at fault
pub part_at_fault : (refusal : PartRefusal) (passed names : List (List ℕ)) (before after : List Call) → StopsReading (IsStopped refusal.fault) refusal (filter (is_wanted passed) names) before after → IsPartAtFault refusal passed names before after
part_at_fault refusal passed names before after stops = by stops.parts stops.found stops.named stops.counted stops.so
  where
    by : (parts : List PartForm) → AreFound parts before after → filter (is_wanted passed) names ≡ names_of parts ++ stops.rest → length parts ≡ suc refusal.part → IsStopped refusal.fault parts → IsPartAtFault refusal passed names before after
    by [] found named counted so = absurd so
    by (part ∷ others) found named counted so =
        let last : refusal.part ≡ length others = omega (arith, counted) in
        record {
          part = part;
          others = others;
          rest = stops.rest;
          found = found;
          named = named;
          last = last;
          fault = subst (λ (n : ℕ). IsPartRefusal (record { part = n; fault = refusal.fault }) part others) (sym last) so;
        }
