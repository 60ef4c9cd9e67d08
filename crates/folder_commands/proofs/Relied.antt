-- On which parts a command relies that were read, and how they are left.
use Rattle.std.specs.Prelude.{◌≡◌, ◌≢◌, ◌⊎◌, ◌==◌, ℕ, Bool, true, false, not, ◌||◌, List, [], ◌∷◌, ◌++◌, length, Option, Some, None, is_some, Result, Ok, Err, IfOk, OnOk}
use Rattle.std.proofs.Common.{refl, sym, ap, subst, ◌∙◌, inl, inr, ⊎_elim, arith}
use Rattle.std.specs.FinMap as map
use Rattle.std.specs.FinSet as set
use Rattle.std.specs.Str.{bytes_eq}
use Rattle.std.proofs.lemmas.Bool.{cases_Bool}
use Rattle.std.proofs.lemmas.Bool.Decides.{nat_tests}
use Rattle.std.proofs.lemmas.Slice.Eq.{bytes_eq-Decides}
use Rattle.table_model.specs.Name.{row_name_cmp}
use Rattle.table_model.specs.Reading.{◌>>=◌}
use Rattle.table_model.specs.State.{Batch, union_of}
use Rattle.table_model.specs.Table.{Table}
use Rattle.table_model.specs.declared.names.BatchName.{BatchName}
use Rattle.table_model.proofs.Joins.{get-union, or_else}
use Rattle.table_model.proofs.NameOrder.{row_names_total}
use Rattle.catalogue_join.specs.RowRange.{RowRange, rows_in}
use Rattle.segment_core.specs.Format.{AreBytes}
use Rattle.column_file.specs.Skimming.{FilesAreSkimmed, skim_in}
use Rattle.folder_model.specs.Call.{Call, Read, Settled}
use Rattle.folder_model.specs.Disk.{Among}
use Rattle.folder_model.specs.Parts.{Parts}
use Rattle.folder_model.specs.Turn.{HasRead, IsKept, IsStored}
use Rattle.folder_protocol.specs.Causes.{AnyIs, FindsNone, FindsOther, HasCall}
use Rattle.folder_protocol.specs.Keeping.{AreKept, Finds, IsKeptOrGone}
use Rattle.folder_protocol.specs.declared.putting.Outcome.{Outcome}
use Rattle.folder_protocol.specs.declared.putting.Outcome.TheVariants.{OnDisk}
use Rattle.folder_protocol.proofs.Causing.{Follows, has_before}
use Rattle.replica_store.specs.MergeLaws.{Merges}
use Rattle.replica_store.specs.Replica.{Replica, merged, with_join}
use Rattle.replica_store.proofs.MergeAnswers.{is_merge}
use Rattle.replica_store.proofs.Names.{contains-names_of}
use Rattle.replica_reports.specs.Held.{held_in}
use Rattle.replica_changes.specs.Commands.{merged_with}
use Rattle.replica_changes.specs.Loads.{is_one_of}
use Rattle.replica_changes.proofs.FileLaws.{bound_parts, ok_one}
use Rattle.folder_parts.specs.Covers.{folder_parts}
use Rattle.folder_parts.specs.PartName.{part_name}
use Rattle.folder_parts.specs.Parts.{PartForm, AreWhole, bytes_of}
use Rattle.folder_parts.proofs.EnoughOfParts.{not_among, skimmed_of}
use Rattle.folder_commands.specs.Joined.{AreOpened, IsJoinedOf}
use Rattle.folder_commands.specs.ReadParts.{AreReadSoFar, More}
use Rattle.folder_commands.specs.Relying.{AreAllRelied, AreLeft, AreReadRelied, AreRelied, HasItem, IsBrought, IsIn, IsKeptOrMissed, IsLeft, IsNoneMet, Item, Rows, Deletion, ReliesOn}
use Rattle.folder_commands.specs.declared.reliance.Reliance.{Reliance}
use Rattle.folder_commands.specs.declared.reliance.Reliance.TheVariants.{Batches, Load, Deletions}
use Rattle.folder_commands.proofs.Joins.{all_whole, among_bytes, opened_of, was_read}
use Rattle.folder_commands.proofs.ReadParts.{found_later}

-- ---- what was read

-- one part more
among_part : (parts : List PartForm) (last part : PartForm) → Among part (parts ++ last ∷ []) → Among part parts ⊎ (part ≡ last)
among_part [] last part among = ⊎_elim (λ is. inr is) (λ none. absurd none) among
among_part (one ∷ parts) last part (inl is) = inl (inl is)
among_part (one ∷ parts) last part (inr among) = ⊎_elim (λ a. inl (inr a)) (λ is. inr is) (among_part parts last part among)

-- on which nothing relies
pub relied_same : (reliance : Reliance) (relied : List (List ℕ)) (last : PartForm) → ((item : Item) → IsIn item last.bytes → ReliesOn reliance item → ⊥) → More (AreRelied reliance relied) (AreRelied reliance relied) last
relied_same reliance relied last none parts so part item among has relies =
    ⊎_elim
    (λ before. so part item before has relies)
    (λ is. absurd (none item (subst (λ (p : PartForm). IsIn item p.bytes) is has) relies))
    (among_part parts last part among)

-- of which the name is added
pub relied_more : (reliance : Reliance) (relied next : List (List ℕ)) (last : PartForm) → ((name : List ℕ) → Among name relied → Among name next) → Among last.name next → More (AreRelied reliance relied) (AreRelied reliance next) last
relied_more reliance relied next last grows own parts so part item among has relies =
    ⊎_elim
    (λ before. grows part.name (so part item before has relies))
    (λ is. subst (λ (p : PartForm). Among p.name next) (sym is) own)
    (among_part parts last part among)

-- the same after a listing
pub relied_later : (reliance : Reliance) (relied wanted : List (List ℕ)) (before mid after : List Call) → Follows before mid → AreReadRelied reliance relied wanted mid after → AreReadRelied reliance relied wanted before after
relied_later reliance relied wanted before mid after first (many, read) = (
  many,
  record {
    parts = read.parts;
    found = found_later read.parts before mid after first read.found;
    since = read.since;
    named = read.named;
    counted = read.counted;
    so = read.so;
  },
)

-- ---- what is skimmed

-- a part of which nothing is met has nothing on which a command relies
pub none_on : FilesAreSkimmed → (reliance : Reliance) (bytes : List ℕ) (t : Table) (names : List BatchName) (rows : set.FinSet row_name_cmp) → AreBytes bytes → skim_in bytes ≡ Ok (t, (names, rows)) → IsNoneMet reliance names rows
    → (item : Item) → IsIn item bytes → ReliesOn reliance item → ⊥
none_on law (Batches wanted) bytes t names rows fit skims none (Rows name batch) (r, held, has) relies =
    let found = skimmed_of law bytes r t names rows fit held skims in
    let bad : true ≡ false = sym (contains-names_of r.state.batches name ∙ ap is_some has) ∙ found.named name ∙ not_among (set.contains wanted) names name none relies in
    cc
none_on law (Load wanted) bytes t names rows fit skims none (Rows name batch) (r, held, has) relies =
    let found = skimmed_of law bytes r t names rows fit held skims in
    let bad : true ≡ false = sym (contains-names_of r.state.batches name ∙ ap is_some has) ∙ found.named name ∙ not_among (is_one_of wanted.first wanted.count) names name none relies in
    cc
none_on law Deletions bytes t names rows fit skims none (Deletion row) (r, held, has) relies =
    let found = skimmed_of law bytes r t names rows fit held skims in
    let gone : set.contains r.state.deleted row ≡ false = ap (λ (s : set.FinSet row_name_cmp). set.contains s row) (sym found.deleted ∙ none) ∙ set.contains-empty row_name_cmp row in
    let bad : true ≡ false = sym has ∙ gone in
    cc
none_on law reliance bytes t names rows fit skims none item has relies = absurd relies

-- no ranges
pub no_ranges : (ranges : List RowRange) → not (length ranges == 0) ≡ false → rows_in ranges ≡ set.empty
unfolding rows_in
no_ranges [] none = refl
no_ranges (r ∷ ranges) none = let longer : length (r ∷ ranges) ≡ 0 = grind (arith, nat_tests) in absurd (omega (arith, longer))

-- ---- what a join has

either_batch : (a b : Option Batch) (rows : Batch) → or_else a b ≡ Some rows → (a ≡ Some rows) ⊎ (b ≡ Some rows)
either_batch (Some x) b rows is = inl is
either_batch None b rows is = inr is

either_true : (a b : Bool) → (a || b) ≡ true → (a ≡ true) ⊎ (b ≡ true)
either_true true b is = inl refl
either_true false b is = inr is

-- one of two replicas has what their join has
of_either : (r other : Replica) (item : Item) → HasItem (with_join r other) item → HasItem r item ⊎ HasItem other item
of_either r other (Rows name rows) has = either_batch (map.get r.state.batches name) (map.get other.state.batches name) rows (sym (get-union r.state.batches other.state.batches name) ∙ has)
of_either r other (Deletion row) has = either_true (set.contains r.state.deleted row) (set.contains other.state.deleted row) (sym (set.contains-union row_names_total r.state.deleted other.state.deleted row) ∙ has)

-- one of some files has it
of_files : (old : Replica) (files : List (List ℕ)) (new : Replica) → merged_with old files ≡ Ok new → (item : Item) → HasItem new item → HasItem old item ⊎ ((file : List ℕ) × Among file files × IsIn item file)
of_files old [] new made item has = inl (subst (λ (r : Replica). HasItem r item) (sym (ok_one old new made)) has)
of_files old (file ∷ files) new made item has =
    let read = bound_parts (held_in file) (λ (other : Replica). merged old other >>= λ (done : Unit {0} × Replica). merged_with done.1 files) new made in
    let joined = bound_parts (merged old read.0) (λ (done : Unit {0} × Replica). merged_with done.1 files) new read.2 in
    let merges : Merges old read.0 joined.0.1 = joined.1 in
    ⊎_elim
    (λ here.
    ⊎_elim
    (λ before. inl before)
    (λ own. inr (file, inl refl, (read.0, read.1, own)))
    (of_either old read.0 item (subst (λ (r : Replica). HasItem r item) (sym (is_merge old read.0 joined.0.1 merges).made) here)))
    (λ there. inr (there.0, inr there.1, there.2))
    (of_files joined.0.1 files new joined.2 item has)

module _ (reliance : Reliance) (relied : List (List ℕ)) (held : Replica) (many : ℕ) (names : List (List ℕ)) (before after : List Call) (read : AreReadSoFar (λ parts. IsJoinedOf (Some held) parts × AreRelied reliance relied parts) many names before after) where
  -- a part that has it was read, and relied on
  one_relied : AreWhole read.parts → (item : Item) → ReliesOn reliance item → (part : PartForm) → Among part read.parts → IsIn item part.bytes → (file : List ℕ) × IsIn item file × HasRead folder_parts file after × Among (part_name file) relied
  one_relied are item relies part among has = (
    part.bytes,
    has,
    was_read (λ parts. IsJoinedOf (Some held) parts × AreRelied reliance relied parts) many names before after read are part among,
    subst (λ (n : List ℕ). Among n relied) (all_whole read.parts are part among) (read.so.1 part item among has relies),
  )

  pub all_relied : AreAllRelied reliance relied held after
  all_relied item has relies = by read.parts refl
    where
      by : (parts : List PartForm) → read.parts ≡ parts → (file : List ℕ) × IsIn item file × HasRead folder_parts file after × Among (part_name file) relied
      by [] same = absurd (subst (AreOpened held) same read.so.0)
      by (part ∷ others) same =
          let opens : AreOpened held (part ∷ others) = subst (AreOpened held) same read.so.0 in
          let are : AreWhole read.parts = subst AreWhole (sym same) opens.0 in
          let so = opened_of part others held opens in
          ⊎_elim
          (λ first. one_relied are item relies part (subst (λ (l : List PartForm). Among part l) (sym same) (inl refl)) (so.held, so.opens, first))
          (λ (other : (file : List ℕ) × Among file (bytes_of others) × IsIn item file).
          let one = among_bytes others other.0 other.1 in
          one_relied are item relies one.0 (subst (λ (l : List PartForm). Among one.0 l) (sym same) (inr one.1)) (subst (IsIn item) (sym one.2) other.2))
          (of_files so.held (bytes_of others) held so.joined item has)

-- ---- what is kept

any_of : (P Q : Call → Type 0) → ((call : Call) → P call → Q call) → (calls : List Call) → AnyIs P calls → AnyIs Q calls
any_of P Q so [] any = absurd any
any_of P Q so (call ∷ calls) (inl here) = inl (so call here)
any_of P Q so (call ∷ calls) (inr there) = inr (any_of P Q so calls there)

same_or_not : (n m : List ℕ) → (n ≡ m) ⊎ (n ≢ m)
same_or_not n m = by (cases_Bool (bytes_eq n m))
  where
    by : (bytes_eq n m ≡ true) ⊎ (bytes_eq n m ≡ false) → (n ≡ m) ⊎ (n ≢ m)
    by (inl t) = inl ((bytes_eq-Decides n m).0 t)
    by (inr f) = inr (λ e. let wrong : true ≡ false = sym ((bytes_eq-Decides n m).1 e) ∙ f in cc)

finds_other : (name bytes part : List ℕ) → bytes ≢ part → (call : Call) → Finds name bytes call → FindsOther name part call
finds_other name bytes part other (Read own (Some (Some found))) is = (is.0, found, refl, λ same. other (sym is.1 ∙ same))
finds_other name bytes part other call is = absurd is

-- a part of a name that was to be kept
kept_or_missed : (part : List ℕ) (before after : List Call) → IsKeptOrGone folder_parts (part_name part) before after → IsKeptOrMissed part before after
kept_or_missed part before after (inl none) = inr (inl none)
kept_or_missed part before after (inr (bytes, (calls, is, any), kept)) =
    ⊎_elim
    (λ same. inl (subst (λ (b : List ℕ). IsKept folder_parts b after) same (kept (ap part_name (sym same)))))
    (λ other. inr (inr (calls, is, any_of (Finds (part_name part) bytes) (FindsOther (part_name part) part) (finds_other (part_name part) bytes part other) calls any)))
    (same_or_not bytes part)

-- all that is brought is left
pub are_left : (bytes : List ℕ) (relied : List (List ℕ)) (before after : List Call) → AreKept folder_parts relied before after → IsStored folder_parts bytes after → AreLeft bytes relied before after
are_left bytes relied before after kept stored item (inl own) = inl (own, stored)
are_left bytes relied before after kept stored item (inr (part, has, among)) = inr (part, has, kept_or_missed part before after (kept (part_name part) among))

pub all_left : {X E : Type 0} (r : Result X E) (on : X) (bytes : List ℕ) (relied : List (List ℕ)) (before after : List Call) → OnOk r (AreKept folder_parts relied before after) → IfOk r (λ x. x ≡ on → IsStored folder_parts bytes after)
    → IfOk r (λ x. x ≡ on → AreLeft bytes relied before after)
all_left (Ok x) on bytes relied before after kept stored = λ is. are_left bytes relied before after kept (stored is)
all_left (Err e) on bytes relied before after kept stored = tt
