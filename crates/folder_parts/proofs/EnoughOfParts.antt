-- What is read of one part is enough: its deletions, if it has none of the names, and else all of it.
use Rattle.std.specs.Prelude.{◌≡◌, ◌⊎◌, ℕ, ◌+◌, ◌≤◌, Bool, true, false, ◌||◌, List, [], ◌∷◌, length, Option, Some, None, is_some, Result, Ok, Err}
use Rattle.std.proofs.Common.{refl, sym, ap, subst, ◌∙◌, inl, inr, arith}
use Rattle.std.specs.List.{list_any}
use Rattle.std.specs.Ordering.{eq_by_cmp}
use Rattle.std.specs.FinMap as map
use Rattle.std.specs.FinSet as set
use Rattle.table_model.specs.Name.{name_cmp, row_name_cmp}
use Rattle.table_model.specs.Reading.{Reads}
use Rattle.table_model.specs.State.{Batch}
use Rattle.table_model.specs.Table.{Table}
use Rattle.table_model.specs.declared.names.BatchName.{BatchName}
use Rattle.table_model.specs.declared.refusal.Refusal.{Refusal}
use Rattle.table_model.specs.declared.refusal.Refusal.TheVariants.{Memory}
use Rattle.table_model.proofs.NameOrder.{names_total}
use Rattle.table_model.proofs.Operations.{same_name}
use Rattle.segment_core.specs.Format.{AreBytes}
use Rattle.segment_core.proofs.FormatLaws.{bind_ok, ok_is}
use Rattle.column_file.specs.Files.{canonical_read}
use Rattle.column_file.specs.Skimming.{FilesAreSkimmed, IsSkimmed, skim_in}
use Rattle.replica_store.specs.Exchange.{OfferForm, offering, opened}
use Rattle.replica_store.specs.Replica.{Replica, batch_limit, merged, names_of, with_join}
use Rattle.replica_store.specs.Segments.{Segments, rows_entries, rows_in}
use Rattle.replica_store.proofs.Limits.{same_Ok}
use Rattle.replica_store.proofs.Names.{contains-names_of}
use Rattle.replica_store.proofs.RowsIn.{entries-rows_in}
use Rattle.replica_changes.specs.Loads.{is_one_of}
use Rattle.replica_reports.specs.Held.{held_in}
use Rattle.folder_parts.specs.Parts.{IsFaultOf, IsWhole, OpensPart, PartForm}
use Rattle.folder_parts.specs.Skims.{IsEnough, IsOpenedOr, IsUnreadPart, KnowsEnough}
use Rattle.folder_parts.specs.declared.fault.PartFault.{PartFault}
use Rattle.folder_parts.specs.declared.fault.PartFault.TheVariants.{Damaged, Refused}
use Rattle.folder_parts.proofs.SkimmedJoins.{joined_count, joined_enough, joined_limit, joined_merges, knows_itself}

-- ---- deletions alone

or_none : (a b : Bool) → (a || b) ≡ false → (a ≡ false) × (b ≡ false)
or_none true b e = cc
or_none false b e = (refl, e)

-- a name that passes a test is not among those of which none does
pub not_among : (p : BatchName → Bool) (names : List BatchName) (name : BatchName) → list_any p names ≡ false → p name ≡ true → list_any (eq_by_cmp name_cmp name) names ≡ false
not_among p [] name others one = refl
not_among p (n ∷ names) name others one =
    let parts = or_none (p n) (list_any p names) others in
    elim (eq_by_cmp name_cmp name n) as (λ b. eq_by_cmp name_cmp name n ≡ b → (b || list_any (eq_by_cmp name_cmp name) names) ≡ false) [
      | true ↦ λ t.
          let same : p name ≡ false = ap p (same_name name n t) ∙ parts.0 in
          let bad : true ≡ false = sym one ∙ same in cc
      | false ↦ λ t. not_among p names name parts.1 one
    ] refl

none_is : (o : Option Batch) → is_some o ≡ false → o ≡ None
none_is None e = refl
none_is (Some rows) e = cc

-- a store without batches
empty_rows : (m : Segments) → map.entries m ≡ [] → (name : BatchName) → map.get (rows_in m) name ≡ None
empty_rows m none name = map.get-entries (rows_in m) name ∙ ap (map.find name_cmp name) (entries-rows_in m ∙ ap rows_entries none)

-- what is skimmed of a file that holds a replica is what that has
pub record IsSkimOf (t : Table) (names : List BatchName) (rows : set.FinSet row_name_cmp) (r : Replica) : Type 0 where
  pub schema : t ≡ r.schema
  pub deleted : rows ≡ r.state.deleted
  pub named : (name : BatchName) → set.contains (names_of r.state.batches) name ≡ list_any (eq_by_cmp name_cmp name) names
  pub count : length names ≡ map.len r.state.batches

pub skimmed_of : FilesAreSkimmed → (bytes : List ℕ) (r : Replica) (t : Table) (names : List BatchName) (rows : set.FinSet row_name_cmp) → AreBytes bytes → held_in bytes ≡ Ok r → skim_in bytes ≡ Ok (t, (names, rows)) → IsSkimOf t names rows r
skimmed_of law bytes r t names rows fit held skims =
    let read = bind_ok (canonical_read bytes) (λ (o : OfferForm). Ok (offering (record { 0 = 1 }) o)) r held in
    let o : OfferForm = read.0 in
    let is : offering (record { 0 = 1 }) o ≡ r = ok_is (offering (record { 0 = 1 }) o) r read.2 in
    let skimmed : IsSkimmed bytes o = law bytes o fit read.1 in
    let same : ◌≡◌ {A = Table × (List BatchName × set.FinSet row_name_cmp)} (t, (names, rows)) (o.schema, (skimmed.names, o.state.deleted)) = same_Ok (t, (names, rows)) (o.schema, (skimmed.names, o.state.deleted)) (sym skims ∙ skimmed.found) in
    let listed : names ≡ skimmed.names = ap (λ (p : Table × (List BatchName × set.FinSet row_name_cmp)). p.1.0) same in
    record {
      schema = ap (λ (p : Table × (List BatchName × set.FinSet row_name_cmp)). p.0) same ∙ ap (λ (x : Replica). x.schema) is;
      deleted = ap (λ (p : Table × (List BatchName × set.FinSet row_name_cmp)). p.1.1) same ∙ ap (λ (x : Replica). x.state.deleted) is;
      named = λ name.
          ap (λ (x : Replica). set.contains (names_of x.state.batches) name) (sym is)
          ∙ ap (λ (x : set.FinSet name_cmp). set.contains x name) (sym skimmed.same_names ∙ ap (λ (ns : List BatchName). set.from_list {R = name_cmp} ns) (sym listed))
          ∙ set.contains-from_list names_total names name;
      count = ap length listed ∙ skimmed.count ∙ ap (λ (x : Replica). map.len x.state.batches) is;
    }

-- a part's deletions are enough of it, if it has none of the names
pub deletions_enough : FilesAreSkimmed → (first : BatchName) (count : ℕ) (bytes : List ℕ) (r s : Replica) (offer : OfferForm) (t : Table) (names : List BatchName) (rows : set.FinSet row_name_cmp) (n : ℕ)
    → AreBytes bytes → held_in bytes ≡ Ok r → skim_in bytes ≡ Ok (t, (names, rows)) → list_any (is_one_of first count) names ≡ false
    → offer.schema ≡ t → offer.state.batches ≡ rows_in offer.segments → offer.state.deleted ≡ rows → map.entries offer.segments ≡ [] → opened (record { 0 = 1 }) offer ≡ Ok s → n ≡ length names
    → IsEnough first count s n r
deletions_enough law first count bytes r s offer t names rows n fit held skims others schema batches deleted empty made many =
    let known : offering (record { 0 = 1 }) offer ≡ s = same_Ok (offering (record { 0 = 1 }) offer) s made in
    let found : IsSkimOf t names rows r = skimmed_of law bytes r t names rows fit held skims in
    let nothing : (name : BatchName) → map.get s.state.batches name ≡ None =
    λ name. ap (λ (x : Replica). map.get x.state.batches name) (sym known) ∙ ap (λ (m : map.FinMap name_cmp Batch). map.get m name) batches ∙ empty_rows offer.segments empty name in
    let counted : n ≡ map.len r.state.batches = many ∙ found.count in
    record {
      knows = record {
        schema = ap (λ (x : Replica). x.schema) (sym known) ∙ schema ∙ found.schema;
        deleted = ap (λ (x : Replica). x.state.deleted) (sym known) ∙ deleted ∙ found.deleted;
        batches = λ name rows has. let bad : None ≡ Some rows = sym (nothing name) ∙ has in cc;
        named = λ name one.
            let none : map.get r.state.batches name ≡ None =
            none_is (map.get r.state.batches name) (sym (contains-names_of r.state.batches name) ∙ found.named name ∙ not_among (is_one_of first count) names name others one) in
            nothing name ∙ sym none;
      };
      counted = omega (arith, counted);
    }

-- ---- all of a part

-- a part of which more is read than its deletions was compared with its name
pub opened_compared : {So : Type 0} (part : PartForm) (held : Replica) → IsOpenedOr So part held → So ⊎ IsWhole part
opened_compared part held (inl so) = inl so
opened_compared part held (inr opened) = inr opened.0

-- the same replica and count are as much
pub same_enough : (first : BatchName) (count : ℕ) (s t r : Replica) (n m : ℕ) → IsEnough first count s n r → t ≡ s → m ≡ n → IsEnough first count t m r
same_enough first count s t r n m enough same counted =
    subst (λ (x : Replica). IsEnough first count x m r) (sym same) (subst (λ (k : ℕ). IsEnough first count s k r) (sym counted) enough)

-- a part that was opened is enough of itself
pub opened_enough : (first : BatchName) (count : ℕ) (part : PartForm) (s r : Replica) (n : ℕ) → OpensPart {X = Replica} (λ x. x) (Ok s) part → held_in part.bytes ≡ Ok r → n ≡ map.len s.state.batches → IsEnough first count s n r
opened_enough first count part s r n opens held many =
    let is : s ≡ r = same_Ok s r (sym opens.1 ∙ held) in
    let counted : n ≡ map.len r.state.batches = many ∙ ap (λ (x : Replica). map.len x.state.batches) is in
    record { knows = subst (KnowsEnough first count s) is (knows_itself first count s); counted = omega (arith, counted) }

-- a whole part that holds a replica is refused only if it was not read
pub unread_of : (fault : PartFault) (part : PartForm) (made : Result Replica Refusal) (r : Replica) → IsWhole part → made ≡ Ok r → IsFaultOf fault part made → IsUnreadPart fault
unread_of Damaged part made r whole held other = absurd (other whole)
unread_of (Refused e) part made r whole held (inl refused) = let bad : Err e ≡ Ok r = sym refused.1 ∙ held in cc
unread_of (Refused e) part made r whole held (inr is) = is

-- ---- a further part

-- what is enough of two, once it is joined
pub joined_part : (first : BatchName) (count : ℕ) (known held part whole new next : Replica) (n m k : ℕ) → IsEnough first count known n held → IsEnough first count part m whole → merged held whole ≡ Ok (tt, new)
    → merged known part ≡ Ok (tt, next) → ((x : ℕ) → x ≤ n + m → x ≤ batch_limit → x ≤ k) → IsEnough first count next k new
joined_part first count known held part whole new next n m k enough more made joined counts =
    let merges = joined_merges first count known held part whole new enough.knows more.knows made in
    let is : with_join known part ≡ next = ap (λ (p : Unit {0} × Replica). p.1) (same_Ok (tt, with_join known part) (tt, next) (sym merges ∙ joined)) in
    let few = joined_count first count known held part whole new enough.knows more.knows made in
    let one = enough.counted in
    let other = more.counted in
    record {
      knows = subst (λ (r : Replica). KnowsEnough first count r new) is (joined_enough first count known held part whole new enough.knows more.knows made);
      counted = counts (map.len new.state.batches) (omega (arith, few, one, other)) (joined_limit first count known held part whole new enough.knows more.knows made);
    }

-- and it is refused only for want of memory
pub unjoined_part : {J : Type 0} (view : J → Unit {0} × Replica) (first : BatchName) (count : ℕ) (known held part whole new : Replica) (n m : ℕ) (e : Refusal) → IsEnough first count known n held → IsEnough first count part m whole → merged held whole ≡ Ok (tt, new)
    → Reads view (Err e) (merged known part) → e ≡ Memory
unjoined_part view first count known held part whole new n m e enough more made (inr lack) = lack
unjoined_part view first count known held part whole new n m e enough more made (inl refused) =
    let merges = joined_merges first count known held part whole new enough.knows more.knows made in
    let bad : ◌≡◌ {A = Result (Unit {0} × Replica) Refusal} (Err e) (Ok (tt, with_join known part)) = sym refused ∙ merges in cc
