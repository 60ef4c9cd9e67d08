-- What is enough of each of two replicas is enough of their join.
use Rattle.std.specs.Prelude.{◌≡◌, ℕ, ◌+◌, ◌≤◌, Option, Some, None}
use Rattle.std.proofs.Common.{refl, sym, ap, subst, ◌∙◌, arith}
use Rattle.std.specs.FinMap as map
use Rattle.std.specs.FinSet as set
use Rattle.table_model.specs.State.{Agree, Batch, union_of}
use Rattle.table_model.specs.declared.names.BatchName.{BatchName}
use Rattle.table_model.proofs.Joins.{or_else, get-union}
use Rattle.replica_store.specs.MergeLaws.{Merges}
use Rattle.replica_store.specs.Replica.{Replica, batch_limit, with_join}
use Rattle.replica_store.proofs.JoinedStores.{len-sum}
use Rattle.replica_store.proofs.MergeAnswers.{is_merge, merges}
use Rattle.folder_parts.specs.Skims.{KnowsEnough}
use Rattle.folder_parts.proofs.SkimmedLoads.{len_within}

-- a replica is enough of itself
pub knows_itself : (first : BatchName) (count : ℕ) (r : Replica) → KnowsEnough first count r r
knows_itself first count r = record { schema = refl; deleted = refl; batches = λ name rows has. has; named = λ name one. refl }

-- what either of two has, if they agree with what two others have
or_known : (a b c d : Option Batch) (rows : Batch) → ((x : Batch) → a ≡ Some x → c ≡ Some x) → ((x : Batch) → b ≡ Some x → d ≡ Some x) → ((x y : Batch) → c ≡ Some x → d ≡ Some y → x ≡ y)
    → or_else a b ≡ Some rows → or_else c d ≡ Some rows
or_known (Some x) b c d rows one two agree is = let here : c ≡ Some x = one x refl in ap (λ (o : Option Batch). or_else o d) here ∙ is
or_known None b None d rows one two agree is = two rows is
or_known None b (Some y) d rows one two agree is = ap Some (agree y rows refl (two rows is))

module _ (first : BatchName) (count : ℕ) (known held part whole new : Replica) (enough : KnowsEnough first count known held) (more : KnowsEnough first count part whole) (made : Merges held whole new) where
  agree : Agree held.state whole.state
  agree = (is_merge held whole new made).agree

  has_both : (name : BatchName) (rows : Batch) → map.get (union_of known.state.batches part.state.batches) name ≡ Some rows → map.get (union_of held.state.batches whole.state.batches) name ≡ Some rows
  has_both name rows has =
      get-union held.state.batches whole.state.batches name
      ∙ or_known (map.get known.state.batches name) (map.get part.state.batches name) (map.get held.state.batches name) (map.get whole.state.batches name) rows
      (enough.batches name) (more.batches name) (agree name) (sym (get-union known.state.batches part.state.batches name) ∙ has)

  joined : KnowsEnough first count (with_join known part) (with_join held whole)
  joined = record {
    schema = enough.schema;
    deleted = λ i. set.union (enough.deleted i) (more.deleted i);
    batches = has_both;
    named = λ name one.
        get-union known.state.batches part.state.batches name
        ∙ (λ i. or_else (enough.named name one i) (more.named name one i))
        ∙ sym (get-union held.state.batches whole.state.batches name);
  }

  -- it is enough of what both make
  pub joined_enough : KnowsEnough first count (with_join known part) new
  joined_enough = subst (KnowsEnough first count (with_join known part)) (is_merge held whole new made).made joined

  -- and its merge is not refused
  pub joined_merges : Merges known part (with_join known part)
  joined_merges =
      let is = is_merge held whole new made in
      let few = len_within (union_of known.state.batches part.state.batches) (union_of held.state.batches whole.state.batches) has_both in
      let limit = is.limit in
      merges known part (enough.schema ∙ is.schema ∙ sym more.schema)
      (λ name a b one two. is.agree name a b (enough.batches name a one) (more.batches name b two))
      (omega (arith, few, limit))

  -- there are not more batches than both have
  pub joined_count : map.len new.state.batches ≤ map.len held.state.batches + map.len whole.state.batches
  joined_count =
      let is = ap (λ (r : Replica). map.len r.state.batches) (is_merge held whole new made).made in
      let few = len-sum held.state.batches whole.state.batches in
      omega (arith, is, few)

  pub joined_limit : map.len new.state.batches ≤ batch_limit
  joined_limit =
      let merge = is_merge held whole new made in
      let is = ap (λ (r : Replica). map.len r.state.batches) merge.made in
      let limit = merge.limit in
      omega (arith, is, limit)
