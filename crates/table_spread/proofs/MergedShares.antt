-- The shares of a replica are merged one after another, and are the replica at last.
use Rattle.std.specs.Prelude.{◌≡◌, ◌≤◌, ℕ, zero, suc, Bool, true, false, cond, ◌==◌, List, length, Option, Some, None, Result, Ok}
use Rattle.std.proofs.Common.{refl, sym, ap, subst, ◌∙◌, arith}
use Rattle.std.proofs.lemmas.List.Sums.{length-filter, count_by-le-length}
use Rattle.std.specs.FinMap as map
use Rattle.std.specs.FinMap.Entries.{where_key, is_sorted-where_key, find-where_key}
use Rattle.table_model.specs.Name.{name_cmp}
use Rattle.table_model.specs.Reading.{◌>>=◌}
use Rattle.table_model.specs.State.{State, Batch, Agree, join, union_of}
use Rattle.table_model.specs.Table.{Table}
use Rattle.table_model.specs.declared.names.BatchName.{BatchName}
use Rattle.table_model.specs.declared.refusal.Refusal.{Refusal}
use Rattle.table_model.proofs.NameOrder.{exact_names}
use Rattle.table_model.proofs.Joins.{same_maps}
use Rattle.column_file.specs.Files.{canonical_file, opened_from, HasFile}
use Rattle.column_file.proofs.FileLaws.{files_open}
use Rattle.replica_store.specs.Exchange.{OfferForm, offering}
use Rattle.replica_store.specs.Replica.{Replica, names_of, merged, batch_limit}
use Rattle.replica_store.proofs.Maps.{as_map, get-as_map, len-as_map}
use Rattle.replica_store.proofs.MergeAnswers.{merges}
use Rattle.table_spread.specs.Spread.{share_at, of_names, share_of, share_in}
use Rattle.table_spread.specs.SpreadLaws.{merged_up_to, held_up_to}
use Rattle.table_spread.proofs.Shares.{get-of_names, join-of_names, goes_up_to, joined_up_to, joined_all, up_to_none, up_to_more}

module _ {X : Type 0} where
  -- the entries whose names pass are the map of these names
  pub as_map-where : (p : BatchName → Bool) (m : map.FinMap name_cmp X) → as_map (where_key name_cmp p (map.entries m)) ≡ map.retain_keys m p
  as_map-where p m = same_maps _ _ (λ q.
      get-as_map (where_key name_cmp p (map.entries m)) q (is_sorted-where_key name_cmp p (map.entries m) (map.entries_sorted m))
      ∙ find-where_key name_cmp p q (λ x tied. ap p (sym (exact_names q x tied))) (map.entries m)
      ∙ ap (λ (o : Option X). cond (p q) o None) (sym (map.get-entries m q))
      ∙ sym (map.get-retain_keys m p q (λ x tied. ap p (sym (exact_names q x tied)))))

  pub length-where : (p : BatchName → Bool) (es : List (BatchName × X)) → length (where_key name_cmp p es) ≤ length es
  length-where p es = let count = length-filter (λ (e : BatchName × X). p e.0) es in let few = count_by-le-length (λ (e : BatchName × X). p e.0) es in omega (arith, count, few)

  pub len-retained : (p : BatchName → Bool) (m : map.FinMap name_cmp X) → map.len (map.retain_keys m p) ≤ map.len m
  len-retained p m =
      subst (λ (n : map.FinMap name_cmp X). map.len n ≤ map.len m) (as_map-where p m)
      (let few = length-where p (map.entries m) in
      omega (arith, len-as_map (where_key name_cmp p (map.entries m)) (is_sorted-where_key name_cmp p (map.entries m) (map.entries_sorted m)), few, map.len-entries m))

given : {X : Type 0} (b : Bool) (o : Option X) (x : X) → cond b o None ≡ Some x → o ≡ Some x
given true o x e = e
given false o x e = cc

one_value : {X : Type 0} (x y : X) → Some x ≡ Some y → x ≡ y
one_value x y e = cc

-- two parts of a state agree
agree_of : (p q : BatchName → Bool) (s : State) → Agree (of_names p s) (of_names q s)
agree_of p q s name a b has at =
    one_value a b (sym (given (p name) (map.get s.batches name) a (sym (get-of_names p s name) ∙ has)) ∙ given (q name) (map.get s.batches name) b (sym (get-of_names q s name) ∙ at))

len-of_names : (p : BatchName → Bool) (s : State) → map.len (of_names p s).batches ≤ map.len s.batches
unfolding of_names
len-of_names p s = len-retained p s.batches

module _ (firsts : List BatchName) (r : Replica) (limit : map.len r.state.batches ≤ batch_limit) where
  -- the replica with what goes to the shares up to one
  abbrev so_far : ℕ → Replica
  so_far n = record { schema = r.schema; own = r.own; state = of_names (goes_up_to firsts r.state n) r.state }

  next_joined : (n : ℕ) → join (of_names (goes_up_to firsts r.state n) r.state) (share_of firsts (suc n) r.state) ≡ of_names (goes_up_to firsts r.state (suc n)) r.state
  next_joined n =
      join-of_names (goes_up_to firsts r.state n) (λ name. share_at firsts (names_of r.state.batches) name == suc n) r.state
      ∙ ap (λ (goes : BatchName → Bool). of_names goes r.state) (λ i name. up_to_more (share_at firsts (names_of r.state.batches) name) n i)

  fits : (n : ℕ) → map.len (union_of (so_far n).state.batches (share_in firsts (suc n) r).state.batches) ≤ batch_limit
  fits n =
      let is : union_of (so_far n).state.batches (share_in firsts (suc n) r).state.batches ≡ (of_names (goes_up_to firsts r.state (suc n)) r.state).batches = ap (λ (s : State). s.batches) (next_joined n) in
      let few = len-of_names (goes_up_to firsts r.state (suc n)) r.state in
      subst (λ (m : map.FinMap name_cmp Batch). map.len m ≤ batch_limit) (sym is) (omega (arith, few, limit))

  merged_so_far : (n : ℕ) → merged_up_to firsts r n ≡ Ok (so_far n)
  merged_so_far zero = ap (λ (goes : BatchName → Bool). Ok (record { schema = r.schema; own = r.own; state = of_names goes r.state })) (λ i name. up_to_none (share_at firsts (names_of r.state.batches) name) i)
  merged_so_far (suc n) =
      ap (λ (before : Result Replica Refusal). before >>= λ whole. merged whole (share_in firsts (suc n) r) >>= λ done. Ok done.1) (merged_so_far n)
      ∙ ap (λ (made : Result (Unit {0} × Replica) Refusal). made >>= λ done. Ok done.1)
      (merges (so_far n) (share_in firsts (suc n) r) refl (agree_of (goes_up_to firsts r.state n) (λ name. share_at firsts (names_of r.state.batches) name == suc n) r.state) (fits n))
      ∙ ap (λ (s : State). Ok (record { schema = r.schema; own = r.own; state = s })) (next_joined n)

  pub merged_all : (n : ℕ) → length firsts ≤ n → merged_up_to firsts r n ≡ Ok r
  merged_all n le = merged_so_far n ∙ ap (λ (s : State). Ok (record { schema = r.schema; own = r.own; state = s })) (sym (joined_up_to firsts r.state n) ∙ joined_all firsts r.state n le)

-- the file of a state is opened to it
opened_file : (table : Table) (state : State) → HasFile table state → opened_from (record { 0 = 1 }) (canonical_file table state) ≡ Ok (record { schema = table; own = record { 0 = 1 }; state = state })
opened_file table state has =
    let opens = files_open table state has in
    ap (λ (read : Result OfferForm Refusal). read >>= λ o. Ok (offering (record { 0 = 1 }) o)) opens.1
    ∙ (λ i. Ok (record { schema = opens.2 i; own = record { 0 = 1 }; state = opens.3 i }))

module _ (firsts : List BatchName) (table : Table) (s : State) (written : (index : ℕ) → HasFile table (share_of firsts index s)) where
  abbrev whole : Replica
  whole = record { schema = table; own = record { 0 = 1 }; state = s }

  held_so_far : (n : ℕ) → held_up_to firsts table s n ≡ merged_up_to firsts whole n
  held_so_far zero = opened_file table (share_of firsts 0 s) (written 0)
  held_so_far (suc n) =
      ap (λ (held : Result Replica Refusal). held >>= λ before. opened_from (record { 0 = 1 }) (canonical_file table (share_of firsts (suc n) s)) >>= λ other. merged before other >>= λ done. Ok done.1) (held_so_far n)
      ∙ ap (λ (opened : Result Replica Refusal). merged_up_to firsts whole n >>= λ before. opened >>= λ other. merged before other >>= λ done. Ok done.1) (opened_file table (share_of firsts (suc n) s) (written (suc n)))

  pub held_all : (n : ℕ) → map.len s.batches ≤ batch_limit → length firsts ≤ n → held_up_to firsts table s n ≡ Ok whole
  held_all n limit le = held_so_far n ∙ merged_all firsts whole limit n le
