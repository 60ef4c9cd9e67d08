-- The set of the names of a map follows it: a name is in the set where the map has it.
use Rattle.std.specs.Prelude.{◌≡◌, Bool, true, false, cond, ◌||◌, Option, Some, None, is_some}
use Rattle.std.proofs.Common.{refl, sym, ap, ◌∙◌}
use Rattle.std.specs.Ordering.{eq_by_cmp}
use Rattle.std.specs.FinMap as map
use Rattle.std.specs.FinSet as set
use Rattle.table_model.specs.State.{union_of}
use Rattle.table_model.specs.Name.{name_cmp}
use Rattle.table_model.specs.declared.names.BatchName.{BatchName}
use Rattle.table_model.proofs.NameOrder.{names_total, exact_names}
use Rattle.table_model.proofs.Joins.{or_else, get-union}
use Rattle.replica_store.specs.Replica.{names_of}

module _ {X : Type 0} where
  pub contains-names_of : (m : map.FinMap name_cmp X) (q : BatchName) → set.contains (names_of m) q ≡ map.contains_key m q
  unfolding names_of
  contains-names_of m q = set.contains-from_list names_total (map.keys m) q ∙ sym (map.contains_key-keys m q)

  pub some_cond : (b : Bool) (v : X) (o : Option X) → is_some (cond b (Some v) o) ≡ (b || is_some o)
  some_cond true v o = refl
  some_cond false v o = refl

  some_or : (a b : Option X) → is_some (or_else a b) ≡ (is_some a || is_some b)
  some_or None b = refl
  some_or (Some v) b = refl

  pub names_of-insert : (m : map.FinMap name_cmp X) (k : BatchName) (v : X) → names_of (map.insert m k v) ≡ set.insert (names_of m) k
  names_of-insert m k v = set.same_set names_total exact_names _ _ (λ q.
      contains-names_of (map.insert m k v) q
      ∙ ap is_some (map.get-insert names_total m k v q)
      ∙ some_cond (eq_by_cmp name_cmp q k) v (map.get m q)
      ∙ sym (set.contains-insert names_total (names_of m) k q ∙ ap (λ b. eq_by_cmp name_cmp q k || b) (contains-names_of m q)))

  pub names_of-union : (m n : map.FinMap name_cmp X) → names_of (union_of m n) ≡ set.union (names_of m) (names_of n)
  names_of-union m n = set.same_set names_total exact_names _ _ (λ q.
      contains-names_of (union_of m n) q
      ∙ ap is_some (get-union m n q)
      ∙ some_or (map.get m q) (map.get n q)
      ∙ sym (set.contains-union names_total (names_of m) (names_of n) q ∙ λ i. contains-names_of m q i || contains-names_of n q i))

pub names_of-empty : (X : Type 0) → names_of (map.empty {X = X} {R = name_cmp}) ≡ set.empty
names_of-empty X = set.same_set names_total exact_names _ _ (λ q. contains-names_of (map.empty {X = X}) q ∙ ap is_some (map.get-empty name_cmp q) ∙ sym (set.contains-empty name_cmp q))
