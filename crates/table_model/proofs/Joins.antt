-- What a union of maps has at a name is what the first has there, else what the second has; so the laws are those of a choice.
use Rattle.std.specs.Prelude.{◌≡◌, List, [], ◌∷◌, ◌++◌, Option, Some, None, Bool, true, false, cond, ◌||◌}
use Rattle.std.proofs.Common.{refl, sym, ap, ◌∙◌}
use Rattle.std.proofs.Math.Bool.{or_assoc, or_comm, or_self}
use Rattle.std.specs.Ordering.{eq_by_cmp}
use Rattle.std.specs.FinMap as map
use Rattle.std.specs.FinSet as set
use Rattle.table_model.specs.Name.{name_cmp, row_name_cmp}
use Rattle.table_model.specs.State.{State, Batch, Agree, union_of, join, JoinLaws}
pub use Rattle.table_model.specs.Table.{or_else}
use Rattle.table_model.specs.declared.names.BatchName.{BatchName}
use Rattle.table_model.proofs.NameOrder.{names_total, row_names_total, exact_names, exact_row_names}

pub find-append : {X : Type 0} (es fs : List (BatchName × X)) (q : BatchName) → map.find name_cmp q (es ++ fs) ≡ or_else (map.find name_cmp q es) (map.find name_cmp q fs)
find-append [] fs q = refl
find-append (e ∷ es) fs q =
    elim (eq_by_cmp name_cmp q e.0) as (λ b. cond b (Some e.1) (map.find name_cmp q (es ++ fs)) ≡ or_else (cond b (Some e.1) (map.find name_cmp q es)) (map.find name_cmp q fs)) [
      | true ↦ refl
      | false ↦ find-append es fs q
    ]

pub get-union : {X : Type 0} (m n : map.FinMap name_cmp X) (q : BatchName) → map.get (union_of m n) q ≡ or_else (map.get m q) (map.get n q)
unfolding union_of
get-union m n q =
    map.get-from_entries names_total (map.entries m ++ map.entries n) q
    ∙ find-append (map.entries m) (map.entries n) q
    ∙ sym (λ i. or_else (map.get-entries m q i) (map.get-entries n q i))

or_else-associative : {X : Type 0} (a b c : Option X) → or_else (or_else a b) c ≡ or_else a (or_else b c)
or_else-associative None b c = refl
or_else-associative (Some x) b c = refl

pub or_else-idempotent : {X : Type 0} (a : Option X) → or_else a a ≡ a
or_else-idempotent None = refl
or_else-idempotent (Some x) = refl

pub or_else-commutes : {X : Type 0} (a b : Option X) → ((x y : X) → a ≡ Some x → b ≡ Some y → x ≡ y) → or_else a b ≡ or_else b a
or_else-commutes None None same = refl
or_else-commutes None (Some y) same = refl
or_else-commutes (Some x) None same = refl
or_else-commutes (Some x) (Some y) same = ap Some (same x y refl refl)

or_else-again : {X : Type 0} (a b : Option X) → or_else (or_else a b) b ≡ or_else a b
or_else-again None None = refl
or_else-again None (Some y) = refl
or_else-again (Some x) b = refl

-- states with the same maps and sets are the same
pub same_states : (s t : State) → s.batches ≡ t.batches → s.deleted ≡ t.deleted → s ≡ t
same_states s t e f = λ i. record { batches = e i; deleted = f i }

-- two maps that answer alike are one
pub same_maps : {X : Type 0} (m n : map.FinMap name_cmp X) → ((q : BatchName) → map.get m q ≡ map.get n q) → m ≡ n
same_maps m n alike = map.same_map names_total exact_names m n alike

or-again : (a b : Bool) → ((a || b) || b) ≡ (a || b)
or-again true b = refl
or-again false b = or_self b

module _ (s t u : set.FinSet row_name_cmp) where
  union-commutes : set.union s t ≡ set.union t s
  union-commutes = set.same_set row_names_total exact_row_names _ _ (λ q.
      set.contains-union row_names_total s t q ∙ or_comm (set.contains s q) (set.contains t q) ∙ sym (set.contains-union row_names_total t s q))

  union-associative : set.union (set.union s t) u ≡ set.union s (set.union t u)
  union-associative = set.same_set row_names_total exact_row_names _ _ (λ q.
      set.contains-union row_names_total (set.union s t) u q
      ∙ ap (λ b. b || set.contains u q) (set.contains-union row_names_total s t q)
      ∙ or_assoc (set.contains s q) (set.contains t q) (set.contains u q)
      ∙ sym (set.contains-union row_names_total s (set.union t u) q ∙ ap (λ b. set.contains s q || b) (set.contains-union row_names_total t u q)))

  union-idempotent : set.union s s ≡ s
  union-idempotent = set.same_set row_names_total exact_row_names _ _ (λ q. set.contains-union row_names_total s s q ∙ or_self _)

  union-again : set.union (set.union s t) t ≡ set.union s t
  union-again = set.same_set row_names_total exact_row_names _ _ (λ q.
      set.contains-union row_names_total (set.union s t) t q
      ∙ ap (λ b. b || set.contains t q) (set.contains-union row_names_total s t q)
      ∙ or-again (set.contains s q) (set.contains t q)
      ∙ sym (set.contains-union row_names_total s t q))

pub join-commutative : (s t : State) → Agree s t → join s t ≡ join t s
join-commutative s t agree = same_states _ _
    (same_maps _ _ (λ q. get-union s.batches t.batches q ∙ or_else-commutes _ _ (agree q) ∙ sym (get-union t.batches s.batches q)))
    (union-commutes s.deleted t.deleted t.deleted)

pub join-associative : (s t u : State) → join (join s t) u ≡ join s (join t u)
join-associative s t u = same_states _ _
    (same_maps _ _ (λ q.
    get-union (union_of s.batches t.batches) u.batches q
    ∙ ap (λ a. or_else a (map.get u.batches q)) (get-union s.batches t.batches q)
    ∙ or_else-associative (map.get s.batches q) (map.get t.batches q) (map.get u.batches q)
    ∙ sym (get-union s.batches (union_of t.batches u.batches) q ∙ ap (or_else (map.get s.batches q)) (get-union t.batches u.batches q))))
    (union-associative s.deleted t.deleted u.deleted)

pub join-idempotent : (s : State) → join s s ≡ s
join-idempotent s = same_states _ _
    (same_maps _ _ (λ q. get-union s.batches s.batches q ∙ or_else-idempotent _))
    (union-idempotent s.deleted s.deleted s.deleted)

pub join-again : (s t : State) → join (join s t) t ≡ join s t
join-again s t = same_states _ _
    (same_maps _ _ (λ q.
    get-union (union_of s.batches t.batches) t.batches q
    ∙ ap (λ a. or_else a (map.get t.batches q)) (get-union s.batches t.batches q)
    ∙ or_else-again (map.get s.batches q) (map.get t.batches q)
    ∙ sym (get-union s.batches t.batches q)))
    (union-again s.deleted t.deleted t.deleted)

chosen_agrees : (a b : Option Batch) (x y : Batch) → ((x y : Batch) → a ≡ Some x → b ≡ Some y → x ≡ y) → or_else a b ≡ Some x → b ≡ Some y → x ≡ y
chosen_agrees None b x y same is at = cc
chosen_agrees (Some z) b x y same is at = let same_z : z ≡ x = cc in sym same_z ∙ same z y refl at

pub join-agree : (s t : State) → Agree s t → Agree (join s t) t
join-agree s t agree name a b has at = chosen_agrees (map.get s.batches name) (map.get t.batches name) a b (agree name) (sym (get-union s.batches t.batches name) ∙ has) at

pub joins : JoinLaws
joins = record { commutative = join-commutative; associative = join-associative; idempotent = join-idempotent; again = join-again; agree = join-agree }
