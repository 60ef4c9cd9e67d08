-- The bytes of a summary's parts, and what is true of one that was read.
use Rattle.std.proofs.Common.{◌≡◌, ℕ, ◌≤◌, ◌&&◌, eqb, leb, List, [], ◌∷◌, ◌++◌, length, codes, Ok, Err, cond, true, ◌-◌, IsTrue, All, refl, ◌∙◌, arith}
use Rattle.std.specs.List.{AllByRecursion}
use Rattle.std.specs.FinSet as set
use Rattle.std.proofs.lemmas.Bool.{and_parts, eqb-true, leb-true}
use Rattle.std.proofs.lemmas.List.Elements.{All-from_recursion}
use Rattle.table_model.specs.Name.{name_cmp, is_proper_name}
use Rattle.table_model.specs.Table.{Table}
use Rattle.table_model.specs.declared.names.BatchName.{BatchName}
use Rattle.table_model.specs.declared.refusal.Refusal.TheVariants.{TrailingBytes}
use Rattle.segment_core.specs.Format.{Format, AreBytes, number, all, valid_all, read_whole}
use Rattle.segment_core.proofs.FormatLaws.{bind_ok, guard_ok}
use Rattle.replica_store.specs.Exchange.{AreListable}
use Rattle.replica_store.specs.Replica.{batch_limit}
use Rattle.replica_store.proofs.Summaries.{len-from_list}
use Rattle.column_file.specs.SchemaBytes.{schema, version_of}
use Rattle.column_file.specs.SummaryBytes.{version, head, any_name, proper_name, is_after, batch_name, name_count, names, summary}
use Rattle.column_file.proofs.SummaryLaws.{summary_is_lawful}
use Rattle.column_file.proofs.OrderedLists.{proper-from_list}

-- ---- the bytes

pub head_spelled : (magic : List ℕ) (t : Table) → (head magic).spell t ≡ magic ++ ((number 2).spell (version_of t) ++ (schema (version_of t)).spell t)
unfolding head version
head_spelled magic t = refl

pub batch_name_spelled : (front : List BatchName) (n : BatchName) → (batch_name front).spell n ≡ (number 4).spell n.origin.0 ++ (number 4).spell n.number.0
unfolding batch_name proper_name any_name
batch_name_spelled front n = refl

pub names_spelled : (xs : List BatchName) → names.spell xs ≡ (number 4).spell (length xs) ++ (all (length xs) batch_name).spell xs
unfolding names name_count
names_spelled xs = refl

pub summary_spelled : (t : Table) (xs : List BatchName) → summary.spell (t, xs) ≡ (head (codes "FLSM")).spell t ++ names.spell xs
unfolding summary
summary_spelled t xs = refl

-- ---- what was read

-- what was read whole was read to the end
pub whole_read : {A : Type 0} (f : Format A) (bytes : List ℕ) (x : A) → read_whole f bytes ≡ Ok x → f.read (length bytes) bytes ≡ Ok (x, [])
whole_read {A = A} f bytes x is =
    let a = bind_ok (f.read (length bytes) bytes) (λ (y : A × List ℕ). cond (eqb (length y.1) 0) (Ok y.0) (Err (TrailingBytes (length bytes - length y.1)))) x is in
    let g = guard_ok {A = A} (eqb (length a.0.1) 0) (TrailingBytes (length bytes - length a.0.1)) a.0.0 x a.2 in
    let none : a.0.1 ≡ [] = empty a.0.1 (eqb-true _ _ g.0) in
    a.1 ∙ (λ i. Ok (g.1 i, none i))
  where
    empty : (xs : List ℕ) → length xs ≡ 0 → xs ≡ []
    empty [] e = refl
    empty (y ∷ xs) e = absurd (omega (arith, e))

each_proper : (front xs : List BatchName) → valid_all batch_name front xs ≡ true → AllByRecursion (λ name. IsTrue (is_proper_name name)) xs
unfolding valid_all batch_name proper_name
each_proper front [] valid = tt
each_proper front (x ∷ xs) valid =
    let v = and_parts (((any_name.valid x && is_proper_name x) && is_after front x)) (valid_all batch_name (front ++ x ∷ []) xs) valid in
    let w = and_parts (any_name.valid x && is_proper_name x) (is_after front x) v.0 in
    ((and_parts (any_name.valid x) (is_proper_name x) w.0).1, each_proper (front ++ x ∷ []) xs v.1)

-- the names of a summary that was read are not too many, and each is proper
pub names_read : (bytes : List ℕ) (t : Table) (xs : List BatchName) → AreBytes bytes → read_whole summary bytes ≡ Ok (t, xs) → (length xs ≤ batch_limit) × All (λ name. IsTrue (is_proper_name name)) xs
unfolding summary names name_count
names_read bytes t xs fit is =
    let n = length xs in
    let valid = (summary_is_lawful.takes (length bytes) bytes (t, xs) [] fit (whole_read summary bytes (t, xs) is)).1 in
    let a = and_parts ((head (codes "FLSM")).valid t) (((number 4).valid n && leb n batch_limit) && (eqb n n && valid_all batch_name [] xs)) valid in
    let b = and_parts ((number 4).valid n && leb n batch_limit) (eqb n n && valid_all batch_name [] xs) a.1 in
    let c = and_parts ((number 4).valid n) (leb n batch_limit) b.0 in
    let d = and_parts (eqb n n) (valid_all batch_name [] xs) b.1 in
    (leb-true _ _ c.1, All-from_recursion (λ name. IsTrue (is_proper_name name)) xs (each_proper [] xs d.1))

-- so their set may be a summary's
pub listable : (bytes : List ℕ) (t : Table) (xs : List BatchName) → AreBytes bytes → read_whole summary bytes ≡ Ok (t, xs) → AreListable (set.from_list {R = name_cmp} xs)
listable bytes t xs fit is =
    let h = names_read bytes t xs fit is in
    record {
      limit = (let few = len-from_list xs in let limit = h.0 in omega arith);
      proper = proper-from_list xs h.1;
    }
