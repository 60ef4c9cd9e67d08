-- Runs of numbers form a shape: names of two origins are never next to each other, so runs that touch are of one origin.
use Rattle.std.specs.Prelude.{◌≡◌, ℕ, ◌+◌, ◌<◌, true, false, ◌&&◌, nat_lt, min, max}
use Rattle.std.proofs.Common.{not, eqb, arith}
use Rattle.std.proofs.lemmas.Bool.{and_parts, and_from, ltb-true, ltb-false, lt-ltb}
use Rattle.std.proofs.lemmas.Bool.Decides.{nat_tests}
use Rattle.table_model.specs.Name.{is_proper_name}
use Rattle.catalogue_join.specs.Span.{IsShape, apart}
use Rattle.catalogue_join.specs.declared.run.Run.{Run}
use Rattle.catalogue_join.specs.Run.{name_place, is_named_run, run_shape}

-- the numbers of a run are within their bounds
pub record HasBounds (r : Run) : Type 0 where
  pub proper : is_proper_name r.first ≡ true
  pub origin : r.first.origin.0 < 4294967296
  pub number : r.first.number.0 < 4294967296
  pub last : r.last.0 < 4294967296

-- a run that is named so is within these bounds
pub bounds_of : (r : Run) → is_named_run r ≡ true → HasBounds r
bounds_of r named =
    let a = and_parts (is_proper_name r.first) (nat_lt r.first.origin.0 4294967296 && (nat_lt r.first.number.0 4294967296 && nat_lt r.last.0 4294967296)) named in
    let b = and_parts (nat_lt r.first.origin.0 4294967296) (nat_lt r.first.number.0 4294967296 && nat_lt r.last.0 4294967296) a.1 in
    let c = and_parts (nat_lt r.first.number.0 4294967296) (nat_lt r.last.0 4294967296) b.1 in
    record {
      proper = a.0;
      origin = ltb-true r.first.origin.0 4294967296 b.0;
      number = ltb-true r.first.number.0 4294967296 c.0;
      last = ltb-true r.last.0 4294967296 c.1;
    }

-- a run within these bounds is named so
pub named_from : (r : Run) → HasBounds r → is_named_run r ≡ true
named_from r b =
    and_from (is_proper_name r.first) (nat_lt r.first.origin.0 4294967296 && (nat_lt r.first.number.0 4294967296 && nat_lt r.last.0 4294967296)) b.proper
    (and_from (nat_lt r.first.origin.0 4294967296) (nat_lt r.first.number.0 4294967296 && nat_lt r.last.0 4294967296) (lt-ltb r.first.origin.0 4294967296 b.origin)
    (and_from (nat_lt r.first.number.0 4294967296) (nat_lt r.last.0 4294967296) (lt-ltb r.first.number.0 4294967296 b.number) (lt-ltb r.last.0 4294967296 b.last)))

low_is : (r q : Run) → is_named_run r ≡ true → is_named_run q ≡ true → apart run_shape r q ≡ false → apart run_shape q r ≡ false → name_place r.first.origin (min r.first.number.0 q.first.number.0) ≡ min (name_place r.first.origin r.first.number.0) (name_place q.first.origin q.first.number.0)
low_is r q n m e f =
    let a = bounds_of r n in
    let b = bounds_of q m in
    let g = ltb-false (run_shape.high r + 1) (run_shape.low q) e in
    let h = ltb-false (run_shape.high q + 1) (run_shape.low r) f in
    omega arith

high_is : (r q : Run) → is_named_run r ≡ true → is_named_run q ≡ true → apart run_shape r q ≡ false → apart run_shape q r ≡ false → name_place r.first.origin (max r.last.0 q.last.0) ≡ max (name_place r.first.origin r.last.0) (name_place q.first.origin q.last.0)
high_is r q n m e f =
    let a = bounds_of r n in
    let b = bounds_of q m in
    let g = ltb-false (run_shape.high r + 1) (run_shape.low q) e in
    let h = ltb-false (run_shape.high q + 1) (run_shape.low r) f in
    omega arith

-- the lesser of two numbers that are at least 1 is at least 1
lesser_proper : (o n o' n' : ℕ) → (not (eqb o 0) && not (eqb n 0)) ≡ true → (not (eqb o' 0) && not (eqb n' 0)) ≡ true → (not (eqb o 0) && not (eqb (min n n') 0)) ≡ true
lesser_proper o n o' n' h k = grind (arith, nat_tests)

named_is : (r q : Run) → is_named_run r ≡ true → is_named_run q ≡ true → is_named_run (run_shape.hull r q) ≡ true
named_is r q n m =
    let a = bounds_of r n in
    let b = bounds_of q m in
    named_from (run_shape.hull r q) (record {
      proper = lesser_proper r.first.origin.0 r.first.number.0 q.first.origin.0 q.first.number.0 a.proper b.proper;
      origin = a.origin;
      number = omega arith;
      last = omega arith;
    })

same_is : (r q : Run) → is_named_run r ≡ true → is_named_run q ≡ true → run_shape.low r ≡ run_shape.low q → run_shape.high r ≡ run_shape.high q → r ≡ q
same_is r q n m low high =
    let a = bounds_of r n in
    let b = bounds_of q m in
    let origin : r.first.origin.0 ≡ q.first.origin.0 = omega arith in
    let number : r.first.number.0 ≡ q.first.number.0 = omega arith in
    let last : r.last.0 ≡ q.last.0 = omega arith in
    λ i. record { first = record { origin = record { 0 = origin i }; number = record { 0 = number i } }; last = record { 0 = last i } }

-- runs that touch are of one origin, so their hull has the lesser first number and the greater last one
pub run_IsShape : IsShape run_shape
run_IsShape = record { low_hull = low_is; high_hull = high_is; named_hull = named_is; same = same_is }
