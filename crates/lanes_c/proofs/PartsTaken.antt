-- What a forget of parts begins.
use Rattle.std.specs.Prelude.{◌≡◌, ℕ, List, [], MatchOption, Option, Some, None, Ok}
use Rattle.std.proofs.Common.{sym, ap, subst, ◌∙◌}
use Rattle.folder_turns.specs.Orders.{matter_of}
use Rattle.folder_turns.specs.Turns.{State}
use Rattle.folder_turns.specs.declared.order.Order.{Order}
use Rattle.replica_changes.specs.Forgetting.{forgetting}
use Rattle.lanes_c.specs.PartsOrders as parts
use Rattle.lanes_c.specs.declared.read_parts.Forget.{Forget}
use Rattle.lanes_c.specs.PartsHandles.{Read}
use Rattle.lanes_c.specs.PartsRead.{Forgets, state_replacing, turn_of}

-- no batch is dropped
pub forgets_none : (f : Forget) (was : Read) (temporary text : List ℕ) (batches : ℕ) → f.order ≡ None → batches ≡ f.dropped.batches → parts.Forgets f text was.0 was.1 → Forgets (Ok (batches, None)) temporary was
forgets_none f was temporary text batches none count (left, made, order) = (
  left,
  f.dropped.rows,
  subst (λ (n : ℕ). forgetting was.0 ≡ Ok ((n, f.dropped.rows), left)) (sym count) made,
  count ∙ subst (λ (o : Option Order). MatchOption o (f.dropped.batches ≡ 0) (λ order. parts.Replaces order text left was.1)) none order,
)

-- some are, and there is a turn
pub forgets_some : (f : Forget) (order : Order) (was : Read) (temporary text : List ℕ) (batches : ℕ) (state : State) → f.order ≡ Some order → batches ≡ f.dropped.batches → text ≡ temporary → state ≡ turn_of order
    → parts.Forgets f text was.0 was.1 → MatchOption f.order (Unit {0}) (λ order. parts.MayFollow order.task (matter_of order) was.1) → Forgets (Ok (batches, Some state)) temporary was
forgets_some f order was temporary text batches state some count same is (left, made, ordered) may =
    let put = subst (λ (o : Option Order). MatchOption o (f.dropped.batches ≡ 0) (λ order. parts.Replaces order text left was.1)) some ordered in
    let follows = subst (λ (o : Option Order). MatchOption o (Unit {0}) (λ order. parts.MayFollow order.task (matter_of order) was.1)) some may in
    let begun : turn_of order ≡ state_replacing text left was.1 = λ i. record { task = put.0 i; matter = put.1 i; calls = []; asked = None; listed = [] } in (
      left,
      f.dropped.rows,
      subst (λ (n : ℕ). forgetting was.0 ≡ Ok ((n, f.dropped.rows), left)) (sym count) made,
      (is ∙ begun ∙ ap (λ (t : List ℕ). state_replacing t left was.1) same, subst (λ (s : State). parts.MayFollow s.task s.matter was.1) (sym is) follows),
    )
