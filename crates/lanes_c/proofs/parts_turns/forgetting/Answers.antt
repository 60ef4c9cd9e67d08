-- A forget that drops nothing begins no turn, and another one the turn of its order.
use Rattle.std.specs.Prelude.{string_bytes}
use Rattle.folder_turns.specs.Turns.{state_of}
use Rattle.lanes_c.specs.PartsHandles.{Read}
use Rattle.lanes_c.specs.PartsRead.{Forgets, turn_of}
use Rattle.std.proofs.Common.{refl, ap, ◌∙◌, subst, None, Some, Ok}
use Rattle.lanes_c.proofs.PartsTaken.{forgets_none, forgets_some}
use Rattle.lanes_c.proofs.parts_turns.forgetting.Goals as goal

pub returns-in-None : goal.returns-in-None
returns-in-None c =
    subst (λ (w : Read). Forgets (Ok (c.in_ok-forget.forget.dropped.batches, None)) c.args.temporary.now w) c.into_inner.ensures
    (forgets_none c.in_ok-forget.forget c.into_inner.result c.args.temporary.now (string_bytes c.in_ok-temporary.temporary) c.in_ok-forget.forget.dropped.batches c.in-None.is refl c.in_ok-forget.ensures.forgot)

pub returns-in_ok-begun-in-Some : goal.returns-in_ok-begun-in-Some
returns-in_ok-begun-in-Some c =
    subst (λ (w : Read). Forgets (Ok (c.in_ok-forget.forget.dropped.batches, Some (state_of c.in_ok-begun-in-Some.field-0.value))) c.args.temporary.now w) c.into_inner.ensures
    (forgets_some c.in_ok-forget.forget c.in-Some.order c.into_inner.result c.args.temporary.now (string_bytes c.in_ok-temporary.temporary) c.in_ok-forget.forget.dropped.batches (state_of c.in_ok-begun-in-Some.field-0.value) c.in-Some.is refl
    c.in_ok-temporary.ensures.text (c.in_ok-begun-in-Some.ensures.turn ∙ ap turn_of c.in-Some.order-is) c.in_ok-forget.ensures.forgot c.in_ok-forget.ensures.in_turn)
