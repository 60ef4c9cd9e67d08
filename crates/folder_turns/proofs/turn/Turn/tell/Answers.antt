-- One call more was told.
use Rattle.std.proofs.Common.{sym, ◌∙◌, subst, option_map}
use Rattle.folder_turns.specs.Calls.{call_asked}
use Rattle.folder_turns.specs.Guarding.{HasGuard}
use Rattle.folder_turns.specs.declared.guarding.Guard.{Guard}
use Rattle.folder_turns.proofs.Guards.{guard_more, told_as}
use Rattle.folder_turns.proofs.Runs.{told_asked}
use Rattle.folder_turns.proofs.turn.Turn.tell.Goals as goal

pub returns-in_ok-push-in-Some-clause-calls : goal.returns-in_ok-push-in-Some-clause-calls
returns-in_ok-push-in-Some-clause-calls c =
    let turn = c.args.self.now in
    told_as (option_map (call_asked turn.order.bytes.items) turn.asked) _ _ _ c.remembered-answer.result c.args.answer c.remembered-answer.ensures
    (told_asked turn.order.bytes.items turn.told.items c.push.new.self.items turn.asked c.in-Some.request c.remembered-answer.result
    (sym c.take.ensures.value ∙ c.in-Some.is) c.in_ok-push-in-Some.ensures.items)

pub invariant_of-self-in-Some : goal.invariant_of-self-in-Some
invariant_of-self-in-Some c =
    let turn = c.args.self.now in record {
      is_guarded = subst (λ (g : Guard). HasGuard turn.order c.push.new.self.items g) (sym (c.after-guard.ensures turn.order.bytes.items))
          (guard_more turn.order turn.told.items c.push.new.self.items c.in-Some.request c.args.answer c.remembered-answer.result c.is_its_part-is_part.result turn.guard
          c.is_its_part-is_part.ensures c.remembered-answer.ensures c.in_ok-push-in-Some.ensures.items turn.is_guarded);
    }
