use Rattle.std.proofs.Common.{length-take, length-drop, arith, ◌∙◌, inl, inr, refl, ℕ, List}
use Rattle.folder_protocol.specs.Causes.{Fails}
use Rattle.folder_protocol.proofs.Lines.{goes_on, wrote_on, one_more}
use Rattle.folder_protocol.proofs.Causing.{take_none, follows_on, has_now, has_later, on_err}
use Rattle.folder_protocol.proofs.Linking.{plain_on}
use Rattle.folder_protocol.proofs.Removals.{removes_on}
use Rattle.folder_protocol.proofs.putting.write_all.Goals as goal

pub returns-in_err-taken-clause-fails : goal.returns-in_err-taken-clause-fails
returns-in_err-taken-clause-fails g c =
    on_err c.from_residual.result (has_later Fails _ _ _ c.loop-done.invariant.follows (has_now Fails _ _ _ c.in_err-taken.ensures.noted (inl refl)))

pub returns-then-taken-eq0-clause-fails : goal.returns-then-taken-eq0-clause-fails
returns-then-taken-eq0-clause-fails g c =
    has_later Fails _ _ _ c.loop-done.invariant.follows (has_now Fails _ _ _ c.in_ok-taken.ensures.noted (inr (take_none _ _ c.if-taken-eq0.true)))

pub returns-in_err-taken-clause-in_turn : goal.returns-in_err-taken-clause-in_turn
returns-in_err-taken-clause-in_turn g c = λ parts temporary was.
    let so_far = c.loop-done.invariant.told parts temporary was in
    goes_on parts _ _ _ _ so_far.0 c.in_err-taken.ensures.noted (temporary, _, so_far.1)

pub returns-then-taken-eq0-clause-in_turn : goal.returns-then-taken-eq0-clause-in_turn
returns-then-taken-eq0-clause-in_turn g c = λ parts temporary was.
    let so_far = c.loop-done.invariant.told parts temporary was in
    goes_on parts _ _ _ _ so_far.0 c.in_ok-taken.ensures.noted (temporary, _, so_far.1)

pub loop-done-preserved : goal.loop-done-preserved
loop-done-preserved g c = record {
  plain = plain_on _ _ _ _ c.loop-done.invariant.plain c.in_ok-taken.ensures.noted tt;
  unremoved = removes_on (λ (name : List ℕ). ⊥) _ _ _ _ c.loop-done.invariant.unremoved c.in_ok-taken.ensures.noted tt;
  follows = follows_on _ _ _ _ c.loop-done.invariant.follows c.in_ok-taken.ensures.noted;
  within =
      let bound = c.in_ok-taken.ensures.bound in
      omega (arith, c.loop-done.invariant.within, simp (length-take, length-drop) at bound);
  told = λ parts temporary was.
      let so_far = c.loop-done.invariant.told parts temporary was in (
        goes_on parts _ _ _ _ so_far.0 c.in_ok-taken.ensures.noted (temporary, _, so_far.1),
        wrote_on parts temporary _ _ _ _ so_far.1 c.in_ok-taken.ensures.noted ∙ one_more temporary c.args.bytes.now c.loop-done.done c.in_ok-taken.taken,
      );
}

pub returns-in_err-taken-clause-plain : goal.returns-in_err-taken-clause-plain
returns-in_err-taken-clause-plain g c = plain_on _ _ _ _ c.loop-done.invariant.plain c.in_err-taken.ensures.noted tt

pub returns-then-taken-eq0-clause-plain : goal.returns-then-taken-eq0-clause-plain
returns-then-taken-eq0-clause-plain g c = plain_on _ _ _ _ c.loop-done.invariant.plain c.in_ok-taken.ensures.noted tt

pub returns-clause-plain : goal.returns-clause-plain
returns-clause-plain g c = c.loop-done.invariant.plain

pub returns-in_err-taken-clause-unremoved : goal.returns-in_err-taken-clause-unremoved
returns-in_err-taken-clause-unremoved g c = removes_on (λ (name : List ℕ). ⊥) _ _ _ _ c.loop-done.invariant.unremoved c.in_err-taken.ensures.noted tt

pub returns-then-taken-eq0-clause-unremoved : goal.returns-then-taken-eq0-clause-unremoved
returns-then-taken-eq0-clause-unremoved g c = removes_on (λ (name : List ℕ). ⊥) _ _ _ _ c.loop-done.invariant.unremoved c.in_ok-taken.ensures.noted tt

pub returns-clause-unremoved : goal.returns-clause-unremoved
returns-clause-unremoved g c = c.loop-done.invariant.unremoved
