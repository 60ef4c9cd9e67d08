use Rattle.std.proofs.Common.{◌≡◌, ℕ, ◌+◌, ℤ, List, ◌++◌, ◌∷◌, [], take, set, Result, Ok, FitsSigned, rules, arith, ap, sym, ◌∙◌}
use Rattle.std.specs.Int.{w64}
use Rattle.std.proofs.lemmas.Int.{to_z-of_z}
use Rattle.std.proofs.lemmas.List.{take_more_set}
use Rattle.std.proofs.lemmas.List.Elements.{All-push}
use Rattle.std.proofs.lemmas.Result.{err_from_is_err_and}
use Rattle.table_model.proofs.OrMemory.{or_memory}
use Rattle.bit_interleave.specs.Arithmetic.{integer_width}
use Rattle.table_model.specs.declared.refusal.Refusal.{Refusal}
use Rattle.segment_core.specs.Format.{signed}
use Rattle.segment_core.proofs.ReadAll.{goes_on, ends, is_done}
use Rattle.segment_core.proofs.formats.read_in_room.Goals as goal

pub returns-in_err-value-clause-read : goal.returns-in_err-value-clause-read
returns-in_err-value-clause-read g c =
    let p = err_from_is_err_and c.from_residual.result c.from_residual.ensures.1 in
    rw (p.1, p.2) (or_memory c.in_err-value.ensures.read (λ fault. ends (λ _. signed c.args.lane_width) c.args.count c.loop-i.i (take c.loop-i.i c.loop-i.room) c.args.total c.loop-i.rest.now c.in_err-value.field-0.0 _ c.loop-i-test.true fault c.loop-i.invariant.read))

pub loop-i-preserved : goal.loop-i-preserved
loop-i-preserved g c =
    let i = c.loop-i.i in
    let room = c.loop-i.room in
    let value = c.in_ok-value.value in
    let made : FitsSigned w64 value = search rules in
    let items : take (i + 1) (set room i _) ≡ take i room ++ value ∷ [] = ap (λ x. take (i + 1) (set room i x)) (to_z-of_z w64 value made) ∙ take_more_set room i value (omega (arith, c.loop-i.invariant.long, c.requires.many)) in
    record {
      long = search rules;
      read = rw items (goes_on (λ _. signed c.args.lane_width) c.args.count i (take i room) c.args.total c.loop-i.rest.now value c.in_ok-value.after.now _ c.loop-i-test.true c.in_ok-value.ensures.read c.loop-i.invariant.read);
      fit = rw items (All-push (FitsSigned (integer_width c.args.lane_width)) (take i room) value c.loop-i.invariant.fit c.in_ok-value.ensures.fits);
    }

pub returns-clause-read : goal.returns-clause-read
returns-clause-read g c =
    let room = c.loop-i.room in
    let rest = c.loop-i.rest.now in
    let every : c.loop-i.i ≡ c.args.count = omega (arith, c.loop-i-test.false, c.loop-i.auto.i-end) in
    let kept : take c.loop-i.i room ≡ c.in_ok-from_slice.field-0.values = ap (λ n. take n room) every ∙ sym (ap (λ v. v.values) c.in_ok-from_slice.ensures) in
    is_done (λ _. signed c.args.lane_width) c.args.count c.loop-i.i (take c.loop-i.i room) c.args.total rest _ c.loop-i-test.false c.loop-i.invariant.read
    ∙ ap (λ (xs : List ℤ). found xs rest) kept
  where
    found : List ℤ → List ℕ → Result (List ℤ × List ℕ) Refusal
    found xs rest = Ok (xs, rest)
