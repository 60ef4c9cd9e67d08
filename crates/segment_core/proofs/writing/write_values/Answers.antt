-- One more value is written after those so far.
use Rattle.std.proofs.Common.{rules, ◌∙◌, [], ℤ, pos, FitsSigned, refl}
use Rattle.std.specs.Int.{w64}
use Rattle.std.proofs.lemmas.Int.{to_z-of_z}
use Rattle.std.proofs.lemmas.Result.{err_from_is_err_and}
use Rattle.segment_core.specs.Format.{signed}
use Rattle.segment_core.proofs.Writings.{appends_none, spell_all-nil, item_done, item_fault}
use Rattle.segment_core.proofs.writing.write_values.Goals as goal

pub loop-i-init : goal.loop-i-init
loop-i-init g c = record {
  written = rw (spell_all-nil {A = ℤ} (λ _. signed c.lane_width-lane_width.result) []) (appends_none (g.W.Write.contents c.args.writer.now.0));
  kept = refl;
}

pub loop-i-preserved : goal.loop-i-preserved
loop-i-preserved g c =
    let made : FitsSigned w64 c.get.result = search rules in
    let h = rw (to_z-of_z w64 c.get.result made, c.get.ensures.value) at c.in_ok-write_value.ensures in
    record {
      written = item_done {A = ℤ} (λ _. signed c.lane_width-lane_width.result) c.args.values.now.values c.loop-i.i (pos 0) (g.W.Write.contents c.args.writer.now.0) (g.W.Write.contents c.loop-i.writer.0) (g.W.Write.contents c.write_value.new.writer.0)
          (rw c.len-i-end.ensures at c.loop-i-test.true) c.loop-i.invariant.written h.0;
      kept = h.1 ∙ c.loop-i.invariant.kept;
    }

pub returns-in_err-write_value : goal.returns-in_err-write_value
returns-in_err-write_value g c =
    let p = err_from_is_err_and c.from_residual.result c.from_residual.ensures.1 in
    let made : FitsSigned w64 c.get.result = search rules in
    let h = rw (to_z-of_z w64 c.get.result made, c.get.ensures.value, c.lane_width-lane_width.ensures.value) at c.in_err-write_value.ensures in
    let so_far = rw (c.lane_width-lane_width.ensures.value) at c.loop-i.invariant.written in
    item_fault {A = ℤ} (λ _. signed c.args.values.now.lane_width) c.args.values.now.values c.loop-i.i (pos 0) c.from_residual.result c.in_err-write_value.field-0.0
    (g.W.Write.contents c.args.writer.now.0) (g.W.Write.contents c.loop-i.writer.0) (g.W.Write.contents c.write_value.new.writer.0) c.args.writer.now.1 c.loop-i.writer.1 c.write_value.new.writer.1
    (rw c.len-i-end.ensures at c.loop-i-test.true) (rw (← p.2) p.1) so_far c.loop-i.invariant.kept h
