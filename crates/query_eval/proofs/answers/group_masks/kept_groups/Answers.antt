-- One mask more, and in the end each group is in one.
use Rattle.std.proofs.Common.{◌≡◌, ◌*◌, ◌-◌, ◌<◌, ℕ, Bool, List, ◌∷◌, [], drop, length, length-append, take, ap, subst, arith}
use Rattle.std.proofs.lemmas.List.{length-drop, take_all}
use Rattle.table_model.specs.Meaning.{is_kept}
use Rattle.transpose_order.specs.Mask.{has}
use Rattle.query_eval.specs.FieldPlaces.{group_at}
use Rattle.query_eval.specs.Finished.{GroupFields, seen_operand}
use Rattle.query_eval.proofs.HavingLemmas.{masks_more}
use Rattle.query_eval.proofs.answers.group_masks.kept_groups.Goals as goal

pub loop-block-preserved : goal.loop-block-preserved
loop-block-preserved c =
    let inv = c.loop-block.invariant in
    let first = 1024 * c.loop-block.block in
    let groups = c.args.groups.now in
    let kept : GroupFields → Bool = λ group. is_kept c.args.having.now (seen_operand c.args.schema.now.columns c.args.plan.now group) in
    let rest : take (length groups - first) (drop first groups) ≡ drop first groups = take_all (length groups - first) (drop first groups) (omega (arith, length-drop first groups)) in
    let here = subst (λ (gs : List GroupFields). (n : ℕ) → n < 1024 → n < length gs → has c.in_ok-mask.mask n ≡ kept (group_at gs n)) rest c.in_ok-mask.ensures in
    record {
      size = omega (arith, inv.size, ap length c.in_ok-push.ensures.items, length-append c.loop-block.masks.items (c.in_ok-mask.mask ∷ []));
      kept = masks_more kept groups c.loop-block.block c.loop-block.masks.items c.push.new.self.items c.in_ok-mask.mask inv.size c.in_ok-push.ensures.items inv.kept here;
    }
