use Rattle.std.proofs.Common.{refl, ap, ℕ, List, map, sym, subst, ⊎_elim, inl, inr, ◌∙◌}
use Rattle.folder_model.specs.Disk.{Among}
use Rattle.std.specs.String.{string_bytes}
use Rattle.folder_protocol.specs.Causes.{Fails}
use Rattle.folder_protocol.proofs.Causing.{follows_on, has_now, has_later, on_err}
use Rattle.folder_protocol.proofs.Lines.{removes_on, among_map, one_removed}
use Rattle.folder_protocol.proofs.ReadLines.{among_more, among_all}
use Rattle.folder_model.specs.Call.{Call}
use Rattle.folder_model.specs.Turn.{stage_of}
use Rattle.folder_protocol.proofs.Linking.{plain_on}
use Rattle.folder_protocol.proofs.Removals.{once_on}
use Rattle.folder_protocol.specs.Removing.{IsReplaced}
use Rattle.folder_protocol.proofs.removing.remove_each.Goals as goal

pub returns-in_err-remove-clause-in_turn : goal.returns-in_err-remove-clause-in_turn
returns-in_err-remove-clause-in_turn g c = λ parts packed guarded all.
    let so_far = c.loop-at.invariant.told parts packed guarded all in
    (removes_on parts packed _ _ _ _ _ so_far.0 so_far.1 (all _ (subst (λ (n : List ℕ). Among n (map string_bytes c.args.joined.now)) (sym c.as_str.ensures.value) (among_map string_bytes c.args.joined.now c.loop-at.at c.index-joined-at.result c.loop-at-test.true (sym c.index-joined-at.is)))) c.remove.ensures).0

pub loop-at-preserved : goal.loop-at-preserved
loop-at-preserved g c = record {
  stays = λ parts. ap (λ (l : List Call). stage_of parts l) c.remove.ensures ∙ c.loop-at.invariant.stays parts;
  plain = plain_on _ _ _ _ c.loop-at.invariant.plain c.remove.ensures tt;
  follows = follows_on _ _ _ _ c.loop-at.invariant.follows c.remove.ensures;
  told = λ parts packed guarded all.
      let so_far = c.loop-at.invariant.told parts packed guarded all in
      removes_on parts packed _ _ _ _ _ so_far.0 so_far.1 (all _ (subst (λ (n : List ℕ). Among n (map string_bytes c.args.joined.now)) (sym c.as_str.ensures.value) (among_map string_bytes c.args.joined.now c.loop-at.at c.index-joined-at.result c.loop-at-test.true (sym c.index-joined-at.is)))) c.remove.ensures;
  removes = λ parts packed guarded.
      once_on (IsReplaced parts packed (map string_bytes c.args.joined.now)) _ _ _ _ (c.loop-at.invariant.removes parts packed guarded) c.remove.ensures
      (subst (λ (n : List ℕ). Among n (map string_bytes c.args.joined.now)) (sym c.as_str.ensures.value) (among_map string_bytes c.args.joined.now c.loop-at.at c.index-joined-at.result c.loop-at-test.true (sym c.index-joined-at.is)), c.loop-at.invariant.stays parts ∙ guarded);
  gone = one_removed _ _ _ _ _ _ c.loop-at.invariant.gone c.in_ok-remove.ensures (λ other among. ⊎_elim
      (λ a. inl a)
      (λ is. inr (is ∙ sym c.as_str.ensures.value))
      (among_more string_bytes c.args.joined.now c.loop-at.at c.index-joined-at.result other c.loop-at-test.true (sym c.index-joined-at.is) among));
}

pub returns-clause-gone : goal.returns-clause-gone
returns-clause-gone g c =
    let all = c.loop-at.invariant.gone in
    (all.0, all.1, λ name among. all.2 name (among_all string_bytes c.args.joined.now c.loop-at.at name c.loop-at-test.false among))

pub returns-in_err-remove-clause-fails : goal.returns-in_err-remove-clause-fails
returns-in_err-remove-clause-fails g c = on_err c.from_residual.result (has_later Fails _ _ _ c.loop-at.invariant.follows (has_now Fails _ _ _ c.in_err-remove.ensures refl))

pub returns-in_err-remove-clause-stays : goal.returns-in_err-remove-clause-stays
returns-in_err-remove-clause-stays g c = λ parts. ap (λ (l : List Call). stage_of parts l) c.remove.ensures ∙ c.loop-at.invariant.stays parts

pub returns-in_err-remove-clause-plain : goal.returns-in_err-remove-clause-plain
returns-in_err-remove-clause-plain g c = plain_on _ _ _ _ c.loop-at.invariant.plain c.remove.ensures tt

pub returns-clause-stays : goal.returns-clause-stays
returns-clause-stays g c = λ parts. c.loop-at.invariant.stays parts

pub returns-clause-plain : goal.returns-clause-plain
returns-clause-plain g c = c.loop-at.invariant.plain

pub returns-in_err-remove-clause-removes : goal.returns-in_err-remove-clause-removes
returns-in_err-remove-clause-removes g c = λ parts packed guarded.
    once_on (IsReplaced parts packed (map string_bytes c.args.joined.now)) _ _ _ _ (c.loop-at.invariant.removes parts packed guarded) c.remove.ensures
    (subst (λ (n : List ℕ). Among n (map string_bytes c.args.joined.now)) (sym c.as_str.ensures.value) (among_map string_bytes c.args.joined.now c.loop-at.at c.index-joined-at.result c.loop-at-test.true (sym c.index-joined-at.is)), c.loop-at.invariant.stays parts ∙ guarded)

pub returns-clause-removes : goal.returns-clause-removes
returns-clause-removes g c = λ parts packed guarded. c.loop-at.invariant.removes parts packed guarded
