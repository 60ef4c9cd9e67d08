-- One after another is read and synced, and then the folder is.
use Rattle.std.proofs.Common.{sym, ◌∙◌, ⊎_elim, subst, arith, map}
use Rattle.folder_protocol.specs.Causes.{Fails}
use Rattle.folder_protocol.specs.Keeping.{IsSyncedOrGone}
use Rattle.folder_protocol.proofs.Causing.{follows_none, has_later, on_err}
use Rattle.folder_protocol.proofs.Kept.{any_parts, one_between, all_settled, settle_fails, read_since, relied_since, relied_settled}
use Rattle.folder_protocol.proofs.Lines.{joins, settles_on}
use Rattle.folder_protocol.proofs.ReadLines.{among_more, among_all}
use Rattle.std.specs.String.{string_bytes}
use Rattle.folder_protocol.proofs.Linking.{plain_on, plain_more}
use Rattle.folder_protocol.proofs.keeping.keep_all.Goals as goal

pub returns-in_err-keep_one-clause-in_turn : goal.returns-in_err-keep_one-clause-in_turn
returns-in_err-keep_one-clause-in_turn g c = λ parts. joins parts _ _ _ (c.loop-at.invariant.goes parts) (c.keep_one.ensures.in_turn parts)

pub returns-in_err-keep_one-clause-fails : goal.returns-in_err-keep_one-clause-fails
returns-in_err-keep_one-clause-fails g c =
    let goes = c.loop-at.invariant.goes any_parts in
    on_err c.from_residual.result (has_later Fails _ _ _ (goes.0, goes.1) c.in_err-keep_one.ensures.fails)

pub loop-at-preserved : goal.loop-at-preserved
loop-at-preserved g c = record {
  plain = plain_more _ _ _ c.loop-at.invariant.plain c.keep_one.ensures.plain;
  within = let below = c.loop-at-test.true in omega (arith, below);
  goes = λ parts. joins parts _ _ _ (c.loop-at.invariant.goes parts) (c.keep_one.ensures.in_turn parts);
  relied = λ parts name among.
      let so_far = c.loop-at.invariant.goes any_parts in
      let more = c.keep_one.ensures.in_turn any_parts in
      ⊎_elim
      (λ before b named has. relied_since parts b _ _ (more.0, more.1) (c.loop-at.invariant.relied parts name before b named has))
      (λ is b named has. c.in_ok-keep_one.ensures.missed parts b (c.as_str.ensures.value ∙ sym is ∙ named) (read_since parts b _ _ (so_far.0, so_far.1) has))
      (among_more string_bytes c.args.names.now c.loop-at.at c.index-names-at.result name c.loop-at-test.true (sym c.index-names-at.is) among);
  each = λ parts name among.
      let so_far = c.loop-at.invariant.goes any_parts in
      let more = c.keep_one.ensures.in_turn any_parts in
      ⊎_elim
      (λ before. one_between parts name _ _ _ _ (follows_none _) (more.0, more.1) (c.loop-at.invariant.each parts name before))
      (λ is. one_between parts name _ _ _ _ (so_far.0, so_far.1) (follows_none _)
      (subst (λ n. IsSyncedOrGone parts n (g.F.Folder.history c.loop-at.folder) (g.F.Folder.history c.keep_one.new.folder)) (c.as_str.ensures.value ∙ sym is) (c.in_ok-keep_one.ensures.synced parts)))
      (among_more string_bytes c.args.names.now c.loop-at.at c.index-names-at.result name c.loop-at-test.true (sym c.index-names-at.is) among);
}

pub returns-clause-in_turn : goal.returns-clause-in_turn
returns-clause-in_turn g c = λ parts. settles_on parts c.settle.result _ _ _ (c.loop-at.invariant.goes parts) c.settle.ensures.noted c.settle.ensures.clean

pub returns-clause-kept : goal.returns-clause-kept
returns-clause-kept g c = λ parts.
    all_settled c.settle.result parts (map string_bytes c.args.names.now) _ _ _ c.settle.ensures.noted
    (λ name among. c.loop-at.invariant.each parts name (among_all string_bytes c.args.names.now c.loop-at.at name (let above = c.loop-at-test.false in omega (arith, above)) among))

pub returns-clause-fails : goal.returns-clause-fails
returns-clause-fails g c =
    let goes = c.loop-at.invariant.goes any_parts in
    settle_fails c.settle.result _ _ _ (goes.0, goes.1) c.settle.ensures.noted

pub returns-in_err-keep_one-clause-plain : goal.returns-in_err-keep_one-clause-plain
returns-in_err-keep_one-clause-plain g c = plain_more _ _ _ c.loop-at.invariant.plain c.keep_one.ensures.plain

pub returns-clause-plain : goal.returns-clause-plain
returns-clause-plain g c = plain_on _ _ _ _ c.loop-at.invariant.plain c.settle.ensures.noted tt

pub returns-clause-safe : goal.returns-clause-safe
returns-clause-safe g c = λ parts.
    relied_settled c.settle.result parts (map string_bytes c.args.names.now) (g.F.Folder.history c.args.folder.now) _ _ c.settle.ensures.noted
    (λ name among. c.loop-at.invariant.relied parts name (among_all string_bytes c.args.names.now c.loop-at.at name (let above = c.loop-at-test.false in omega (arith, above)) among))
