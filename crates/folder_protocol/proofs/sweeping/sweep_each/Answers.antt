use Rattle.std.proofs.Common.{◌≡◌, true, ℕ, List, sym, ap, subst, ⊎_elim, ◌∙◌}
use Rattle.std.specs.String.{string_bytes}
use Rattle.folder_protocol.specs.Causes.{HasCall}
use Rattle.folder_protocol.specs.Sweeping.{Tries}
use Rattle.folder_protocol.specs.Temporary.{is_temporary}
use Rattle.folder_protocol.proofs.Causing.{follows_more, has_later, has_before}
use Rattle.folder_protocol.proofs.Lines.{joins}
use Rattle.folder_protocol.proofs.ReadLines.{among_more, among_all}
use Rattle.folder_protocol.proofs.Linking.{plain_more}
use Rattle.folder_protocol.proofs.Removals.{removes_more}
use Rattle.folder_protocol.proofs.sweeping.sweep_each.Goals as goal

pub loop-at-preserved : goal.loop-at-preserved
loop-at-preserved g c =
    let history = g.F.Folder.history in
    record {
      plain = plain_more _ _ _ c.loop-at.invariant.plain c.sweep_one.ensures.plain;
      only = removes_more (λ (name : List ℕ). is_temporary name ≡ true) _ _ _ c.loop-at.invariant.only c.sweep_one.ensures.only;
      follows = follows_more _ _ _ c.loop-at.invariant.follows c.sweep_one.ensures.follows;
      goes = λ parts none. joins parts _ _ _ (c.loop-at.invariant.goes parts none) (c.sweep_one.ensures.in_turn parts none);
      listing = λ listed was. c.sweep_one.ensures.listing listed (c.loop-at.invariant.listing listed was);
      swept = λ name among is_one. ⊎_elim
          (λ before. has_before (Tries name) _ _ _ c.sweep_one.ensures.follows (c.loop-at.invariant.swept name before is_one))
          (λ is.
          let same = is ∙ sym c.as_str.ensures.value in
          subst (λ (n : List ℕ). HasCall (Tries n) (history c.args.folder.now) (history c.sweep_one.new.folder)) (sym same)
          (has_later (Tries c.as_str.result.now) _ _ _ c.loop-at.invariant.follows (c.sweep_one.ensures.swept (ap is_temporary (sym same) ∙ is_one))))
          (among_more string_bytes c.args.names.now c.loop-at.at c.index-names-at.result name c.loop-at-test.true (sym c.index-names-at.is) among);
    }

pub returns-clause-swept : goal.returns-clause-swept
returns-clause-swept g c = λ name among. c.loop-at.invariant.swept name (among_all string_bytes c.args.names.now c.loop-at.at name c.loop-at-test.false among)

pub returns-clause-plain : goal.returns-clause-plain
returns-clause-plain g c = c.loop-at.invariant.plain

pub returns-clause-only : goal.returns-clause-only
returns-clause-only g c = c.loop-at.invariant.only
