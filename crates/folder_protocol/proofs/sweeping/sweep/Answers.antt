use Rattle.std.proofs.Common.{◌≡◌, true, ℕ, List, map, sym, ap, ◌∙◌}
use Rattle.std.specs.String.{string_bytes}
use Rattle.folder_model.specs.Turn.{Gave}
use Rattle.folder_protocol.specs.Sweeping.{Tries}
use Rattle.folder_protocol.proofs.Causing.{has_later}
use Rattle.folder_protocol.proofs.Kept.{any_parts}
use Rattle.folder_protocol.proofs.Lines.{joins}
use Rattle.folder_protocol.proofs.Linking.{plain_lock}
use Rattle.folder_protocol.proofs.Removals.{removes_more, removes_never}
use Rattle.folder_protocol.specs.Temporary.{is_temporary}
use Rattle.folder_protocol.proofs.sweeping.sweep.Goals as goal

pub returns-clause-in_turn : goal.returns-clause-in_turn
returns-clause-in_turn g c = λ parts none. joins parts _ _ _ (c.list_names.ensures.in_turn parts) (c.sweep_each.ensures.in_turn parts none)

pub returns-clause-swept : goal.returns-clause-swept
returns-clause-swept g c =
    let first = c.list_names.ensures.in_turn any_parts in (
      map string_bytes c.as_slice.result.now,
      c.sweep_each.ensures.listing _ (c.in_ok-listed.ensures.listed ∙ ap (λ items. Gave (map string_bytes items)) (sym c.as_slice.ensures.value)),
      λ name among is. has_later (Tries name) _ _ _ (first.0, first.1) (c.sweep_each.ensures.swept name among is),
    )

pub returns-clause-unlocked : goal.returns-clause-unlocked
returns-clause-unlocked g c = plain_lock _ _ c.sweep_each.ensures.plain ∙ c.list_names.ensures.unlocked

pub returns-clause-only : goal.returns-clause-only
returns-clause-only g c =
    let P = λ (name : List ℕ). is_temporary name ≡ true in
    removes_more P _ _ _ (removes_never P _ _ c.list_names.ensures.unremoved) c.sweep_each.ensures.only

pub returns-in_err-listed-clause-only : goal.returns-in_err-listed-clause-only
returns-in_err-listed-clause-only g c = removes_never (λ (name : List ℕ). is_temporary name ≡ true) _ _ c.list_names.ensures.unremoved
