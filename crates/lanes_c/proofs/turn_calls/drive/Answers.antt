-- An answer is told, or is 0, and then the turn goes on.
use Rattle.std.proofs.Common.{rules, ◌≡◌, ap}
use Rattle.folder_turns.specs.Turns.{state_of}
use Rattle.lanes_c.specs.FolderTurns.{HasTold, IsAbout, names_left}
use Rattle.lanes_c.specs.declared.turn_calls.Asked.{Asked}
use Rattle.lanes_c.proofs.TurnSteps.{drives_told, drives_untold}
use Rattle.lanes_c.proofs.turn_calls.drive.Goals as goal
use Rattle.lanes_c.proofs.turn_calls.drive.Goals.{then-kind-ne0+in_ok-tell, else-kind-ne0}

pub returns : goal.returns
returns g c =
    let was = state_of c.args.turn.now in
    let mid = state_of c.if-kind-ne0.turn in
    let is = state_of c.go_on.new.turn in
    elim c.if-kind-ne0.branch [
      | then-kind-ne0+in_ok-tell w ↦
          let other : c.args.kind ≡ 0 → ⊥ = search rules in
          let same : IsAbout mid was = search rules in
          let told : HasTold c.args.kind c.args.number c.args.bytes.now was mid.calls = search rules in
          let left : mid.listed ≡ names_left c.args.kind was.listed = search rules in
          drives_told g.before c.args.kind c.args.number c.args.bytes.now was mid is (λ (asked : Asked). asked.call) (λ (asked : Asked). asked.names.items)
          other same told left c.go_on.ensures.about c.go_on.ensures.calls c.go_on.ensures.left c.go_on.result c.go_on.ensures.goes
      | else-kind-ne0 w ↦
          let zero : c.args.kind ≡ 0 = search rules in
          drives_untold g.before c.args.kind c.args.number c.args.bytes.now was mid is (λ (asked : Asked). asked.call) (λ (asked : Asked). asked.names.items)
          zero (ap state_of w.turn-is) c.go_on.ensures.about c.go_on.ensures.calls c.go_on.ensures.left c.go_on.result c.go_on.ensures.goes
    ]
