-- One name after another goes or stays.
use Rattle.std.proofs.Common.{◌≡◌, ◌∙◌, sym, ap, true, false, map, string_bytes}
use Rattle.folder_commands.specs.Wanted.{goes}
use Rattle.folder_commands.proofs.Going.{stays, grows}
use Rattle.folder_commands.proofs.wanted.going.Goals as goal
use Rattle.folder_commands.proofs.wanted.going.Goals.{then-goes+in_ok-from_str+in_ok-push, else-goes}

pub loop-index-preserved : goal.loop-index-preserved
loop-index-preserved c =
    let p = goes (map string_bytes c.args.passed.now) c.args.new.now in
    let name : c.as_str-name.result.now ≡ string_bytes c.index-names-index.result = c.as_str-name.ensures.value in
    elim c.if-goes.branch [
      | then-goes+in_ok-from_str+in_ok-push w ↦
          let went : p (string_bytes c.index-names-index.result) ≡ true = ap p (sym name) ∙ sym c.goes.ensures ∙ w.if-goes.true in
          grows string_bytes p c.args.names.now c.loop-index.index c.index-names-index.result c.loop-index-test.true c.index-names-index.is c.loop-index.gone.items c.if-goes.gone.items w.in_ok-from_str.field-0
          (ap (λ v. v.items) w.gone-is ∙ w.in_ok-push.ensures.items) (w.in_ok-from_str.ensures.ok ∙ name) c.loop-index.invariant went
      | else-goes w ↦
          let stayed : p (string_bytes c.index-names-index.result) ≡ false = ap p (sym name) ∙ sym c.goes.ensures ∙ w.if-goes.false in
          stays string_bytes p c.args.names.now c.loop-index.index c.index-names-index.result c.loop-index-test.true c.index-names-index.is c.loop-index.gone.items c.if-goes.gone.items (ap (λ v. v.items) w.gone-is) c.loop-index.invariant stayed
    ]
