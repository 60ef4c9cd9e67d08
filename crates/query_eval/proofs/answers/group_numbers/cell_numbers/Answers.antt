-- One column more.
use Rattle.std.proofs.Common.{◌∷◌, [], ap, length, length-append, ℕ, subst, List, Option, None, IfSome, get_or, sym, arith}
use Rattle.query_eval.specs.GroupNumbers.{AreNumbers}
use Rattle.query_eval.specs.declared.answers.field_places.FieldPlace.TheVariants as places
use Rattle.query_eval.specs.declared.answers.group_numbers.Numbers.{Numbers}
use Rattle.query_eval.proofs.NumberLemmas.{columns_more}
use Rattle.query_eval.proofs.answers.group_numbers.cell_numbers.Goals as goal

pub loop-place-preserved : goal.loop-place-preserved
loop-place-preserved c =
    let inv = c.loop-place.invariant in
    record {
      long = omega (arith, inv.long, ap length c.in_ok-push.ensures.items, length-append c.loop-place.columns.items (c.at.result ∷ []));
      done = λ p. subst (λ (cs : List (Option Numbers)). IfSome (get_or cs p None) (AreNumbers c.args.groups.now (places.Cell p))) (sym c.in_ok-push.ensures.items)
          (columns_more (λ p. AreNumbers c.args.groups.now (places.Cell p)) c.loop-place.columns.items c.at.result c.loop-place.place inv.long inv.done c.at.ensures p);
    }
