-- The words are the same exactly where the rows are.
use Rattle.std.proofs.Common.{◌≡◌, sym, ap, ◌∙◌}
use Rattle.std.specs.Bool.{Decides}
use Rattle.std.proofs.lemmas.Bool.Decides.{Decides-eqb, same_from_decides}
use Rattle.std.proofs.lemmas.Slice.Eq.{slice_eq-Decides}
use Rattle.transpose_order.specs.Mask.{rows_of, truth_at}
use Rattle.transpose_order.specs.SameRows.{same_rows}
use Rattle.transpose_order.proofs.SameLemmas.{same_rows-Decides, same_words}
use Rattle.transpose_order.proofs.masks.MaskPartialEq.eq.Goals as goal

exactly : (c : goal.After-eq) → Decides c.eq.result (c.args.self.now ≡ c.args.other.now)
exactly c =
    let words = slice_eq-Decides Decides-eqb c.self.inside.words c.other.inside.words c.eq.result c.eq.ensures in (
      (λ t. sym c.self.view_is ∙ ap (λ ws. rows_of (truth_at ws)) (words.0 t) ∙ c.other.view_is),
      (λ e. words.1 (same_words c.self.inside.words c.other.inside.words c.self.invariant c.other.invariant (c.self.view_is ∙ e ∙ sym c.other.view_is))),
    )

pub returns-clause-value : goal.returns-clause-value
returns-clause-value c =
    same_from_decides c.eq.result (same_rows c.args.self.now c.args.other.now) (exactly c) (same_rows-Decides c.args.self.now c.args.other.now)

pub returns-clause-exact : goal.returns-clause-exact
returns-clause-exact c = exactly c
