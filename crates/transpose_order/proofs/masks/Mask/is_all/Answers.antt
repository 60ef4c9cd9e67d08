-- The words are sixteen of ones exactly where all rows are true.
use Rattle.std.proofs.Common.{◌≡◌, ◌-◌, ◌^◌, List, Bool, true, false, length, replicate, sym, ap, ◌∙◌}
use Rattle.std.specs.Bool.{Decides}
use Rattle.std.proofs.lemmas.Bool.Decides.{Decides-eqb}
use Rattle.std.proofs.lemmas.Slice.Eq.{slice_eq-Decides}
use Rattle.transpose_order.specs.Mask.{has, rows_of, truth_at}
use Rattle.transpose_order.specs.MaskWords.{has-rows_of, length-rows_of, rows_of-same}
use Rattle.transpose_order.proofs.MaskLemmas.{rows_of_ones}
use Rattle.transpose_order.proofs.SameLemmas.{are_ones, same_words}
use Rattle.transpose_order.proofs.masks.Mask.is_all.Goals as goal

exactly : (c : goal.After-eq) → Decides c.eq.result (c.self.inside.words ≡ replicate 16 (2 ^ 64 - 1))
exactly c = slice_eq-Decides Decides-eqb c.self.inside.words (replicate 16 (2 ^ 64 - 1)) c.eq.result c.eq.ensures

pub returns-clause-all : goal.returns-clause-all
returns-clause-all c same n h =
    ap (λ (m : List Bool). has m n) (sym c.self.view_is ∙ ap (λ ws. rows_of (truth_at ws)) ((exactly c).0 same) ∙ rows_of_ones) ∙ has-rows_of (λ _. true) n h

pub returns-clause-answers : goal.returns-clause-answers
returns-clause-answers c all =
    let rows = rows_of-same (λ _. true) c.args.self.now false (ap length (sym c.self.view_is) ∙ length-rows_of (truth_at c.self.inside.words)) all in
    (exactly c).1 (same_words c.self.inside.words (replicate 16 (2 ^ 64 - 1)) c.self.invariant are_ones (c.self.view_is ∙ rows ∙ sym rows_of_ones))
