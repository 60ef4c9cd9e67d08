-- The literal's code, or none.
use Rattle.std.proofs.Common.{rules, ◌&&◌, false, get_or, pos, refl, sym, ap, ◌∙◌, FitsSigned}
use Rattle.std.specs.Int.{w128}
use Rattle.std.specs.Ordering.{int_eq}
use Rattle.std.proofs.lemmas.Int.{to_z-of_z}
use Rattle.std.proofs.Math.Bool.{and-false}
use Rattle.transpose_order.specs.Mask.{has}
use Rattle.transpose_order.specs.MaskWords.{has-rows_of}
use Rattle.query_eval.proofs.CodeAmong.{has_code, no_code}
use Rattle.query_eval.proofs.filter.code_predicates.literal_rows.Goals as goal

pub returns-in-Some : goal.returns-in-Some
returns-in-Some c n l =
    let fits : FitsSigned w128 c.args.literal = search rules in
    c.coded_rows.ensures n l
    ∙ ap (λ b. has c.args.mask.now n && b) (has_code c.args.count c.args.keys.now c.requires.rises (get_or c.args.codes.now n 0) c.in-Some.code c.args.literal (c.requires.within n l) c.in-Some.ensures.within (c.in-Some.ensures.key ∙ to_z-of_z w128 c.args.literal fits))

pub returns-in-None : goal.returns-in-None
returns-in-None c n l =
    let fits : FitsSigned w128 c.args.literal = search rules in
    ap (λ m. has m n) c.none.ensures ∙ has-rows_of (λ _. false) n l ∙ sym (and-false (has c.args.mask.now n))
    ∙ ap (λ b. has c.args.mask.now n && b) (sym (no_code c.args.count c.args.keys.now (get_or c.args.codes.now n 0) c.args.literal (c.requires.within n l) (λ code h. ap (int_eq (get_or c.args.keys.now code (pos 0))) (sym (to_z-of_z w128 c.args.literal fits)) ∙ c.in-None.ensures.none refl code h)))
