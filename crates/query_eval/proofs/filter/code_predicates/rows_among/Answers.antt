-- One literal more.
use Rattle.std.proofs.Common.{rules, ◌&&◌, ◌||◌, ◌∷◌, [], false, FitsSigned, get_or, sym, ap, ◌∙◌, arith, pos, take, List, ℤ}
use Rattle.std.specs.Int.{w128}
use Rattle.std.proofs.lemmas.Int.{to_z-of_z}
use Rattle.std.proofs.Math.Bool.{and-false}
use Rattle.std.proofs.lemmas.List.{take_all}
use Rattle.transpose_order.specs.Mask.{has}
use Rattle.transpose_order.specs.MaskWords.{has-rows_of}
use Rattle.query_eval.specs.Coded.{is_code_among}
use Rattle.query_eval.proofs.CodeAmong.{among_none, codes_more}
use Rattle.query_eval.proofs.filter.code_predicates.rows_among.Goals as goal

pub loop-literal-init : goal.loop-literal-init
loop-literal-init c = λ n l.
    ap (λ m. has m n) c.none-found.ensures ∙ has-rows_of (λ _. false) n l ∙ sym (and-false (has c.args.mask.now n))
    ∙ ap (λ b. has c.args.mask.now n && b) (sym (among_none c.args.count c.args.keys.now (get_or c.args.codes.now n 0)))

pub loop-literal-preserved : goal.loop-literal-preserved
loop-literal-preserved c = λ n l.
    let i = c.loop-literal.literal-index in
    let literal = get_or c.args.literals.now i (pos 0) in
    let fits : FitsSigned w128 literal = search rules in
    let here = has c.args.mask.now n in
    ap (λ m. has m n) c.or-found.ensures ∙ has-rows_of (λ k. has c.loop-literal.found k || has c.literal_rows.result k) n l
    ∙ ap (λ b. b || has c.literal_rows.result n) (c.loop-literal.invariant n l)
    ∙ ap (λ b. (here && is_code_among c.args.count c.args.keys.now (take i c.args.literals.now) (get_or c.args.codes.now n 0)) || b)
    (c.literal_rows.ensures n l ∙ ap (λ z. here && is_code_among c.args.count c.args.keys.now (z ∷ []) (get_or c.args.codes.now n 0)) (to_z-of_z w128 literal fits))
    ∙ codes_more c.args.count c.args.keys.now c.args.literals.now i (get_or c.args.codes.now n 0) (has c.args.mask.now n) c.loop-literal-test.true

pub returns : goal.returns
returns c = λ n l.
    c.loop-literal.invariant n l
    ∙ ap (λ (literals : List ℤ). has c.args.mask.now n && is_code_among c.args.count c.args.keys.now literals (get_or c.args.codes.now n 0)) (take_all c.loop-literal.literal-index c.args.literals.now (omega (arith, c.loop-literal-test.false)))
