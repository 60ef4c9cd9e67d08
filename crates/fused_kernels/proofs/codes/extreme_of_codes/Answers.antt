-- The greatest of the turned codes, turned back, is the code of the extreme.
use Rattle.std.proofs.Common.{rules, FitsSigned, ◌≡◌, ◌≢◌, ℕ, ℤ, Some, length, sym, ap, ◌∙◌, arith}
use Rattle.std.specs.Int.{w64}
use Rattle.std.proofs.lemmas.Int.{to_z-of_z}
use Rattle.transpose_order.specs.Mask.{has, count_below}
use Rattle.bit_interleave.specs.LaneValues.{LaneValues}
use Rattle.bit_interleave.specs.Range.{value_at}
use Rattle.run_dictionary.specs.Dict.{DictForm, IsDictForm, dict_value}
use Rattle.fused_kernels.proofs.ExtremeLemmas.{no_extreme}
use Rattle.fused_kernels.proofs.CodeLemmas.{turned_code, found_by_walk, extreme_coded}
use Rattle.fused_kernels.proofs.codes.extreme_of_codes.Goals as goal

pub returns-then-count_below-eq0 : goal.returns-then-count_below-eq0
returns-then-count_below-eq0 c = no_extreme c.args.side (has c.args.rows.now) (dict_value c.args.form.now) 1024 (sym c.count_below.ensures ∙ c.if-count_below-eq0.true)

pub get-requires : goal.get-requires
get-requires c =
    let side = c.args.side in
    let form : DictForm = c.args.form.now in
    let is : IsDictForm form = c.values-values.ensures.form in
    let b = has c.args.rows.now in
    let some : count_below b 1024 ≢ 0 = (λ e. c.if-count_below-eq0.false (c.count_below.ensures ∙ e)) in
    let found = found_by_walk side form b c.walk_of_codes.result c.is_least.result c.greatest-found.result c.walk_of_codes.ensures c.is_least.ensures c.greatest-found.ensures.value in
    let many : length c.values-values.result.now.values ≡ length form.values = ap (λ (x : LaneValues). length x.values) c.values-values.ensures.value in
    omega (arith, c.from.ensures, c.turned_code.ensures, ap (turned_code side) found, (extreme_coded side form b is some).0, many)

pub returns : goal.returns
returns c =
    let side = c.args.side in
    let form : DictForm = c.args.form.now in
    let is : IsDictForm form = c.values-values.ensures.form in
    let b = has c.args.rows.now in
    let some : count_below b 1024 ≢ 0 = (λ e. c.if-count_below-eq0.false (c.count_below.ensures ∙ e)) in
    let found = found_by_walk side form b c.walk_of_codes.result c.is_least.result c.greatest-found.result c.walk_of_codes.ensures c.is_least.ensures c.greatest-found.ensures.value in
    let value : ℤ = c.get.result in
    let fits : FitsSigned w64 value = search rules in
    ap Some (to_z-of_z w64 value fits ∙ c.get.ensures.value)
    ∙ ap (λ (x : LaneValues). Some (value_at x.values c.from.result)) c.values-values.ensures.value
    ∙ ap (λ (k : ℕ). Some (value_at form.values k)) (c.from.ensures ∙ c.turned_code.ensures ∙ ap (turned_code side) found)
    ∙ (extreme_coded side form b is some).1
