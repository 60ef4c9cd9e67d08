-- A row's filled value is its own or the latest before it, and past the rows the last of all.
use Rattle.std.proofs.Common.{◌∙◌, w64, FitsSigned, rules, refl}
use Rattle.std.proofs.lemmas.Int.{to_z-of_z}
use Rattle.segment_core.proofs.FillLemmas.{filled_parts, full_is_filled}
use Rattle.segment_core.proofs.fill.fill.Goals as goal

pub returns-then-is_full : goal.returns-then-is_full
returns-then-is_full c =
    full_is_filled c.args.rows c.args.nulls.now c.args.values.now c.told-values (c.if-is_full.ensures.0 refl)

pub returns : goal.returns
returns c =
    let fits : FitsSigned w64 c.fill_rows-latest.result = search rules in
    filled_parts c.args.rows c.args.nulls.now c.args.values.now c.fill_rows-latest.new.values c.fill_rest.new.values c.fill_rows-latest.result
    (c.fill_rest.ensures.long ∙ c.fill_rows-latest.ensures.long ∙ c.told-values) c.fill_rows-latest.ensures.filled c.fill_rows-latest.ensures.last c.fill_rest.ensures.kept (λ n past within. c.fill_rest.ensures.rest n past within ∙ to_z-of_z w64 c.fill_rows-latest.result fits)
