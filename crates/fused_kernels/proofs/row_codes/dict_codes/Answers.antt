-- The codes are the dictionary's, and the keys its values.
use Rattle.std.proofs.Common.{◌≡◌, length, ap, ◌∙◌}
use Rattle.bit_interleave.specs.LaneValues.{LaneValues}
use Rattle.fused_kernels.proofs.RowRunLemmas.{dict_are_codes}
use Rattle.fused_kernels.proofs.row_codes.dict_codes.Goals as goal

pub returns-clause-codes : goal.returns-clause-codes
returns-clause-codes c =
    let many : c.len.result ≡ length c.args.form.now.values = c.len.ensures ∙ ap (λ (x : LaneValues). length x.values) c.values.ensures.value in
    dict_are_codes c.args.form.now c.len.result c.write_codes.new.codes c.write_values.new.keys c.values.ensures.form many c.write_codes.ensures c.write_values.ensures

pub returns-clause-count : goal.returns-clause-count
returns-clause-count c = c.len.ensures ∙ ap (λ (x : LaneValues). length x.values) c.values.ensures.value
