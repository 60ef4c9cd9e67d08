-- A null mask has the rows that are null.
use Rattle.std.proofs.Common.{Bool, List, Option, false, refl, sym, ◌∙◌, ap, subst}
use Rattle.std.specs.Option.{option_copied}
use Rattle.transpose_order.specs.Mask.{rows_of, has}
use Rattle.transpose_order.specs.MaskWords.{rows_of-same}
use Rattle.segment_core.specs.CodedVector.{VectorForm, is_null, AreNulls}
use Rattle.segment_core.proofs.coded_vector.CodedVector.null_rows.Goals as goal

pub returns-in-Some : goal.returns-in-Some
returns-in-Some c =
    let copied = ap option_copied c.in-Some.is in
    let proper = subst (λ (nulls : Option (List Bool)). AreNulls c.self.inside.cover.rows nulls) (sym c.nulls.ensures ∙ copied) c.self.invariant.nulls in
    rows_of-same (has c.in-Some.mask.now) c.in-Some.mask.now false proper.long (λ n h. refl)
    ∙ ap (λ (nulls : Option (List Bool)). rows_of (is_null nulls)) (sym copied ∙ c.nulls.ensures ∙ ap (λ (v : VectorForm). v.nulls) c.self.view_is)
