-- A cover as it is kept, with the number of rows in each case.
use Rattle.std.specs.Prelude.{Some, None}
use Rattle.segment_core.specs.Cover.{Cover}
use Rattle.segment_core.specs.declared.cover.Kept.{Kept}
use Rattle.segment_core.specs.declared.cover.Kept.TheVariants.{Full, Holed}

-- the rows and the mask that are kept
abbrev pub cover_of : Kept → Cover
cover_of (Full rows) = record { rows = rows; nulls = None }
cover_of (Holed rows mask) = record { rows = rows; nulls = Some mask }
