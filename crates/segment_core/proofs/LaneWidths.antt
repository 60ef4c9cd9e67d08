-- Each type of column has a lane width.
use Rattle.std.proofs.Common.{List, [], ◌∷◌, map, inl, inr, refl}
use Rattle.std.specs.List.{AllByRecursion}
use Rattle.transpose_order.specs.Place.{IsLaneWidth}
use Rattle.table_model.specs.Table.{ColumnShape, bits_of}
use Rattle.table_model.specs.declared.schema.ColType.{ColType}
use Rattle.table_model.specs.declared.schema.ColType.TheVariants.{TinyInt, SmallInt, Integer, BigInt}

pub bits_are_lanes : (t : ColType) → IsLaneWidth (bits_of t)
bits_are_lanes TinyInt = inl refl
bits_are_lanes SmallInt = inr (inl refl)
bits_are_lanes Integer = inr (inr (inl refl))
bits_are_lanes BigInt = inr (inr (inr refl))

pub widths_are_lanes : (shapes : List ColumnShape) → AllByRecursion (λ t. IsLaneWidth t) (map (λ (s : ColumnShape). bits_of s.column_type) shapes)
widths_are_lanes [] = tt
widths_are_lanes (shape ∷ shapes) = (bits_are_lanes shape.column_type, widths_are_lanes shapes)
