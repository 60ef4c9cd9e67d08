-- Values of the four types as whole numbers.
use Rattle.bit_interleave.specs.LaneValues.{LaneValues}
use Rattle.bit_interleave.specs.declared.values.Stored.{Stored}
use Rattle.bit_interleave.specs.declared.values.Stored.TheVariants.{I8, I16, I32, I64}

-- the values of a vector of them, with their width
abbrev pub values_of : Stored → LaneValues
values_of (I8 values) = record { lane_width = 8; values = values.items }
values_of (I16 values) = record { lane_width = 16; values = values.items }
values_of (I32 values) = record { lane_width = 32; values = values.items }
values_of (I64 values) = record { lane_width = 64; values = values.items }
