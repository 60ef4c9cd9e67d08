-- What is known of the ranges that were read so far.

pub record RangesRead (Reads Given : Type 0) : Type 0 where
  pub read : Reads
  pub given : Given
