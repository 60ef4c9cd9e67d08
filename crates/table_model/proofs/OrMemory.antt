-- What follows of what is read, where Memory may come in its place.
use Rattle.std.proofs.Common.{◌⊎◌, inl, inr}

pub or_memory : {P Q M : Type 0} → P ⊎ M → (P → Q) → Q ⊎ M
or_memory (inl p) follows = inl (follows p)
or_memory (inr m) follows = inr m
