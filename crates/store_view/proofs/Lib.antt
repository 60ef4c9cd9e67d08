pub mod CellLemmas
pub mod KernelLemmas
pub mod QueryRefusals
pub mod StateLemmas
pub mod ProperNames
