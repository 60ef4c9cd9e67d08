pub mod PlaceLemmas
pub mod WidthLemmas
pub mod BitLemmas
pub mod MaskLemmas
pub mod ByteLemmas
pub mod MaskByteLemmas
pub mod NextLemmas
pub mod SameLemmas
