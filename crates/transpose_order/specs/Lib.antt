pub mod Place
pub mod Mask
pub mod MaskWords
pub mod Bytes
pub mod MaskBytes
pub mod SameRows
