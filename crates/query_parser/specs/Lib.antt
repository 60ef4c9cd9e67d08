pub mod Descent
pub mod Expected
pub mod Grammar
pub mod Limits
pub mod Resolve
pub mod Stack
pub mod Texts
pub mod Token
