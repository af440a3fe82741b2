pub mod Place
pub mod Lines
pub mod Plain
pub mod Grammar
pub mod Header
pub mod Items
pub mod Whole
pub mod Laws
