pub mod Ast
pub mod Terminals
pub mod Numbers
pub mod Grammar
pub mod Machine
pub mod Laws
pub mod Compact
