pub mod LookUp
pub mod Laws
