pub mod Bytes
pub mod Utf8
pub mod Laws
pub mod Faults
pub mod Rows
