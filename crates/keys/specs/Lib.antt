pub mod Keys
pub mod MetadataKeys
pub mod Faults
pub mod Values
pub mod Laws
pub mod Examples
