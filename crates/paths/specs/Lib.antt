pub mod Names
pub mod Paths
pub mod Laws
pub mod Held
pub mod Values
pub mod Memory
pub mod Faults
pub mod TotalOrders
