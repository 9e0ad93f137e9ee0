pub mod Order
pub mod Texts
pub mod Rows
pub mod Tables
pub mod Scalars
pub mod Shared
pub mod TotalOrders
