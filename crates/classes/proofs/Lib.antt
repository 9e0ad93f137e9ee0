pub mod Turns
mod Orders
mod Lists
mod Reserved
