pub mod KeyForms
pub mod PathKeys
pub mod Prefixes
mod KeyScans
mod KeyTexts
mod Examples
