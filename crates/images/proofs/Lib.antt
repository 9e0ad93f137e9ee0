mod Reading
mod Counting
mod Spelling
mod Refusing
mod Instances
