pub mod Bindings
pub mod Namespaces
pub mod Latest
pub mod Resolving
pub mod Inside
