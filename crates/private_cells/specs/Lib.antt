pub mod Atoms
pub mod Actions
pub mod Agents
pub mod Numbers
pub mod Inside
