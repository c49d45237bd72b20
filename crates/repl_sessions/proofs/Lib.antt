pub mod Words
pub mod Numbers
pub mod SeenSessions
pub mod Keeping
pub mod Naming
pub mod Leavers
pub mod SessionLaws
pub mod KnownAnswers
