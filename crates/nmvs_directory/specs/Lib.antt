pub mod History
pub mod Law
pub mod Known
pub mod Users
pub mod Changes
pub mod Registrar
pub mod Window
pub mod Directory
