pub mod Notes
pub mod Says
