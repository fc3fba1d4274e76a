pub mod StoreLaws
pub mod ListLaws
pub mod WidenLaws
