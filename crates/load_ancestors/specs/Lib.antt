pub mod Asking
pub mod ReadableLaws
pub mod RequestCallLaws
