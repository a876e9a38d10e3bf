pub mod Handing
pub mod BatchLaws
