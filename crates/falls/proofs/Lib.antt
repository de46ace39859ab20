-- Laws.
pub mod KeepLaws
pub mod BackLaws
pub mod FallLaws
