pub mod BootLemmas
pub mod LineLemmas
