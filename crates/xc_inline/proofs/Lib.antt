pub mod Laws
-- What crates above cite of these laws.
pub use Rattle.xc_inline.proofs.Laws.Instances
