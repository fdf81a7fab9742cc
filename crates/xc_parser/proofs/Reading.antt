-- What crates above cite of the proofs of phrases.
pub use Rattle.xc_nonterminals.proofs.Reading.Exits
