-- Rows by word length, passed on from `pairs`.
pub use Rattle.pairs.proofs.Totals.{by-length-row}
