-- How large words are, passed on from `pairs`.
pub use Rattle.pairs.proofs.Bound.{sum_bound, score-bound}
