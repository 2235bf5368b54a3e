-- Laws on words, pairs and rows, passed on from `pairs`.
pub use Rattle.pairs.proofs.Laws.{eqb-sym, score-sym, score-same, total-with, row-pairs, pair-local, word-local, word-above, strike, reinstate}
