-- Document 01, "Words": the definitions stand in `pairs`, and are passed on here.
unfoldable pub use Rattle.pairs.specs.Words.{score, word_of, word, pair_sum, row_sum, diagonal}
pub use Rattle.pairs.specs.Words.{score_at}
