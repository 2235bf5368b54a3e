-- The words of some runs of a plan, as the comparison takes them.
use Rattle.exact.proofs.Ground.{List, map, ◌++◌, ◌≡◌, ◌∙◌, sym, ap, subst, ℕ, ◌≤◌, ◌-◌, ◌+◌, arith, pos, ℤ, length, get_or, take, length-map, take_at}
use Rattle.exact.proofs.Ground.{◌≤ℤ◌}
use mathlib.Core.List.{map-map}
use lib.ListN.{get_or-map}
use Rattle.exact.specs.Lists.{from}
use Rattle.exact.proofs.Numbers.{length_from, from-add}
use Rattle.exact.proofs.Rooms.{map-++}
use Rattle.rules.specs.Plan.{Plan, columns, level, entry, every_column, most_columns}
use Rattle.plan.specs.Good.{Sound}
use Rattle.words.specs.Words.{word}
use Rattle.words.specs.Answers.{word_list}
use Rattle.words.proofs.OfPlan.{word-not-negative, word_none}
use Rattle.compare.specs.Compare.{over, A, pattern, pattern_of}
use Rattle.compare.specs.Given.{WordsOf}

module _ {B : Type 0} (F : ℕ → B) where
  -- of a number for each length, those for the lengths 1 to m
  pub first-lengths : (m : ℕ) → m ≤ most_columns → take m (map F (from 1 most_columns)) ≡ map F (from 1 m)
  first-lengths m h =
      let all : from 1 most_columns ≡ from 1 m ++ from (1 + m) (most_columns - m) =
      ap (from 1) (let e : 24 ≡ m + (24 - m) = omega arith in e) ∙ from-add 1 m (most_columns - m)
      in
      ap (λ js. take m (map F js)) all
      ∙ ap (take m) (map-++ F (from 1 m) (from (1 + m) (most_columns - m)))
      ∙ take_at (map F (from 1 m)) (map F (from (1 + m) (most_columns - m))) m (length-map (from 1 m) F ∙ length_from 1 m)

module _ (p : Plan) (rs : List ℕ) (S : Sound p rs) where
  abbrev W : ℕ → ℤ
  W = word (level p) (entry p) rs (every_column p)

  -- the pattern, from the scaled words
  pub pattern-words : pattern_of p rs ≡ map (over (length rs)) (take (columns p) (word_list p rs))
  unfolding pattern A word_list
  pattern-words =
      ap (λ n. map (λ j. over (length rs) (W j)) (from 1 n)) (length_from 0 (columns p))
      ∙ sym (map-map (over (length rs)) W (from 1 (columns p)))
      ∙ ap (map (over (length rs))) (sym (first-lengths W (columns p) S.columns-high))

  -- a length past the last has no word, which is zero too
  word_at : (j : ℕ) → get_or (word_list p rs) j (pos 0) ≡ W (get_or (from 1 most_columns) j 25)
  unfolding word_list
  word_at j =
      ap (get_or (word_list p rs) j) (sym (word_none p rs 25 (omega (arith, S.columns-high))))
      ∙ get_or-map W (from 1 most_columns) j 25

  pub words-given : 1 ≤ length rs → WordsOf (length rs) (word_list p rs)
  unfolding word_list
  words-given some = record {
    long = length-map (from 1 most_columns) W;
    each = λ j. record {
      some = some;
      few = S.few;
      not_negative = subst (λ z. pos 0 ≤ℤ z) (sym (word_at j)) (word-not-negative p rs S (get_or (from 1 most_columns) j 25));
    };
  }
