-- The assessor's question: whether the runs tell column a from the columns J acting together, as lines, byte for byte.
use Rattle.std.specs.Prelude.{Bool, cond, not, ◌&&◌, List, [], ◌∷◌, ◌++◌, map, ℕ, eqb, ltb, get_or}
use Rattle.exact.specs.Lists.{from, keep, each, holds}
use Rattle.exact.specs.declared.fractions.Fraction.{Fraction}
use Rattle.rules.specs.declared.Refusal.{Refusal}
use Rattle.rules.specs.Plan.{Plan, level, entry}
use Rattle.rules.specs.Refusals.{Check, refusal, unless}
use Rattle.counts.specs.Counts.{combinations, shows, tally}
use Rattle.text.specs.Bytes.{bytes}
use Rattle.lines.specs.Lines.{line_of}
use Rattle.lines.specs.Lines.{refusal_line}
use Rattle.tell.specs.Evidence.{group_of, groups, links, tells, most_groups}
use Rattle.tell.specs.Words.{words_figure}
use Rattle.tell.specs.Answer.{tell_checks}

-- numerator and denominator
abbrev pub figure_line : Fraction → List ℕ
figure_line x = line_of (bytes "words") (x.num ∷ x.den ∷ [])

module _ (p : Plan) (rs : List ℕ) (a : ℕ) (J : List ℕ) where
  -- ---- what was asked: the column, then the others; the answer; how far the published words carry

  abbrev pub asked_line : List ℕ
  asked_line = line_of (bytes "tell") (a ∷ J)

  abbrev pub answer_line : List ℕ
  answer_line = cond (tells (entry p) a J most_groups rs) (line_of (bytes "answer yes") []) (line_of (bytes "answer no") [])

  abbrev pub words_line : List ℕ
  words_line = figure_line (words_figure (level p) (entry p) rs a J)

  -- ---- the levels of column a: those that no run has

  abbrev pub levels_of : List ℕ
  levels_of = from 0 (level p a)

  -- whether a run has level x
  abbrev pub occurs : ℕ → Bool
  occurs x = holds x (map (λ f. entry p f a) rs)

  abbrev pub absent_lines : List ℕ
  absent_lines = each (keep (λ x. not (occurs x)) levels_of) (λ x. line_of (bytes "absent") (x ∷ []))

  -- ---- the groups of those that occur, each named by its lowest level

  unfoldable pub grouping : List ℕ
  grouping = groups (entry p) a J most_groups rs

  -- the levels of the group named k; one that no run has is a group of its own
  abbrev pub members : ℕ → List ℕ
  members k = keep (λ x. eqb (group_of grouping x) k) levels_of

  abbrev pub group_lines : List ℕ
  group_lines = each (keep (λ x. eqb (group_of grouping x) x && occurs x) levels_of) (λ k. line_of (bytes "group") (members k))

  -- ---- evidence for yes: the pairs of runs that join two groups, by run number, and their levels of column a

  abbrev pub pair_line : ℕ × ℕ → List ℕ
  pair_line e = line_of (bytes "pair") (e.0 ∷ e.1 ∷ entry p e.0 a ∷ entry p e.1 a ∷ [])

  abbrev pub pair_lines : List ℕ
  pair_lines = each (links (entry p) a J most_groups rs) pair_line

  -- ---- evidence for no: every cell that occurs, in dictionary order, behind the name of its group

  abbrev pub cell_occurs : List ℕ → Bool
  cell_occurs c = ltb 0 (tally (entry p) rs J c)

  -- the group of the level that the first run in cell c has, and so every run in it
  abbrev pub group_in : List ℕ → ℕ
  group_in c = group_of grouping (entry p (get_or (keep (λ f. shows (entry p) f J c) rs) 0 0) a)

  abbrev pub cell_lines : List ℕ
  cell_lines = each (keep cell_occurs (combinations (level p) J)) (λ c. line_of (bytes "cell") (group_in c ∷ c))

  -- only where the answer is no
  abbrev pub split_lines : List ℕ
  split_lines = cond (tells (entry p) a J most_groups rs) [] cell_lines

  -- ---- the whole answer

  unfoldable pub tell_lines : List ℕ
  tell_lines = asked_line ++ answer_line ++ words_line ++ absent_lines ++ group_lines ++ pair_lines ++ split_lines

  -- a refusal prints its one line only
  abbrev pub lines_beside : Refusal → List ℕ
  lines_beside r = unless r (refusal_line r) tell_lines

  unfoldable pub tell_listing : (List Check → List Check) → List ℕ
  tell_listing start = lines_beside (refusal (start (tell_checks p a J)))
