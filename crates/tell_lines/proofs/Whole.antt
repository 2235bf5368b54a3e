-- The parts as they are written are the lines of the definition.
use Rattle.exact.proofs.Ground.{cond, List, [], ◌∷◌, ◌++◌, append_assoc, ◌≡◌, ◌∙◌, sym, ap, ℕ}
use Rattle.exact.specs.declared.fractions.Fraction.{Fraction}
use Rattle.rules.specs.Plan.{Plan, entry}
use Rattle.text.specs.Bytes.{bytes}
use Rattle.lines.specs.Lines.{line_of}
use Rattle.tell.specs.declared.Told.{Told}
use Rattle.tell.specs.Evidence.{tells, most_groups, evidence}
use Rattle.tell_lines.specs.TellLines.{figure_line, asked_line, answer_line, words_line, absent_lines, grouping, group_lines, pair_lines}
use Rattle.tell_lines.specs.TellLines.{split_lines, tell_lines}
use Rattle.tell_lines.specs.Parts.{level_lines_of, pair_lines_of, split_lines_of, Answered}
use Rattle.tell_lines.proofs.CellNumbers.{cells-all}
use Rattle.tell_lines.proofs.Evidence.{pair-lines}

module _ (p : Plan) (rs : List ℕ) (a : ℕ) (J : List ℕ) {t : Told} {words : Fraction} (A : Answered p rs a J t words) where
  tells-are : t.tells ≡ tells (entry p) a J most_groups rs
  tells-are = ap (λ t. t.tells) A.is-told

  pub joins-are : t.joins ≡ evidence p rs a J
  joins-are = ap (λ t. t.joins) A.is-told

  groups-are : t.joins.groups ≡ grouping p rs a J
  unfolding evidence grouping
  groups-are = rw joins-are

  split-are : split_lines_of p rs a J t.joins.groups t.tells ≡ split_lines p rs a J
  split-are = rw (groups-are, tells-are, cells-all p rs a J A.asked)

  -- what was asked, the answer, the words, the levels, the pairs, the cells
  pub whole :
      line_of (bytes "tell") (a ∷ J) ++ cond t.tells (line_of (bytes "answer yes") []) (line_of (bytes "answer no") []) ++ figure_line words
      ++ level_lines_of p rs a t.joins.groups ++ pair_lines_of p a t.joins ++ split_lines_of p rs a J t.joins.groups t.tells
      ≡ tell_lines p rs a J
  unfolding tell_lines
  whole =
      ap (λ gs.
      line_of (bytes "tell") (a ∷ J) ++ cond t.tells (line_of (bytes "answer yes") []) (line_of (bytes "answer no") []) ++ figure_line words
      ++ level_lines_of p rs a gs ++ pair_lines_of p a t.joins ++ split_lines_of p rs a J t.joins.groups t.tells) groups-are
      ∙ rw (split-are, pair-lines p rs a J A.asked joins-are, tells-are, A.are_words)
      (ap (λ l. l ++ pair_lines p rs a J ++ split_lines p rs a J)
      (sym (append_assoc (asked_line p rs a J ++ answer_line p rs a J ++ words_line p rs a J) (absent_lines p rs a J) (group_lines p rs a J))))
