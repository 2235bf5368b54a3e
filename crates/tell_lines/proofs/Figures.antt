-- Worked figures: what is printed, from the definitions, by computation.
use Rattle.exact.proofs.Ground.{List, [], ◌∷◌, map, ◌≡◌, refl, ℕ}
use Rattle.exact.specs.Fractions.{gcd, reduced}
use Rattle.rules.specs.Plan.{Plan, plan}
use Rattle.words.specs.Words.{score, word_of}
use Rattle.text.specs.Bytes.{lines}
use Rattle.text.specs.Decimal.{decimal}
use Rattle.tell.specs.Evidence.{groups, links, tells}
use Rattle.tell.specs.Words.{mixed_words, words_figure}
use Rattle.tell_lines.specs.TellLines.{grouping, tell_lines, tell_listing}

-- runs of a plan, a column and others, and what is printed for them
record Figure : Type 0 where
  of : Plan
  among : List ℕ
  column : ℕ
  others : List ℕ
  printed : List ℕ

abbrev figure : Plan → List ℕ → ℕ → List ℕ → List ℕ → Figure
figure p rs a J bytes = record { of = p; among = rs; column = a; others = J; printed = bytes }

-- the humidity trial, levels 3,2,2,2: membrane, potting, cure and lot
abbrev humidity : Plan
humidity = plan (3 ∷ 2 ∷ 2 ∷ 2 ∷ []) (
    0 ∷ 0 ∷ 0 ∷ 0 ∷ 0 ∷ 0 ∷ 1 ∷ 1 ∷ 0 ∷ 1 ∷ 0 ∷ 1 ∷ 0 ∷ 1 ∷ 1 ∷ 0 ∷
    1 ∷ 0 ∷ 0 ∷ 1 ∷ 1 ∷ 0 ∷ 1 ∷ 0 ∷ 1 ∷ 1 ∷ 0 ∷ 0 ∷ 1 ∷ 1 ∷ 1 ∷ 1 ∷
    2 ∷ 0 ∷ 0 ∷ 0 ∷ 2 ∷ 0 ∷ 1 ∷ 1 ∷ 2 ∷ 1 ∷ 0 ∷ 1 ∷ 2 ∷ 1 ∷ 1 ∷ 0 ∷ [])

-- without runs 5 and 10
abbrev left : List ℕ
left = 0 ∷ 1 ∷ 2 ∷ 3 ∷ 4 ∷ 6 ∷ 7 ∷ 8 ∷ 9 ∷ 11 ∷ []

-- levels 3,2: level 2 is in no cell with another, and is lost with run 2
abbrev apart : Plan
apart = plan (3 ∷ 2 ∷ []) (0 ∷ 0 ∷ 1 ∷ 0 ∷ 2 ∷ 1 ∷ [])

-- the ten runs left tell the membrane from potting and cure, and not from potting, cure and lot together;
-- a loss that takes a level with it turns no into yes; and without others the answer is yes
abbrev figures : List Figure
figures =
    figure humidity left 0 (1 ∷ 2 ∷ [])
    (lines ("tell 0 1 2" ∷ "answer yes" ∷ "words 8 25" ∷ "group 0 1 2" ∷ "pair 0 4 0 1" ∷ "pair 0 8 0 2" ∷ []))
    ∷ figure humidity left 0 (1 ∷ 2 ∷ 3 ∷ [])
    (lines (
    "tell 0 1 2 3" ∷ "answer no" ∷ "words 56 25" ∷ "group 0 2" ∷ "group 1" ∷ "pair 0 8 0 2" ∷ "cell 0 0 0 0" ∷ "cell 1 0 0 1" ∷ "cell 0 0 1 1"
    ∷ "cell 1 1 0 0" ∷ "cell 0 1 0 1" ∷ "cell 0 1 1 0" ∷ "cell 1 1 1 1" ∷ []
    ))
    ∷ figure apart (0 ∷ 1 ∷ 2 ∷ []) 0 (1 ∷ [])
    (lines ("tell 0 1" ∷ "answer no" ∷ "words 16 9" ∷ "group 0 1" ∷ "group 2" ∷ "pair 0 1 0 1" ∷ "cell 0 0" ∷ "cell 2 1" ∷ []))
    ∷ figure apart (0 ∷ 1 ∷ []) 0 (1 ∷ []) (lines ("tell 0 1" ∷ "answer yes" ∷ "words 2 1" ∷ "absent 2" ∷ "group 0 1" ∷ "pair 0 1 0 1" ∷ []))
    ∷ figure apart (0 ∷ []) 0 [] (lines ("tell 0" ∷ "answer yes" ∷ "words 4 1" ∷ "absent 1" ∷ "absent 2" ∷ "group 0" ∷ []))
    ∷ figure apart (0 ∷ []) 0 (0 ∷ []) (lines ("refused 8 0 0" ∷ []))
    ∷ []

pub printed :
    map (λ f. tell_listing f.of f.among f.column f.others (λ checks. checks)) figures ≡ map (λ f. f.printed) figures
unfolding tell_listing tell_lines grouping groups links tells mixed_words words_figure word_of score gcd reduced decimal
printed = refl
