-- Worked figures, from the definitions: the trial of the README, whole and without runs 5 and 10, and plans that cannot tell, or tell in part.
use Rattle.exact.proofs.Ground.{◌≡◌, refl, Bool, true, false, List, [], ◌∷◌, map, ℕ, ℤ, pos}
use Rattle.exact.specs.Fractions.{reduced, gcd}
use Rattle.rules.specs.Plan.{Plan, plan, level, entry, every_run}
use Rattle.rules.specs.Refusals.{refusal_in, of_plan, first_bad_level, first_bad_entry}
use Rattle.words.specs.Words.{score, word_of}
use Rattle.tell.specs.Evidence.{groups, links, tells}
use Rattle.tell.specs.Answer.{tell_answer}
use Rattle.tell.specs.Words.{mixed_words, words_figure}

-- whether the runs of p tell column a from J; the groups of its levels; the pairs of runs that join them
record Answer : Type 0 where
  told : Bool
  grouping : List ℕ
  evidence : List (ℕ × ℕ)

answer : Plan → List ℕ → ℕ → List ℕ → Answer
unfolding groups links tells
answer p rs a J = record {
  told = tells (entry p) a J (level p a) rs;
  grouping = groups (entry p) a J (level p a) rs;
  evidence = links (entry p) a J (level p a) rs;
}

-- levels 3,2,2,2: membrane, potting, cure and lot
abbrev humidity : Plan
humidity = plan (3 ∷ 2 ∷ 2 ∷ 2 ∷ []) (
    0 ∷ 0 ∷ 0 ∷ 0 ∷ 0 ∷ 0 ∷ 1 ∷ 1 ∷ 0 ∷ 1 ∷ 0 ∷ 1 ∷ 0 ∷ 1 ∷ 1 ∷ 0 ∷
    1 ∷ 0 ∷ 0 ∷ 1 ∷ 1 ∷ 0 ∷ 1 ∷ 0 ∷ 1 ∷ 1 ∷ 0 ∷ 0 ∷ 1 ∷ 1 ∷ 1 ∷ 1 ∷
    2 ∷ 0 ∷ 0 ∷ 0 ∷ 2 ∷ 0 ∷ 1 ∷ 1 ∷ 2 ∷ 1 ∷ 0 ∷ 1 ∷ 2 ∷ 1 ∷ 1 ∷ 0 ∷ [])

-- without runs 5 and 10
abbrev left : List ℕ
left = 0 ∷ 1 ∷ 2 ∷ 3 ∷ 4 ∷ 6 ∷ 7 ∷ 8 ∷ 9 ∷ 11 ∷ []

-- the membrane from potting and cure: all twelve runs tell it, and so do the ten that are left
whole-trial : answer humidity (every_run humidity) 0 (1 ∷ 2 ∷ []) ≡ record { told = true; grouping = 0 ∷ 0 ∷ 0 ∷ []; evidence = (0, 4) ∷ (0, 8) ∷ [] }
unfolding answer
whole-trial = refl

ten-runs : answer humidity left 0 (1 ∷ 2 ∷ []) ≡ record { told = true; grouping = 0 ∷ 0 ∷ 0 ∷ []; evidence = (0, 4) ∷ (0, 8) ∷ [] }
unfolding answer
ten-runs = refl

-- the membrane from potting, cure and lot acting together: grade 1 is in no cell with another
with-lot : answer humidity left 0 (1 ∷ 2 ∷ 3 ∷ []) ≡ record { told = false; grouping = 0 ∷ 1 ∷ 0 ∷ []; evidence = (0, 8) ∷ [] }
unfolding answer
with-lot = refl

-- half of the combinations of three columns of two levels, 000 011 101 110: each column is the other two acting together
abbrev half : Plan
half = plan (2 ∷ 2 ∷ 2 ∷ []) (0 ∷ 0 ∷ 0 ∷ 0 ∷ 1 ∷ 1 ∷ 1 ∷ 0 ∷ 1 ∷ 1 ∷ 1 ∷ 0 ∷ [])

aliased : answer half (every_run half) 0 (1 ∷ 2 ∷ []) ≡ record { told = false; grouping = 0 ∷ 1 ∷ []; evidence = [] }
unfolding answer
aliased = refl

-- with two runs more, 100 and 111, they tell; these two are lost
abbrev six : Plan
six = plan (2 ∷ 2 ∷ 2 ∷ []) (0 ∷ 0 ∷ 0 ∷ 0 ∷ 1 ∷ 1 ∷ 1 ∷ 0 ∷ 1 ∷ 1 ∷ 1 ∷ 0 ∷ 1 ∷ 0 ∷ 0 ∷ 1 ∷ 1 ∷ 1 ∷ [])

two-more : answer six (every_run six) 0 (1 ∷ 2 ∷ []) ≡ record { told = true; grouping = 0 ∷ 0 ∷ []; evidence = (0, 4) ∷ [] }
unfolding answer
two-more = refl

two-lost : answer six (0 ∷ 1 ∷ 2 ∷ 3 ∷ []) 0 (1 ∷ 2 ∷ []) ≡ record { told = false; grouping = 0 ∷ 1 ∷ []; evidence = [] }
unfolding answer
two-lost = refl

-- a loss can turn no into yes where a level is lost with it: of levels 0 and 1 in one cell and 2 in another, the runs of 2 are struck
abbrev apart : Plan
apart = plan (3 ∷ 2 ∷ []) (0 ∷ 0 ∷ 1 ∷ 0 ∷ 2 ∷ 1 ∷ [])

before-loss : answer apart (0 ∷ 1 ∷ 2 ∷ []) 0 (1 ∷ []) ≡ record { told = false; grouping = 0 ∷ 0 ∷ 2 ∷ []; evidence = (0, 1) ∷ [] }
unfolding answer
before-loss = refl

after-loss : answer apart (0 ∷ 1 ∷ []) 0 (1 ∷ []) ≡ record { told = true; grouping = 0 ∷ 0 ∷ 2 ∷ []; evidence = (0, 1) ∷ [] }
unfolding answer
after-loss = refl

-- ---- from the words: (s - 1) times those of the column with every set of the others, against n²

-- W of the column alone, with each of the two others, and with both
answer_words : Plan → List ℕ → ℕ → ℕ → ℕ → List ℤ
unfolding word_of score
answer_words p rs a i j = map (word_of (level p) (entry p) rs) ((a ∷ []) ∷ (a ∷ i ∷ []) ∷ (a ∷ j ∷ []) ∷ (a ∷ i ∷ j ∷ []) ∷ [])

-- none before the loss; after it 2 · (2 + 6 + 6 + 2) = 32 is below 100, so the figures that are published say yes already
words-before : answer_words humidity (every_run humidity) 0 1 2 ≡ pos 0 ∷ pos 0 ∷ pos 0 ∷ pos 0 ∷ []
unfolding answer_words
words-before = refl

words-after : answer_words humidity left 0 1 2 ≡ pos 2 ∷ pos 6 ∷ pos 6 ∷ pos 2 ∷ []
unfolding answer_words
words-after = refl

mixed-after : mixed_words (level humidity) (entry humidity) left 0 (1 ∷ 2 ∷ []) ≡ pos 16
unfolding mixed_words word_of score
mixed-after = refl

-- as the figure is printed: 8/25 for potting and cure, and 56/25 for potting, cure and lot, which the ten runs do not tell
figure-after : words_figure (level humidity) (entry humidity) left 0 (1 ∷ 2 ∷ []) ≡ record { num = 8; den = 25 }
unfolding words_figure mixed_words word_of score reduced gcd
figure-after = refl

figure-lot : words_figure (level humidity) (entry humidity) left 0 (1 ∷ 2 ∷ 3 ∷ []) ≡ record { num = 56; den = 25 }
unfolding words_figure mixed_words word_of score reduced gcd
figure-lot = refl

-- the bound cannot be raised: 1 · 16 is 16, and these runs do not tell
words-aliased : answer_words half (every_run half) 0 1 2 ≡ pos 0 ∷ pos 0 ∷ pos 0 ∷ pos 16 ∷ []
unfolding answer_words
words-aliased = refl

-- and above it runs may tell all the same, by a chain over two cells: of 00 01 10 21 the levels 1 and 0 meet in one, 0 and 2 in the other
abbrev steps : Plan
steps = plan (3 ∷ 2 ∷ []) (0 ∷ 0 ∷ 0 ∷ 1 ∷ 1 ∷ 0 ∷ 2 ∷ 1 ∷ [])

chained : answer steps (every_run steps) 0 (1 ∷ []) ≡ record { told = true; grouping = 0 ∷ 0 ∷ 0 ∷ []; evidence = (0, 2) ∷ (1, 3) ∷ [] }
unfolding answer
chained = refl

words-chained : mixed_words (level steps) (entry steps) (every_run steps) 0 (1 ∷ []) ≡ pos 8
unfolding mixed_words word_of score
words-chained = refl

-- ---- what the call refuses: a column out of range, others that do not rise or are out of range, and a column among the others

asked : List (ℕ × List ℕ)
asked = (0, 1 ∷ 2 ∷ []) ∷ (0, []) ∷ (4, 1 ∷ []) ∷ (0, 2 ∷ 1 ∷ []) ∷ (0, 1 ∷ 1 ∷ []) ∷ (0, 1 ∷ 4 ∷ []) ∷ (1, 1 ∷ 2 ∷ []) ∷ []

refusals : map (λ q. (refusal_in (tell_answer humidity (every_run humidity) (of_plan humidity) q.0 q.1)).number) asked
    ≡ 0 ∷ 0 ∷ 8 ∷ 8 ∷ 8 ∷ 8 ∷ 8 ∷ []
unfolding asked tell_answer first_bad_level first_bad_entry
refusals = refl
