-- Worked figures of document 01, "Plan text and the listing", by computation.
use Rattle.exact.proofs.Ground.{List, [], ◌∷◌, map, ◌++◌, ◌≡◌, ap, refl, ℕ, get_or, replicate}
use Rattle.exact.specs.Fractions.{gcd, reduced, smaller_fraction}
use Rattle.best.specs.Best.{best}
use Rattle.std.specs.Prelude.{Ok, Err}
use Rattle.rules.specs.Refusals.{plain, first_bad_level, first_bad_entry}
use Rattle.words.specs.Words.{score, word_of, word}
use Rattle.counts.specs.Counts.{even, balanced, strength}
use Rattle.set_words.specs.SetWords.{relative_of}
use Rattle.compare.specs.Compare.{A, pattern, compare_patterns}
use Rattle.resolution.specs.Resolution.{resolution, largest_ratio, greatest, root_of}
use Rattle.advice.specs.Advice.{advice}
use Rattle.text.specs.Bytes.{lines}
use Rattle.text.specs.Decimal.{decimal}
use Rattle.text.specs.Text.{malformed_line, plan_of}
use Rattle.listing_lines.specs.Listing.{word_fraction, count_lines, plan_listing, listing, listing_answer, listing_room}

-- document 01's four lines and what is printed for them
abbrev example : List ℕ
example = lines ("2,3" ∷ "0,0" ∷ "0,1" ∷ "1,2" ∷ [])

abbrev example_listing : List ℕ
example_listing =
    lines ("plan 3 2" ∷ "word 1 1 9" ∷ "word 2 8 9" ∷ "strength 0" ∷ "resolution 1" ∷ "ratio 1 9" ∷ "gr 1666" ∷ "lose 0" ∷ [])

-- a text and its listing
record Figure : Type 0 where
  text : List ℕ
  listed : List ℕ

abbrev figure : List ℕ → List ℕ → Figure
figure text listed = record { text = text; listed = listed }

-- that plan; levels 3, 2 with all six runs, which have no resolution; with one run, which has no advice; the half of 2, 2, 2;
-- one column of two with one level, and both; and a level of 0, an entry that is not below its level, a leading zero, no text
abbrev figures : List Figure
figures =
    figure example example_listing
    ∷ figure (lines ("3,2" ∷ "0,0" ∷ "0,1" ∷ "1,0" ∷ "1,1" ∷ "2,0" ∷ "2,1" ∷ []))
    (lines ("plan 6 2" ∷ "word 1 0 1" ∷ "word 2 0 1" ∷ "strength 2" ∷ "resolution none" ∷ "lose 0" ∷ []))
    ∷ figure (lines ("3,2" ∷ "0,0" ∷ []))
    (lines ("plan 1 2" ∷ "word 1 3 1" ∷ "word 2 2 1" ∷ "strength 0" ∷ "resolution 1" ∷ "ratio 1 1" ∷ "gr 1000" ∷ "lose none" ∷ []))
    ∷ figure (lines ("2,2,2" ∷ "0,0,0" ∷ "0,1,1" ∷ "1,0,1" ∷ "1,1,0" ∷ []))
    (lines
    ("plan 4 3" ∷ "word 1 0 1" ∷ "word 2 0 1" ∷ "word 3 1 1" ∷ "strength 2" ∷ "resolution 3" ∷ "ratio 1 1" ∷ "gr 3000" ∷ "lose 0" ∷ []))
    ∷ figure (lines ("2,1" ∷ "0,0" ∷ []))
    (lines ("plan 1 2" ∷ "word 1 1 1" ∷ "word 2 0 1" ∷ "strength 0" ∷ "resolution 1" ∷ "ratio 1 1" ∷ "gr 1000" ∷ "lose none" ∷ []))
    ∷ figure (lines ("1,1" ∷ "0,0" ∷ "0,0" ∷ []))
    (lines ("plan 2 2" ∷ "word 1 0 1" ∷ "word 2 0 1" ∷ "strength 2" ∷ "resolution none" ∷ "lose 0" ∷ []))
    ∷ figure (lines ("2,0" ∷ "0,0" ∷ [])) (lines ("refused 2 1 0" ∷ []))
    ∷ figure (lines ("2,3" ∷ "0,0" ∷ "1,3" ∷ [])) (lines ("refused 5 1 1" ∷ []))
    ∷ figure (lines ("2,3" ∷ "0,0" ∷ "0,01" ∷ [])) (lines ("refused 14 3 0" ∷ []))
    ∷ figure [] (lines ("refused 14 1 0" ∷ []))
    ∷ []

pub listed : map (λ f. listing f.text) figures ≡ map (λ f. f.listed) figures
unfolding listing plan_listing count_lines word_fraction gcd reduced smaller_fraction first_bad_level first_bad_entry score word_of word even
    balanced strength relative_of A pattern compare_patterns resolution largest_ratio greatest root_of best advice decimal malformed_line plan_of
listed = refl

example-listed : listing example ≡ example_listing
example-listed = ap (λ l. get_or l 0 []) listed

-- its 80 bytes do not fit a room of 79, which stays as it was; in a room of 82 two bytes are left
pub answered :
    map (λ room. listing_answer example room) (replicate 79 9 ∷ replicate 82 9 ∷ [])
    ≡ Err (plain 7) ∷ Ok 80 ∷ []
unfolding listing_answer
answered = rw example-listed

pub rooms : map (λ room. listing_room example room) (replicate 79 9 ∷ replicate 82 9 ∷ []) ≡ replicate 79 9 ∷ (example_listing ++ 9 ∷ 9 ∷ []) ∷ []
unfolding listing_room
rooms = rw example-listed
