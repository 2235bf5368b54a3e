-- Requests #108 and #109: W(I) from counts. The parts of a set of columns, worked out a column at a time from the numbers that the runs
-- have so far; and a set of which the runs have no other word, as every set of R columns is.
use Rattle.std.specs.Prelude.{◌≡◌, ℕ, zero, suc, ◌+◌, ◌*◌, ◌-◌, ◌≤◌, ◌<◌, eqb, length, get_or, drop, ℤ, pos, neg_ℤ, nat_abs, ◌+ℤ◌, ◌*ℤ◌}
use mathlib.Core.List.{List, [], ◌∷◌, map, Memᴰ}
use Rattle.exact.specs.Lists.{from, each, sum, prod, count}
use Rattle.rules.specs.Plan.{Plan, level, entry, most_runs}
use Rattle.sets.specs.Sets.{subsets}
use Rattle.words.specs.Words.{word}
use Rattle.counts.specs.Counts.{combinations, tally}
use Rattle.counts.specs.Numbered.{most_numbers}

-- ---- W(I) from counts, as request #108 words it

-- 1, and each time the other sign
abbrev pub sign : ℕ → ℤ
sign zero = pos 1
sign (suc n) = neg_ℤ (sign n)

module _ {R C : Type 0} (level : C → ℕ) (entry : R → C → ℕ) (rs : List R) where
  -- how often each level combination of the columns J occurs, squared and added up
  unfoldable pub squared_counts : List C → ℤ
  squared_counts J = sum (combinations level J) (λ P. pos (tally entry rs J P) *ℤ pos (tally entry rs J P))

  -- the alternating sum, over all parts J of I, of the product of J's levels times its squared counts; minus where I has an odd number of
  -- columns more than J
  unfoldable pub from_combinations : List C → ℤ
  from_combinations I = sum (subsets I) (λ J. sign (length I - length J) *ℤ (prod J (λ i. pos (level i)) *ℤ squared_counts J))

-- ---- the same from numbers: each combination has one, and a counter

-- how often k is among the numbers
abbrev pub times : List ℕ → ℕ → ℕ
times xs k = count (λ x. eqb x k) xs

-- a counter for each number
unfoldable pub counted : List ℕ → List ℕ
counted xs = map (times xs) (from 0 most_numbers)

-- the counts, squared and added up
unfoldable pub squares_of : List ℕ → ℤ
squares_of xs = sum (from 0 most_numbers) (λ k. pos (times xs k) *ℤ pos (times xs k))

-- each number with one digit more, of a column of s levels
abbrev pub longer : ℕ → List ℕ → List ℕ → List ℕ
longer s xs ds = map (λ k. get_or xs k 0 * s + get_or ds k 0) (from 0 (length xs))

-- The parts of columns with the levels ss, whose digits stand one column after the other: xs are the runs' numbers in the columns taken
-- before, and w is the product of the levels of those, with its sign. A column that is taken multiplies by its level and turns the sign.
abbrev pub over_parts : ℤ → List ℕ → List ℕ → List ℕ → ℤ
over_parts w xs [] ds = w *ℤ squares_of xs
over_parts w xs (s ∷ ss) ds =
    let rest = drop (length xs) ds in
    over_parts (neg_ℤ (pos s) *ℤ w) (longer s xs ds) ss rest +ℤ over_parts w xs ss rest

-- the digits are there, each below its column's level; most is how many numbers the columns taken before have
abbrev pub Digits : ℕ → ℕ → List ℕ → List ℕ → Type 0
Digits n most [] ds = most ≤ most_numbers
Digits n most (s ∷ ss) ds = (1 ≤ s) × (n ≤ length ds) × ((k : ℕ) → k < n → get_or ds k 0 < s) × Digits n (s * most) ss (drop n ds)

-- what the sum over the parts is given
pub record Weighed (levels columns digits numbers : List ℕ) (w : ℤ) : Type 0 where
  pub few-runs : length numbers ≤ most_runs
  pub few-columns : length columns ≤ 4
  pub inside : (i : ℕ) → Memᴰ i columns → i < length levels
  pub below : (x : ℕ) → Memᴰ x numbers → x < nat_abs w
  pub held : Digits (length numbers) (nat_abs w) (map (λ i. get_or levels i 0) columns) digits

module _ {R C : Type 0} (entry : R → C → ℕ) where
  -- the entries of the runs in some columns, column after column
  abbrev pub turned : List R → List C → List ℕ
  turned rs I = each I (λ i. map (λ f. entry f i) rs)

-- ---- no other word

module _ {R C : Type 0} (level : C → ℕ) (entry : R → C → ℕ) (rs : List R) where
  -- no word of the columns is shorter than `size`
  abbrev pub NoneShorter : List C → ℕ → Type 0
  NoneShorter cols size = (j : ℕ) → 0 < j → j < size → word level entry rs cols j ≡ pos 0

-- columns of which the runs have no word but that of all of them
pub record OnlyWord (p : Plan) (rs I : List ℕ) : Type 0 where
  pub runs : 1 ≤ length rs
  pub columns : 1 ≤ length I
  pub none-shorter : NoneShorter (level p) (entry p) rs I (length I)
