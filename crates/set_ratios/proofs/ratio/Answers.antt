-- The smallest level is 1, and the value 0/1, or one less than it is above zero.
use Rattle.exact.proofs.Ground.{◌≡◌, ◌∙◌, sym, ap₂, subst, ℕ, ◌≤◌, ◌<◌, ◌-◌, ◌+◌, ◌*◌, arith, nat_abs, length, get_or}
use Rattle.exact.specs.Fractions.{reduced}
use Rattle.rules.specs.Plan.{Plan, plan, level, entry, lowest_level, highest_level, highest_product, most_runs}
use Rattle.words.specs.Words.{word_of}
use Rattle.parts.specs.Parts.{longer}
use Rattle.set_words.proofs.SetWords.{word_small}
use Rattle.set_words.proofs.Values.{level-between, value-one, value-several, few-pairs, over-between}
use Rattle.set_ratios.proofs.OneSet.{numbers-length, number-few, combinations-found, combinations-few, word-found}
use Rattle.set_ratios.proofs.ratio.Goals.{After-smallest_level-lowest, After-product_of-combinations, After-squares-squares, Else-lowest-eq1}
use Rattle.set_ratios.proofs.ratio.Goals as goal

between : (c : After-smallest_level-lowest) → (lowest_level ≤ c.smallest_level-lowest.result) × (c.smallest_level-lowest.result ≤ highest_level)
between c =
    let (G, (K, O)) = c.requires.tabled in
    rw c.smallest_level-lowest.ensures (level-between (plan c.args.levels.now c.args.table.now) c.args.runs.now c.args.columns.now G K O.columns)

pub returns-then-lowest-eq1-clause-value : goal.returns-then-lowest-eq1-clause-value
returns-then-lowest-eq1-clause-value c =
    value-one (plan c.args.levels.now c.args.table.now) c.args.runs.now c.args.columns.now c.requires.tabled.1.1.columns
    (sym c.smallest_level-lowest.ensures ∙ c.if-lowest-eq1.true)

-- the combinations are those of the set
module _ (c : After-product_of-combinations) where
  few : c.product_of-combinations.result ≤ 16 * length c.args.runs.now
  few =
      let (G, (K, O)) = c.requires.tabled in
      combinations-few (plan c.args.levels.now c.args.table.now) c.args.runs.now c.args.columns.now G K O c.product_of-combinations.result
      c.product_of-combinations.ensures

  numbers : length c.args.numbers.now ≤ most_runs
  numbers =
      let (G, (K, O)) = c.requires.tabled in
      omega (
        arith,
        numbers-length (plan c.args.levels.now c.args.table.now) c.args.runs.now c.args.columns.now G K O c.args.last c.args.numbers.now
            c.args.digits.now c.requires.numbers_in_bounds.1,
        G.sound.few,
      )

  below : (k : ℕ) → k < length c.args.numbers.now →
      get_or c.args.numbers.now k 0 * c.args.last + get_or c.args.digits.now k 0 < c.product_of-combinations.result
  below k h =
      let (G, (K, O)) = c.requires.tabled in
      let p = plan c.args.levels.now c.args.table.now in
      rw (combinations-found p c.args.runs.now c.args.columns.now G K O c.product_of-combinations.result c.product_of-combinations.ensures)
      (number-few p c.args.runs.now c.args.columns.now G K O c.args.last c.args.numbers.now c.args.digits.now c.requires.numbers_in_bounds.1 k h)

pub squares-squares-requires-clause-numbers_len_bound : goal.squares-squares-requires-clause-numbers_len_bound
squares-squares-requires-clause-numbers_len_bound c =
    (numbers (goal.at.squares-squares-requires-clause-numbers_len_bound c).After-product_of-combinations, c.requires.numbers_in_bounds.0)

pub squares-squares-requires-clause-by_index : goal.squares-squares-requires-clause-by_index
squares-squares-requires-clause-by_index c = below (goal.at.squares-squares-requires-clause-by_index c).After-product_of-combinations

pub squares-squares-requires-clause-many_in_bounds : goal.squares-squares-requires-clause-many_in_bounds
squares-squares-requires-clause-many_in_bounds c =
    let d = (goal.at.squares-squares-requires-clause-many_in_bounds c).After-product_of-combinations in
    (omega (arith, few d, c.requires.empty.room), record { room = omega arith; few = c.requires.empty.few; zero = c.requires.empty.zero })

-- the word and the pairs of runs
module _ (c : After-squares-squares) where
  abbrev p : Plan
  p = plan c.args.levels.now c.args.table.now

  abbrev W : ℕ
  W = nat_abs (word_of (level p) (entry p) c.args.runs.now c.args.columns.now)

  abbrev n : ℕ
  n = length c.args.runs.now

  word : c.product_of-combinations.result * c.squares-squares.result ≡ W + n * n
  word =
      let (G, (K, O)) = c.requires.tabled in
      word-found p c.args.runs.now c.args.columns.now G K O c.product_of-combinations.result c.product_of-combinations.ensures
      (longer c.args.last c.args.numbers.now c.args.digits.now) c.requires.numbers_in_bounds.1 c.squares-squares.result c.squares-squares.ensures.squares

  small : W ≤ most_runs * (most_runs * highest_product)
  small = word_small p c.args.runs.now c.args.columns.now c.requires.tabled.0.sound c.requires.tabled.1.0 0

  pairs : n * n ≤ 65_536
  pairs = few-pairs n c.requires.tabled.0.sound.few

pub overflow_mul-word : goal.overflow_mul-word
overflow_mul-word c = let d = (goal.at.overflow_mul-word c).After-squares-squares in omega (arith, word d, small d, pairs d)

pub overflow_sub-word : goal.overflow_sub-word
overflow_sub-word c = omega (arith, word (goal.at.overflow_sub-word c).After-squares-squares)

pub overflow_mul-n : goal.overflow_mul-n
overflow_mul-n c = omega (arith, pairs (goal.at.overflow_mul-n c).After-squares-squares)

pub overflow_sub-from : goal.overflow_sub-from
overflow_sub-from c = let b = between (goal.at.overflow_sub-from c).After-smallest_level-lowest in rw c.from.ensures (omega arith)

-- one less than the smallest level
below-it : (c : Else-lowest-eq1) → (lowest_level ≤ c.smallest_level-lowest.result) × (c.smallest_level-lowest.result ≤ highest_level) →
    let n = length c.args.runs.now in
    (1 ≤ n * n * (c.smallest_level-lowest.result - 1)) × (n * n * (c.smallest_level-lowest.result - 1) ≤ 983_040)
below-it c b =
    let G = c.requires.tabled.0 in
    over-between (length c.args.runs.now) (c.smallest_level-lowest.result - 1) G.some G.sound.few (omega arith) (omega arith)

pub reduced-requires : goal.reduced-requires
reduced-requires c =
    let d = goal.at.reduced-requires c in rw c.from.ensures (below-it d.Else-lowest-eq1 (between d.After-smallest_level-lowest)).0

pub returns-clause-value : goal.returns-clause-value
returns-clause-value c =
    let d = goal.at.returns-clause-value c in
    let f = d.After-squares-squares in
    let b = between d.After-smallest_level-lowest in
    let e : c.product_of-combinations.result * c.squares-squares.result - n f * n f ≡ W f = omega (arith, word f) in
    let s : 2 ≤ c.smallest_level-lowest.result = omega arith in
    c.reduced.ensures
    ∙ ap₂ (λ x l. reduced x (n f * n f * (l - 1))) e (c.from.ensures ∙ c.smallest_level-lowest.ensures)
    ∙ value-several (p f) c.args.runs.now c.args.columns.now (subst (λ l. 2 ≤ l) c.smallest_level-lowest.ensures s)
