-- The word of a set that has no other word, from its combinations and their squared counts.
use Rattle.exact.proofs.Ground.{List, map, ◌≡◌, ◌∙◌, sym, ap, ℕ, ◌≤◌, ◌<◌, ◌+◌, ◌*◌, min, arith, pos, ℤ, nat_abs, ◌*ℤ◌, ◌+ℤ◌, ◌-ℤ◌, length, get_or}
use Rattle.exact.proofs.Ground.{length-map, ◌≤ℤ◌}
use native.Mathlib.Nat.{min-eq_left}
use Rattle.exact.specs.Lists.{from}
use Rattle.exact.proofs.Ring.{ring}
use Rattle.exact.proofs.Order.{is_pos}
use Rattle.exact.proofs.Members.{get_or-mem}
use Rattle.exact.proofs.Lists.{get_d_map}
use Rattle.exact.proofs.Sums.{sum-cong, sum-map}
use Rattle.rules.specs.Plan.{Plan, level, entry}
use Rattle.words.specs.Words.{word_of}
use Rattle.counts.specs.Numbered.{product_of, number_of}
use Rattle.counts.proofs.Numbered.{number-below}
use Rattle.counts.proofs.Turns.{all-below}
use Rattle.parts.specs.Parts.{times, longer, squared_counts, OnlyWord}
use Rattle.parts.proofs.OnlyWord.{times-tally, by_number, product-levels, only-squares, few-combinations}
use Rattle.set_words.specs.Given.{Projection, Tabled}
use Rattle.set_words.proofs.SetWords.{counted-columns, word-nonneg}
use Rattle.set_ratios.specs.Given.{tallied, squares_in, numbers_in}
use Rattle.set_ratios.proofs.Tallied.{longer-at, longer-length}

-- a difference of numbers that is not below zero
difference : (a b : ℕ) (z : ℤ) → pos a -ℤ pos b ≡ z → pos 0 ≤ℤ z → a ≡ nat_abs z + b
difference a b z e h =
    let (k, q) = is_pos h in
    let d : pos a ≡ pos k +ℤ pos b = sym (back (pos a) (pos b)) ∙ ap (λ y. y +ℤ pos b) (e ∙ sym q) in
    omega (arith, ap nat_abs d, ap nat_abs q)
  where
    back : (x y : ℤ) → x -ℤ y +ℤ y ≡ x
    back x y = simp ring

module _ (p : Plan) (rs I : List ℕ) (G : Tabled p rs) (K : Projection p I) (O : OnlyWord p rs I) where
  abbrev word_in : ℤ
  word_in = word_of (level p) (entry p) rs I

  squares-counted : (xs : List ℕ) → xs ≡ numbers_in p rs I → squares_in (tallied (product_of (level p) I) xs) ≡ squared_counts (level p) (entry p) rs I
  unfolding tallied
  squares-counted xs e =
      let v = all-below p rs I G.sound (counted-columns p rs I G.sound K) in
      ap (λ xs. squares_in (map (times xs) (from 0 (product_of (level p) I)))) e
      ∙ sum-map (times (numbers_in p rs I)) (from 0 (product_of (level p) I)) (λ c. pos c *ℤ pos c)
      ∙ sum-cong (from 0 (product_of (level p) I)) (λ k. ap (λ c. pos c *ℤ pos c) (times-tally (level p) (entry p) rs I v rs k))
      ∙ sym (by_number (level p) (entry p) rs I v)

  -- the numbers with their last digit are those of the set
  module _ (s : ℕ) (xs ds : List ℕ) (d : longer s xs ds ≡ numbers_in p rs I) where
    pub numbers-length : length xs ≡ length rs
    numbers-length = sym (longer-length s xs ds) ∙ ap length d ∙ length-map rs (λ f. number_of (level p) (entry p) f I)

    pub number-few : (k : ℕ) → k < length xs → get_or xs k 0 * s + get_or ds k 0 < product_of (level p) I
    number-few k h =
        let l : k < length rs = omega (arith, numbers-length) in
        rw (
        sym (longer-at s xs ds k h) ∙ ap (λ ys. get_or ys k 0) d ∙ get_d_map (λ f. number_of (level p) (entry p) f I) rs k 0 0 l
        ) (number-below (level p) (entry p) rs I (all-below p rs I G.sound (counted-columns p rs I G.sound K)) (get_or rs k 0) (get_or-mem rs k 0 l))

  -- what the routine finds: the combinations x, and the squares z of their counts
  module _ (x : ℕ) (e : x ≡ min (product_of (level p) I) 4097) where
    pub combinations-found : x ≡ product_of (level p) I
    combinations-found = e ∙ min-eq_left (let h = few-combinations p rs I G.sound (counted-columns p rs I G.sound K) O in omega (arith, G.sound.few))

    pub combinations-few : x ≤ 16 * length rs
    combinations-few = omega (arith, combinations-found, few-combinations p rs I G.sound (counted-columns p rs I G.sound K) O)

    pub word-found : (xs : List ℕ) → xs ≡ numbers_in p rs I → (z : ℕ) → pos z ≡ squares_in (tallied x xs) → x * z ≡ nat_abs word_in + length rs * length rs
    word-found xs d z q =
        difference (x * z) (length rs * length rs) word_in
        (ap (λ y. pos x *ℤ y -ℤ pos (length rs * length rs)) (q ∙ ap (λ x. squares_in (tallied x xs)) combinations-found ∙ squares-counted xs d)
        ∙ ap (λ y. y *ℤ squared_counts (level p) (entry p) rs I -ℤ pos (length rs * length rs))
        (ap pos combinations-found ∙ sym (product-levels (level p) (entry p) rs I))
        ∙ sym (only-squares (level p) (entry p) rs I (λ i m. (G.sound.level-low i (K.inside i m), λ f n. G.sound.below f n i (K.inside i m))) O.none-shorter O.columns))
        (word-nonneg p rs I G.sound K)
