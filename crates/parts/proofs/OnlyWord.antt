-- Columns of which the runs have no word but that of all of them, as every set of R columns is: W(I) is the product of the levels times
-- the squared counts, less n²; it is at most n²(s - 1) for each level s; and there are at most 16 combinations a run.
use Rattle.exact.proofs.Ground.{List, [], ◌∷◌, map, ◌++◌, Memᴰ, mem-head, mem-tail, mem-not_nil, ◌≡◌, ◌∙◌, sym, ap, refl}
use Rattle.exact.proofs.Ground.{subst, ℕ, ◌≤◌, ◌<◌, ◌-◌, ◌+◌, ◌*◌, ◌+ℤ◌, +ℤ_idr, dec_le, mul-le-mul, arith, pos, ℤ, ◌*ℤ◌, ◌-ℤ◌, length, ◌≤ℤ◌, ne_eqb}
use lib.IntN.{+ℤ-neg_ℤ_cancel}
use Rattle.exact.specs.Lists.{from, sum, prod}
use Rattle.exact.proofs.Numbers.{mem-from, from-add}
use Rattle.exact.proofs.Sums.{sum-cong, sum-cong-in, sum-0, sum-map, sum-++}
use Rattle.exact.proofs.Tests.{false-is}
use Rattle.rules.specs.Plan.{Plan, level, entry, highest_level}
use Rattle.sets.specs.Sets.{choose}
use Rattle.sets.proofs.Parts.{Part, skip, keep, part_length, part-trans, part-choose, choose-part}
use Rattle.plan.specs.Good.{Sound}
use Rattle.words.specs.Words.{word_of, word}
use Rattle.counts.specs.Counts.{combinations, tally}
use Rattle.counts.specs.Numbered.{product_of, number_of, tally_of, most_numbers, Columns}
use Rattle.parts.specs.Parts.{squares_of, squared_counts, times, NoneShorter, OnlyWord}
use Rattle.counts.proofs.Numbered.{Below, number-below, tallies-numbered}
use Rattle.counts.proofs.Counted.{too_many}
use Rattle.counts.proofs.Balance.{Even→even}
use Rattle.words.specs.Entries.{AllBelow}
use Rattle.counts.proofs.Wordless.{parts→even, word-zero}
use Rattle.counts.proofs.Ceiling.{agreeing-first, ceiling}
use Rattle.parts.proofs.WordCounts.{agreeing-counts}

-- a member, and what stands before and after it
module _ {A : Type 0} where
  record Split (x : A) (xs : List A) : Type 0 where
    before : List A
    after : List A
    listed : before ++ x ∷ after ≡ xs

  split : (x : A) (xs : List A) → Memᴰ x xs → Split x xs
  split x [] m = absurd (mem-not_nil m)
  split x (y ∷ ys) (mem-head e) = record { before = []; after = ys; listed = ap (λ z. z ∷ ys) e }
  split x (y ∷ ys) (mem-tail m) =
      let S = split x ys m in record { before = y ∷ S.before; after = S.after; listed = ap (λ l. y ∷ l) S.listed }

module _ {R C : Type 0} (level : C → ℕ) (entry : R → C → ℕ) (runs : List R) where
  module _ (I : List C) (v : AllBelow level entry runs I) (none : NoneShorter level entry runs I (length I)) where
    smaller : (J : List C) → Part J I → 0 < length J → length J < length I → word_of level entry runs J ≡ pos 0
    smaller J p l k = word-zero level entry runs I v (length J) (none (length J) l k) J (part-choose p)

    -- at most n²(s - 1) for each level s
    pub only-ceiling : (i : C) → Memᴰ i I →
        word_of level entry runs I ≤ℤ (pos (length runs) *ℤ pos (length runs) *ℤ (pos (level i) -ℤ pos 1))
    only-ceiling i m =
        let S = split i I m in
        subst (λ I. word_of level entry runs I ≤ℤ (pos (length runs) *ℤ pos (length runs) *ℤ (pos (level i) -ℤ pos 1))) S.listed
        (ceiling level entry runs S.before i S.after (λ J p l k.
        smaller J (subst (Part J) S.listed p) l (subst (λ I. length J < length I) S.listed k)))

  module _ (i : C) (K : List C) (v : AllBelow level entry runs (i ∷ K)) (none : NoneShorter level entry runs (i ∷ K) (length (i ∷ K))) where
    others : (J : List C) → Part J K → 0 < length J → word_of level entry runs J ≡ pos 0
    others J p l = smaller (i ∷ K) v none J (skip p) l (let q = part_length p in omega arith)

    with_first : (J : List C) → Part J K → length J < length K → word_of level entry runs (i ∷ J) ≡ pos 0
    with_first J p l = smaller (i ∷ K) v none (i ∷ J) (keep p) (omega arith) (omega arith)

    -- the columns behind the first have no more combinations than there are runs
    others-few : 0 < length runs → product_of level K ≤ length runs
    others-few h = go (dec_le (product_of level K) (length runs))
      where
        below : AllBelow level entry runs K
        below k n = v k (mem-tail n)

        go : Dec (product_of level K ≤ length runs) → product_of level K ≤ length runs
        go (yes l) = l
        go (no l) =
            absurd (false-is _ (too_many level entry runs K (λ f m k n. (below k n).1 f m) h (omega arith))
            (Even→even level entry runs K (parts→even level entry runs K below others)))

  -- the product of the levels times the squared counts, less n²
  pub only-squares : (I : List C) → AllBelow level entry runs I → NoneShorter level entry runs I (length I) → 1 ≤ length I →
      word_of level entry runs I ≡ prod I (λ i. pos (level i)) *ℤ squared_counts level entry runs I -ℤ pos (length runs) *ℤ pos (length runs)
  only-squares [] v none h = absurd (omega arith)
  only-squares (i ∷ K) v none h =
      let n² = pos (length runs) *ℤ pos (length runs) in
      sym (+ℤ-neg_ℤ_cancel (word_of level entry runs (i ∷ K)) n²)
      ∙ ap (λ z. z -ℤ n²)
      (sym (agreeing-first level entry runs i K (with_first i K v none) (others i K v none)) ∙ agreeing-counts level entry runs (i ∷ K) v)

  -- so there are at most 16 combinations a run, however many columns
  pub only-few : (I : List C) → AllBelow level entry runs I → NoneShorter level entry runs I (length I) → 0 < length runs →
      ((i : C) → Memᴰ i I → level i ≤ highest_level) → product_of level I ≤ highest_level * length runs
  only-few [] v none h high = omega arith
  only-few (i ∷ K) v none h high = mul-le-mul (high i (mem-head refl)) (others-few i K v none h)

  -- every set of so many columns is one
  pub chosen-only : (cols : List C) → AllBelow level entry runs cols → (size : ℕ) → NoneShorter level entry runs cols size → (I : List C) →
      Memᴰ I (choose size cols) → NoneShorter level entry runs I (length I)
  unfolding word
  chosen-only cols v size none I m j l k =
      let (p, e) = choose-part size cols I m in
      sum-cong-in (choose j I) (λ J n.
      let (q, d) = choose-part j I J n in
      word-zero level entry runs cols v j (none j l (omega arith)) J (subst (λ j. Memᴰ J (choose j cols)) d (part-choose (part-trans q p))))
      ∙ sum-0 (choose j I)

  -- ---- the squares, by the numbers of the runs

  module _ (I : List C) (v : Below level entry runs I) where
    abbrev numbers : List R → List ℕ
    numbers rs = map (λ f. number_of level entry f I) rs

    pub times-tally : (rs : List R) (k : ℕ) → times (numbers rs) k ≡ tally_of level entry rs I k
    times-tally [] k = refl
    times-tally (f ∷ rs) k = rw (times-tally rs k)

    -- no run has a number past the last combination
    none-counted : (k : ℕ) → product_of level I ≤ k → tally_of level entry runs I k ≡ 0
    none-counted k h = go runs (λ f m. number-below level entry runs I v f m)
      where
        go : (rs : List R) → ((f : R) → Memᴰ f rs → number_of level entry f I < product_of level I) → tally_of level entry rs I k ≡ 0
        go [] b = refl
        go (f ∷ rs) b = rw (ne_eqb (number_of level entry f I) k (λ e. omega (arith, b f (mem-head refl))), go rs (λ g m. b g (mem-tail m)))

    abbrev square : ℕ → ℤ
    square n = pos n *ℤ pos n

    -- the combinations, by their numbers
    pub by_number : squared_counts level entry runs I ≡ sum (from 0 (product_of level I)) (λ k. square (tally_of level entry runs I k))
    unfolding squared_counts
    by_number =
        sym (sum-map (tally entry runs I) (combinations level I) square)
        ∙ ap (λ l. sum l square) (tallies-numbered level entry runs I v)
        ∙ sum-map (tally_of level entry runs I) (from 0 (product_of level I)) square

    pub only-numbers : product_of level I ≤ most_numbers → squares_of (numbers runs) ≡ squared_counts level entry runs I
    unfolding squares_of
    only-numbers h =
        let P = product_of level I in
        let S : ℕ → ℤ = λ k. square (tally_of level entry runs I k) in
        let e : most_numbers ≡ P + (most_numbers - P) = omega arith in
        sum-cong (from 0 most_numbers) (λ k. ap square (times-tally runs k))
        ∙ ap (λ n. sum (from 0 n) S) e
        ∙ ap (λ l. sum l S) (from-add 0 P (most_numbers - P))
        ∙ sum-++ (from 0 P) (from (0 + P) (most_numbers - P)) S
        ∙ ap (λ z. sum (from 0 P) S +ℤ z)
        (sum-cong-in (from (0 + P) (most_numbers - P)) (λ k m. ap square (none-counted k (let q = mem-from (0 + P) (most_numbers - P) m in omega arith)))
        ∙ sum-0 (from (0 + P) (most_numbers - P)))
        ∙ +ℤ_idr (sum (from 0 P) S)
        ∙ sym by_number

  pub product-levels : (I : List C) → prod I (λ i. pos (level i)) ≡ pos (product_of level I)
  product-levels [] = refl
  product-levels (i ∷ I) = ap (λ z. pos (level i) *ℤ z) (product-levels I)

-- ---- of a plan

module _ (p : Plan) (rs I : List ℕ) (S : Sound p rs) (K : Columns p.levels I) (O : OnlyWord p rs I) where
  below : AllBelow (level p) (entry p) rs I
  below i m = (K.low i m, λ f n. S.below f n i (K.inside i m))

  pub few-combinations : product_of (level p) I ≤ highest_level * length rs
  few-combinations = only-few (level p) (entry p) rs I below O.none-shorter O.runs (λ i m. S.level-high i (K.inside i m))
