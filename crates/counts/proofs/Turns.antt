-- A turn of each loop: one column more, one run more, one counter or set passed.
use Rattle.exact.proofs.Ground.{true, false, Bool, cond, ◌&&◌, List, [], ◌∷◌, map, ◌++◌, Memᴰ, mem-head, mem-tail}
use Rattle.exact.proofs.Ground.{mem-of_singleton, ◌≡◌, ◌∙◌, sym, ap, refl, subst, fun_ext, ℕ, ◌≤◌, ◌<◌, ◌-◌, ◌+◌, ◌*◌, suc, zero, min}
use Rattle.exact.proofs.Ground.{ℕ_discrete, zero-add, mul-pos, le_refl, add-one, arith, eqb, drop_of_length-le, length, get_or, take, drop, set}
use Rattle.exact.proofs.Ground.{length-set, length-drop, take_all, take_at, take-suc, drop-cons, ext_get_or, ne_eqb, eq-eqb}
use mathlib.Core.List.{map-append}
use native.Mathlib.Nat.{mul_assoc, mul-le-mul_left, min-eq_right}
use lib.Seq.{get_or-set_same, get_or-set_other}
use Rattle.std.specs.List.{list_all}
use Rattle.exact.specs.Lists.{from, all, alike, count, largest}
use Rattle.exact.proofs.Numbers.{from-add, map-from-at}
use Rattle.exact.proofs.Rooms.{length-numbered}
use Rattle.exact.proofs.Members.{take-mem}
use Rattle.exact.proofs.Lists.{count-snoc}
use Rattle.rules.specs.Plan.{Plan, level, entry, most_runs}
use Rattle.sets.specs.Sets.{binom}
use Rattle.sets.proofs.Parts.{part-mem}
use Rattle.sets.proofs.Among.{chosen, chosen-part}
use Rattle.plan.specs.Good.{Sound}
use Rattle.counts.specs.Counts.{even, balanced, strength}
use Rattle.counts.specs.Numbered.{product_of, number_of, tally_of, tallies, Columns}
use Rattle.counts.proofs.Numbered.{Below, number-below, even-numbered}

-- ---- one column more

module _ {C : Type 0} (level : C → ℕ) where
  product-snoc : (J : List C) (i : C) → product_of level (J ++ i ∷ []) ≡ product_of level J * level i
  product-snoc [] i = omega arith
  product-snoc (j ∷ J) i = rw (product-snoc J i, mul_assoc)

  pub product-next : (J : List C) (k : ℕ) (d : C) → k < length J →
      product_of level (take (k + 1) J) ≡ product_of level (take k J) * level (get_or J k d)
  product-next J k d h = rw (add-one, take-suc J k d) (product-snoc (take k J) (get_or J k d))

  product-low : (J : List C) → ((i : C) → Memᴰ i J → 1 ≤ level i) → 1 ≤ product_of level J
  product-low [] v = le_refl 1
  product-low (i ∷ J) v = mul-pos (v i (mem-head refl)) (product-low J (λ k m. v k (mem-tail m)))

  -- fewer columns have no more combinations
  pub product-take : (k : ℕ) (J : List C) → ((i : C) → Memᴰ i J → 1 ≤ level i) → product_of level (take k J) ≤ product_of level J
  product-take zero J v = product-low J v
  product-take (suc k) [] v = le_refl 1
  product-take (suc k) (i ∷ J) v = mul-le-mul_left (level i) (product-take k J (λ k m. v k (mem-tail m)))

  -- once above the limit, the product stays above it
  pub product-above : (J : List C) (k : ℕ) (d : C) (limit : ℕ) → ((i : C) → Memᴰ i J → 1 ≤ level i) → k < length J →
      limit < product_of level (take k J) * level (get_or J k d) → limit + 1 ≡ min (product_of level J) (limit + 1)
  product-above J k d limit v h l = sym (min-eq_right (omega (arith, product-next J k d h, product-take (k + 1) J v)))

module _ {R C : Type 0} (level : C → ℕ) (entry : R → C → ℕ) (f : R) where
  pub number-snoc : (J : List C) (i : C) → number_of level entry f (J ++ i ∷ []) ≡ number_of level entry f J * level i + entry f i
  number-snoc [] i = omega arith
  number-snoc (j ∷ J) i = rw (product-snoc level J i, number-snoc J i) (omega arith)

  pub number-next : (J : List C) (k : ℕ) (d : C) → k < length J →
      number_of level entry f (take (k + 1) J) ≡ number_of level entry f (take k J) * level (get_or J k d) + entry f (get_or J k d)
  number-next J k d h = rw (add-one, take-suc J k d) (number-snoc (take k J) (get_or J k d))

  pub number-one : (J : List C) → ((i : C) → Memᴰ i J → entry f i < level i) → number_of level entry f J < product_of level J
  number-one J v =
      number-below level entry (f ∷ []) J (λ g m i n. subst (λ g. entry g i < level i) (sym (mem-of_singleton m)) (v i n)) f
      (mem-head refl)

  pub number_small : (J : List C) (k : ℕ) → ((i : C) → Memᴰ i J → entry f i < level i) →
      number_of level entry f (take k J) < product_of level J
  number_small J k v =
      omega (arith, number-one (take k J) (λ i m. v i (take-mem k J i m)), product-take level k J (λ i m. let h = v i m in omega arith))

-- ---- one run more

module _ {A : Type 0} where
  pub count-bound : (test : A → Bool) (xs : List A) → count test xs ≤ length xs
  count-bound test [] = le_refl 0
  count-bound test (x ∷ xs) = go (test x) (count-bound test xs)
    where
      go : (b : Bool) → count test xs ≤ length xs → cond b (suc (count test xs)) (count test xs) ≤ suc (length xs)
      go true h = omega arith
      go false h = omega arith

module _ {A : Type 0} where
  pub take-from : (g : ℕ → A) (n k : ℕ) → k ≤ n → take k (map g (from 0 n)) ≡ map g (from 0 k)
  take-from g n k h =
      let e : n ≡ k + (n - k) = omega arith in
      ap (λ j. take k (map g (from 0 j))) e
      ∙ ap (λ l. take k (map g l)) (from-add 0 k (n - k))
      ∙ rw (map-append g) (take_at (map g (from 0 k)) (map g (from (0 + k) (n - k))) k (length-numbered g k))

-- one more in the counter x
pub raise : (g : ℕ → ℕ) (x n : ℕ) → x < n → set (map g (from 0 n)) x (g x + 1) ≡ map (λ k. cond (eqb x k) (g k + 1) (g k)) (from 0 n)
raise g x n h = ext_get_or 0 (set (map g (from 0 n)) x (g x + 1)) (map raised (from 0 n)) (long ∙ sym (length-numbered raised n)) (λ k l.
    let d : k < n = subst (λ m. k < m) long l in
    go k d (ℕ_discrete x k) ∙ sym (map-from-at raised 0 n k 0 d ∙ ap raised (zero-add k)))
  where
    raised : ℕ → ℕ
    raised k = cond (eqb x k) (g k + 1) (g k)

    long : length (set (map g (from 0 n)) x (g x + 1)) ≡ n
    long = length-set (map g (from 0 n)) x (g x + 1) ∙ length-numbered g n

    go : (k : ℕ) → k < n → Dec (x ≡ k) → get_or (set (map g (from 0 n)) x (g x + 1)) k 0 ≡ raised k
    go k l (yes e) = rw (eq-eqb x k e, ← e) (get_or-set_same (map g (from 0 n)) x (g x + 1) 0 (rw (length-numbered g n) h))
    go k l (no e) =
        rw (ne_eqb x k e)
        (get_or-set_other (map g (from 0 n)) x k (g x + 1) 0 (λ d. e (sym d)) ∙ map-from-at g 0 n k 0 l ∙ ap g (zero-add k))

module _ (p : Plan) (J : List ℕ) where
  pub tally-at : (rs : List ℕ) (k : ℕ) → k < most_runs → get_or (tallies p rs J) k 0 ≡ tally_of (level p) (entry p) rs J k
  unfolding tallies
  tally-at rs k h = map-from-at (tally_of (level p) (entry p) rs J) 0 most_runs k 0 h ∙ ap (tally_of (level p) (entry p) rs J) (zero-add k)

  pub tally-bound : (rs : List ℕ) (k : ℕ) → k < most_runs → get_or (tallies p rs J) k 0 ≤ length rs
  tally-bound rs k h = rw (tally-at rs k h) (count-bound (λ f. eqb (number_of (level p) (entry p) f J) k) rs)

  one-run : (rs : List ℕ) (f x : ℕ) → x ≡ number_of (level p) (entry p) f J → x < most_runs →
      set (tallies p rs J) x (tally_of (level p) (entry p) rs J x + 1) ≡ tallies p (rs ++ f ∷ []) J
  unfolding tallies
  one-run rs f x e l =
      let n = tally_of (level p) (entry p) rs J in
      raise n x most_runs l
      ∙ ap (λ g. map g (from 0 most_runs)) (fun_ext (λ k.
      ap (λ y. cond (eqb y k) (n k + 1) (n k)) e ∙ sym (count-snoc (λ f. eqb (number_of (level p) (entry p) f J) k) rs f)))

  pub tallies-next : (rs : List ℕ) (i x : ℕ) → i < length rs → x ≡ number_of (level p) (entry p) (get_or rs i 0) J → x < most_runs →
      set (tallies p (take i rs) J) x (get_or (tallies p (take i rs) J) x 0 + 1) ≡ tallies p (take (i + 1) rs) J
  tallies-next rs i x h e l = rw (tally-at (take i rs) x l, add-one i, take-suc rs i 0) (one-run (take i rs) (get_or rs i 0) x e l)

  pub tallies-front : (rs : List ℕ) (k : ℕ) → k ≤ most_runs → take k (tallies p rs J) ≡ map (tally_of (level p) (entry p) rs J) (from 0 k)
  unfolding tallies
  tallies-front rs k h = take-from (tally_of (level p) (entry p) rs J) most_runs k h

-- ---- all runs counted

module _ (p : Plan) (rs J : List ℕ) (S : Sound p rs) (K : Columns p.levels J) where
  pub all-below : Below (level p) (entry p) rs J
  all-below f m i n = S.below f m i (K.inside i n)

  pub even-tallies : product_of (level p) J ≤ most_runs → alike (take (product_of (level p) J) (tallies p rs J)) ≡ even (level p) (entry p) rs J
  even-tallies h = rw (tallies-front p J rs (product_of (level p) J) h) (sym (even-numbered (level p) (entry p) rs J all-below))

-- ---- one counter or one set passed

module _ {A : Type 0} (test : A → Bool) (xs : List A) where
  pub all-next : (k : ℕ) (d : A) → k < length xs → all (drop k xs) test ≡ (test (get_or xs k d) && all (drop (k + 1) xs) test)
  all-next k d h = rw (add-one, drop-cons xs k d)

  pub all-passed : (k : ℕ) → length xs ≤ k → all (drop k xs) test ≡ true
  all-passed k h = rw (drop_of_length-le xs h)

module _ {A : Type 0} (test : A → Bool) where
  listed-all : (ys : List A) → list_all test ys ≡ all ys test
  listed-all [] = refl
  listed-all (y ∷ ys) = ap (λ b. test y && b) (listed-all ys)

-- the counts after the first are compared with it
pub alike-rest : (xs : List ℕ) → all (drop 1 xs) (λ y. eqb (get_or xs 0 0) y) ≡ alike xs
alike-rest [] = refl
alike-rest (x ∷ xs) = refl

pub alike-others : (xs : List ℕ) → 1 ≤ length xs → list_all (λ y. eqb (get_or xs 0 0) y) (take (length xs - 1) (drop 1 xs)) ≡ alike xs
alike-others xs h =
    rw (take_all (length xs - 1) (drop 1 xs) (omega (arith, length-drop 1 xs))) (listed-all (λ y. eqb (get_or xs 0 0) y) (drop 1 xs) ∙ alike-rest xs)

-- ---- the sets of t of some columns, place after place

module _ (cols : List ℕ) (t k : ℕ) (h : k < binom (length cols) t) where
  pub chosen-columns : {levels : List ℕ} → Columns levels cols → Columns levels (chosen cols t k)
  chosen-columns K = record { inside = λ i m. K.inside i (among i m); low = λ i m. K.low i (among i m) }
    where
      among : (i : ℕ) → Memᴰ i (chosen cols t k) → Memᴰ i cols
      among = part-mem (chosen-part cols t k h)

-- ---- the search from the top

module _ (p : Plan) (rs cols : List ℕ) where
  -- the strength is found among the numbers up to t
  abbrev pub Found : ℕ → Type 0
  Found t = largest (balanced (level p) (entry p) rs cols) t ≡ strength (level p) (entry p) rs cols

  pub found-top : Found (length cols)
  unfolding strength
  found-top = refl

  -- r says whether t passes
  pub found_here : (t : ℕ) (r : Bool) → 0 < t → r ≡ balanced (level p) (entry p) rs cols t → r ≡ true → Found t →
      t ≡ strength (level p) (entry p) rs cols
  found_here zero r h d e g = absurd (omega arith)
  found_here (suc t) r h d e g = rw (sym d ∙ e) at g

  pub found-lower : (t : ℕ) (r : Bool) → 0 < t → r ≡ balanced (level p) (entry p) rs cols t → r ≡ false → Found t → Found (t - 1)
  found-lower zero r h d e g = absurd (omega arith)
  found-lower (suc t) r h d e g = let q : suc t - 1 ≡ t = omega arith in rw q (rw (sym d ∙ e) at g)
