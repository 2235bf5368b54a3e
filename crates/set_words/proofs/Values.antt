-- The smallest level of a set, from the last column down; and how large a value's denominator is.
use Rattle.exact.proofs.Ground.{true, false, Bool, cond, List, [], ◌∷◌, map, Memᴰ, mem-head, mem-tail, mem-not_nil}
use Rattle.exact.proofs.Ground.{mem-of_map, mem-of_singleton, ◌≡◌, sym, refl, subst, ℕ, ◌≤◌, ◌<◌, ◌-◌, ◌*◌, min, dec_le, mul-pos}
use Rattle.exact.proofs.Ground.{◌++◌, ◌+◌, add-one, arith, nat_abs, length, get_or, take, take-suc, length-map, length-take-le}
use mathlib.Core.List.{map-append}
use native.Mathlib.Nat.{min-eq_left, min-eq_right, min-le_left, min-le_right, mul-one}
use Rattle.exact.specs.Lists.{smallest, holds}
use Rattle.exact.specs.Fractions.{zero_fraction, reduced, ShortDenominator}
use Rattle.exact.specs.declared.fractions.Fraction.{Fraction}
use Rattle.exact.proofs.Numbers.{mul-below}
use Rattle.exact.proofs.Tests.{is_true, is_false}
use Rattle.exact.proofs.Members.{mem-holds, holds-mem}
use Rattle.exact.proofs.Reduced.{reduced-num-≤, reduced-den-≤, reduced-den-pos}
use Rattle.rules.specs.Plan.{Plan, level, entry, lowest_level, highest_level, most_runs}
use Rattle.words.specs.Words.{word_of}
use Rattle.set_words.specs.Given.{Projection, Tabled, over_pairs}
use Rattle.set_words.specs.SetWords.{value_of, relative_of, value_in}

-- ---- the smallest

-- one number more
smallest-more : (x : ℕ) (xs : List ℕ) (y : ℕ) → smallest ((x ∷ xs) ++ y ∷ []) ≡ min (smallest (x ∷ xs)) y
smallest-more x [] y = refl
smallest-more x (z ∷ zs) y = rw (smallest-more z zs y) (omega arith)

smallest-snoc : (xs : List ℕ) (y : ℕ) → 1 ≤ length xs → smallest (xs ++ y ∷ []) ≡ min (smallest xs) y
smallest-snoc [] y h = absurd (omega arith)
smallest-snoc (x ∷ xs) y h = smallest-more x xs y

module _ (f : ℕ → ℕ) (I : List ℕ) where
  pub smallest-first : 1 ≤ length I → f (get_or I 0 0) ≡ smallest (map f (take 1 I))
  smallest-first h = rw (take-suc I 0 0) refl

  pub smallest-turn : (k : ℕ) → 1 ≤ k → k < length I →
      min (smallest (map f (take k I))) (f (get_or I k 0)) ≡ smallest (map f (take (k + 1) I))
  smallest-turn k low h =
      rw (add-one, take-suc I k 0, map-append f)
      (sym (smallest-snoc (map f (take k I)) (f (get_or I k 0)) (simp length-map (omega (arith, length-take-le k I (omega arith))))))

pub smallest-mem : (xs : List ℕ) → 1 ≤ length xs → Memᴰ (smallest xs) xs
smallest-mem [] h = absurd (omega arith)
smallest-mem (x ∷ []) h = mem-head refl
smallest-mem (x ∷ y ∷ ys) h = go (dec_le x (smallest (y ∷ ys))) (smallest-mem (y ∷ ys) (omega arith))
  where
    go : Dec (x ≤ smallest (y ∷ ys)) → Memᴰ (smallest (y ∷ ys)) (y ∷ ys) → Memᴰ (min x (smallest (y ∷ ys))) (x ∷ y ∷ ys)
    go (yes l) m = mem-head (min-eq_left l)
    go (no l) m =
        mem-tail (subst (λ s. Memᴰ s (y ∷ ys)) (sym (min-eq_right (let q : smallest (y ∷ ys) ≤ x = omega arith in q))) m)

smallest-≤ : (xs : List ℕ) (x : ℕ) → Memᴰ x xs → smallest xs ≤ x
smallest-≤ [] x m = absurd (mem-not_nil m)
smallest-≤ (y ∷ []) x m = omega (arith, mem-of_singleton m)
smallest-≤ (y ∷ z ∷ zs) x (mem-head e) = omega (arith, e, min-le_left y (smallest (z ∷ zs)))
smallest-≤ (y ∷ z ∷ zs) x (mem-tail m) = omega (arith, smallest-≤ (z ∷ zs) x m, min-le_right y (smallest (z ∷ zs)))

-- ---- a value by the smallest level

module _ {R C : Type 0} (level : C → ℕ) (entry : R → C → ℕ) (rs : List R) where
  pub relative-one : (I : List C) → Memᴰ 1 (map level I) → relative_of level entry rs I ≡ zero_fraction
  unfolding relative_of
  relative-one I m = rw (mem-holds 1 (map level I) m)

pub relative_of_lowest_one : {R C : Type 0} (level : C → ℕ) (entry : R → C → ℕ) (rs : List R) (I : List C) →
    1 ≤ length I → smallest (map level I) ≡ 1 → relative_of level entry rs I ≡ zero_fraction
relative_of_lowest_one level entry rs I some e =
    relative-one level entry rs I
    (subst (λ s. Memᴰ s (map level I)) e (smallest-mem (map level I) (omega (arith, length-map I level))))

module _ (p : Plan) (rs I : List ℕ) where
  pub value-plain : over_pairs p rs I 1 ≡ value_in false p rs I
  unfolding value_of
  value-plain = rw (mul-one (length rs * length rs))

  pub value-one : 1 ≤ length I → smallest (map (level p) I) ≡ 1 → zero_fraction ≡ value_in true p rs I
  value-one some e = sym (relative_of_lowest_one (level p) (entry p) rs I some e)

  pub value-several : 2 ≤ smallest (map (level p) I) → over_pairs p rs I (smallest (map (level p) I) - 1) ≡ value_in true p rs I
  unfolding relative_of
  value-several l = rw (is_false (holds 1 (map (level p) I)) (λ t. omega (arith, smallest-≤ (map (level p) I) 1 (holds-mem 1 (map (level p) I) (is_true _ t)))))

  -- no numerator is above the word
  pub value-num : (relative : Bool) → (value_in relative p rs I).num ≤ nat_abs (word_of (level p) (entry p) rs I)
  unfolding value_of relative_of
  value-num false = reduced-num-≤ _ _
  value-num true = go (holds 1 (map (level p) I))
    where
      w : ℕ
      w = nat_abs (word_of (level p) (entry p) rs I)

      d : ℕ
      d = length rs * length rs * (smallest (map (level p) I) - 1)

      go : (b : Bool) → (cond b zero_fraction (reduced w d)).num ≤ w
      go true = omega arith
      go false = reduced-num-≤ w d

-- ---- the denominators

module _ (p : Plan) (rs I : List ℕ) (G : Tabled p rs) (P : Projection p I) (some : 1 ≤ length I) where
  pub level-between : (lowest_level ≤ smallest (map (level p) I)) × (smallest (map (level p) I) ≤ highest_level)
  level-between =
      let (i, m, e) = mem-of_map (level p) I (smallest-mem (map (level p) I) (omega (arith, length-map I (level p)))) in
      subst (λ s. (lowest_level ≤ s) × (s ≤ highest_level)) e (G.sound.level-low i (P.inside i m), G.sound.level-high i (P.inside i m))

pub few-pairs : (n : ℕ) → n ≤ most_runs → n * n ≤ 65_536
few-pairs n few = mul-below n n most_runs most_runs few few

pub over-between : (n d : ℕ) → 1 ≤ n → n ≤ most_runs → 1 ≤ d → d < highest_level → (1 ≤ n * n * d) × (n * n * d ≤ 983_040)
over-between n d some few low high = (mul-pos (mul-pos some some) low, mul-below (n * n) d 65_536 15 (few-pairs n few) (omega arith))

over-short : (p : Plan) (rs I : List ℕ) → Tabled p rs → (d : ℕ) → 1 ≤ d → d < highest_level → ShortDenominator (over_pairs p rs I d)
over-short p rs I G d low high =
    let a = nat_abs (word_of (level p) (entry p) rs I) in
    let b = length rs * length rs * d in
    let (some, most) = over-between (length rs) d G.some G.sound.few low high in
    record { above_zero = reduced-den-pos a b some; short = omega (arith, reduced-den-≤ a b) }

module _ (p : Plan) (rs I : List ℕ) (G : Tabled p rs) (P : Projection p I) (some : 1 ≤ length I) where
  -- what holds of 0/1 and of W(I) over n² times a number below the highest level holds of the value
  pub value-has : (Q : Fraction → Type 0) → Q zero_fraction → ((d : ℕ) → 1 ≤ d → d < highest_level → Q (over_pairs p rs I d)) →
      (relative : Bool) → Q (value_in relative p rs I)
  value-has Q zero over false = subst Q (value-plain p rs I) (over 1 (omega arith) (omega arith))
  value-has Q zero over true = go (dec_le 2 s)
    where
      s : ℕ
      s = smallest (map (level p) I)

      go : Dec (2 ≤ s) → Q (value_in true p rs I)
      go (yes l) = subst Q (value-several p rs I l) (over (s - 1) (omega arith) (omega (arith, level-between p rs I G P some)))
      go (no l) = subst Q (value-one p rs I some (omega (arith, level-between p rs I G P some))) zero

  pub value-short : (relative : Bool) → ShortDenominator (value_in relative p rs I)
  value-short =
      value-has ShortDenominator (record { above_zero = omega arith; short = omega arith }) (λ d low high. over-short p rs I G d low high)
