-- The sum over the parts of a set of columns is W(I), whatever the levels: column after column, the level times the pairs of runs that
-- agree in it, less all pairs, is the score.
use Rattle.exact.proofs.Ground.{true, false, Bool, cond, ◌&&◌, List, [], ◌∷◌, map, ◌++◌, Memᴰ, mem-head, mem-tail, append_assoc}
use Rattle.exact.proofs.Ground.{mem-of_map, ◌≡◌, ◌∙◌, sym, ap, refl, ap₂, subst, ℕ, ◌≤◌, ◌<◌, ◌-◌, ◌+◌, ◌*◌, suc, zero, ◌^◌, mul-le-mul}
use Rattle.exact.proofs.Ground.{mul-le-mul_right, arith, eqb, pos, ℤ, nat_abs, ◌*ℤ◌, ◌+ℤ◌, negsuc, neg_ℤ, length, get_or, take, drop, replicate}
use Rattle.exact.proofs.Ground.{length-append, length-map, get_or-append, drop_at}
use native.Mathlib.Nat.{pow-suc}
use Rattle.exact.specs.Lists.{from, filled_to, sum, prod}
use Rattle.exact.proofs.Ring.{ring, *-one, one-*}
use Rattle.exact.proofs.Order.{nat_abs-neg}
use Rattle.exact.proofs.Members.{get_or-mem}
use Rattle.exact.proofs.Sums.{sum-cong, sum-cong-in, sum-+, sum-*, sum-map}
use Rattle.rules.specs.Plan.{Plan, level, entry, highest_level}
use Rattle.plan.specs.Good.{Sound}
use Rattle.words.specs.Words.{score_at, word_of}
use Rattle.words.proofs.Squares.{agree, agree_same, score-agree}
use Rattle.counts.specs.Numbered.{product_of, Columns, most_numbers}
use Rattle.parts.specs.Parts.{squares_of, sign, longer, over_parts, Digits, Weighed, turned}
use Rattle.counts.proofs.Numbered.{Below, digits}
use Rattle.parts.proofs.Squared.{squares-pairs}
use Rattle.parts.proofs.OverParts.{digits-rest}
use Rattle.parts.proofs.WordCounts.{gather}

-- ---- one column more

-- numbers with a digit more agree where the numbers and the digits do
agree-digits : (s x k a l : ℕ) → k < s → l < s → agree (x * s + k) (a * s + l) ≡ agree x a *ℤ agree k l
unfolding agree
agree-digits s x k a l h g = ap (λ b. cond b (pos 1) (pos 0)) (digits s x k a l h g) ∙ go (eqb x a) (eqb k l)
  where
    go : (b c : Bool) → cond (b && c) (pos 1) (pos 0) ≡ cond b (pos 1) (pos 0) *ℤ cond c (pos 1) (pos 0)
    go true true = refl
    go true false = refl
    go false true = refl
    go false false = refl

module _ {A : Type 0} where
  shifted : (F : ℕ → A) (a n : ℕ) → map F (from (suc a) n) ≡ map (λ k. F (suc k)) (from a n)
  shifted F a zero = refl
  shifted F a (suc n) = ap (λ l. F (suc a) ∷ l) (shifted F (suc a) n)

module _ {R : Type 0} (s : ℕ) (a b : R → ℕ) (rest : List ℕ) where
  pub longer-map : (rs : List R) → longer s (map a rs) (map b rs ++ rest) ≡ map (λ f. a f * s + b f) rs
  longer-map [] = refl
  longer-map (f ∷ rs) =
      ap (λ l. (a f * s + b f) ∷ l)
      (shifted (λ k. get_or (map a (f ∷ rs)) k 0 * s + get_or (map b (f ∷ rs) ++ rest) k 0) 0 (length (map a rs)) ∙ longer-map rs)

module _ {R C : Type 0} (level : C → ℕ) (entry : R → C → ℕ) (runs : List R) where
  -- the pairs of runs with equal numbers, and of those the sum of the products of the scores in I
  abbrev alike_in : (R → ℕ) → List C → R → R → ℤ
  alike_in number I f g = agree (number f) (number g) *ℤ prod I (score_at level entry f g)

  abbrev pairs_of : (R → ℕ) → List C → ℤ
  pairs_of number I = sum runs (λ f. sum runs (λ g. alike_in number I f g))

  -- the numbers with the digit of column i
  abbrev with : (R → ℕ) → C → R → ℕ
  with number i f = number f * level i + entry f i

  module _ (number : R → ℕ) (i : C) (I : List C) (v : (f : R) → Memᴰ f runs → entry f i < level i) where
    point : (f : R) → Memᴰ f runs → (g : R) → Memᴰ g runs →
        alike_in number (i ∷ I) f g ≡ pos (level i) *ℤ alike_in (with number i) I f g +ℤ negsuc 0 *ℤ alike_in number I f g
    point f mf g mg =
        ap (λ z. agree (number f) (number g) *ℤ z)
        (ap (λ z. z *ℤ prod I (score_at level entry f g)) (score-agree (level i) (entry f i) (entry g i))
        ∙ sym (gather (pos (level i) *ℤ agree (entry f i) (entry g i)) (prod I (score_at level entry f g))))
        ∙ turn (agree (number f) (number g)) (pos (level i)) (agree (entry f i) (entry g i)) (negsuc 0) (prod I (score_at level entry f g))
        ∙ ap (λ z. pos (level i) *ℤ (z *ℤ prod I (score_at level entry f g)) +ℤ negsuc 0 *ℤ alike_in number I f g)
        (sym (agree-digits (level i) (number f) (entry f i) (number g) (entry g i) (v f mf) (v g mg)))
      where
        turn : (n s e m p : ℤ) → n *ℤ (s *ℤ e *ℤ p +ℤ m *ℤ p) ≡ s *ℤ (n *ℤ e *ℤ p) +ℤ m *ℤ (n *ℤ p)
        turn n s e m p = simp ring

    -- the level times the pairs that agree in it, less all pairs
    pairs-score : pairs_of number (i ∷ I) ≡ pos (level i) *ℤ pairs_of (with number i) I +ℤ negsuc 0 *ℤ pairs_of number I
    pairs-score =
        sum-cong-in runs (λ f mf. sum-cong-in runs (λ g mg. point f mf g mg) ∙ linear (λ g. alike_in (with number i) I f g) (λ g. alike_in number I f g))
        ∙ linear (λ f. sum runs (λ g. alike_in (with number i) I f g)) (λ f. sum runs (λ g. alike_in number I f g))
      where
        linear : (x y : R → ℤ) → sum runs (λ f. pos (level i) *ℤ x f +ℤ negsuc 0 *ℤ y f) ≡ pos (level i) *ℤ sum runs x +ℤ negsuc 0 *ℤ sum runs y
        linear x y =
            sum-+ runs (λ f. pos (level i) *ℤ x f) (λ f. negsuc 0 *ℤ y f) ∙ ap₂ (λ x y. x +ℤ y) (sum-* runs (pos (level i)) x) (sum-* runs (negsuc 0) y)

  -- ---- the sum over the parts

  -- the numbers of the runs are below `most`
  abbrev Numbers : (R → ℕ) → ℕ → Type 0
  Numbers number most = (f : R) → Memᴰ f runs → number f < most

  leaf : (number : R → ℕ) → Numbers number most_numbers → squares_of (map number runs) ≡ pairs_of number []
  leaf number h =
      squares-pairs (map number runs) (λ x m. let (f, n, e) = mem-of_map number runs m in subst (λ x. x < most_numbers) e (h f n))
      ∙ sum-map number runs (λ x. sum (map number runs) (λ y. agree x y))
      ∙ sum-cong runs (λ f. sum-map number runs (λ y. agree (number f) y) ∙ sum-cong runs (λ g. sym (*-one (agree (number f) (number g)))))

  over-pairs : (I : List C) (w : ℤ) (number : R → ℕ) (most : ℕ) (z : List ℕ) → Below level entry runs I → Numbers number most →
      Digits (length runs) most (map level I) (turned entry runs I ++ z) →
      over_parts w (map number runs) (map level I) (turned entry runs I ++ z) ≡ (w *ℤ sign (length I)) *ℤ pairs_of number I
  over-pairs [] w number most z v h D =
      ap (λ x. w *ℤ x) (leaf number (λ f m. let l = h f m in omega arith)) ∙ sym (ap (λ x. x *ℤ pairs_of number []) (*-one w))
  over-pairs (i ∷ I) w number most z v h D =
      let e : R → ℕ = λ f. entry f i in
      let rest = turned entry runs I ++ z in
      let n = length runs in
      let whole : turned entry runs (i ∷ I) ++ z ≡ map e runs ++ rest = append_assoc (map e runs) (turned entry runs I) z in
      let dropped : drop n (map e runs ++ rest) ≡ rest = drop_at (map e runs) rest n (length-map runs e) in
      let gone : drop (length (map number runs)) (map e runs ++ rest) ≡ rest = ap (λ k. drop k (map e runs ++ rest)) (length-map runs number) ∙ dropped in
      let D' : Digits n most (level i ∷ map level I) (map e runs ++ rest) = subst (Digits n most (level i ∷ map level I)) whole D in
      let v' : Below level entry runs I = λ f m k o. v f m k (mem-tail o) in
      let e-below : (f : R) → Memᴰ f runs → e f < level i = λ f m. v f m i (mem-head refl) in
      let sg = sign (length I) in
      ap (over_parts w (map number runs) (level i ∷ map level I)) whole
      ∙ ap₂ (λ x y. x +ℤ y)
      (ap₂ (λ xs ds. over_parts (neg_ℤ (pos (level i)) *ℤ w) xs (map level I) ds) (longer-map (level i) number e rest runs) gone
      ∙ over-pairs I (neg_ℤ (pos (level i)) *ℤ w) (with number i) (level i * most) z v'
      (λ f m. omega (arith, e-below f m, mul-le-mul_right (level i) (h f m)))
      (subst (Digits n (level i * most) (map level I)) dropped D'.3))
      (ap (over_parts w (map number runs) (map level I)) gone
      ∙ over-pairs I w number most z v' h (subst (Digits n most (map level I)) dropped (digits-rest n most (level i) (map level I) (map e runs ++ rest) D')))
      ∙ turn (pos (level i)) w sg (pairs_of (with number i) I) (pairs_of number I)
      ∙ ap (λ x. w *ℤ neg_ℤ sg *ℤ x) (sym (pairs-score number i I e-below))
    where
      turn : (s w sg p q : ℤ) → neg_ℤ s *ℤ w *ℤ sg *ℤ p +ℤ w *ℤ sg *ℤ q ≡ w *ℤ neg_ℤ sg *ℤ (s *ℤ p +ℤ negsuc 0 *ℤ q)
      turn s w sg p q = simp ring

  -- ---- every run has the number 0 before the first column

  row_below : (i : C) (rest : List ℕ) → ((f : R) → Memᴰ f runs → entry f i < level i) → (k : ℕ) → k < length runs →
      get_or (map (λ f. entry f i) runs ++ rest) k 0 < level i
  row_below i rest v k h =
      let e : R → ℕ = λ f. entry f i in
      let l : k < length (map e runs) = rw (length-map runs e) h in
      let (f, m, q) = mem-of_map e runs (get_or-mem (map e runs) k 0 l) in
      rw (get_or-append (map e runs) rest 0 k l) (subst (λ x. x < level i) q (v f m))

  turned-digits : (I : List C) (most : ℕ) (z : List ℕ) → Below level entry runs I → ((i : C) → Memᴰ i I → 1 ≤ level i) →
      most * product_of level I ≤ most_numbers → Digits (length runs) most (map level I) (turned entry runs I ++ z)
  turned-digits [] most z v low h = omega arith
  turned-digits (i ∷ I) most z v low h =
      let e : R → ℕ = λ f. entry f i in
      let rest = turned entry runs I ++ z in
      let n = length runs in
      let dropped : drop n (map e runs ++ rest) ≡ rest = drop_at (map e runs) rest n (length-map runs e) in
      subst (Digits n most (level i ∷ map level I)) (sym (append_assoc (map e runs) (turned entry runs I) z)) (
        low i (mem-head refl),
        (let q : n ≤ length (map e runs ++ rest) = omega (arith, length-append (map e runs) rest, length-map runs e) in q),
        row_below i rest (λ f m. v f m i (mem-head refl)),
        subst (Digits n (level i * most) (map level I)) (sym dropped)
            (turned-digits I (level i * most) z (λ f m k o. v f m k (mem-tail o)) (λ k o. low k (mem-tail o)) (omega (arith, h))),
      )

  pairs-word : (I : List C) → pairs_of (λ f. 0) I ≡ word_of level entry runs I
  unfolding word_of
  pairs-word I = sum-cong runs (λ f. sum-cong runs (λ g. ap (λ z. z *ℤ prod I (score_at level entry f g)) (agree_same 0) ∙ one-* (prod I (score_at level entry f g))))

  pub from-counts : (I : List C) (z : List ℕ) → Below level entry runs I → ((i : C) → Memᴰ i I → 1 ≤ level i) →
      product_of level I ≤ most_numbers → over_parts (sign (length I)) (map (λ f. 0) runs) (map level I) (turned entry runs I ++ z) ≡ word_of level entry runs I
  from-counts I z v low h =
      over-pairs I (sign (length I)) (λ f. 0) 1 z v (λ f m. omega arith) (turned-digits I 1 z v low (omega (arith, h)))
      ∙ ap (λ x. x *ℤ pairs_of (λ f. 0) I) (sign-twice (length I)) ∙ one-* (pairs_of (λ f. 0) I) ∙ pairs-word I
    where
      sign-twice : (n : ℕ) → sign n *ℤ sign n ≡ pos 1
      sign-twice zero = refl
      sign-twice (suc n) = turn (sign n) ∙ sign-twice n
        where
          turn : (a : ℤ) → neg_ℤ a *ℤ neg_ℤ a ≡ a *ℤ a
          turn a = simp ring

-- at most 4 columns of at most 16 levels have at most 16⁴ combinations
module _ {C : Type 0} (level : C → ℕ) where
  product_high : (k : ℕ) (I : List C) → length I ≤ k → ((i : C) → Memᴰ i I → level i ≤ highest_level) → product_of level I ≤ highest_level ^ k
  product_high k [] h v = pow_pos k
    where
      pow_pos : (k : ℕ) → 1 ≤ highest_level ^ k
      pow_pos zero = omega arith
      pow_pos (suc k) = omega (arith, pow-suc highest_level k, pow_pos k)
  product_high zero (i ∷ I) h v = absurd (omega arith)
  product_high (suc k) (i ∷ I) h v =
      rw (pow-suc highest_level k) (omega (arith, mul-le-mul (v i (mem-head refl)) (product_high k I (omega arith) (λ j m. v j (mem-tail m)))))

  pub combinations-few : (I : List C) → length I ≤ 4 → ((i : C) → Memᴰ i I → level i ≤ highest_level) → product_of level I ≤ most_numbers
  combinations-few I h v = product_high 4 I h v

-- ---- of a plan

blank : {R : Type 0} (rs : List R) (k : ℕ) → length rs ≤ k → take (length rs) (replicate {A = ℕ} k 0) ≡ map (λ f. 0) rs
blank [] k h = refl
blank (f ∷ rs) zero h = absurd (omega arith)
blank (f ∷ rs) (suc k) h = ap (λ l. 0 ∷ l) (blank rs k (omega arith))

sign-size : (n : ℕ) → nat_abs (sign n) ≡ 1
sign-size zero = refl
sign-size (suc n) = nat_abs-neg (sign n) ∙ sign-size n

module _ (p : Plan) (rs I : List ℕ) (S : Sound p rs) (K : Columns p.levels I) (few : length I ≤ 4) where
  pub no-numbers : take (length rs) (replicate {A = ℕ} 256 0) ≡ map (λ f. 0) rs
  no-numbers = blank rs 256 S.few

  below : Below (level p) (entry p) rs I
  below f m i n = S.below f m i (K.inside i n)

  high : product_of (level p) I ≤ most_numbers
  high = combinations-few (level p) I few (λ i m. S.level-high i (K.inside i m))

  -- what the sum over the parts is given
  pub begun : Weighed p.levels I (filled_to 1024 0 (turned (entry p) rs I)) (map (λ f. 0) rs) (sign (length I))
  begun = record {
    few-runs = rw (length-map {B = ℕ} rs (λ f. 0)) S.few;
    few-columns = few;
    inside = K.inside;
    below = λ x m. let (f, n, e) = mem-of_map (λ f. 0) rs m in rw (sign-size (length I)) (omega (arith, e));
    held = rw (length-map {B = ℕ} rs (λ f. 0), sign-size (length I))
        (turned-digits (level p) (entry p) rs I 1 (replicate (1024 - length (turned (entry p) rs I)) 0) below K.low (omega (arith, high)));
  }

  pub word-found : over_parts (sign (length I)) (map (λ f. 0) rs) (map (level p) I) (filled_to 1024 0 (turned (entry p) rs I)) ≡ word_of (level p) (entry p) rs I
  word-found = from-counts (level p) (entry p) rs I (replicate (1024 - length (turned (entry p) rs I)) 0) below K.low high
