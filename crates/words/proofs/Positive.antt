-- W(I) is never negative: with each run weighed by any number, the sum over pairs is a sum of squares, taken a column at a time.
use Rattle.exact.proofs.Ground.{List, [], ◌∷◌, Memᴰ, mem-head, mem-tail, ◌≡◌, ◌∙◌, sym, ap, refl, ℕ, pos, ℤ, ◌*ℤ◌, ◌≤ℤ◌}
use lib.IntN.{*ℤ_comm}
use lib.Signed.{≤ℤ_refl}
use Rattle.exact.specs.Lists.{from, sum, prod}
use Rattle.exact.proofs.Ring.{ring, *-one, one-*}
use Rattle.exact.proofs.Order.{0≤-+, 0≤-square, 0≤-cancel}
use Rattle.exact.proofs.Sums.{sum-cong, sum-cong-in, sum-*, sum-swap}
use Rattle.sets.specs.Sets.{choose}
use Rattle.sets.proofs.Parts.{part-mem, choose-part}
use Rattle.pairs.specs.Words.{score_at, word_of, word}
use Rattle.words.specs.Entries.{Below, AllBelow}
use Rattle.words.proofs.Squares.{spread, score-squares}

module _ {A : Type 0} where
  pub sum_nonneg : (xs : List A) (f : A → ℤ) → ((x : A) → Memᴰ x xs → pos 0 ≤ℤ f x) → pos 0 ≤ℤ sum xs f
  sum_nonneg [] f h = ≤ℤ_refl (pos 0)
  sum_nonneg (x ∷ xs) f h = 0≤-+ (h x (mem-head refl)) (sum_nonneg xs f (λ y m. h y (mem-tail m)))

regroup₁ : (S w u c p : ℤ) → S *ℤ ((w *ℤ u) *ℤ (c *ℤ p)) ≡ ((w *ℤ u) *ℤ p) *ℤ (S *ℤ c)
regroup₁ S w u c p = simp ring

regroup₂ : (w u p a b : ℤ) → ((w *ℤ u) *ℤ p) *ℤ (a *ℤ b) ≡ ((w *ℤ a) *ℤ (u *ℤ b)) *ℤ p
regroup₂ w u p a b = simp ring

-- ---- a sum over all pairs of runs, each run f counted w f times

module _ {R : Type 0} (runs : List R) where
  pub pairs : (R → ℤ) → (R → R → ℤ) → ℤ
  pairs w k = sum runs (λ f. sum runs (λ g. (w f *ℤ w g) *ℤ k f g))

  pub pairs-one : (w : R → ℤ) → pairs w (λ f g. pos 1) ≡ sum runs w *ℤ sum runs w
  unfolding pairs
  pairs-one w =
      sum-cong runs (λ f. sum-cong runs (λ g. *-one (w f *ℤ w g)) ∙ sum-* runs (w f) w ∙ *ℤ_comm (w f) (sum runs w))
      ∙ sum-* runs (sum runs w) w

  pub pairs-plain : (k : R → R → ℤ) → pairs (λ f. pos 1) k ≡ sum runs (λ f. sum runs (λ g. k f g))
  unfolding pairs
  pairs-plain k = sum-cong runs (λ f. sum-cong runs (λ g. one-* (k f g)))

module _ {R A : Type 0} (runs : List R) where
  -- a factor that is a sum of products u f a * u g a goes into the weights
  pub pairs-split : (S : ℤ) (c k : R → R → ℤ) (xs : List A) (u : R → A → ℤ) (w : R → ℤ) →
      ((f : R) → Memᴰ f runs → (g : R) → Memᴰ g runs → S *ℤ c f g ≡ sum xs (λ a. u f a *ℤ u g a)) →
      S *ℤ pairs runs w (λ f g. c f g *ℤ k f g) ≡ sum xs (λ a. pairs runs (λ f. w f *ℤ u f a) k)
  unfolding pairs
  pairs-split S c k xs u w h =
      let K : A → R → R → ℤ = λ a f g. ((w f *ℤ u f a) *ℤ (w g *ℤ u g a)) *ℤ k f g in
      let point : (f : R) → Memᴰ f runs → (g : R) → Memᴰ g runs → S *ℤ ((w f *ℤ w g) *ℤ (c f g *ℤ k f g)) ≡ sum xs (λ a. K a f g)
      = λ f mf g mg. regroup₁ S (w f) (w g) (c f g) (k f g)
      ∙ ap (λ z. ((w f *ℤ w g) *ℤ k f g) *ℤ z) (h f mf g mg)
      ∙ sym (sum-* xs ((w f *ℤ w g) *ℤ k f g) (λ a. u f a *ℤ u g a))
      ∙ sum-cong xs (λ a. regroup₂ (w f) (w g) (k f g) (u f a) (u g a)) in
      sym (sum-* runs S (λ f. sum runs (λ g. (w f *ℤ w g) *ℤ (c f g *ℤ k f g))))
      ∙ sum-cong-in runs (λ f mf.
      sym (sum-* runs S (λ g. (w f *ℤ w g) *ℤ (c f g *ℤ k f g)))
      ∙ sum-cong-in runs (λ g mg. point f mf g mg)
      ∙ sum-swap runs xs (λ g a. K a f g))
      ∙ sum-swap runs xs (λ f a. sum runs (λ g. K a f g))

-- ---- W(I), weighed

module _ {R C : Type 0} (level : C → ℕ) (entry : R → C → ℕ) (runs : List R) where
  pub weighed : List C → (R → ℤ) → ℤ
  weighed I w = pairs runs w (λ f g. prod I (score_at level entry f g))

  pub weighed-nil : (w : R → ℤ) → weighed [] w ≡ sum runs w *ℤ sum runs w
  unfolding weighed
  weighed-nil w = pairs-one runs w

  pub weighed-cons : (i : C) (I : List C) (w : R → ℤ) → Below level entry runs i →
      pos (level i) *ℤ weighed (i ∷ I) w ≡ sum (from 0 (level i)) (λ a. weighed I (λ f. w f *ℤ spread (level i) (entry f i) a))
  unfolding weighed
  weighed-cons i I w v =
      pairs-split runs (pos (level i)) (λ f g. score_at level entry f g i) (λ f g. prod I (score_at level entry f g)) (from 0 (level i))
      (λ f a. spread (level i) (entry f i) a) w
      (λ f mf g mg. score-squares (level i) (entry f i) (entry g i) (v.1 f mf) (v.1 g mg))

  pub weighed-nonneg : (I : List C) (w : R → ℤ) → AllBelow level entry runs I → pos 0 ≤ℤ weighed I w
  weighed-nonneg [] w v = rw (weighed-nil w) (0≤-square (sum runs w))
  weighed-nonneg (i ∷ I) w v =
      let next : ℕ → R → ℤ = λ a f. w f *ℤ spread (level i) (entry f i) a in
      let here = v i (mem-head refl) in
      0≤-cancel here.0
      (rw (weighed-cons i I w here)
      (sum_nonneg (from 0 (level i)) (λ a. weighed I (next a)) (λ a m. weighed-nonneg I (next a) (λ k n. v k (mem-tail n)))))

  pub word_of-weighed : (I : List C) → word_of level entry runs I ≡ weighed I (λ f. pos 1)
  unfolding weighed word_of
  word_of-weighed I = sym (pairs-plain runs (λ f g. prod I (score_at level entry f g)))

  -- no W(I) is negative, and so no word is
  pub word_of-nonneg : (I : List C) → AllBelow level entry runs I → pos 0 ≤ℤ word_of level entry runs I
  word_of-nonneg I v = rw (word_of-weighed I) (weighed-nonneg I (λ f. pos 1) v)

  pub word-nonneg : (cols : List C) → AllBelow level entry runs cols → (j : ℕ) → pos 0 ≤ℤ word level entry runs cols j
  unfolding word
  word-nonneg cols v j =
      sum_nonneg (choose j cols) (word_of level entry runs)
      (λ I m. word_of-nonneg I (λ i k. v i (part-mem (choose-part j cols I m).0 i k)))
