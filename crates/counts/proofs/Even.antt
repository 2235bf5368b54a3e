-- The words of a set of columns and of its parts are 0 exactly where the set shows every combination equally often: by weights on the runs.
use Rattle.exact.proofs.Ground.{List, [], ◌∷◌, Memᴰ, mem-head, mem-tail, mem-not_nil, mem-cases_cons, ◌⊎◌, inl, inr, ◌≡◌}
use Rattle.exact.proofs.Ground.{◌∙◌, sym, ap, refl, ℕ, ◌<◌, zero-le, arith, pos, ℤ, ◌*ℤ◌, ◌+ℤ◌, ◌-ℤ◌, negsuc, neg_ℤ, +ℤ_idl, +ℤ_comm, *ℤ-zero, zero-*ℤ}
use Rattle.exact.proofs.Ground.{length, ◌≤ℤ◌}
use lib.IntN.{suc_ℤ-*ℤ, +ℤ_invr, -ℤ-+ℤ_cancel}
use Rattle.exact.specs.Lists.{from, sum}
use Rattle.exact.proofs.Ring.{ring, one-*, *-+, *-neg, *-assoc, minus-*}
use Rattle.exact.proofs.Order.{square-zero, *-cancel, both_zero}
use Rattle.exact.proofs.Numbers.{length_from, from-mem, mem-from}
use Rattle.exact.proofs.Sums.{sum-cong, sum-cong-in, sum-+, sum-*, sum-0}
use Rattle.sets.proofs.Parts.{Part, none, skip, keep, part-nil}
use Rattle.words.specs.Entries.{Below, AllBelow}
use Rattle.words.proofs.Squares.{agree, spread, pick}
use Rattle.words.proofs.Positive.{sum_nonneg, weighed, weighed-nil, weighed-cons, weighed-nonneg}

module _ {A : Type 0} where
  -- numbers that are not negative come to 0 only where each is 0
  pub sum-zero : (xs : List A) (f : A → ℤ) → ((x : A) → Memᴰ x xs → pos 0 ≤ℤ f x) → sum xs f ≡ pos 0 → (x : A) → Memᴰ x xs → f x ≡ pos 0
  sum-zero [] f h e x m = absurd (mem-not_nil m)
  sum-zero (y ∷ ys) f h e x m = go (mem-cases_cons m) (sum-zero ys f (λ z n. h z (mem-tail n)) parts.1 x)
    where
      parts : (f y ≡ pos 0) × (sum ys f ≡ pos 0)
      parts = both_zero (h y (mem-head refl)) (sum_nonneg ys f (λ z n. h z (mem-tail n))) e

      go : (x ≡ y) ⊎ Memᴰ x ys → (Memᴰ x ys → f x ≡ pos 0) → f x ≡ pos 0
      go (inl d) ih = ap f d ∙ parts.0
      go (inr n) ih = ih n

pub cancel-eq : (p : ℕ) (x y : ℤ) → 0 < p → pos p *ℤ x ≡ pos p *ℤ y → x ≡ y
cancel-eq p x y h e =
    let d : x -ℤ y ≡ pos 0 = *-cancel h (*-+ (pos p) x (neg_ℤ y) ∙ rw (e, *-neg (pos p) y) (+ℤ_invr (pos p *ℤ y))) in
    sym (-ℤ-+ℤ_cancel x y) ∙ rw (d, +ℤ_idl y)

split : (w x : ℤ) → w *ℤ (x -ℤ pos 1) +ℤ w ≡ w *ℤ x
split w x = simp ring

unsplit : (w x : ℤ) → w *ℤ x -ℤ w ≡ w *ℤ (x -ℤ pos 1)
unsplit w x = simp ring

turn : (w S d : ℤ) → w *ℤ (S *ℤ d) ≡ d *ℤ (S *ℤ w)
turn w S d = simp ring

factor : (c d w u x : ℤ) → c *ℤ (w *ℤ x) +ℤ d *ℤ (u *ℤ x) ≡ (c *ℤ w +ℤ d *ℤ u) *ℤ x
factor c d w u x = simp ring

module _ {R C : Type 0} (level : C → ℕ) (entry : R → C → ℕ) (runs : List R) where
  -- the level of column i where run f has a in it, and 0 elsewhere; and the same less 1
  abbrev mark : C → ℕ → R → ℤ
  mark i a f = pos (level i) *ℤ agree (entry f i) a

  abbrev less : C → ℕ → R → ℤ
  less i a f = spread (level i) (entry f i) a

  -- for each choice of a level in each column of I, the runs' products of `less` come to 0
  abbrev pub Vanish : List C → (R → ℤ) → Type 0
  Vanish [] w = sum runs w ≡ pos 0
  Vanish (i ∷ I) w = (a : ℕ) → a < level i → Vanish I (λ f. w f *ℤ less i a f)

  abbrev pub Vanish⁺ : List C → (R → ℤ) → Type 0
  Vanish⁺ [] w = Unit {0}
  Vanish⁺ (i ∷ I) w = Vanish (i ∷ I) w

  -- for each choice of a level in each column of K, the runs that show it count for t, each column multiplying by its level
  abbrev pub Scaled : List C → (R → ℤ) → ℤ → Type 0
  Scaled [] w t = sum runs w ≡ t
  Scaled (i ∷ K) w t = (a : ℕ) → a < level i → Scaled K (λ f. w f *ℤ mark i a f) t

  pub zero→vanish : (I : List C) (w : R → ℤ) → AllBelow level entry runs I → weighed level entry runs I w ≡ pos 0 → Vanish I w
  zero→vanish [] w v e = square-zero (sum runs w) (sym (weighed-nil level entry runs w) ∙ e)
  zero→vanish (i ∷ I) w v e = λ a h.
      let later : AllBelow level entry runs I = λ k n. v k (mem-tail n) in
      zero→vanish I (λ f. w f *ℤ less i a f) later
      (sum-zero (from 0 (level i)) (λ a. weighed level entry runs I (λ f. w f *ℤ less i a f))
      (λ a m. weighed-nonneg level entry runs I (λ f. w f *ℤ less i a f) later)
      (sym (weighed-cons level entry runs i I w (v i (mem-head refl))) ∙ ap (λ z. pos (level i) *ℤ z) e ∙ *ℤ-zero (pos (level i)))
      a (from-mem a 0 (level i) zero-le (omega arith)))

  pub vanish→zero : (I : List C) (w : R → ℤ) → AllBelow level entry runs I → Vanish I w → weighed level entry runs I w ≡ pos 0
  vanish→zero [] w v e = weighed-nil level entry runs w ∙ rw e
  vanish→zero (i ∷ I) w v h =
      *-cancel (v i (mem-head refl)).0
      (weighed-cons level entry runs i I w (v i (mem-head refl))
      ∙ sum-cong-in (from 0 (level i)) (λ a m.
      vanish→zero I (λ f. w f *ℤ less i a f) (λ k n. v k (mem-tail n)) (h a (let q = mem-from 0 (level i) m in omega arith)))
      ∙ sum-0 (from 0 (level i)))

  -- ---- Scaled is linear

  pub scaled-cong : (K : List C) (w u : R → ℤ) (t : ℤ) → ((f : R) → Memᴰ f runs → w f ≡ u f) → Scaled K w t → Scaled K u t
  scaled-cong [] w u t h e = sym (sum-cong-in runs h) ∙ e
  scaled-cong (i ∷ K) w u t h s = λ a l.
      scaled-cong K (λ f. w f *ℤ mark i a f) (λ f. u f *ℤ mark i a f) t (λ f m. ap (λ z. z *ℤ mark i a f) (h f m)) (s a l)

  scaled-lin : (K : List C) (c d : ℤ) (w u : R → ℤ) (t r : ℤ) → Scaled K w t → Scaled K u r →
      Scaled K (λ f. c *ℤ w f +ℤ d *ℤ u f) (c *ℤ t +ℤ d *ℤ r)
  scaled-lin [] c d w u t r h k = sum-+ runs (λ f. c *ℤ w f) (λ f. d *ℤ u f) ∙ rw (sum-* runs c w, sum-* runs d u, h, k)
  scaled-lin (i ∷ K) c d w u t r h k = λ a l.
      let x = mark i a in
      scaled-cong K (λ f. c *ℤ (w f *ℤ x f) +ℤ d *ℤ (u f *ℤ x f)) (λ f. (c *ℤ w f +ℤ d *ℤ u f) *ℤ x f) (c *ℤ t +ℤ d *ℤ r)
      (λ f m. factor c d (w f) (u f) (x f))
      (scaled-lin K c d (λ f. w f *ℤ x f) (λ f. u f *ℤ x f) t r (h a l) (k a l))

  scaled-+ : (K : List C) (w u : R → ℤ) (t r : ℤ) → Scaled K w t → Scaled K u r → Scaled K (λ f. w f +ℤ u f) (t +ℤ r)
  scaled-+ K w u t r h k = simp one-* at (scaled-lin K (pos 1) (pos 1) w u t r h k)

  scaled-sub : (K : List C) (w u : R → ℤ) (t r : ℤ) → Scaled K w t → Scaled K u r → Scaled K (λ f. w f -ℤ u f) (t -ℤ r)
  scaled-sub K w u t r h k = simp (one-*, minus-*) at (scaled-lin K (pos 1) (negsuc 0) w u t r h k)

  scaled-zero : (K : List C) → Scaled K (λ f. pos 0) (pos 0)
  scaled-zero [] = sum-0 runs
  scaled-zero (i ∷ K) = λ a l.
      scaled-cong K (λ f. pos 0) (λ f. pos 0 *ℤ mark i a f) (pos 0) (λ f m. sym (zero-*ℤ (mark i a f))) (scaled-zero K)

  scaled-sum : (K : List C) (xs : List ℕ) (w : ℕ → R → ℤ) (t : ℤ) → ((a : ℕ) → Memᴰ a xs → Scaled K (w a) t) →
      Scaled K (λ f. sum xs (λ a. w a f)) (pos (length xs) *ℤ t)
  scaled-sum K [] w t h = rw (zero-*ℤ t) (scaled-zero K)
  scaled-sum K (x ∷ xs) w t h =
      rw (suc_ℤ-*ℤ (pos (length xs)) t, +ℤ_comm (pos (length xs) *ℤ t) t)
      (scaled-+ K (w x) (λ f. sum xs (λ a. w a f)) t (pos (length xs) *ℤ t) (h x (mem-head refl))
      (scaled-sum K xs w t (λ a m. h a (mem-tail m))))

  scaled-cancel : (K : List C) (p : ℕ) (w : R → ℤ) (t : ℤ) → 0 < p → Scaled K (λ f. pos p *ℤ w f) (pos p *ℤ t) → Scaled K w t
  scaled-cancel [] p w t h s = cancel-eq p (sum runs w) t h (sym (sum-* runs (pos p) w) ∙ s)
  scaled-cancel (i ∷ K) p w t h s = λ a l.
      let x = mark i a in
      scaled-cancel K p (λ f. w f *ℤ x f) t h
      (scaled-cong K (λ f. (pos p *ℤ w f) *ℤ x f) (λ f. pos p *ℤ (w f *ℤ x f)) (pos p *ℤ t) (λ f m. *-assoc (pos p) (w f) (x f)) (s a l))

  -- a column may be left out
  scaled-later : (i : C) (K : List C) (w : R → ℤ) (t : ℤ) → Below level entry runs i → Scaled (i ∷ K) w t → Scaled K w t
  scaled-later i K w t v s =
      let S = pos (level i) in
      scaled-cancel K (level i) w t v.0
      (scaled-cong K (λ f. sum (from 0 (level i)) (λ a. w f *ℤ mark i a f)) (λ f. S *ℤ w f) (S *ℤ t)
      (λ f m. sum-cong (from 0 (level i)) (λ a. turn (w f) S (agree (entry f i) a))
      ∙ pick (entry f i) 0 (level i) (λ a. S *ℤ w f) zero-le (let q = v.1 f m in omega arith))
      (rw (length_from 0 (level i)) at
      (scaled-sum K (from 0 (level i)) (λ a f. w f *ℤ mark i a f) t (λ a m. s a (let q = mem-from 0 (level i) m in omega arith)))))

  scaled-none : (K : List C) (w : R → ℤ) (t : ℤ) → AllBelow level entry runs K → Scaled K w t → sum runs w ≡ t
  scaled-none [] w t v s = s
  scaled-none (i ∷ K) w t v s =
      scaled-none K w t (λ k n. v k (mem-tail n)) (scaled-later i K w t (v i (mem-head refl)) s)

  -- ---- the theorem

  after : (I : List C) (w : R → ℤ) → Vanish I w → Vanish⁺ I w
  after [] w h = tt
  after (i ∷ I) w h = h

  pub vanish→scaled : (K : List C) (w : R → ℤ) → ((I : List C) → Part I K → Vanish⁺ I w) → Scaled K w (sum runs w)
  vanish→scaled [] w h = refl
  vanish→scaled (i ∷ K) w h = λ a l.
      let x = mark i a in
      let u : R → ℤ = λ f. w f *ℤ (x f -ℤ pos 1) in
      let e : sum runs u ≡ pos 0 = h (i ∷ []) (keep (part-nil K)) a l in
      scaled-cong K (λ f. u f +ℤ w f) (λ f. w f *ℤ x f) (sum runs w) (λ f m. split (w f) (x f))
      (rw (e, +ℤ_idl (sum runs w)) at
      (scaled-+ K u w (sum runs u) (sum runs w)
      (vanish→scaled K u (λ I p. after I u (h (i ∷ I) (keep p) a l)))
      (vanish→scaled K w (λ I p. h I (skip p)))))

  either : (I : List C) (w : R → ℤ) → sum runs w ≡ pos 0 → Vanish⁺ I w → Vanish I w
  either [] w e h = e
  either (i ∷ I) w e h = h

  pub scaled→vanish : {I K : List C} → Part I K → (w : R → ℤ) (t : ℤ) → AllBelow level entry runs K → Scaled K w t → Vanish⁺ I w
  scaled→vanish none w t v s = tt
  scaled→vanish (skip {x = i} {K = K} p) w t v s =
      scaled→vanish p w t (λ k n. v k (mem-tail n)) (scaled-later i K w t (v i (mem-head refl)) s)
  scaled→vanish (keep {x = i} {I = I} {K = K} p) w t v s = λ a l.
      let x = mark i a in
      let u : R → ℤ = λ f. w f *ℤ (x f -ℤ pos 1) in
      let v' : AllBelow level entry runs K = λ k n. v k (mem-tail n) in
      let d : Scaled K u (pos 0)
      = scaled-cong K (λ f. w f *ℤ x f -ℤ w f) u (pos 0) (λ f m. unsplit (w f) (x f))
      (rw (+ℤ_invr t) at (scaled-sub K (λ f. w f *ℤ x f) w t t (s a l) (scaled-later i K w t (v i (mem-head refl)) s))) in
      either I u (scaled-none K u (pos 0) v' d) (scaled→vanish p u (pos 0) v' d)
