-- A column's score, times its level, is a sum of products: one for each level, of a number of the one run and the same number of the other.
use Rattle.exact.proofs.Ground.{true, false, Bool, cond, ◌⊎◌, inl, inr, ◌≡◌, ◌∙◌, sym, ap, refl, ℕ, ◌≤◌, ◌<◌, ◌+◌, suc, zero, zero-le, eq-or-lt_of_le}
use Rattle.exact.proofs.Ground.{arith, eqb, eqb→eq, eqb_refl, pos, ℤ, ◌*ℤ◌, ◌+ℤ◌, ◌-ℤ◌, negsuc, neg_ℤ, +ℤ_idl, +ℤ_idr, *ℤ-zero, zero-*ℤ}
use Rattle.exact.specs.Lists.{from, sum}
use Rattle.exact.proofs.Ring.{ring, *-one, one-*}
use Rattle.exact.proofs.Numbers.{length_from}
use Rattle.exact.proofs.Sums.{sum-cong, sum-+, sum-*, sum-const}
use Rattle.exact.proofs.Tests.{is_true, is_false}
use Rattle.pairs.specs.Words.{score}
use Rattle.pairs.proofs.Laws.{eqb-sym}

-- 1 where the two agree, and 0 where they differ
unfoldable pub agree : ℕ → ℕ → ℤ
agree a b = cond (eqb a b) (pos 1) (pos 0)

by_bool : (s : ℕ) (c : Bool) → cond c (pos s -ℤ pos 1) (negsuc 0) ≡ pos s *ℤ cond c (pos 1) (pos 0) -ℤ pos 1
by_bool s true = ap (λ z. z -ℤ pos 1) (sym (*-one (pos s)))
by_bool s false = ap (λ z. z -ℤ pos 1) (sym (*ℤ-zero (pos s)))

pub score-agree : (s a b : ℕ) → score s a b ≡ pos s *ℤ agree a b -ℤ pos 1
unfolding score agree
score-agree s a b = by_bool s (eqb a b)

pub agree-sym : (a b : ℕ) → agree a b ≡ agree b a
unfolding agree
agree-sym a b = rw (eqb-sym a b)

pub agree_same : (a : ℕ) → agree a a ≡ pos 1
unfolding agree
agree_same a = rw (is_true (eqb a a) (eqb_refl a))

pub agree-not : {a b : ℕ} → ¬ (a ≡ b) → agree a b ≡ pos 0
unfolding agree
agree-not {a} {b} h = rw (is_false (eqb a b) (λ t. h (eqb→eq a b t)))

-- ---- of a sum over levels, the term of level x

missed : (x a n : ℕ) (g : ℕ → ℤ) → x < a → sum (from a n) (λ k. agree x k *ℤ g k) ≡ pos 0
missed x a zero g h = refl
missed x a (suc n) g h = rw (missed x (suc a) n g (omega arith), agree-not {a = x} {b = a} (omega arith), zero-*ℤ (g a))

pub pick : (x a n : ℕ) (g : ℕ → ℤ) → a ≤ x → x < a + n → sum (from a n) (λ k. agree x k *ℤ g k) ≡ g x
pick x a zero g h k = absurd (omega arith)
pick x a (suc n) g h k = go (eq-or-lt_of_le h) (λ h. pick x (suc a) n g h (omega arith))
  where
    go : (a ≡ x) ⊎ (a < x) → (suc a ≤ x → sum (from (suc a) n) (λ k. agree x k *ℤ g k) ≡ g x) →
        sum (from a (suc n)) (λ k. agree x k *ℤ g k) ≡ g x
    go (inl e) ih = rw (missed x (suc a) n g (omega arith), e, agree_same x, one-* (g x), +ℤ_idr (g x))
    go (inr l) ih = rw (ih l, agree-not {a = x} {b = a} (omega arith), zero-*ℤ (g a), +ℤ_idl (g x))

-- ---- the score as a sum over levels

-- the number of an entry x for level a
abbrev pub spread : ℕ → ℕ → ℕ → ℤ
spread s x a = pos s *ℤ agree x a -ℤ pos 1

term : (S d e o : ℤ) →
    (S *ℤ d -ℤ o) *ℤ (S *ℤ e -ℤ o) ≡ (S *ℤ S) *ℤ (d *ℤ e) +ℤ (neg_ℤ S *ℤ (d *ℤ o) +ℤ (neg_ℤ S *ℤ (e *ℤ o) +ℤ o *ℤ o))
term S d e o = simp ring

gather : (S d o : ℤ) → (S *ℤ S) *ℤ d +ℤ (neg_ℤ S *ℤ o +ℤ (neg_ℤ S *ℤ o +ℤ S *ℤ o)) ≡ S *ℤ (S *ℤ d -ℤ o)
gather S d o = simp ring

pub score-squares : (s x y : ℕ) → x < s → y < s → pos s *ℤ score s x y ≡ sum (from 0 s) (λ a. spread s x a *ℤ spread s y a)
score-squares s x y hx hy =
    let L = from 0 s in
    let both : ℕ → ℤ = λ a. (pos s *ℤ pos s) *ℤ (agree x a *ℤ agree y a) in
    let left : ℕ → ℤ = λ a. neg_ℤ (pos s) *ℤ (agree x a *ℤ pos 1) in
    let right : ℕ → ℤ = λ a. neg_ℤ (pos s) *ℤ (agree y a *ℤ pos 1) in
    sym (
    sum-cong L (λ a. term (pos s) (agree x a) (agree y a) (pos 1))
    ∙ rw (
      sum-+ L both (λ a. left a +ℤ (right a +ℤ pos 1)),
      sum-+ L left (λ a. right a +ℤ pos 1),
      sum-+ L right (λ a. pos 1),
      sum-* L (pos s *ℤ pos s) (λ a. agree x a *ℤ agree y a),
      sum-* L (neg_ℤ (pos s)) (λ a. agree x a *ℤ pos 1),
      sum-* L (neg_ℤ (pos s)) (λ a. agree y a *ℤ pos 1),
      sum-const L (pos 1),
      length_from 0 s,
      pick x 0 s (λ a. agree y a) zero-le (omega arith),
      pick x 0 s (λ a. pos 1) zero-le (omega arith),
      pick y 0 s (λ a. pos 1) zero-le (omega arith),
      score-agree s x y,
      agree-sym x y,
    ) (gather (pos s) (agree y x) (pos 1))
    )
