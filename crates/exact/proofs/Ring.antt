-- ℤ is a commutative ring: what lib.IntN does not say of its sum and product, and `simp ring`, which closes ring identities.
use Rattle.exact.proofs.Ground.{◌≡◌, ◌∙◌, sym, ap, suc, zero, pos, ℤ, ◌*ℤ◌, ◌+ℤ◌, negsuc, neg_ℤ, +ℤ_idl, +ℤ_idr, +ℤ_comm, *ℤ-zero, zero-*ℤ}
use Rattle.exact.proofs.Ground.{+ℤ_assoc}
use lib.IntN.{one, +ℤ_invr, +ℤ_invl}
use lib.IntN.{*ℤ_comm, *ℤ-one, suc_ℤ-*ℤ, pred_ℤ-*ℤ, suc_ℤ-+ℤ, pred_ℤ-+ℤ, neg_ℤ-+ℤ, neg_ℤ-neg_ℤ}

-- a + (b + c) is b + (a + c)
pub +-swap : (a b c : ℤ) → a +ℤ (b +ℤ c) ≡ b +ℤ (a +ℤ c)
+-swap a b c = sym (+ℤ_assoc a b c) ∙ ap (λ z. z +ℤ c) (+ℤ_comm a b) ∙ +ℤ_assoc b a c

-- a sum whose terms are sorted
pub ruleset +-sort = (+ℤ_assoc, +ℤ_comm, +-swap)

pub +-* : (m k c : ℤ) → (m +ℤ k) *ℤ c ≡ m *ℤ c +ℤ k *ℤ c
+-* (pos zero) k c = simp (+ℤ_idl, zero-*ℤ)
+-* (pos (suc n)) k c = rw (suc_ℤ-+ℤ (pos n) k, suc_ℤ-*ℤ (pos n +ℤ k) c, suc_ℤ-*ℤ (pos n) c, +-* (pos n) k c) (simp +-sort)
+-* (negsuc zero) k c =
    rw (pred_ℤ-+ℤ (pos zero) k, pred_ℤ-*ℤ (pos zero +ℤ k) c, pred_ℤ-*ℤ (pos zero) c, +ℤ_idl k, zero-*ℤ c, +ℤ_idl (neg_ℤ c))
    (+ℤ_comm (k *ℤ c) (neg_ℤ c))
+-* (negsuc (suc n)) k c = rw (pred_ℤ-+ℤ (negsuc n) k, pred_ℤ-*ℤ (negsuc n +ℤ k) c, pred_ℤ-*ℤ (negsuc n) c, +-* (negsuc n) k c) (simp +-sort)

pub *-+ : (c m k : ℤ) → c *ℤ (m +ℤ k) ≡ c *ℤ m +ℤ c *ℤ k
*-+ c m k = *ℤ_comm c (m +ℤ k) ∙ +-* m k c ∙ simp *ℤ_comm

-- the other summand of a sum that is 0
pub neg_unique : (a b : ℤ) → a +ℤ b ≡ pos zero → a ≡ neg_ℤ b
neg_unique a b e = sym (+ℤ_idr a) ∙ ap (λ z. a +ℤ z) (sym (+ℤ_invr b)) ∙ sym (+ℤ_assoc a b (neg_ℤ b)) ∙ ap (λ z. z +ℤ neg_ℤ b) e ∙ +ℤ_idl (neg_ℤ b)

pub neg-* : (a b : ℤ) → neg_ℤ a *ℤ b ≡ neg_ℤ (a *ℤ b)
neg-* a b = neg_unique (neg_ℤ a *ℤ b) (a *ℤ b) (rw (← +-*) (rw (+ℤ_invl, zero-*ℤ)))

pub *-neg : (a b : ℤ) → a *ℤ neg_ℤ b ≡ neg_ℤ (a *ℤ b)
*-neg a b = *ℤ_comm a (neg_ℤ b) ∙ neg-* b a ∙ ap neg_ℤ (*ℤ_comm b a)

pub *-assoc : (a b c : ℤ) → (a *ℤ b) *ℤ c ≡ a *ℤ (b *ℤ c)
*-assoc (pos zero) b c = simp zero-*ℤ
*-assoc (pos (suc n)) b c = rw (suc_ℤ-*ℤ (pos n) b, +-*, suc_ℤ-*ℤ (pos n) (b *ℤ c), *-assoc (pos n) b c)
*-assoc (negsuc zero) b c = rw (pred_ℤ-*ℤ (pos zero) b, pred_ℤ-*ℤ (pos zero) (b *ℤ c)) (simp (zero-*ℤ, +ℤ_idl, neg-*))
*-assoc (negsuc (suc n)) b c = rw (pred_ℤ-*ℤ (negsuc n) b, +-*, pred_ℤ-*ℤ (negsuc n) (b *ℤ c), *-assoc (negsuc n) b c) (rw neg-*)

pub *-swap : (a b c : ℤ) → a *ℤ (b *ℤ c) ≡ b *ℤ (a *ℤ c)
*-swap a b c = sym (*-assoc a b c) ∙ ap (λ z. z *ℤ c) (*ℤ_comm a b) ∙ *-assoc b a c

pub one-* : (a : ℤ) → pos 1 *ℤ a ≡ a
unfolding one
one-* a = *ℤ_comm (pos 1) a ∙ *ℤ-one a

pub *-one : (a : ℤ) → a *ℤ pos 1 ≡ a
unfolding one
*-one a = *ℤ-one a

-- what cancels, with up to five terms between
pub cancel₀ : (x y : ℤ) → x +ℤ (neg_ℤ x +ℤ y) ≡ y
cancel₀ x y = rw (← +ℤ_assoc, +ℤ_invr, +ℤ_idl)

pub cancel₁ : (x a : ℤ) → x +ℤ (a +ℤ neg_ℤ x) ≡ a
cancel₁ x a = rw (+ℤ_comm a (neg_ℤ x)) (cancel₀ x a)

pub cancel₁' : (x a y : ℤ) → x +ℤ (a +ℤ (neg_ℤ x +ℤ y)) ≡ a +ℤ y
cancel₁' x a y = rw (+-swap a (neg_ℤ x) y) (cancel₀ x (a +ℤ y))

pub cancel₂ : (x a b : ℤ) → x +ℤ (a +ℤ (b +ℤ neg_ℤ x)) ≡ a +ℤ b
cancel₂ x a b = rw (← (+ℤ_assoc a b (neg_ℤ x))) (cancel₁ x (a +ℤ b))

pub cancel₂' : (x a b y : ℤ) → x +ℤ (a +ℤ (b +ℤ (neg_ℤ x +ℤ y))) ≡ a +ℤ (b +ℤ y)
cancel₂' x a b y = rw (+-swap b (neg_ℤ x) y) (cancel₁' x a (b +ℤ y))

pub cancel₃ : (x a b c : ℤ) → x +ℤ (a +ℤ (b +ℤ (c +ℤ neg_ℤ x))) ≡ a +ℤ (b +ℤ c)
cancel₃ x a b c = rw (← (+ℤ_assoc b c (neg_ℤ x))) (cancel₂ x a (b +ℤ c))

pub cancel₃' : (x a b c y : ℤ) → x +ℤ (a +ℤ (b +ℤ (c +ℤ (neg_ℤ x +ℤ y)))) ≡ a +ℤ (b +ℤ (c +ℤ y))
cancel₃' x a b c y = rw (+-swap c (neg_ℤ x) y) (cancel₂' x a b (c +ℤ y))

pub cancel₄ : (x a b c d : ℤ) → x +ℤ (a +ℤ (b +ℤ (c +ℤ (d +ℤ neg_ℤ x)))) ≡ a +ℤ (b +ℤ (c +ℤ d))
cancel₄ x a b c d = rw (← (+ℤ_assoc c d (neg_ℤ x))) (cancel₃ x a b (c +ℤ d))

pub cancel₄' : (x a b c d y : ℤ) → x +ℤ (a +ℤ (b +ℤ (c +ℤ (d +ℤ (neg_ℤ x +ℤ y))))) ≡ a +ℤ (b +ℤ (c +ℤ (d +ℤ y)))
cancel₄' x a b c d y = rw (+-swap d (neg_ℤ x) y) (cancel₃' x a b c (d +ℤ y))

pub cancel₅ : (x a b c d e : ℤ) → x +ℤ (a +ℤ (b +ℤ (c +ℤ (d +ℤ (e +ℤ neg_ℤ x))))) ≡ a +ℤ (b +ℤ (c +ℤ (d +ℤ e)))
cancel₅ x a b c d e = rw (← (+ℤ_assoc d e (neg_ℤ x))) (cancel₄ x a b c (d +ℤ e))

pub cancel₅' : (x a b c d e y : ℤ) → x +ℤ (a +ℤ (b +ℤ (c +ℤ (d +ℤ (e +ℤ (neg_ℤ x +ℤ y)))))) ≡ a +ℤ (b +ℤ (c +ℤ (d +ℤ (e +ℤ y))))
cancel₅' x a b c d e y = rw (+-swap e (neg_ℤ x) y) (cancel₄' x a b c d (e +ℤ y))

pub two-* : (a : ℤ) → pos 2 *ℤ a ≡ a +ℤ a
two-* a = suc_ℤ-*ℤ (pos 1) a ∙ ap (λ z. z +ℤ a) (one-* a)

pub *-two : (a : ℤ) → a *ℤ pos 2 ≡ a +ℤ a
*-two a = *ℤ_comm a (pos 2) ∙ two-* a

pub *-minus : (a : ℤ) → a *ℤ negsuc 0 ≡ neg_ℤ a
*-minus a = *-neg a (pos 1) ∙ ap neg_ℤ (*-one a)

pub minus-* : (a : ℤ) → negsuc 0 *ℤ a ≡ neg_ℤ a
minus-* a = neg-* (pos 1) a ∙ ap neg_ℤ (one-* a)

-- opposite terms cancelled
pub ruleset cancel = (+ℤ_invr, +ℤ_invl, cancel₀, cancel₁, cancel₁', cancel₂, cancel₂', cancel₃, cancel₃', cancel₄, cancel₄', cancel₅, cancel₅')

-- 0, 1, -1 and 2 dropped
pub ruleset units = (+ℤ_idl, +ℤ_idr, one-*, *-one, zero-*ℤ, *ℤ-zero, *-minus, minus-*, two-*, *-two)

-- products multiplied out, factors and terms sorted, units dropped, opposite terms cancelled
pub ruleset ring = (+-*, *-+, *-assoc, *ℤ_comm, *-swap, +-sort, neg-*, *-neg, neg_ℤ-+ℤ, neg_ℤ-neg_ℤ, units, cancel)
