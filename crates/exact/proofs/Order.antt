-- The order of ℤ and the absolute value.
use Rattle.exact.proofs.Ground.{true, false, Bool, cond, not, ◌⊎◌, inl, inr, ◌≡◌, ◌∙◌, sym, ap, refl, subst, ℕ, ◌≤◌, ◌<◌, ◌-◌, ◌+◌, ◌*◌, suc}
use Rattle.exact.proofs.Ground.{zero, zero-le, dec_le, mul-le-mul, mul-pos, le_refl, arith, T, ltb, ltb→lt, leb→le, pos, ℤ, nat_abs, ◌*ℤ◌, ◌+ℤ◌}
use Rattle.exact.proofs.Ground.{◌-ℤ◌, negsuc, neg_ℤ, +ℤ_assoc, ◌≤ℤ◌}
use native.Mathlib.Nat.{zero-lt-suc, le_antisymm}
use lib.Dec.{nltb→le, le→leb}
use lib.IntN.{sub_ℕ}
use lib.Signed.{le_z, le_z_yes, ≤ℤ_refl}
use Rattle.exact.proofs.Ring.{ring, *-+}

pub cond_ind : (c : Bool) (x y : ℤ) (P : ℤ → Type 0) → (T c → P x) → (T (not c) → P y) → P (cond c x y)
cond_ind true x y P f g = f tt
cond_ind false x y P f g = g tt

-- a difference of naturals is what the sign says
pub sub-ind : (a b : ℕ) (P : ℤ → Type 0) → ((k : ℕ) → a + suc k ≡ b → P (negsuc k)) → ((k : ℕ) → b + k ≡ a → P (pos k)) → P (sub_ℕ a b)
sub-ind a b P f g = cond_ind (ltb a b) (negsuc (b - suc a)) (pos (a - b)) P
    (λ t. f (b - suc a) (let h : a < b = ltb→lt a b t in omega arith))
    (λ t. g (a - b) (let h : b ≤ a = nltb→le a b t in omega arith))

pub nat_abs-neg : (z : ℤ) → nat_abs (neg_ℤ z) ≡ nat_abs z
nat_abs-neg (pos zero) = refl
nat_abs-neg (pos (suc n)) = refl
nat_abs-neg (negsuc n) = refl

pub nat_abs-* : (a b : ℤ) → nat_abs (a *ℤ b) ≡ nat_abs a * nat_abs b
nat_abs-* (pos a) (pos b) = refl
nat_abs-* (pos a) (negsuc b) = nat_abs-neg (pos (a * suc b))
nat_abs-* (negsuc a) (pos b) = nat_abs-neg (pos (suc a * b))
nat_abs-* (negsuc a) (negsuc b) = refl

nat_abs-sub : (a b : ℕ) → nat_abs (sub_ℕ a b) ≤ a + b
nat_abs-sub a b = sub-ind a b (λ z. nat_abs z ≤ a + b) (λ k e. omega arith) (λ k e. omega arith)

pub nat_abs-+ : (a b : ℤ) → nat_abs (a +ℤ b) ≤ nat_abs a + nat_abs b
nat_abs-+ (pos a) (pos b) = le_refl (a + b)
nat_abs-+ (pos a) (negsuc b) = nat_abs-sub a (suc b)
nat_abs-+ (negsuc a) (pos b) = let h : nat_abs (sub_ℕ b (suc a)) ≤ b + suc a = nat_abs-sub b (suc a) in omega arith
nat_abs-+ (negsuc a) (negsuc b) = omega arith

pub nat_abs-- : (a b : ℤ) → nat_abs (a -ℤ b) ≤ nat_abs a + nat_abs b
nat_abs-- a b = subst (λ n. nat_abs (a -ℤ b) ≤ nat_abs a + n) (nat_abs-neg b) (nat_abs-+ a (neg_ℤ b))

-- explicit, as `mul-below` is
pub nat_abs-*-≤ : (a b : ℤ) (m n : ℕ) → nat_abs a ≤ m → nat_abs b ≤ n → nat_abs (a *ℤ b) ≤ m * n
nat_abs-*-≤ a b m n h k = subst (λ p. p ≤ m * n) (sym (nat_abs-* a b)) (mul-le-mul h k)

-- a ≤ b exactly where b is a plus a natural number
pub ≤-add : (a : ℤ) (n : ℕ) → a ≤ℤ (a +ℤ pos n)
≤-add (pos a) n = le_z_yes (le→leb a (a + n) (omega arith))
≤-add (negsuc a) n = sub-ind n (suc a) (λ z. negsuc a ≤ℤ z) (λ k e. le_z_yes (le→leb k a (omega arith))) (λ k e. le_z_yes tt)

diff : (a b : ℤ) → T (le_z a b) → (n : ℕ) × (a +ℤ pos n ≡ b)
diff (pos a) (pos b) t = (b - a, ap pos (let h : a ≤ b = leb→le a b t in omega arith))
diff (pos a) (negsuc b) t = absurd t
diff (negsuc a) (pos b) t = (b + suc a, sub-ind (b + suc a) (suc a) (λ z. z ≡ pos b) (λ k e. absurd (omega arith)) (λ k e. ap pos (omega arith)))
diff (negsuc a) (negsuc b) t = let h : b ≤ a = leb→le b a t in
    (a - b, sub-ind (a - b) (suc a) (λ z. z ≡ negsuc b) (λ k e. ap negsuc (omega arith)) (λ k e. absurd (omega arith)))

pub ≤-diff : {a b : ℤ} → a ≤ℤ b → (n : ℕ) × (a +ℤ pos n ≡ b)
≤-diff {a} {b} h = diff a b h.le

pub ≤-by : {a b : ℤ} (n : ℕ) → a +ℤ pos n ≡ b → a ≤ℤ b
≤-by {a} n e = subst (λ z. a ≤ℤ z) e (≤-add a n)

pub ≤_trans : {a b c : ℤ} → a ≤ℤ b → b ≤ℤ c → a ≤ℤ c
≤_trans {a} {b} {c} h k =
    let (m, e) = ≤-diff h in let (n, d) = ≤-diff k in
    ≤-by (m + n) (sym (+ℤ_assoc a (pos m) (pos n)) ∙ ap (λ z. z +ℤ pos n) e ∙ d)

four : (a b c d : ℤ) → (a +ℤ b) +ℤ (c +ℤ d) ≡ (a +ℤ c) +ℤ (b +ℤ d)
four a b c d = simp ring

pub ≤-+ : {a b c d : ℤ} → a ≤ℤ b → c ≤ℤ d → (a +ℤ c) ≤ℤ (b +ℤ d)
≤-+ {a} {b} {c} {d} h k =
    let (m, e) = ≤-diff h in let (n, e') = ≤-diff k in
    ≤-by (m + n) (four a c (pos m) (pos n) ∙ rw (e, e'))

-- ---- not negative

pub nonneg : (n : ℕ) → pos 0 ≤ℤ pos n
nonneg n = le_z_yes (le→leb 0 n zero-le)

pub is_pos : {z : ℤ} → pos 0 ≤ℤ z → (n : ℕ) × (pos n ≡ z)
is_pos {z = pos n} h = (n, refl)
is_pos {z = negsuc n} h = absurd h.le

pub 0≤-+ : {a b : ℤ} → pos 0 ≤ℤ a → pos 0 ≤ℤ b → pos 0 ≤ℤ (a +ℤ b)
0≤-+ {a = pos a} {b = pos b} h k = nonneg (a + b)
0≤-+ {a = pos a} {b = negsuc b} h k = absurd k.le
0≤-+ {a = negsuc a} {b} h k = absurd h.le

pub 0≤-* : {a b : ℤ} → pos 0 ≤ℤ a → pos 0 ≤ℤ b → pos 0 ≤ℤ (a *ℤ b)
0≤-* {a = pos a} {b = pos b} h k = nonneg (a * b)
0≤-* {a = pos a} {b = negsuc b} h k = absurd k.le
0≤-* {a = negsuc a} {b} h k = absurd h.le

pub 0≤-square : (z : ℤ) → pos 0 ≤ℤ (z *ℤ z)
0≤-square (pos n) = nonneg (n * n)
0≤-square (negsuc n) = nonneg (suc n * suc n)

-- a positive factor may be dropped
neg-pos : (n : ℕ) → 0 < n → pos 0 ≤ℤ neg_ℤ (pos n) → ⊥
neg-pos zero h k = omega arith
neg-pos (suc n) h k = absurd k.le

pub 0≤-cancel : {p : ℕ} {z : ℤ} → 0 < p → pos 0 ≤ℤ (pos p *ℤ z) → pos 0 ≤ℤ z
0≤-cancel {z = pos n} h k = nonneg n
0≤-cancel {p} {z = negsuc n} h k = absurd (neg-pos (p * suc n) (mul-pos h (zero-lt-suc n)) k)

pub *-mono : {a b c : ℤ} → pos 0 ≤ℤ c → a ≤ℤ b → (c *ℤ a) ≤ℤ (c *ℤ b)
*-mono {a} {b} {c} h k =
    let (m, e) = ≤-diff k in let (n, e') = is_pos h in
    subst (λ z. (z *ℤ a) ≤ℤ (z *ℤ b)) e' (≤-by (n * m) (sym (*-+ (pos n) a (pos m)) ∙ ap (λ z. pos n *ℤ z) e))

-- two parts that are not negative and come to 0 are 0
pub both_zero : {a b : ℤ} → pos 0 ≤ℤ a → pos 0 ≤ℤ b → a +ℤ b ≡ pos 0 → (a ≡ pos 0) × (b ≡ pos 0)
both_zero {a = pos a} {b = pos b} h k e = let d : a + b ≡ 0 = ap nat_abs e in (ap pos (omega arith), ap pos (omega arith))
both_zero {a = pos a} {b = negsuc b} h k e = absurd k.le
both_zero {a = negsuc a} {b} h k e = absurd h.le

pub square-zero : (z : ℤ) → z *ℤ z ≡ pos 0 → z ≡ pos 0
square-zero (pos zero) e = refl
square-zero (pos (suc n)) e = let d : suc n * suc n ≡ 0 = ap nat_abs e in absurd (omega arith)
square-zero (negsuc n) e = let d : suc n * suc n ≡ 0 = ap nat_abs e in absurd (omega arith)

pub *-cancel : {p : ℕ} {z : ℤ} → 0 < p → pos p *ℤ z ≡ pos 0 → z ≡ pos 0
*-cancel {z = pos zero} h e = refl
*-cancel {p} {z = pos (suc n)} h e = let d : p * suc n ≡ 0 = ap nat_abs e in absurd (omega arith)
*-cancel {p} {z = negsuc n} h e = let d : p * suc n ≡ 0 = sym (nat_abs-* (pos p) (negsuc n)) ∙ ap nat_abs e in absurd (omega arith)

pub ≤-antisym : {a b : ℤ} → a ≤ℤ b → b ≤ℤ a → a ≡ b
≤-antisym {a = pos a} {b = pos b} h k = ap pos (le_antisymm (leb→le a b h.le) (leb→le b a k.le))
≤-antisym {a = pos a} {b = negsuc b} h k = absurd h.le
≤-antisym {a = negsuc a} {b = pos b} h k = absurd k.le
≤-antisym {a = negsuc a} {b = negsuc b} h k = ap negsuc (le_antisymm (leb→le a b k.le) (leb→le b a h.le))

-- ---- bounds of an absolute value

pub ≤-nat_abs : (z : ℤ) → z ≤ℤ pos (nat_abs z)
≤-nat_abs (pos n) = ≤ℤ_refl (pos n)
≤-nat_abs (negsuc n) = le_z_yes tt

pub pos-mono : {a b : ℕ} → a ≤ b → pos a ≤ℤ pos b
pos-mono {a} {b} h = le_z_yes (le→leb a b h)

pub pos-le : {a b : ℕ} → pos a ≤ℤ pos b → a ≤ b
pos-le {a} {b} h = leb→le a b h.le

pub ≤-total : (a b : ℤ) → (a ≤ℤ b) ⊎ (b ≤ℤ a)
≤-total (pos a) (pos b) = go (dec_le a b)
  where
    go : Dec (a ≤ b) → (pos a ≤ℤ pos b) ⊎ (pos b ≤ℤ pos a)
    go (yes h) = inl (pos-mono h)
    go (no h) = inr (pos-mono (omega arith))
≤-total (pos a) (negsuc b) = inr (le_z_yes tt)
≤-total (negsuc a) (pos b) = inl (le_z_yes tt)
≤-total (negsuc a) (negsuc b) = go (dec_le b a)
  where
    go : Dec (b ≤ a) → (negsuc a ≤ℤ negsuc b) ⊎ (negsuc b ≤ℤ negsuc a)
    go (yes h) = inl (le_z_yes (le→leb b a h))
    go (no h) = inr (le_z_yes (le→leb a b (omega arith)))
