-- Decimal digits: a number by its last digit, what digits stand for, and the numbers of one or two digits.
use Rattle.exact.proofs.Ground.{true, false, not, ◌&&◌, List, [], ◌∷◌, ◌++◌, ◌≡◌, ◌∙◌, sym, ap, ap₂, ℕ, ◌≤◌, ◌<◌, ◌+◌, suc, zero, ◌^◌, ◌/◌, ◌%◌}
use Rattle.exact.proofs.Ground.{dec_lt, arith, eqb, leb, length, length-append, ne_eqb, le-ltb, lt-ltb, eqb-false, le-leb, not-true}
use native.Mathlib.Nat.{pow-suc}
use borrow.Author.Tests.{leb-true}
use Rattle.exact.proofs.Tests.{both, is_true, true-is}
use Rattle.text.specs.Decimal.{digits, decimal, value}
use Rattle.text.specs.Text.{is_digit, is_number}
use Rattle.text.proofs.Split.{All}

-- ---- the digits

digits-one : (k n : ℕ) → n < 10 → digits (suc k) n ≡ (48 + n) ∷ []
digits-one k n h = rw (lt-ltb n 10 h, digits)

digits_more : (k n : ℕ) → 10 ≤ n → digits (suc k) n ≡ digits k (n / 10) ++ (48 + n % 10) ∷ []
digits_more k n h = rw (le-ltb n 10 h, digits)

-- a larger bound changes nothing
digits-bound : (k l n : ℕ) → n < k → n < l → digits k n ≡ digits l n
digits-bound zero l n h i = absurd (omega arith)
digits-bound (suc k) zero n h i = absurd (omega arith)
digits-bound (suc k) (suc l) n h i = go (dec_lt n 10) (λ a b. digits-bound k l (n / 10) a b)
  where
    go : Dec (n < 10) → (n / 10 < k → n / 10 < l → digits k (n / 10) ≡ digits l (n / 10)) → digits (suc k) n ≡ digits (suc l) n
    go (yes d) ih = digits-one k n d ∙ sym (digits-one l n d)
    go (no d) ih = digits_more k n (omega arith)
        ∙ ap (λ s. s ++ (48 + n % 10) ∷ []) (ih (omega arith) (omega arith)) ∙ sym (digits_more l n (omega arith))

pub decimal-one : (n : ℕ) → n < 10 → decimal n ≡ (48 + n) ∷ []
unfolding decimal
decimal-one n h = digits-one n n h

-- the digits without the last, and the last
pub decimal-more : (n : ℕ) → 10 ≤ n → decimal n ≡ decimal (n / 10) ++ (48 + n % 10) ∷ []
unfolding decimal
decimal-more n h =
    digits_more n n h ∙ ap (λ s. s ++ (48 + n % 10) ∷ []) (digits-bound n (suc (n / 10)) (n / 10) (omega arith) (omega arith))

decimal-two : (n : ℕ) → 10 ≤ n → n < 100 → decimal n ≡ (48 + n / 10) ∷ (48 + n % 10) ∷ []
decimal-two n h l = decimal-more n h ∙ ap (λ s. s ++ (48 + n % 10) ∷ []) (decimal-one (n / 10) (omega arith))

-- a number below 10 to the k has at most k digits
pub decimal-length : (k n : ℕ) → n < 10 ^ suc k → length (decimal n) ≤ suc k
decimal-length zero n h = rw (decimal-one n h) (omega arith)
decimal-length (suc k) n h = go (dec_lt n 10) (λ l. decimal-length k (n / 10) l)
  where
    go : Dec (n < 10) → (n / 10 < 10 ^ suc k → length (decimal (n / 10)) ≤ suc k) → length (decimal n) ≤ suc (suc k)
    go (yes d) ih = rw (decimal-one n d) (omega arith)
    go (no d) ih =
        let s = pow-suc 10 (suc k) in
        let l = ih (omega arith) in
        rw (decimal-more n (omega arith), length-append (decimal (n / 10)) ((48 + n % 10) ∷ [])) (omega arith)

-- ---- numbers of one or two digits

digit : (d : ℕ) → d < 10 → is_digit (48 + d) ≡ true
digit d h = rw (le-leb 48 (48 + d) (omega arith)) (le-leb (48 + d) 57 (omega arith))

pub digit-is : (a : ℕ) → is_digit a ≡ true → (48 ≤ a) × (a ≤ 57)
digit-is a e =
    let (p, q) = both (leb 48 a) (leb a 57) (true-is (is_digit a) e) in
    (leb-true 48 a (is_true (leb 48 a) p), leb-true a 57 (is_true (leb a 57) q))

-- what holds of each byte of a digit holds of the bytes of a number
pub decimal-byte : (P : ℕ → Type 0) (n : ℕ) → n < 100 → ((b : ℕ) → 48 ≤ b → P b) → All P (decimal n)
decimal-byte P n h f = go (dec_lt n 10)
  where
    go : Dec (n < 10) → All P (decimal n)
    go (yes l) = rw (decimal-one n l) (f (48 + n) (omega arith), tt)
    go (no l) = rw (decimal-two n (omega arith) h) (f (48 + n / 10) (omega arith), (f (48 + n % 10) (omega arith), tt))

-- a piece of the text that is the decimal number n, below 100
pub record Writes (piece : List ℕ) (n : ℕ) : Type 0 where
  pub same : decimal n ≡ piece
  pub small : n < 100

pub number-decimal : (n : ℕ) → n < 100 → (is_number (decimal n) ≡ true) × (value (decimal n) ≡ n)
number-decimal n h = go (dec_lt n 10)
  where
    go : Dec (n < 10) → (is_number (decimal n) ≡ true) × (value (decimal n) ≡ n)
    go (yes l) = rw (decimal-one n l) (digit n l, omega arith)
    go (no l) =
        rw (decimal-two n (omega arith) h) (
          rw (digit (n / 10) (omega arith), ne_eqb (48 + n / 10) 48 (λ e. omega arith)) (digit (n % 10) (omega arith)),
          omega arith,
        )

pub decimal-number : (piece : List ℕ) → is_number piece ≡ true → Writes piece (value piece)
decimal-number [] e = absurd (true-is false e)
decimal-number (a ∷ []) e =
    let (p, q) = digit-is a e in
    let n : ℕ = value (a ∷ []) in
    let w : 48 + n ≡ a = omega arith in
    record { same = decimal-one n (omega arith) ∙ ap (λ x. x ∷ []) w; small = omega arith }
decimal-number (a ∷ b ∷ []) e =
    let (d, db) = both (is_digit a && not (eqb a 48)) (is_digit b) (true-is (is_number (a ∷ b ∷ [])) e) in
    let (da, dz) = both (is_digit a) (not (eqb a 48)) d in
    let (p, q) = digit-is a (is_true (is_digit a) da) in
    let (r, s) = digit-is b (is_true (is_digit b) db) in
    let z : ¬ (a ≡ 48) = eqb-false a 48 (not-true (eqb a 48) (is_true (not (eqb a 48)) dz)) in
    let n : ℕ = value (a ∷ b ∷ []) in
    let w : 48 + n / 10 ≡ a = omega arith in
    let u : 48 + n % 10 ≡ b = omega arith in
    record { same = decimal-two n (omega arith) (omega arith) ∙ ap₂ (λ x y. x ∷ y ∷ []) w u; small = omega arith }
decimal-number (a ∷ b ∷ c ∷ more) e = absurd (true-is false e)
