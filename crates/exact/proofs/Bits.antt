-- What the machine reads back from a number's bits is the number, where it fits: |z| below 2 ^ 63 is enough for every need.
use Rattle.exact.proofs.Ground.{◌≡◌, ℕ, ◌≤◌, ◌<◌, ◌^◌, le_refl, arith, T, pos, ℤ, nat_abs, negsuc, ◌≤ℤ◌, w64, to_z, of_z}
use native.Mathlib.Nat.{lt_of_le_of_lt}
use lib.Dec.{lit<}
use lib.Signed.{mag, non_neg, yes_non_neg, pos-nat_abs, nat_abs-le}
use mir.Val.{Fits, SFits}
use mir.ValLaws.{to_z_pos, to_z-of_z}

mag-le : (z : ℤ) → mag z ≤ nat_abs z
mag-le (pos n) = le_refl n
mag-le (negsuc n) = omega arith

-- the way to each signed need: a bound of the size below 2 ^ 63
pub fits : (z : ℤ) → nat_abs z < 2 ^ 63 → SFits w64 z
fits z h = record { sfits = lt_of_le_of_lt (mag-le z) h }

pub back : {z : ℤ} → SFits w64 z → to_z w64 (of_z w64 z) ≡ z
back {z} f = to_z-of_z w64 z f

-- of a call's result: `of c.f.result c.f.ok`
pub of : (z : ℤ) → mag z < 2 ^ 63 → to_z w64 (of_z w64 z) ≡ z
of z h = to_z-of_z w64 z (record { sfits = h })

-- the number that a bit pattern below 2 ^ 63 stands for
pub nat-back : (n : ℕ) → n < 2 ^ 63 → to_z w64 n ≡ pos n
nat-back n h = to_z_pos w64 n h

-- ---- the leaves of src/signed.rt, one law for each kind

-- an operation on two signed numbers whose answer fits
module _ (f : ℤ → ℤ → ℤ) {a b : ℤ} (p : SFits w64 a) (q : SFits w64 b) (h : nat_abs (f a b) < 2 ^ 63) where
  pub operation-fits : SFits w64 (f (to_z w64 (of_z w64 a)) (to_z w64 (of_z w64 b)))
  operation-fits = rw (back p, back q) (fits (f a b) h)

  pub operation-is : to_z w64 (of_z w64 (f (to_z w64 (of_z w64 a)) (to_z w64 (of_z w64 b)))) ≡ f a b
  operation-is = rw (back p, back q) (back (fits (f a b) h))

-- a number that is not negative, read as an unsigned one
module _ {z : ℤ} (p : SFits w64 z) (h : pos 0 ≤ℤ z) where
  pub unsigned-fits : T (non_neg (to_z w64 (of_z w64 z))) × Fits w64 (nat_abs (to_z w64 (of_z w64 z)))
  unsigned-fits = rw (back p) (yes_non_neg h, record { fits = lt_of_le_of_lt (nat_abs-le z p.sfits) (lit< tt) })

  pub unsigned_is : pos (nat_abs (to_z w64 (of_z w64 z))) ≡ z
  unsigned_is = rw (back p) (pos-nat_abs z (yes_non_neg h))
