-- Reading a number digit by digit.
use Rattle.exact.proofs.Ground.{true, List, [], ◌∷◌, ◌++◌, ◌≡◌, ◌∙◌, ap, refl, ℕ, ◌≤◌, ◌<◌, ◌-◌, ◌+◌, ◌*◌, suc, zero, ◌^◌, add-one, arith, T}
use Rattle.exact.proofs.Ground.{leb, length, get_or, take, take-suc, le-leb}
use native.Mathlib.Nat.{pow-suc}
use Rattle.exact.specs.Lists.{all}
use Rattle.exact.proofs.Tests.{true-is, both, join}
use Rattle.text.specs.Decimal.{value, value_after}
use Rattle.text.specs.Text.{is_digit}

value-snoc : (n : ℕ) (bytes : List ℕ) (b : ℕ) → value_after n (bytes ++ b ∷ []) ≡ value_after n bytes * 10 + (b - 48)
value-snoc n [] b = refl
value-snoc n (a ∷ bytes) b = value-snoc (n * 10 + (a - 48)) bytes b

all_snoc : (bytes : List ℕ) (b : ℕ) → T (all bytes is_digit) → T (is_digit b) → T (all (bytes ++ b ∷ []) is_digit)
all_snoc [] b h k = join (is_digit b) true k tt
all_snoc (a ∷ bytes) b h k =
    let (p, q) = both (is_digit a) (all bytes is_digit) h in join (is_digit a) (all (bytes ++ b ∷ []) is_digit) p (all_snoc bytes b q k)

-- the first i bytes are digits, and what they stand for
pub record ReadTo (bytes : List ℕ) (i number : ℕ) : Type 0 where
  pub within : i ≤ length bytes
  pub digits : T (all (take i bytes) is_digit)
  pub stands : number ≡ value (take i bytes)
  pub small : number < 10 ^ i

pub none_read : (bytes : List ℕ) → ReadTo bytes 0 0
none_read bytes = record { within = omega arith; digits = tt; stands = refl; small = omega arith }

pub one-read : (bytes : List ℕ) (i : ℕ) {number : ℕ} → ReadTo bytes i number → i < length bytes → 48 ≤ get_or bytes i 0 → get_or bytes i 0 ≤ 57 →
    ReadTo bytes (i + 1) (number * 10 + (get_or bytes i 0 - 48))
one-read bytes i {number} R h low high =
    let b = get_or bytes i 0 in
    let t : take (i + 1) bytes ≡ take i bytes ++ b ∷ [] = ap (λ k. take k bytes) (add-one i) ∙ take-suc bytes i 0 h in
    let d : T (is_digit b) = join (leb 48 b) (leb b 57) (true-is (leb 48 b) (le-leb 48 b low)) (true-is (leb b 57) (le-leb b 57 high)) in
    record {
      within = omega arith;
      digits = rw t (all_snoc (take i bytes) b R.digits d);
      stands = rw (t, value-snoc 0 (take i bytes) b) (ap (λ n. n * 10 + (b - 48)) R.stands);
      small = rw (add-one i, pow-suc 10 i) (let s = R.small in omega arith);
    }

thousand : (i : ℕ) → i ≤ 3 → 10 ^ i ≤ 1000
thousand zero h = omega arith
thousand (suc zero) h = omega arith
thousand (suc (suc zero)) h = omega arith
thousand (suc (suc (suc zero))) h = omega arith
thousand (suc (suc (suc (suc i)))) h = absurd (omega arith)

pub few : (bytes : List ℕ) (i : ℕ) {number : ℕ} → ReadTo bytes i number → i ≤ 3 → number < 1000
few bytes i R h = let s = R.small in let t = thousand i h in omega arith
