-- A turn of each of the checks' loops, over plain lists.
use Rattle.exact.proofs.Ground.{true, false, Bool, not, List, [], ◌∷◌, ◌≡◌, ◌∙◌, sym, ap, ℕ, ◌≤◌, ◌<◌, ◌-◌, ◌+◌, ◌*◌, suc, ◌/◌}
use Rattle.exact.proofs.Ground.{◌%◌, mul-le-mul, mul-pos, add-zero, add-one, arith, ltb, ltb→lt, length, get_or, drop}
use Rattle.exact.proofs.Ground.{length-drop, drop-cons, drop-length, get_or-drop, le-ltb, lt-ltb, ltb-false}
use native.Mathlib.Nat.{mul_assoc, mul-one, mod-eq_of_lt, div-eq_of_lt, mul-add-mod_self_right, mul-add-div_right}
use Rattle.exact.specs.Lists.{first, outside, product}
use Rattle.exact.proofs.Tests.{is_false, false-is}
use Rattle.exact.proofs.Searches.{first-is, first-later}
use Rattle.rules.specs.Plan.{plan, lowest_level, highest_level}
use Rattle.rules.specs.Refusals.{first_bad_entry, bad_entry, refusal, answered, placed}
use Rattle.std.specs.Prelude.{Ok, Err}
use Rattle.plan.specs.Given.{FromOne}

-- ---- a search upward to n

-- a turn: the present number does not pass
pub search-on : (test : ℕ → Bool) (k n : ℕ) → k < n → test k ≡ false → first test k (n - k) ≡ first test (k + 1) (n - (k + 1))
search-on test k n h e =
    let d : n - k - 1 ≡ n - (k + 1) = omega arith in
    first-later test k (n - k) (omega arith) e ∙ ap (first test (k + 1)) d

-- it reaches n exactly where none passes
module _ (test : ℕ → Bool) (n : ℕ) where
  pub search-none : ltb (first test 0 n) n ≡ false → (k : ℕ) → k < n → test k ≡ false
  search-none e k h = is_false (test k) ((first-is test 0 n).none_before k (omega arith) (omega (arith, ltb-false (first test 0 n) n e)))

  pub none-search : ((k : ℕ) → k < n → test k ≡ false) → ltb (first test 0 n) n ≡ false
  none-search h = is_false (ltb (first test 0 n) n) (λ t.
      let l = ltb→lt (first test 0 n) n t in
      false-is (test (first test 0 n)) (h (first test 0 n) l) ((first-is test 0 n).passes (omega arith)))

-- whether the level of column i is out of range
abbrev pub bad_level_in : List ℕ → ℕ → Bool
bad_level_in levels i = outside lowest_level highest_level (get_or levels i 0)

-- ---- the product so far, and what is left of it

pub product-on : (levels : List ℕ) (i so_far : ℕ) → i < length levels →
    so_far * product (drop i levels) ≡ so_far * get_or levels i 0 * product (drop (i + 1) levels)
product-on levels i so_far h =
    rw (add-one i, drop-cons levels i 0 h) (sym (mul_assoc so_far (get_or levels i 0) (product (drop (suc i) levels))))

product-pos : (levels : List ℕ) → ((i : ℕ) → i < length levels → 1 ≤ get_or levels i 0) → 1 ≤ product levels
product-pos [] h = omega arith
product-pos (s ∷ levels) h = mul-pos (h 0 (omega arith)) (product-pos levels (λ i l. h (suc i) (omega arith)))

-- no later level brings it down
pub product-grows : (levels : List ℕ) (i so_far limit : ℕ) → FromOne levels → i < length levels →
    product levels ≡ so_far * product (drop i levels) → limit < so_far * get_or levels i 0 → limit < product levels
product-grows levels i so_far limit F h e l =
    let d = length-drop (i + 1) levels in
    let p = product-pos (drop (i + 1) levels) (λ k t. rw get_or-drop (F.from_one (i + 1 + k) (omega arith))) in
    let so-far' = so_far * get_or levels i 0 in
    omega (arith, e ∙ product-on levels i so_far h, mul-le-mul (let r : so-far' ≤ so-far' = omega arith in r) p)

pub product-all : (levels : List ℕ) (i so_far : ℕ) → i ≡ length levels → so_far * product (drop i levels) ≡ so_far
product-all levels i so_far e = rw (e, drop-length levels) (mul-one so_far)

-- ---- the entry of run f in column i

-- whether the entry at place k of the table is not below its level
abbrev pub bad_entry_in : List ℕ → List ℕ → ℕ → Bool
bad_entry_in levels table k = not (ltb (get_or table k 0) (get_or levels (k % length levels) 0))

module _ (levels table : List ℕ) (f i : ℕ) (h : i < length levels) where
  pub column-of : (f * length levels + i) % length levels ≡ i
  column-of = mul-add-mod_self_right f (length levels) i ∙ mod-eq_of_lt h

  run_of : (f * length levels + i) / length levels ≡ f
  run_of = mul-add-div_right (let l : 0 < length levels = omega arith in l) f i ∙ ap (λ k. f + k) (div-eq_of_lt h) ∙ add-zero f

  pub entry-below : get_or table (f * length levels + i) 0 < get_or levels i 0 → bad_entry_in levels table (f * length levels + i) ≡ false
  entry-below l = rw (column-of, lt-ltb _ _ l)

  pub entry-not-below : get_or levels i 0 ≤ get_or table (f * length levels + i) 0 → bad_entry_in levels table (f * length levels + i) ≡ true
  entry-not-below l = rw (column-of, le-ltb _ _ l)

  pub entry-refused : f * length levels + i < length table → first_bad_entry (plan levels table) ≡ f * length levels + i →
      Err (placed 5 f i) ≡ answered (refusal (bad_entry (plan levels table) ∷ [])) (tt {0})
  entry-refused l e = rw (e, lt-ltb _ _ l, run_of, column-of)

pub entries-passed : (levels table : List ℕ) → first_bad_entry (plan levels table) ≡ length table →
    Ok (tt {0}) ≡ answered (refusal (bad_entry (plan levels table) ∷ [])) (tt {0})
entries-passed levels table e = rw (e, le-ltb (length table) (length table) (omega arith))
