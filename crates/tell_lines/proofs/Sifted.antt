-- Lines for the numbers that pass a test, put into a room one after the other; and how many numbers pass.
use Rattle.exact.proofs.Ground.{true, false, Bool, cond, ◌&&◌, ◌||◌, List, [], ◌∷◌, ◌++◌, append-nil, ◌≡◌, ◌∙◌, sym, ap, refl, ℕ, ◌≤◌, ◌<◌, ◌-◌, ◌+◌}
use Rattle.exact.proofs.Ground.{◌*◌, suc, zero, zero-add, add-one, suc-mul, arith, eqb, T, length, eqb-true}
use Rattle.exact.specs.Lists.{from, keep, each, holds, first}
use Rattle.exact.proofs.Lists.{keep-++}
use Rattle.exact.proofs.Numbers.{from-add, from-snoc}
use Rattle.exact.proofs.Searches.{first-is}
use Rattle.exact.proofs.Tests.{is_true, is_false}
use Rattle.text.specs.Bytes.{Put}
use Rattle.text.proofs.Puts.{each_snoc, put_as, put_both}

-- ---- two tests

pub and-true : (b c : Bool) → b ≡ true → c ≡ true → (b && c) ≡ true
and-true b c e d = rw (e, d)

pub left_false : (b c : Bool) → b ≡ false → (b && c) ≡ false
left_false b c e = rw e

pub right-false : (b c : Bool) → b ≡ true → c ≡ false → (b && c) ≡ false
right-false b c e d = rw (e, d)

-- ---- the numbers that pass

module _ (test : ℕ → Bool) where
  kept-one : (n : ℕ) → keep test (from 0 (n + 1)) ≡ keep test (from 0 n) ++ keep test (n ∷ [])
  kept-one n = ap (keep test) (from-snoc 0 n) ∙ rw (zero-add n) (keep-++ test (from 0 n) (n ∷ []))

  pub kept_next : (n : ℕ) → test n ≡ true → keep test (from 0 (n + 1)) ≡ keep test (from 0 n) ++ n ∷ []
  kept_next n e = kept-one n ∙ rw e

  pub kept-passed : (n : ℕ) → test n ≡ false → keep test (from 0 (n + 1)) ≡ keep test (from 0 n)
  kept-passed n e = kept-one n ∙ rw e (append-nil (keep test (from 0 n)))

  none_kept : (a n : ℕ) → ((k : ℕ) → a ≤ k → k < a + n → ¬ (T (test k))) → keep test (from a n) ≡ []
  none_kept a zero h = refl
  none_kept a (suc n) h = rw (is_false (test a) (h a (omega arith) (omega arith))) (none_kept (suc a) n (λ k l m. h k (omega arith) (omega arith)))

  -- the numbers from a on up to the first that passes do not
  pub kept-to-first : (a n : ℕ) → keep test (from 0 (first test a n)) ≡ keep test (from 0 a)
  kept-to-first a n =
      let F = first-is test a n in
      let d = first test a n - a in
      let e : first test a n ≡ a + d = omega (arith, F.from-a) in
      ap (λ k. keep test (from 0 k)) e ∙ ap (keep test) (from-add 0 a d) ∙ ap (λ k. keep test (from 0 a ++ from k d)) (zero-add a)
      ∙ keep-++ test (from 0 a) (from a d)
      ∙ ap (λ l. keep test (from 0 a) ++ l) (none_kept a d (λ k l h. F.none_before k l (omega arith)))
      ∙ append-nil (keep test (from 0 a))

-- ---- numbers of a list, each once, are no more than the list has

kept_either : (p q : ℕ → Bool) (xs : List ℕ) → length (keep (λ k. p k || q k) xs) ≤ length (keep p xs) + length (keep q xs)
kept_either p q [] = omega arith
kept_either p q (x ∷ xs) = go (p x) (q x) (kept_either p q xs)
  where
    go : (b c : Bool) → length (keep (λ k. p k || q k) xs) ≤ length (keep p xs) + length (keep q xs) →
        length (cond (b || c) (x ∷ keep (λ k. p k || q k) xs) (keep (λ k. p k || q k) xs))
        ≤ length (cond b (x ∷ keep p xs) (keep p xs)) + length (cond c (x ∷ keep q xs) (keep q xs))
    go true true h = omega arith
    go true false h = omega arith
    go false true h = omega arith
    go false false h = omega arith

kept-own : (y a n : ℕ) → length (keep (λ k. eqb k y) (from a n)) ≤ 1
kept-own y a zero = omega arith
kept-own y a (suc n) = go (eqb a y) refl (kept-own y (suc a) n)
  where
    go : (b : Bool) → eqb a y ≡ b → length (keep (λ k. eqb k y) (from (suc a) n)) ≤ 1 →
        length (cond b (a ∷ keep (λ k. eqb k y) (from (suc a) n)) (keep (λ k. eqb k y) (from (suc a) n))) ≤ 1
    go true e h = let d = eqb-true a y e in
        rw (none_kept (λ k. eqb k y) (suc a) n (λ k l h t. absurd (omega (arith, d, eqb-true k y (is_true (eqb k y) t))))) (omega arith)
    go false e h = h

pub kept-few : (xs : List ℕ) (n : ℕ) → length (keep (λ k. holds k xs) (from 0 n)) ≤ length xs
kept-few [] n = rw (none_kept (λ k. false) 0 n (λ k l h t. t)) (omega arith)
kept-few (y ∷ ys) n = omega (arith, kept_either (λ k. eqb k y) (λ k. holds k ys) (from 0 n), kept-own y 0 n, kept-few ys n)

-- ---- their lines

module _ (test : ℕ → Bool) (line : ℕ → List ℕ) (most : ℕ) where
  -- those of the first n numbers
  abbrev pub PutKept : ℕ → ℕ → List ℕ → ℕ → List ℕ → Type 0
  PutKept n at room next after = Put (each (keep test (from 0 n)) line) (n * most) at room next after

  pub line-put : (n : ℕ) {at mid next : ℕ} {room between after : List ℕ} → test n ≡ true → PutKept n at room mid between →
      Put (line n) most mid between next after → PutKept (n + 1) at room next after
  line-put n e P Q =
      put_as (sym (each_snoc (keep test (from 0 n)) n line) ∙ ap (λ l. each l line) (sym (kept_next test n e)))
      (rw (add-one n, suc-mul n most) (omega arith)) (put_both P Q)

  pub line-passed : (n : ℕ) {at next : ℕ} {room after : List ℕ} → test n ≡ false → PutKept n at room next after → PutKept (n + 1) at room next after
  line-passed n e P = put_as (ap (λ l. each l line) (sym (kept-passed test n e))) (rw (add-one n, suc-mul n most) (omega arith)) P
