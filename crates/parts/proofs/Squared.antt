-- Counters and squared counts of some numbers: one number more, and one number less.
use Rattle.exact.proofs.Ground.{true, false, Bool, cond, List, [], ◌∷◌, map, Memᴰ, mem-head, mem-tail, ◌≡◌, ◌∙◌, sym, ap, refl}
use Rattle.exact.proofs.Ground.{subst, fun_ext, ℕ, ◌≤◌, ◌<◌, ◌-◌, ◌+◌, ◌*◌, suc, zero, dec_lt, zero-add, le_trans, le_refl, add-one, arith, eqb, pos}
use Rattle.exact.proofs.Ground.{ℤ, nat_abs, ◌*ℤ◌, ◌+ℤ◌, +ℤ_idl, +ℤ_comm, zero-*ℤ, length, get_or, drop, take, ◌++◌, take-suc, replicate, set, drop-cons}
use lib.ListN.{length-take}
use lib.Seq.{set-set, set-get_or, get_or-set_same}
use Rattle.exact.specs.Lists.{from, sum}
use Rattle.exact.proofs.Ring.{ring}
use Rattle.exact.proofs.Order.{nat_abs-+}
use Rattle.exact.proofs.Numbers.{map-from-at, mul-below}
use Rattle.exact.proofs.Lists.{count-snoc}
use Rattle.exact.proofs.Rooms.{length-numbered}
use Rattle.exact.proofs.Sums.{sum-cong, sum-0, sum-+}
use Rattle.rules.specs.Plan.{most_runs}
use Rattle.words.proofs.Squares.{agree, agree_same, agree-sym, agree-not, pick}
use Rattle.counts.specs.Numbered.{most_numbers}
use Rattle.parts.specs.Parts.{times, counted, squares_of}
use Rattle.counts.proofs.Turns.{count-bound, raise}

-- ---- the counters

module _ (xs : List ℕ) where
  pub counted-length : length (counted xs) ≡ most_numbers
  unfolding counted
  counted-length = length-numbered (times xs) most_numbers

  pub counted-at : (k : ℕ) → k < most_numbers → get_or (counted xs) k 0 ≡ times xs k
  unfolding counted
  counted-at k h = map-from-at (times xs) 0 most_numbers k 0 h ∙ ap (times xs) (zero-add k)

  pub times-bound : (k : ℕ) → times xs k ≤ length xs
  times-bound k = count-bound (λ x. eqb x k) xs

  pub counted_next : (x : ℕ) → x < most_numbers → set (counted xs) x (get_or (counted xs) x 0 + 1) ≡ counted (x ∷ xs)
  unfolding counted
  counted_next x h =
      ap (λ c. set (counted xs) x (c + 1)) (counted-at x h)
      ∙ raise (times xs) x most_numbers h
      ∙ ap (λ g. map g (from 0 most_numbers)) (fun_ext (λ k. ap (λ c. cond (eqb x k) c (times xs k)) (add-one (times xs k))))

  -- the counter of a number that was counted last
  pub last-at : (x : ℕ) → x < most_numbers → get_or (counted (x ∷ xs)) x 0 ≡ times xs x + 1
  last-at x h =
      ap (λ l. get_or l x 0) (sym (counted_next x h))
      ∙ get_or-set_same (counted xs) x (get_or (counted xs) x 0 + 1) 0 (rw counted-length h)
      ∙ ap (λ c. c + 1) (counted-at x h)

  pub counted_back : (x : ℕ) → x < most_numbers → set (counted (x ∷ xs)) x (get_or (counted (x ∷ xs)) x 0 - 1) ≡ counted xs
  counted_back x h =
      ap (λ c. set (counted (x ∷ xs)) x (c - 1)) (last-at x h)
      ∙ ap (λ l. set l x (times xs x + 1 - 1)) (sym (counted_next x h))
      ∙ set-set (counted xs) x (get_or (counted xs) x 0 + 1) (times xs x + 1 - 1)
      ∙ ap (λ c. set (counted xs) x c) (let e : times xs x + 1 - 1 ≡ times xs x = omega arith in e ∙ sym (counted-at x h))
      ∙ set-get_or (counted xs) x 0

blank : (a n : ℕ) → replicate {A = ℕ} n 0 ≡ map (λ k. 0) (from a n)
blank a zero = refl
blank a (suc n) = ap (λ l. 0 ∷ l) (blank (suc a) n)

-- nothing is counted
pub counted_none : replicate {A = ℕ} most_numbers 0 ≡ counted []
unfolding counted
counted_none = blank 0 most_numbers

-- ---- the squares

times-next : (x : ℕ) (xs : List ℕ) (k : ℕ) → pos (times (x ∷ xs) k) ≡ agree x k +ℤ pos (times xs k)
unfolding agree
times-next x xs k = go (eqb x k)
  where
    go : (b : Bool) → pos (cond b (suc (times xs k)) (times xs k)) ≡ cond b (pos 1) (pos 0) +ℤ pos (times xs k)
    go true = ap pos (let e : suc (times xs k) ≡ 1 + times xs k = omega arith in e)
    go false = sym (+ℤ_idl (pos (times xs k)))

agree_twice : (x k : ℕ) → agree x k *ℤ agree x k ≡ agree x k
unfolding agree
agree_twice x k = go (eqb x k)
  where
    go : (b : Bool) → cond b (pos 1) (pos 0) *ℤ cond b (pos 1) (pos 0) ≡ cond b (pos 1) (pos 0)
    go true = refl
    go false = refl

squared : (a t : ℤ) → a *ℤ a ≡ a → (a +ℤ t) *ℤ (a +ℤ t) ≡ a *ℤ (pos 2 *ℤ t +ℤ pos 1) +ℤ t *ℤ t
squared a t e = expand a t ∙ rw e (sym (gather a t))
  where
    expand : (a t : ℤ) → (a +ℤ t) *ℤ (a +ℤ t) ≡ a *ℤ a +ℤ (pos 2 *ℤ (a *ℤ t) +ℤ t *ℤ t)
    expand a t = simp ring

    gather : (a t : ℤ) → a *ℤ (pos 2 *ℤ t +ℤ pos 1) +ℤ t *ℤ t ≡ a +ℤ (pos 2 *ℤ (a *ℤ t) +ℤ t *ℤ t)
    gather a t = simp ring

-- of a sum over the counters, none is that of x
past : (x a n : ℕ) (g : ℕ → ℤ) → a + n ≤ x → sum (from a n) (λ k. agree x k *ℤ g k) ≡ pos 0
past x a zero g h = refl
past x a (suc n) g h = rw (past x (suc a) n g (omega arith), agree-not {a = x} {b = a} (omega arith), zero-*ℤ (g a))

pub squares-none : squares_of [] ≡ pos 0
unfolding squares_of
squares-none = sum-0 (from 0 most_numbers)

module _ (x : ℕ) (xs : List ℕ) where
  -- what the number x adds to each counter's square
  abbrev added : ℕ → ℤ
  added k = pos 2 *ℤ pos (times xs k) +ℤ pos 1

  squares-grow : squares_of (x ∷ xs) ≡ sum (from 0 most_numbers) (λ k. agree x k *ℤ added k) +ℤ squares_of xs
  unfolding squares_of
  squares-grow =
      sum-cong (from 0 most_numbers) (λ k. ap (λ z. z *ℤ z) (times-next x xs k) ∙ squared (agree x k) (pos (times xs k)) (agree_twice x k))
      ∙ sum-+ (from 0 most_numbers) (λ k. agree x k *ℤ added k) (λ k. pos (times xs k) *ℤ pos (times xs k))

  -- where a count goes from c to c + 1, its square grows by 2c + 1
  pub squares-next : x < most_numbers → squares_of (x ∷ xs) ≡ pos (2 * times xs x + 1) +ℤ squares_of xs
  squares-next h = squares-grow ∙ ap (λ z. z +ℤ squares_of xs) (pick x 0 most_numbers added (omega arith) (omega arith))

  -- a number that has no counter
  squares-past : most_numbers ≤ x → squares_of (x ∷ xs) ≡ squares_of xs
  squares-past h = squares-grow ∙ ap (λ z. z +ℤ squares_of xs) (past x 0 most_numbers added (omega arith)) ∙ +ℤ_idl (squares_of xs)

pub squares-bound : (xs : List ℕ) → nat_abs (squares_of xs) ≤ length xs * length xs
squares-bound [] = rw squares-none (le_refl 0)
squares-bound (x ∷ xs) = go (dec_lt x most_numbers) (squares-bound xs)
  where
    go : Dec (x < most_numbers) → nat_abs (squares_of xs) ≤ length xs * length xs → nat_abs (squares_of (x ∷ xs)) ≤ suc (length xs) * suc (length xs)
    go (yes h) b = rw (squares-next x xs h) (omega (arith, nat_abs-+ (pos (2 * times xs x + 1)) (squares_of xs), times-bound xs x))
    go (no h) b = rw (squares-past x xs (omega arith)) (omega arith)

module _ (xs : List ℕ) where
  -- a number's count, over the numbers
  times-sum : (x : ℕ) → pos (times xs x) ≡ sum xs (λ y. agree x y)
  times-sum x = go xs
    where
      go : (ys : List ℕ) → pos (times ys x) ≡ sum ys (λ y. agree x y)
      go [] = refl
      go (y ∷ ys) = times-next y ys x ∙ rw (agree-sym y x, go ys)

abbrev Few : List ℕ → Type 0
Few xs = (x : ℕ) → Memᴰ x xs → x < most_numbers

-- the pairs of equal numbers
pub squares-pairs : (xs : List ℕ) → Few xs → squares_of xs ≡ sum xs (λ x. sum xs (λ y. agree x y))
squares-pairs [] v = squares-none
squares-pairs (x ∷ xs) v =
    let T : ℤ = sum xs (λ y. agree x y) in
    squares-next x xs (v x (mem-head refl))
    ∙ rw (squares-pairs xs (λ y m. v y (mem-tail m))) (
    ap (λ z. pos 2 *ℤ z +ℤ pos 1 +ℤ sum xs (λ y. sum xs (λ z. agree y z))) (times-sum xs x)
    ∙ turn T (sum xs (λ y. sum xs (λ z. agree y z)))
    ∙ sym (rw (agree_same x) (ap (λ z. pos 1 +ℤ T +ℤ z)
    (sum-+ xs (λ y. agree y x) (λ y. sum xs (λ z. agree y z)) ∙ rw (sum-cong xs (λ y. agree-sym y x))))))
  where
    turn : (t s : ℤ) → pos 2 *ℤ t +ℤ pos 1 +ℤ s ≡ pos 1 +ℤ t +ℤ (t +ℤ s)
    turn t s = simp ring

-- ---- a turn of the loops, whose counters are C

-- the order does not matter
module _ (xs : List ℕ) (x : ℕ) where
  pub times-snoc : (k : ℕ) → times (xs ++ x ∷ []) k ≡ times (x ∷ xs) k
  times-snoc k = count-snoc (λ y. eqb y k) xs x ∙ ap (λ c. cond (eqb x k) c (times xs k)) (add-one (times xs k))

  counted-snoc : counted (xs ++ x ∷ []) ≡ counted (x ∷ xs)
  unfolding counted
  counted-snoc = ap (λ g. map g (from 0 most_numbers)) (fun_ext times-snoc)

  squares-snoc : squares_of (xs ++ x ∷ []) ≡ squares_of (x ∷ xs)
  unfolding squares_of
  squares-snoc = sum-cong (from 0 most_numbers) (λ k. ap (λ c. pos c *ℤ pos c) (times-snoc k))

-- the numbers up to place k
module _ (xs : List ℕ) (k : ℕ) (C : List ℕ) (e : C ≡ counted (take k xs)) (l : k < length xs) (s : get_or xs k 0 < most_numbers) where
  pub counted-turn : set C (get_or xs k 0) (get_or C (get_or xs k 0) 0 + 1) ≡ counted (take (k + 1) xs)
  counted-turn = rw (e, add-one k, take-suc xs k 0) (counted_next (take k xs) (get_or xs k 0) s ∙ sym (counted-snoc (take k xs) (get_or xs k 0)))

  pub squares-turn : (total : ℕ) → pos total ≡ squares_of (take k xs) →
      pos (total + (2 * get_or C (get_or xs k 0) 0 + 1)) ≡ squares_of (take (k + 1) xs)
  squares-turn total q =
      let x = get_or xs k 0 in
      ap (λ C. pos (total + (2 * get_or C x 0 + 1))) e
      ∙ ap (λ c. pos (total + (2 * c + 1))) (counted-at (take k xs) x s)
      ∙ +ℤ_comm (pos total) (pos (2 * times (take k xs) x + 1))
      ∙ ap (λ z. pos (2 * times (take k xs) x + 1) +ℤ z) q
      ∙ sym (squares-next x (take k xs) s)
      ∙ sym (squares-snoc (take k xs) x)
      ∙ ap squares_of (rw (add-one k, take-suc xs k 0) refl)

  pub counter-small : get_or C (get_or xs k 0) 0 ≤ length xs
  counter-small =
      let x = get_or xs k 0 in
      rw (e, counted-at (take k xs) x s) (omega (arith, times-bound (take k xs) x, length-take k xs))

-- the numbers from place k on
module _ (xs : List ℕ) (k : ℕ) (C : List ℕ) (e : C ≡ counted (drop k xs)) where
  module _ (l : k < length xs) (s : get_or xs k 0 < most_numbers) where
    pub uncounted-turn : set C (get_or xs k 0) (get_or C (get_or xs k 0) 0 - 1) ≡ counted (drop (k + 1) xs)
    uncounted-turn = rw (e, add-one k, drop-cons xs k 0 l) (counted_back (drop (suc k) xs) (get_or xs k 0) s)

    pub counter-some : 1 ≤ get_or C (get_or xs k 0) 0
    counter-some = rw (e, drop-cons xs k 0 l) (omega (arith, last-at (drop (suc k) xs) (get_or xs k 0) s))

-- no sum of squares is above the pairs of runs
pub squares-small : (total : ℕ) (xs : List ℕ) → pos total ≡ squares_of xs → length xs ≤ most_runs → total ≤ most_runs * most_runs
squares-small total xs e h = le_trans (subst (λ k. k ≤ length xs * length xs) (sym (ap nat_abs e)) (squares-bound xs)) (mul-below (length xs) (length xs) most_runs most_runs h h)
