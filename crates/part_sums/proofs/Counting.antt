-- Counters for numbers below a size: one number more, one place cleared, and the squares of all.
use Rattle.exact.proofs.Ground.{cond, List, [], ◌∷◌, map, Memᴰ, mem-head, mem-tail, ◌≡◌, ◌∙◌, sym, ap, refl, subst, fun_ext, ℕ, ◌≤◌, ◌<◌, ◌-◌}
use Rattle.exact.proofs.Ground.{◌+◌, ◌*◌, suc, zero, zero-add, add-one, arith, eqb, pos, ℤ, ◌*ℤ◌, ◌+ℤ◌, +ℤ_idr, length, get_or, drop, replicate, set, length-set, ext_get_or}
use Rattle.exact.proofs.Ground.{length-replicate, dec_lt, ℕ_discrete, ne_eqb, eqb→eq, T, Bool, true, false, length-drop, drop-cons, ap₂, mem-not_nil, get_or-eq_default, take, take_at}
use mathlib.Core.Logic.{dite}
use lib.Seq.{get_or-set_same, get_or-set_other}
use Rattle.exact.specs.Lists.{from, sum}
use Rattle.exact.proofs.Lists.{count_none}
use Rattle.exact.proofs.Numbers.{map-from-at, from-add, mem-from, from-mem, length_from}
use Rattle.exact.proofs.Rooms.{length-numbered}
use Rattle.exact.proofs.Sums.{sum-++, sum-0, sum-cong-in}
use Rattle.counts.specs.Numbered.{most_numbers}
use Rattle.counts.proofs.Turns.{count-bound, raise}
use Rattle.rules.specs.Plan.{most_runs}
use Rattle.parts.specs.Parts.{times, squares_of}
use Rattle.parts.proofs.Squared.{squares-small}
use Rattle.part_sums.specs.Counters.{counters_of, squared_sum, Numbers}

-- a member has a place
mem-place : (v : ℕ) (zs : List ℕ) → Memᴰ v zs → (j : ℕ) × (j < length zs) × (get_or zs j 0 ≡ v)
mem-place v [] m = absurd (mem-not_nil m)
mem-place v (z ∷ zs) (mem-head e) = (0, omega arith, sym e)
mem-place v (z ∷ zs) (mem-tail m) = let (j, l, q) = mem-place v zs m in (suc j, omega arith, q)

module _ (size : ℕ) (xs : List ℕ) where
  pub counters-long : length (counters_of size xs) ≡ size
  unfolding counters_of
  counters-long = length-numbered (times xs) size

  pub counters-at : (k : ℕ) → k < size → get_or (counters_of size xs) k 0 ≡ times xs k
  unfolding counters_of
  counters-at k h = map-from-at (times xs) 0 size k 0 h ∙ ap (times xs) (zero-add k)

  pub counters-next : (x : ℕ) → x < size → set (counters_of size xs) x (get_or (counters_of size xs) x 0 + 1) ≡ counters_of size (x ∷ xs)
  unfolding counters_of
  counters-next x h =
      ap (λ c. set (counters_of size xs) x (c + 1)) (counters-at x h)
      ∙ raise (times xs) x size h
      ∙ ap (λ g. map g (from 0 size)) (fun_ext (λ k. ap (λ c. cond (eqb x k) c (times xs k)) (add-one (times xs k))))

  -- a number that is counted is one of them
  pub counted-mem : (v : ℕ) → 0 < times xs v → Memᴰ v xs
  counted-mem v h = go xs h
    where
      pick : (y : ℕ) (ys : List ℕ) → ((0 < times ys v) → Memᴰ v ys) → (b : Bool) → eqb y v ≡ b → 0 < cond b (suc (times ys v)) (times ys v) → Memᴰ v (y ∷ ys)
      pick y ys g true e l = mem-head (sym (eqb→eq y v (subst T (sym e) tt)))
      pick y ys g false e l = mem-tail (g l)

      go : (ys : List ℕ) → 0 < times ys v → Memᴰ v ys
      go [] h = absurd (omega arith)
      go (y ∷ ys) h = pick y ys (go ys) (eqb y v) refl h

  pub times-most : (v : ℕ) → times xs v ≤ length xs
  times-most v = count-bound (λ x. eqb x v) xs

pub counters-none : (size : ℕ) → replicate {A = ℕ} size 0 ≡ counters_of size []
unfolding counters_of
counters-none size = blank 0 size
  where
    blank : (a n : ℕ) → replicate {A = ℕ} n 0 ≡ map (λ k. 0) (from a n)
    blank a zero = refl
    blank a (suc n) = ap (λ l. 0 ∷ l) (blank (suc a) n)

-- the squares, as counters of every number
pub squares-counters : (size : ℕ) (xs : List ℕ) → ((x : ℕ) → Memᴰ x xs → x < size) → size ≤ most_numbers →
    pos (squared_sum (counters_of size xs)) ≡ squares_of xs
unfolding counters_of squares_of
squares-counters size xs h l =
    let S : ℕ → ℤ = λ k. pos (times xs k) *ℤ pos (times xs k) in
    let e : most_numbers ≡ size + (most_numbers - size) = omega arith in
    summed 0 size
    ∙ sym (ap (λ n. sum (from 0 n) S) e ∙ ap (λ l. sum l S) (from-add 0 size (most_numbers - size))
    ∙ sum-++ (from 0 size) (from (0 + size) (most_numbers - size)) S
    ∙ ap (λ z. sum (from 0 size) S +ℤ z) (sum-cong-in (from (0 + size) (most_numbers - size))
    (λ k m. ap (λ n. pos n *ℤ pos n) (none k (let q = mem-from (0 + size) (most_numbers - size) m in omega arith))) ∙ sum-0 (from (0 + size) (most_numbers - size)))
    ∙ +ℤ_idr (sum (from 0 size) S))
  where
    summed : (a n : ℕ) → pos (squared_sum (map (times xs) (from a n))) ≡ sum (from a n) (λ k. pos (times xs k) *ℤ pos (times xs k))
    summed a zero = refl
    summed a (suc n) = ap (λ z. pos (times xs a) *ℤ pos (times xs a) +ℤ z) (summed (suc a) n)

    none : (k : ℕ) → size ≤ k → times xs k ≡ 0
    none k q = count_none (λ x. eqb x k) xs (λ x m. ne_eqb x k (λ e. let b = h x m in omega arith))

pub squares-most : (size : ℕ) (xs : List ℕ) → ((x : ℕ) → Memᴰ x xs → x < size) → size ≤ most_numbers → length xs ≤ most_runs →
    squared_sum (counters_of size xs) ≤ most_runs * most_runs
squares-most size xs h l few = squares-small (squared_sum (counters_of size xs)) xs (squares-counters size xs h l) few

-- ---- the number at place k, counted after those behind it

module _ (size : ℕ) (xs : List ℕ) (k : ℕ) (C : List ℕ) (e : C ≡ counters_of size (drop (k + 1) xs)) (l : k < length xs) (s : get_or xs k 0 < size) where
  pub tally-turn : set C (get_or xs k 0) (get_or C (get_or xs k 0) 0 + 1) ≡ counters_of size (drop k xs)
  tally-turn =
      rw e (counters-next size (drop (k + 1) xs) (get_or xs k 0) s
      ∙ ap (counters_of size) (ap (λ j. get_or xs k 0 ∷ drop j xs) (add-one k) ∙ sym (drop-cons xs k 0 l)))

  pub tally-small : get_or C (get_or xs k 0) 0 ≤ length xs
  tally-small =
      let x = get_or xs k 0 in
      rw (e, counters-at size (drop (k + 1) xs) x s) (omega (arith, times-most size (drop (k + 1) xs) x, length-drop (k + 1) xs))

-- the same counters, of the same numbers
pub counters-as : (C : List ℕ) (xs : List ℕ) (j k n : ℕ) → j ≡ k → length C ≡ n → C ≡ counters_of n (drop j xs) → C ≡ counters_of (length C) (drop k xs)
counters-as C xs j k n a b e = e ∙ ap₂ (λ n j. counters_of n (drop j xs)) (sym b) a

pub counted-long : (C xs : List ℕ) (n : ℕ) → C ≡ counters_of n xs → length C ≡ n
counted-long C xs n e = ap length e ∙ counters-long n xs

pub numbers_as : (m n : ℕ) (xs : List ℕ) → m ≡ n → Numbers n xs → Numbers m xs
numbers_as m n xs e N = rw e N

-- ---- a turn of `gather`

pub squared-clear : (C : List ℕ) (v : ℕ) → v < length C → get_or C v 0 * get_or C v 0 + squared_sum (set C v 0) ≡ squared_sum C
squared-clear [] v h = absurd (omega arith)
squared-clear (c ∷ C) zero h = omega arith
squared-clear (c ∷ C) (suc v) h = omega (arith, squared-clear C v (omega arith))

-- the counters C, of which those at the first k places are cleared, were C₀; `total` has their squares
pub record Gathered (C₀ zs C : List ℕ) (k total : ℕ) : Type 0 where
  pub long : length C ≡ length C₀
  pub sum : total + squared_sum C ≡ squared_sum C₀
  pub fewer : (v : ℕ) → get_or C v 0 ≤ get_or C₀ v 0
  pub cleared : (j : ℕ) → j < k → get_or C (get_or zs j 0) 0 ≡ 0

pub gathered_none : (C zs : List ℕ) → Gathered C zs C 0 0
gathered_none C zs = record { long = refl; sum = omega arith; fewer = λ v. omega arith; cleared = λ j h. absurd (omega arith) }

pub gathered_next : (C₀ zs C : List ℕ) (k total : ℕ) → get_or zs k 0 < length C₀ → Gathered C₀ zs C k total →
    Gathered C₀ zs (set C (get_or zs k 0) 0) (k + 1) (total + get_or C (get_or zs k 0) 0 * get_or C (get_or zs k 0) 0)
gathered_next C₀ zs C k total h G =
    let z = get_or zs k 0 in
    let l : z < length C = omega (arith, G.long) in
    let same : get_or (set C z 0) z 0 ≡ 0 = get_or-set_same C z 0 0 l in
    record {
      long = length-set C z 0 ∙ G.long;
      sum = omega (arith, squared-clear C z l, G.sum);
      fewer = λ v. dite (ℕ_discrete z v)
          (λ e. subst (λ v. get_or (set C z 0) v 0 ≤ get_or C₀ v 0) e (omega (arith, same)))
          (λ e. omega (arith, get_or-set_other C z v 0 0 (λ q. e (sym q)), G.fewer v));
      cleared = λ j q. dite (ℕ_discrete z (get_or zs j 0))
          (λ e. subst (λ v. get_or (set C z 0) v 0 ≡ 0) e same)
          (λ e. get_or-set_other C z (get_or zs j 0) 0 0 (λ q. e (sym q)) ∙ G.cleared j (before j q e));
    }
  where
    before : (j : ℕ) → j < k + 1 → ((get_or zs k 0 ≡ get_or zs j 0) → ⊥) → j < k
    before j q e = dite (dec_lt j k) (λ l. l) (λ l. absurd (e (let a : k ≡ j = omega arith in ap (λ i. get_or zs i 0) a)))

pub gathered-all : (C₀ zs C : List ℕ) (k total : ℕ) → k ≡ length zs → ((v : ℕ) → 0 < get_or C₀ v 0 → Memᴰ v zs) → Gathered C₀ zs C k total →
    (total ≡ squared_sum C₀) × (C ≡ counters_of (length C₀) [])
gathered-all C₀ zs C k total e h G =
    let none : (v : ℕ) → get_or C v 0 ≡ 0 = λ v. dite (dec_lt 0 (get_or C₀ v 0)) (λ l. placed v (h v l)) (λ l. omega (arith, G.fewer v)) in
    let blank : C ≡ replicate (length C₀) 0 = ext_get_or 0 C (replicate (length C₀) 0) (G.long ∙ sym (length-replicate (length C₀) 0)) (λ v l. none v ∙ sym (zeros (length C₀) v)) in
    ((omega (arith, G.sum, ap squared_sum blank, nothing (length C₀))), blank ∙ counters-none (length C₀))
  where
    placed : (v : ℕ) → Memᴰ v zs → get_or C v 0 ≡ 0
    placed v m = let (j, l, q) = mem-place v zs m in subst (λ z. get_or C z 0 ≡ 0) q (G.cleared j (omega arith))

    zeros : (n v : ℕ) → get_or (replicate {A = ℕ} n 0) v 0 ≡ 0
    zeros zero v = refl
    zeros (suc n) zero = refl
    zeros (suc n) (suc v) = zeros n v

    nothing : (n : ℕ) → squared_sum (replicate n 0) ≡ 0
    nothing zero = refl
    nothing (suc n) = omega (arith, nothing n)

-- the numbers below `most`, as the front of those below 256
module _ (zs : List ℕ) (a : zs ≡ from 0 most_runs) (most : ℕ) (h : most ≤ most_runs) where
  pub row-front : take most zs ≡ from 0 most
  row-front =
      let e : most_runs ≡ most + (most_runs - most) = omega arith in
      ap (take most) a ∙ ap (λ n. take most (from 0 n)) e ∙ ap (take most) (from-add 0 most (most_runs - most))
      ∙ take_at (from 0 most) (from (0 + most) (most_runs - most)) most (length_from 0 most)

  pub row-long : most ≡ length (take most zs)
  row-long = sym (ap length row-front ∙ length_from 0 most)

  pub row-numbers : (size : ℕ) → most ≤ size → Numbers size (take most zs)
  row-numbers size l =
      subst (Numbers size) (sym row-front)
      (record { few = rw (length_from 0 most) h; below = λ x m. omega (arith, mem-from 0 most m) })

-- ---- the counters of some numbers below `most`, gathered at the numbers, or at every place below `most`

module _ (most size : ℕ) (xs C : List ℕ) (N : Numbers most xs) (h : most ≤ size) (l : size ≤ most_numbers) (e : C ≡ counters_of size xs) where
  pub within : Numbers size xs
  within = record { few = N.few; below = λ x m. omega (arith, N.below x m) }

  pub squares-are : pos (squared_sum C) ≡ squares_of xs
  squares-are = ap (λ C. pos (squared_sum C)) e ∙ squares-counters size xs within.below l

  pub squares-few : squared_sum C ≤ most_runs * most_runs
  squares-few = squares-small (squared_sum C) xs squares-are N.few

  pub at-numbers : (v : ℕ) → 0 < get_or C v 0 → Memᴰ v xs
  at-numbers v q = dite (dec_lt v size)
      (λ b. counted-mem size xs v (omega (arith, ap (λ C. get_or C v 0) e, counters-at size xs v b)))
      (λ b. absurd (omega (arith, get_or-eq_default C 0 {n = v} (omega (arith, ap length e, counters-long size xs)))))

  pub in_a_row : (zs : List ℕ) → zs ≡ from 0 most_runs → most ≤ most_runs → (v : ℕ) → 0 < get_or C v 0 → Memᴰ v (take most zs)
  in_a_row zs a few v q = subst (λ zs. Memᴰ v zs) (sym (row-front zs a most few)) (from-mem v 0 most (omega arith) (omega (arith, N.below v (at-numbers v q))))
