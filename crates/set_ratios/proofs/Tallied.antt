-- Counters of any number: one number more, and the squares of those in use.
use Rattle.exact.proofs.Ground.{cond, List, [], ◌∷◌, map, ◌++◌, Memᴰ, mem-of_map, ◌≡◌, ◌∙◌, sym, ap, refl, subst, fun_ext, ℕ, ◌≤◌, ◌<◌, ◌-◌}
use Rattle.exact.proofs.Ground.{◌+◌, ◌*◌, suc, zero, zero-add, le_trans, add-one, arith, eqb, pos, ◌*ℤ◌, ◌+ℤ◌, +ℤ_idr, length, get_or, take, drop}
use Rattle.exact.proofs.Ground.{replicate, set, take-suc, drop_at, ne_eqb}
use lib.ListN.{length-take}
use Rattle.exact.specs.Lists.{from}
use Rattle.exact.proofs.Numbers.{map-from-at, from-add, mem-from}
use Rattle.exact.proofs.Lists.{map-cong-in, count_none}
use Rattle.exact.proofs.Rooms.{map-++, length-numbered}
use Rattle.exact.proofs.Sums.{sum-++}
use Rattle.rules.specs.Plan.{most_runs}
use Rattle.counts.proofs.Turns.{raise, take-from}
use Rattle.parts.specs.Parts.{times, longer}
use Rattle.parts.proofs.Squared.{times-bound, times-snoc}
use Rattle.set_ratios.specs.Given.{tallied, squares_in, cleared}

module _ (w : ℕ) where
  pub tallied-length : (xs : List ℕ) → length (tallied w xs) ≡ w
  unfolding tallied
  tallied-length xs = length-numbered (times xs) w

  pub tallied-at : (xs : List ℕ) (k : ℕ) → k < w → get_or (tallied w xs) k 0 ≡ times xs k
  unfolding tallied
  tallied-at xs k h = map-from-at (times xs) 0 w k 0 h ∙ ap (times xs) (zero-add k)

  pub tallied-few : (xs : List ℕ) → length xs ≤ most_runs → (k : ℕ) → k < w → get_or (tallied w xs) k 0 ≤ most_runs
  tallied-few xs few k h = rw (tallied-at xs k h) (le_trans (times-bound xs k) few)

  tallied-next : (xs : List ℕ) (x : ℕ) → x < w → set (tallied w xs) x (get_or (tallied w xs) x 0 + 1) ≡ tallied w (x ∷ xs)
  unfolding tallied
  tallied-next xs x h =
      ap (λ c. set (tallied w xs) x (c + 1)) (tallied-at xs x h)
      ∙ raise (times xs) x w h
      ∙ ap (λ g. map g (from 0 w)) (fun_ext (λ k. ap (λ c. cond (eqb x k) c (times xs k)) (add-one (times xs k))))

  tallied-snoc : (xs : List ℕ) (x : ℕ) → tallied w (xs ++ x ∷ []) ≡ tallied w (x ∷ xs)
  unfolding tallied
  tallied-snoc xs x = ap (λ g. map g (from 0 w)) (fun_ext (times-snoc xs x))

  -- a turn of the loop: the number at place k is x
  module _ (xs : List ℕ) (k : ℕ) (h : k < length xs) (x : ℕ) (d : get_or xs k 0 ≡ x) (s : x < w) (C : List ℕ) (e : C ≡ tallied w (take k xs)) where
    pub tallied-turn : set C x (get_or C x 0 + 1) ≡ tallied w (take (k + 1) xs)
    tallied-turn = rw (e, add-one k, take-suc xs k 0, d) (tallied-next (take k xs) x s ∙ sym (tallied-snoc (take k xs) x))

    pub tally-small : get_or C x 0 ≤ length xs
    tally-small = rw (e, tallied-at (take k xs) x s) (omega (arith, times-bound (take k xs) x, length-take k xs))

-- a number with one digit more
pub longer-at : (s : ℕ) (xs ds : List ℕ) (k : ℕ) → k < length xs → get_or (longer s xs ds) k 0 ≡ get_or xs k 0 * s + get_or ds k 0
longer-at s xs ds k h = map-from-at (λ k. get_or xs k 0 * s + get_or ds k 0) 0 (length xs) k 0 h ∙ ap (λ k. get_or xs k 0 * s + get_or ds k 0) (zero-add k)

pub longer-length : (s : ℕ) (xs ds : List ℕ) → length (longer s xs ds) ≡ length xs
longer-length s xs ds = length-numbered (λ k. get_or xs k 0 * s + get_or ds k 0) (length xs)

pub longer-below : (s : ℕ) (xs ds : List ℕ) (most : ℕ) → ((k : ℕ) → k < length xs → get_or xs k 0 * s + get_or ds k 0 < most) →
    (x : ℕ) → Memᴰ x (longer s xs ds) → x < most
longer-below s xs ds most h x m =
    let (k, n, e) = mem-of_map (λ k. get_or xs k 0 * s + get_or ds k 0) (from 0 (length xs)) m in
    subst (λ x. x < most) e (h k (let q = mem-from 0 (length xs) n in omega arith))

-- the squares of the first k counters, and of one more
pub squares-next : (C : List ℕ) (k : ℕ) → k < length C → squares_in (take (k + 1) C) ≡ squares_in (take k C) +ℤ (pos (get_or C k 0) *ℤ pos (get_or C k 0))
squares-next C k h =
    rw (add-one k, take-suc C k 0 h)
    (sum-++ (take k C) (get_or C k 0 ∷ []) (λ c. pos c *ℤ pos c) ∙ ap (λ z. squares_in (take k C) +ℤ z) (+ℤ_idr (pos (get_or C k 0) *ℤ pos (get_or C k 0))))

-- numbers below `many` use the first counters only
module _ (w many : ℕ) (xs : List ℕ) (few : many ≤ w) (below : (x : ℕ) → Memᴰ x xs → x < many) where
  pub tallied-front : take many (tallied w xs) ≡ tallied many xs
  unfolding tallied
  tallied-front = take-from (times xs) w many few

  pub tallied-cleared : cleared many (tallied w xs) ≡ tallied w []
  unfolding tallied
  tallied-cleared =
      let e : w ≡ many + (w - many) = omega arith in
      let rest = from (0 + many) (w - many) in
      ap (λ n. map (λ k. 0) (from 0 many) ++ drop many (map (times xs) (from 0 n))) e
      ∙ ap (λ l. map (λ k. 0) (from 0 many) ++ drop many (map (times xs) l)) (from-add 0 many (w - many))
      ∙ ap (λ l. map (λ k. 0) (from 0 many) ++ l)
      (ap (drop many) (map-++ (times xs) (from 0 many) rest)
      ∙ drop_at (map (times xs) (from 0 many)) (map (times xs) rest) many (length-numbered (times xs) many)
      ∙ map-cong-in rest (λ k m. unused k (let q = mem-from (0 + many) (w - many) m in omega arith)))
      ∙ sym (ap (λ n. map (λ k. 0) (from 0 n)) e ∙ ap (map (λ k. 0)) (from-add 0 many (w - many)) ∙ map-++ (λ k. 0) (from 0 many) rest)
    where
      unused : (k : ℕ) → many ≤ k → times xs k ≡ 0
      unused k h = count_none (λ x. eqb x k) xs (λ x m. ne_eqb x k (λ d. omega (arith, below x m)))

-- nothing is counted
pub tallied-none : (w : ℕ) → replicate {A = ℕ} w 0 ≡ tallied w []
unfolding tallied
tallied-none w = blank 0 w
  where
    blank : (a n : ℕ) → replicate {A = ℕ} n 0 ≡ map (λ k. 0) (from a n)
    blank a zero = refl
    blank a (suc n) = ap (λ l. 0 ∷ l) (blank (suc a) n)
