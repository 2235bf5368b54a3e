-- A turn of the loops over the runs and over the columns: the present one, and those left.
use Rattle.exact.proofs.Ground.{true, false, ◌&&◌, List, [], ◌∷◌, ◌≡◌, sym, ap, refl, ℕ, ◌≤◌, ◌<◌, ◌-◌, ◌+◌, ◌*◌, suc, zero, add-zero, add-one, arith, eqb}
use Rattle.exact.proofs.Ground.{length, get_or, take, drop, drop-cons, ne_eqb, eq-eqb}
use Rattle.std.proofs.Common.{slice_range, add-suc}
use lib.Pointwise.{pointwise}
use Rattle.exact.specs.Lists.{from, all}
use Rattle.exact.proofs.Numbers.{row_within, mul-below}
use Rattle.rules.specs.Plan.{Plan, columns, runs, entry, most_columns, most_runs}
use Rattle.plan.specs.Good.{Good}
use Rattle.survey.specs.Survey.{occurs, alike}

-- ---- the numbers left, from a up to n

pub from_on : (a n : ℕ) → a < n → from a (n - a) ≡ a ∷ from (a + 1) (n - (a + 1))
from_on a n h = let e : n - a ≡ suc (n - (a + 1)) = omega arith in rw (e, add-one)

pub from_end : (a n : ℕ) → n ≤ a → from a (n - a) ≡ []
from_end a n h = let e : n - a ≡ 0 = omega arith in rw e

-- ---- the entries of run f lie in the table, which is small

abbrev pub Inside : Plan → ℕ → Type 0
Inside p f = (f * columns p + columns p ≤ length p.table) × (length p.table ≤ most_runs * most_columns)

pub run_inside : (p : Plan) → Good p → (f : ℕ) → f < runs p → Inside p f
run_inside p G f h = (
  omega (arith, G.size, row_within f (runs p) (columns p) h),
  omega (arith, G.size, mul-below (runs p) (columns p) most_runs most_columns G.runs-high G.columns-high),
)

-- ---- whether a level occurs in the runs from f on

module _ (p : Plan) (i e f : ℕ) (h : f < runs p) where
  pub occurs-here : entry p f i ≡ e → occurs p (from f (runs p - f)) i e ≡ true
  unfolding occurs
  occurs-here q = rw (from_on f (runs p) h, eq-eqb e (entry p f i) (sym q))

  pub occurs-on : ¬ (entry p f i ≡ e) → occurs p (from f (runs p - f)) i e ≡ occurs p (from (f + 1) (runs p - (f + 1))) i e
  unfolding occurs
  occurs-on q = rw (from_on f (runs p) h, ne_eqb e (entry p f i) (λ x. q (sym x)))

pub occurs-end : (p : Plan) (i e f : ℕ) → runs p ≤ f → occurs p (from f (runs p - f)) i e ≡ false
unfolding occurs
occurs-end p i e f h = rw (from_end f (runs p) h)

-- ---- whether two runs are alike

-- n numbers of a list from place x on, and n from place y on: the same where they are equal place by place. Those before place a are passed
module _ (xs : List ℕ) (x y : ℕ) where
  places-alike : (a n : ℕ) → x + a + n ≤ length xs → y + a + n ≤ length xs →
      pointwise eqb (take n (drop (x + a) xs)) (take n (drop (y + a) xs)) ≡ all (from a n) (λ i. eqb (get_or xs (x + i) 0) (get_or xs (y + i) 0))
  places-alike a zero h k = refl
  places-alike a (suc n) h k =
      let hx : x + a < length xs = omega arith in
      let hy : y + a < length xs = omega arith in
      rw (drop-cons xs (x + a) 0 hx, drop-cons xs (y + a) 0 hy)
      (ap (λ b. eqb (get_or xs (x + a) 0) (get_or xs (y + a) 0) && b)
      (rw (← add-suc x a, ← add-suc y a) (places-alike (suc a) n (omega arith) (omega arith))))

pub rows-alike : (p : Plan) (f g : ℕ) → Inside p f → Inside p g →
    let m = columns p in pointwise eqb (slice_range p.table (f * m) (f * m + m)) (slice_range p.table (g * m) (g * m + m)) ≡ alike p f g
unfolding alike
rows-alike p f g F G =
    let m = columns p in
    let x = f * m in
    let y = g * m in
    let wx : x + m - x ≡ m = omega arith in
    let wy : y + m - y ≡ m = omega arith in
    rw (wx, wy) (rw (add-zero x, add-zero y) at (places-alike p.table x y 0 m (omega (arith, F)) (omega (arith, G))))
