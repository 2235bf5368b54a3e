-- Nothing is refused exactly for a good plan; and a call asks its own checks only of a good plan.
use Rattle.exact.proofs.Ground.{true, false, Bool, not, ◌||◌, List, [], mem-head, mem-tail, mem-not_nil, ◌≡◌, ◌∙◌, sym, ap, refl, ℕ}
use Rattle.exact.proofs.Ground.{◌≤◌, ◌<◌, ◌+◌, ◌*◌, suc, zero, ◌/◌, ◌%◌, mul-pos, zero-mul, arith, eqb, T, ltb, length, get_or, ne_eqb, le-ltb, eq-eqb}
use Rattle.exact.proofs.Ground.{lt-ltb, eqb-true, ltb-false, eqb-false}
use native.Mathlib.Nat.{div-add-mod', mod-lt, div-lt_iff_lt-mul}
use borrow.Author.Tests.{ltb-true}
use Rattle.exact.specs.Lists.{product}
use Rattle.exact.proofs.Tests.{neither, not-true}
use Rattle.exact.proofs.Numbers.{row_within}
use Rattle.rules.specs.Plan.{Plan, plan, columns, runs, level}
use Rattle.rules.specs.Plan.{most_columns, most_runs, lowest_level, highest_level, highest_product}
use Rattle.rules.specs.declared.Refusal.{Refusal}
use Rattle.std.specs.Prelude.{Ok, Err}
use Rattle.rules.specs.Refusals.{
  Check,
  refusal,
  answered,
  accepted,
  or_else,
  bad_columns,
  bad_level,
  first_bad_level,
  bad_product,
  bad_table,
  bad_entry,
  first_bad_entry,
  level_checks,
  table_checks,
  plan_checks,
  of_plan,
}
use Rattle.rules.proofs.Answered.{err-first, ok-first}
use Rattle.rules.proofs.Ranges.{inside, not-outside, or-refused, or-accepted}
use Rattle.rules.proofs.Order.{each-cons, in_turn, passed_none, none_passed, refused-by-first, passed-by-first}
use Rattle.plan.specs.Good.{Good}
use Rattle.plan.proofs.Loops.{search-none, none-search, bad_level_in, bad_entry_in, column-of}

-- ---- what each check tells where it passes

pub columns-passed : (m : ℕ) → (bad_columns m).fails ≡ false → (1 ≤ m) × (m ≤ most_columns)
columns-passed m e = inside 1 most_columns m e

pub levels-passed : (p : Plan) → (bad_level p).fails ≡ false → (i : ℕ) → i < columns p → (lowest_level ≤ level p i) × (level p i ≤ highest_level)
unfolding first_bad_level
levels-passed p e i h = inside lowest_level highest_level (level p i) (search-none (bad_level_in p.levels) (columns p) e i h)

entries-passed : (p : Plan) → (bad_entry p).fails ≡ false → (k : ℕ) → k < length p.table → get_or p.table k 0 < level p (k % columns p)
unfolding first_bad_entry
entries-passed p e k h = ltb-true _ _ (not-true _ (search-none (bad_entry_in p.levels p.table) (length p.table) e k h))

some_runs : (n m size : ℕ) → size ≡ n * m → ¬ (size ≡ 0) → 1 ≤ n
some_runs zero m size e h = absurd (h (e ∙ zero-mul m))
some_runs (suc n) m size e h = omega arith

record Sized (p : Plan) : Type 0 where
  size : length p.table ≡ runs p * columns p
  runs-low : 1 ≤ runs p
  runs-high : runs p ≤ most_runs

table-passed : (p : Plan) → (bad_table p).fails ≡ false → Sized p
table-passed p e =
    let size = length p.table in
    let (a, b) = neither (eqb size 0 || not (eqb (size % columns p) 0)) (ltb most_runs (runs p)) e in
    let (c, d) = neither (eqb size 0) (not (eqb (size % columns p) 0)) a in
    let z = eqb-true (size % columns p) 0 (not-true (eqb (size % columns p) 0) d) in
    let s : size ≡ runs p * columns p = omega (arith, div-add-mod' size (columns p), z) in
    record {
      size = s;
      runs-low = some_runs (runs p) (columns p) size s (eqb-false size 0 c);
      runs-high = ltb-false most_runs (runs p) b;
    }

-- ---- a plan that passes is good

pub passed-good : (p : Plan) {r : Refusal} → r ≡ refusal (plan_checks p) → r.number ≡ 0 → Good p
passed-good p e z =
    let passes = passed_none (plan_checks p) tt e z in
    let m = columns-passed (columns p) (passes (bad_columns (columns p)) (mem-head refl)) in
    let s = levels-passed p (passes (bad_level p) (mem-tail (mem-head refl))) in
    let t = table-passed p (passes (bad_table p) (mem-tail (mem-tail (mem-tail (mem-head refl))))) in
    let x = entries-passed p (passes (bad_entry p) (mem-tail (mem-tail (mem-tail (mem-tail (mem-head refl)))))) in
    record {
      columns-low = m.0;
      columns-high = m.1;
      level-low = λ i h. (s i h).0;
      level-high = λ i h. (s i h).1;
      small =
          ltb-false highest_product (product p.levels) (passes (bad_product p) (mem-tail (mem-tail (mem-head refl))));
      size = t.size;
      runs-low = t.runs-low;
      runs-high = t.runs-high;
      below = λ f i h l.
          rw (column-of p.levels p.table f i l) at
          (x (f * columns p + i) (omega (arith, t.size, row_within f (runs p) (columns p) h)));
    }

-- ---- and a good plan passes

abbrev passes : Check → Type 0
passes c = c.fails ≡ false

module _ (p : Plan) (G : Good p) where
  good-columns : (bad_columns (columns p)).fails ≡ false
  good-columns = not-outside 1 most_columns (columns p) G.columns-low G.columns-high

  good-levels : (bad_level p).fails ≡ false
  unfolding first_bad_level
  good-levels =
      none-search (bad_level_in p.levels) (columns p)
      (λ i h. not-outside lowest_level highest_level (level p i) (G.level-low i h) (G.level-high i h))

  good-table : (bad_table p).fails ≡ false
  good-table =
      let size = length p.table in
      let some : ¬ (size ≡ 0) = λ e. omega (arith, G.size, mul-pos G.runs-low G.columns-low) in
      let even : size % columns p ≡ 0 = omega (arith, G.size, div-add-mod' size (columns p)) in
      rw (ne_eqb size 0 some, eq-eqb (size % columns p) 0 even) (le-ltb most_runs (runs p) G.runs-high)

  good-entries : (bad_entry p).fails ≡ false
  unfolding first_bad_entry
  good-entries = none-search (bad_entry_in p.levels p.table) (length p.table) (λ k h.
      let l = G.below (k / columns p) (k % columns p) ((div-lt_iff_lt-mul G.columns-low).1 (omega (arith, G.size))) (mod-lt k G.columns-low) in
      ap not (lt-ltb _ _ (rw div-add-mod' at l)))

  pub good-passed : refusal (plan_checks p) ≡ accepted
  good-passed = none_passed (plan_checks p) tt
      (each-cons passes good-columns (each-cons passes good-levels (each-cons passes (le-ltb highest_product (product p.levels) G.small)
      (each-cons passes good-table (each-cons passes good-entries (λ c m. absurd (mem-not_nil m)))))))

-- ---- the levels, then the table

module _ (levels table : List ℕ) where
  -- the table has no say in the checks of the levels
  levels-alone : refusal (level_checks (plan levels [])) ≡ refusal (level_checks (plan levels table))
  unfolding first_bad_level
  levels-alone = refl

  module _ {A B : Type 0} (x : A) (value : B) where
    pub levels-err : {e : Refusal} → Err e ≡ answered (refusal (level_checks (plan levels []))) x → Err e ≡ answered (refusal (plan_checks (plan levels table))) value
    levels-err w = err-first (level_checks (plan levels table)) (table_checks (plan levels table)) tt x value (rw levels-alone at w)

    pub levels-ok : {y : A} → Ok y ≡ answered (refusal (level_checks (plan levels []))) x →
        answered (refusal (plan_checks (plan levels table))) value ≡ answered (refusal (table_checks (plan levels table))) value
    levels-ok w = ok-first (level_checks (plan levels table)) (table_checks (plan levels table)) tt x value (rw levels-alone at w)

-- ---- a call on a plan: r is what `check` gave, and the call's own checks have numbers that stand later in the order

module _ (p : Plan) (checks : List Check) (turn : T (in_turn (plan_checks p) checks)) where
  pub plan-refused : {r : Refusal} → r ≡ refusal (plan_checks p) → ¬ (r.number ≡ 0) → refusal (of_plan p checks) ≡ r
  plan-refused = refused-by-first (plan_checks p) checks turn

  pub plan-passed : {r : Refusal} → r ≡ refusal (plan_checks p) → r.number ≡ 0 → refusal (of_plan p checks) ≡ refusal checks
  plan-passed = passed-by-first (plan_checks p) checks turn

  pub plan-handed : {r : Refusal} → r ≡ refusal (plan_checks p) → or_else r (refusal checks) ≡ refusal (of_plan p checks)
  plan-handed {r} e = go (eqb r.number 0) refl
    where
      go : (b : Bool) → eqb r.number 0 ≡ b → or_else r (refusal checks) ≡ refusal (of_plan p checks)
      go true q = let z = eqb-true r.number 0 q in or-accepted r (refusal checks) z ∙ sym (plan-passed e z)
      go false q = let n = eqb-false r.number 0 q in or-refused r (refusal checks) n ∙ sym (plan-refused e n)

  pub good-own : Good p → refusal (of_plan p checks) ≡ refusal checks
  good-own G = plan-passed refl (ap (λ r. r.number) (good-passed p G))
