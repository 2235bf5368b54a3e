-- What is left to search, from the present entry on, is what the whole search finds; each run ends where the next begins.
use Rattle.exact.proofs.Ground.{◌≡◌, ◌∙◌, sym, ◌≤◌, ◌<◌, ◌-◌, ◌+◌, ◌*◌, refl, ap, arith, length, rules}
use Rattle.exact.specs.Lists.{first}
use Rattle.exact.proofs.Numbers.{row_within, mul-below}
use Rattle.exact.proofs.Searches.{first_found, first-none}
use Rattle.rules.specs.Plan.{plan, most_runs, most_columns}
use Rattle.std.specs.Prelude.{Ok, Err}
use Rattle.rules.specs.Refusals.{first_bad_entry}
use Rattle.plan.proofs.Loops.{search-on, bad_entry_in, entry-below, entry-not-below, entry-refused, entries-passed}
use Rattle.plan.proofs.table.check_entries.Statement.{statement}
use Rattle.plan.proofs.table.check_entries.Tie as tie

abbrev invariant-loop-i : tie.invariant-loop-i
invariant-loop-i levels table n m found₀ f i₀ found i =
    (f < n) × (i ≤ m) × (found ≡ Ok tt) ×
    (first_bad_entry (plan levels table) ≡ first (bad_entry_in levels table) (f * m + i) (length table - (f * m + i)))

abbrev decreases-loop-i : tie.decreases-loop-i
decreases-loop-i levels table n m found₀ f i₀ found i = m - i

abbrev invariant-runs : tie.invariant-runs
invariant-runs levels table n m found₀ f₀ found f =
    (f ≤ n) × (found ≡ Ok tt) × (first_bad_entry (plan levels table) ≡ first (bad_entry_in levels table) (f * m) (length table - f * m))

abbrev decreases-runs : tie.decreases-runs
decreases-runs levels table n m found₀ f₀ found f = n - f

runs-holds : tie.Need-runs-init invariant-loop-i decreases-loop-i invariant-runs decreases-runs
unfolding first_bad_entry
runs-holds c =
    let a = c.args in
    let z : 0 * length a.levels.now ≡ 0 = omega arith in
    let e : length a.table.now - 0 ≡ length a.table.now = omega arith in
    (omega arith, refl, rw (z, e))

-- the entry that a turn of the inner loop reads lies in the table, which is small
inside : (c : tie.At-loop-i invariant-loop-i decreases-loop-i invariant-runs decreases-runs) →
    let a = c.args in
    let m = length a.levels.now in
    (c.runs.f * m + m ≤ length a.table.now) × (length a.table.now ≤ most_runs * most_columns)
inside c =
    let a = c.args in
    let m = length a.levels.now in (
      omega (arith, row_within c.runs.f a.n m (omega arith)),
      omega (arith, mul-below a.n m most_runs most_columns (omega arith) (omega arith)),
    )

loop-holds : tie.Need-loop-i-init invariant-loop-i decreases-loop-i invariant-runs decreases-runs
loop-holds c =
    let l = c.runs in
    let a = c.args in
    let z : l.f * length a.levels.now + 0 ≡ l.f * length a.levels.now = omega arith in
    (omega arith, omega arith, l.invariant.1, rw z l.invariant.2)

mul-if1 : tie.Need-overflow_mul-f invariant-loop-i decreases-loop-i invariant-runs decreases-runs
mul-if1 c = omega (arith, inside c.before.before)

add-if1 : tie.Need-overflow_add-f invariant-loop-i decreases-loop-i invariant-runs decreases-runs
add-if1 c = omega (arith, inside c.before.before)

shared-slice-read-if1-2 : tie.Need-bounds-table-f invariant-loop-i decreases-loop-i invariant-runs decreases-runs
shared-slice-read-if1-2 c = omega (arith, inside c.before.before.before)

loop-again : tie.Need-loop-i-preserved invariant-loop-i decreases-loop-i invariant-runs decreases-runs
loop-again c =
    let l = c.before.before.before.before in
    let f = l.runs.f in
    let a = l.args in
    let k = f * length a.levels.now + l.loop-i.i in
    let e : f * length a.levels.now + (l.loop-i.i + 1) ≡ k + 1 = omega arith in (
      omega arith,
      omega arith,
      l.loop-i.invariant.2,
      l.loop-i.invariant.3 ∙ rw e (search-on (bad_entry_in a.levels.now a.table.now) k (length a.table.now) (omega (arith, inside l))
          (entry-below a.levels.now a.table.now f l.loop-i.i (omega arith) c.if-levels-i.false)),
    )

runs-again : tie.Need-runs-preserved invariant-loop-i decreases-loop-i invariant-runs decreases-runs
runs-again c =
    let l = c in
    let f = l.runs.f in
    let a = l.args in
    let e : (f + 1) * length a.levels.now ≡ f * length a.levels.now + l.loop-i.i = omega arith in
    (omega arith, l.loop-i.invariant.2, rw e l.loop-i.invariant.3)

returns : tie.Need-returns-after-runs invariant-loop-i decreases-loop-i invariant-runs decreases-runs
returns c =
    let l = c.runs in
    let a = c.args in
    let e : l.f ≡ a.n = omega arith in
    let k = l.f * length a.levels.now in
    let s : k ≡ length a.table.now = rw e (sym c.requires.1.1) in
    l.invariant.1 ∙ entries-passed a.levels.now a.table.now
    (l.invariant.2 ∙ first-none (bad_entry_in a.levels.now a.table.now) k (length a.table.now - k) (omega arith) ∙ s)

returns-2 : tie.Need-returns-then-levels-i invariant-loop-i decreases-loop-i invariant-runs decreases-runs
returns-2 c =
    let l = c.before.before.before.before.before in
    let f = l.runs.f in
    let a = l.args in
    let k = f * length a.levels.now + l.loop-i.i in
    let t : k < length a.table.now = omega (arith, inside l) in
    ap Err c.placed.ensures ∙ entry-refused a.levels.now a.table.now f l.loop-i.i (omega arith) t
    (l.loop-i.invariant.3 ∙ first_found (bad_entry_in a.levels.now a.table.now) k (length a.table.now - k) (omega arith)
    (entry-not-below a.levels.now a.table.now f l.loop-i.i (omega arith) c.if-levels-i.true))

pub check_entries_spec : {M : Type 1} → statement M
check_entries_spec =
    tie.close
    (tie.spec
    invariant-loop-i
    decreases-loop-i
    invariant-runs
    decreases-runs
    runs-holds
    loop-holds
    (λ c. omega arith)
    mul-if1
    add-if1
    shared-slice-read-if1-2
    (λ c κs. search rules)
    (λ c. omega arith)
    (λ c. omega arith)
    loop-again
    (λ c. omega arith)
    (λ c. omega arith)
    runs-again
    returns
    returns-2)
