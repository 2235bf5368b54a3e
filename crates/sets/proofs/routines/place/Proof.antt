-- `sets::routines::place` meets its contract: the sets passed so far, and the place of the columns left among those left, are the set's place.
use Rattle.exact.proofs.Ground.{◌≤◌, ◌<◌, ◌-◌, ◌+◌, arith, length, rules}
use Rattle.sets.proofs.Walks.{Placing, set-size, placing-start, placing-fits, placing-end, column-left, placing-keep, placing-skip}
use Rattle.sets.proofs.routines.place.Statement.{statement}
use Rattle.sets.proofs.routines.place.Lts.{then-columns-taken, else-columns-taken}
use Rattle.sets.proofs.routines.place.Tie as tie

abbrev invariant-loop-taken : tie.invariant-loop-taken
invariant-loop-taken m columns binomials place₀ column₀ taken₀ place column taken = Placing m columns column taken place

abbrev decreases-loop-taken : tie.decreases-loop-taken
decreases-loop-taken m columns binomials place₀ column₀ taken₀ place column taken = m - column

-- in a turn a column is left, and every number is at most 24
within : (c : tie.In-loop-taken invariant-loop-taken decreases-loop-taken) → let a = c.args in
    (c.loop-taken.column < a.m) × (length a.columns.now ≤ a.m) × (a.m ≤ 24)
within c =
    let s = c in
    let l = c.loop-taken in (
      column-left s.args.m s.args.columns.now l.column l.taken l.place l.invariant c.loop-taken-test.true,
      set-size s.args.m s.args.columns.now s.requires.1,
      s.requires.0,
    )

loop-holds : tie.Need-loop-taken-init invariant-loop-taken decreases-loop-taken
loop-holds c = let s = c in placing-start s.args.m s.args.columns.now s.requires.1

mul-if1 : tie.Need-offset_bounds-columns-taken invariant-loop-taken decreases-loop-taken
mul-if1 c = omega (arith, within c)

add-taken : tie.Need-overflow_add-taken invariant-loop-taken decreases-loop-taken
add-taken c = omega (arith, within c.before.before)

sub-looked-up : tie.Need-overflow_sub-m invariant-loop-taken decreases-loop-taken
sub-looked-up c = omega (arith, within c.before.before.before)

sub-looked-up-2 : tie.Need-overflow_sub-m-else-columns-taken invariant-loop-taken decreases-loop-taken
sub-looked-up-2 c = omega (arith, within c.before.before.before)

sub-looked-up-3 : tie.Need-overflow_sub-columns invariant-loop-taken decreases-loop-taken
sub-looked-up-3 c = omega (arith, within c.before.before.before)

sub-looked-up-4 : tie.Need-overflow_sub-columns-else-columns-taken invariant-loop-taken decreases-loop-taken
sub-looked-up-4 c = omega (arith, within c.before.before.before)

looked-up-requires : tie.Need-looked_up-place-requires invariant-loop-taken decreases-loop-taken
looked-up-requires c κs =
    let t = c.before.before.before in (t.all_binomials-binomials.ensures, omega (arith, within t))

-- the column that is left out
skipped : (c : tie.After-looked_up-place invariant-loop-taken decreases-loop-taken) →
    let l = c in
    let a = l.args in
    Placing a.m a.columns.now (l.loop-taken.column + 1) l.loop-taken.taken (l.loop-taken.place + c.looked_up-place.result)
skipped c =
    let t = c in
    let l = t.loop-taken in
    let a = t.args in
    rw c.looked_up-place.ensures
    (placing-skip a.m a.columns.now l.column l.taken l.place l.invariant t.loop-taken-test.true c.if-columns-taken.false)

add-place : tie.Need-overflow_add-place invariant-loop-taken decreases-loop-taken
add-place c =
    let l = c.loop-taken in
    let s = c in
    let a = s.args in
    omega (arith, placing-fits a.m a.columns.now (l.column + 1) l.taken (l.place + c.looked_up-place.result) (skipped c) s.requires.0 s.requires.1)

add-column : tie.Need-overflow_add-column invariant-loop-taken decreases-loop-taken
add-column c = omega (arith, within c.before.before)

loop-less : tie.Need-loop-taken-smaller invariant-loop-taken decreases-loop-taken
loop-less c = omega (arith, within c.before.before)

loop-again : tie.Need-loop-taken-preserved invariant-loop-taken decreases-loop-taken
loop-again c =
    let t = c in
    let l = t.loop-taken in
    let a = t.args in
    elim c.if-columns-taken.branch [
      | then-columns-taken w ↦ rw (w.place-is, w.taken-is)
          (placing-keep a.m a.columns.now l.column l.taken l.place l.invariant t.loop-taken-test.true w.if-columns-taken.true)
      | else-columns-taken w ↦ rw (w.place-is, w.taken-is, w.looked_up-place.ensures)
          (placing-skip a.m a.columns.now l.column l.taken l.place l.invariant t.loop-taken-test.true w.if-columns-taken.false)
    ]

returns : tie.Need-returns invariant-loop-taken decreases-loop-taken
returns c =
    let l = c.loop-taken in
    let a = c.args in
    placing-end a.m a.columns.now l.column l.taken l.place l.invariant (omega (arith, l.invariant.taken))

pub place_spec : {M : Type 1} → statement M
place_spec =
    tie.close
    (tie.spec
    invariant-loop-taken
    decreases-loop-taken
    (λ c κs. search rules)
    loop-holds
    mul-if1
    (λ c. omega arith)
    add-taken
    sub-looked-up
    sub-looked-up-2
    sub-looked-up-3
    sub-looked-up-4
    looked-up-requires
    add-place
    add-column
    loop-less
    loop-again
    returns)
