-- `occurs` meets its contract: what is left to look at, from the present run on, decides of all runs.
use Rattle.exact.proofs.Ground.{◌≡◌, ◌∙◌, sym, ◌≤◌, ◌-◌, arith}
use Rattle.exact.specs.Lists.{from}
use Rattle.rules.specs.Plan.{Plan, plan, runs, every_run}
use Rattle.survey.specs.Survey.{occurs}
use Rattle.survey.proofs.TableWalks.{Inside, run_inside, occurs-here, occurs-on, occurs-end}
use Rattle.survey.proofs.routines.occurs.Statement.{statement}
use Rattle.survey.proofs.routines.occurs.Tie as tie

abbrev invariant-loop-f : tie.invariant-loop-f
invariant-loop-f levels table column level m n f₀ f =
    (f ≤ n) × (let p = plan levels table in occurs p (every_run p) column level ≡ occurs p (from f (runs p - f)) column level)

abbrev decreases-loop-f : tie.decreases-loop-f
decreases-loop-f levels table column level m n f₀ f = n - f

-- the plan, and where the entries of the present run lie
abbrev given : tie.Start invariant-loop-f decreases-loop-f → Plan
given s = plan s.args.levels.now s.args.table.now

inside : (c : tie.In-loop-f invariant-loop-f decreases-loop-f) → Inside (given c.before.before) c.loop-f.f
inside c = run_inside (given c.before.before) c.requires.0 c.loop-f.f c.loop-f-test.true

div-n : tie.Need-nonzero_div-n invariant-loop-f decreases-loop-f
div-n c = c.requires.0.columns-low

loop-holds : tie.Need-loop-f-init invariant-loop-f decreases-loop-f
loop-holds c = let e : runs (given c) - 0 ≡ runs (given c) = omega arith in (omega arith, rw e)

mul-if1 : tie.Need-overflow_mul-f invariant-loop-f decreases-loop-f
mul-if1 c = omega (arith, inside c)

add-if1 : tie.Need-overflow_add-f invariant-loop-f decreases-loop-f
add-if1 c = omega (arith, inside c, c.requires.1)

shared-slice-read-if1 : tie.Need-bounds-table-f invariant-loop-f decreases-loop-f
shared-slice-read-if1 c = omega (arith, inside c.before, c.requires.1)

returns : tie.Need-returns-then-table-f invariant-loop-f decreases-loop-f
returns c =
    let d = c in let l = d in let a = l.args in
    sym (l.loop-f.invariant.1 ∙ occurs-here (given l.before.before.before.before) a.column a.level l.loop-f.f d.loop-f-test.true c.if-table-f.true)

loop-again : tie.Need-loop-f-preserved invariant-loop-f decreases-loop-f
loop-again c =
    let d = c in let l = d in let a = l.args in (
      omega arith,
      l.loop-f.invariant.1 ∙ occurs-on (given l.before.before.before.before) a.column a.level l.loop-f.f d.loop-f-test.true c.if-table-f.false,
    )

returns-2 : tie.Need-returns invariant-loop-f decreases-loop-f
returns-2 c =
    let l = c in let a = l.args in
    sym (l.loop-f.invariant.1 ∙ occurs-end (given l.before.before) a.column a.level l.loop-f.f c.loop-f-test.false)

pub occurs_spec : {M : Type 1} → statement M
occurs_spec =
    tie.close
    (tie.spec
    invariant-loop-f
    decreases-loop-f
    div-n
    loop-holds
    mul-if1
    add-if1
    shared-slice-read-if1
    returns
    (λ c. omega arith)
    (λ c. omega arith)
    loop-again
    returns-2)
