-- `first_alike` meets its contract: what is left to search, from the present run on, is what the whole search finds, at the latest at the run itself.
use Rattle.exact.proofs.Ground.{true, ◌≡◌, ◌∙◌, sym, ap, ◌≤◌, ◌-◌, arith}
use Rattle.exact.specs.Lists.{first}
use Rattle.exact.proofs.Searches.{first_found}
use Rattle.rules.specs.Plan.{Plan, plan, runs, every_run}
use Rattle.plan.proofs.Loops.{search-on}
use Rattle.survey.specs.Survey.{alike, first_alike}
use Rattle.survey.proofs.SurveyProperties.{alike_self, first-alike-search}
use Rattle.survey.proofs.routines.first_alike.Statement.{statement}
use Rattle.survey.proofs.routines.first_alike.Tie as tie

abbrev invariant-loop-g : tie.invariant-loop-g
invariant-loop-g levels table run g₀ g =
    (g ≤ run) × (let p = plan levels table in first_alike p (every_run p) run ≡ first (alike p run) g (runs p - g))

abbrev decreases-loop-g : tie.decreases-loop-g
decreases-loop-g levels table run g₀ g = run - g

abbrev given : tie.Start invariant-loop-g decreases-loop-g → Plan
given s = plan s.args.levels.now s.args.table.now

abbrev start : tie.At-loop-g invariant-loop-g decreases-loop-g → tie.Start invariant-loop-g decreases-loop-g
start l = l.before.before.before

loop-holds : tie.Need-loop-g-init invariant-loop-g decreases-loop-g
loop-holds c =
    let s = c.before.before in
    let e : runs (given s) - 0 ≡ runs (given s) = omega arith in
    (omega arith, rw e (first-alike-search (given s) s.args.run s.requires.1))

are-alike-requires : tie.Need-are_alike-requires invariant-loop-g decreases-loop-g
are-alike-requires c κs = let s = start c.before in (s.requires.0, (s.requires.1, omega (arith, s.requires.1)))

-- the search ends at a run that is alike
found : (l : tie.At-loop-g invariant-loop-g decreases-loop-g) → let p = given (start l) in
    alike p (start l).args.run l.loop-g.g ≡ true → l.loop-g.g ≡ first_alike p (every_run p) (start l).args.run
found l e =
    let p = given (start l) in
    sym (l.loop-g.invariant.1 ∙ first_found (alike p (start l).args.run) l.loop-g.g (runs p - l.loop-g.g) (omega (arith, (start l).requires.1)) e)

returns : tie.Need-returns-then-are_alike invariant-loop-g decreases-loop-g
returns c = found c.before.before.before (sym c.are_alike.ensures ∙ c.if-are_alike.true)

loop-again : tie.Need-loop-g-preserved invariant-loop-g decreases-loop-g
loop-again c =
    let l = c.before.before.before in let p = given (start l) in (
      omega arith,
      l.loop-g.invariant.1 ∙ search-on (alike p (start l).args.run) l.loop-g.g (runs p) (omega (arith, (start l).requires.1))
          (sym c.are_alike.ensures ∙ c.if-are_alike.false),
    )

returns-2 : tie.Need-returns invariant-loop-g decreases-loop-g
returns-2 c =
    let l = c.before in let p = given (start l) in let run = (start l).args.run in
    let e : l.loop-g.g ≡ run = omega arith in
    sym e ∙ found l (ap (alike p run) e ∙ alike_self p run)

pub first_alike_spec : {M : Type 1} → statement M
first_alike_spec =
    tie.close
    (tie.spec
    invariant-loop-g
    decreases-loop-g
    loop-holds
    are-alike-requires
    returns
    (λ c. omega arith)
    (λ c. omega arith)
    loop-again
    returns-2)
