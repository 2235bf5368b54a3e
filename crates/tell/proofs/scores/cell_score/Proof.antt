-- `cell_score` meets its contract: the score of the entries where the runs are in one cell.
use Rattle.exact.proofs.Ground.{List, [], ◌∷◌, ◌∙◌, sym, ℕ, arith, rules}
use Rattle.exact.proofs.Bits.{of}
use Rattle.rules.specs.Plan.{Plan, plan}
use Rattle.tell.proofs.Turns.{asked-run}
use Rattle.tell.proofs.Mixed.{score-apart, score-met}
use Rattle.tell.proofs.scores.cell_score.Statement.{statement}
use Rattle.tell.proofs.scores.cell_score.Tie as tie

module _ (s : tie.Start) where
  abbrev given : Plan
  given = plan s.args.levels.now s.args.table.now

  abbrev both : List ℕ
  both = s.args.f ∷ s.args.g ∷ []

returns : tie.Need-returns-then-not-agree
returns c =
    let s = c.before.before.before.before.before in
    let a = s.args in
    score-apart (given s) a.column a.others.now a.f a.g (sym c.agree.ensures ∙ c.if-not-agree.true)

returns-2 : tie.Need-returns
returns-2 c =
    let e = c in
    let d = e in
    let s = d.before.before.before.before.before.before.before.before.before in
    let a = s.args in
    of c.score.result c.score.type_inv ∙ c.score.ensures
    ∙ score-met (given s) a.column a.others.now a.f a.g d.level_of-x.result e.level_of-y.result
    d.level_of-x.ensures.0 e.level_of-y.ensures.0 (sym d.agree.ensures ∙ d.if-not-agree.false)

level-of-requires : tie.Need-level_of-x-requires
level-of-requires c κs =
    let s = c.before.before.before.before.before in
    asked-run (given s) (both s) s.args.column s.args.others.now s.requires 0 (omega arith)

level-of-requires-2 : tie.Need-level_of-y-requires
level-of-requires-2 c κs =
    let s = c.before.before.before.before.before.before in
    asked-run (given s) (both s) s.args.column s.args.others.now s.requires 1 (omega arith)

pub cell_score_spec : {M : Type 1} → statement M
cell_score_spec =
    tie.close
    (tie.spec
    (λ c κs. search rules)
    returns
    level-of-requires
    level-of-requires-2
    (λ c. search rules)
    (λ c κs. search rules)
    returns-2)
