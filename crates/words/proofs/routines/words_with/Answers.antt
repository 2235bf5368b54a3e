-- `words::routines::words_with` meets its contract: both orders of each pair, and each run paired with itself.
use Rattle.exact.proofs.Ground.{[], ◌≡◌, ◌∙◌, sym, ap, ap₂, refl, ◌^◌, arith}
use Rattle.exact.proofs.Numbers.{length_from}
use Rattle.rules.specs.Plan.{Plan, plan, runs, every_run}
use Rattle.plan.proofs.Sound.{good-sound}
use Rattle.pairs.specs.Given.{once_list}
use Rattle.pairs.specs.Lists.{diagonal_list}
use Rattle.pairs.proofs.OfPlan.{sound-levels, diagonal-row}
use Rattle.pairs.proofs.Once.{once-row}
use Rattle.words.specs.Given.{both_orders}
use Rattle.words.proofs.Once.{word-once}
use Rattle.words.proofs.routines.words_with.Goals as goal

-- E_j, for each length: of the levels alone
alone : (p : Plan) → diagonal_list (plan p.levels []) ≡ diagonal_list p
unfolding diagonal_list
alone p = refl

pub diagonal-own-requires : goal.diagonal-own-requires
diagonal-own-requires g c = let p = plan c.args.levels.now c.args.table.now in sound-levels p (every_run p) (good-sound p c.requires.0)

pub both_orders-requires : goal.both_orders-requires
both_orders-requires g c =
    let p = plan c.args.levels.now c.args.table.now in let S = good-sound p c.requires.0 in (
      rw c.once-total.ensures (once-row p (every_run p) S 0),
      (rw (c.diagonal-own.ensures, alone p) (diagonal-row p (every_run p) S (2 ^ 32) (omega arith)), omega (arith, c.requires.0.runs-high)),
    )

pub returns : goal.returns
returns g c =
    let p = plan c.args.levels.now c.args.table.now in
    c.both_orders.ensures
    ∙ ap₂ (both_orders (runs p)) (c.diagonal-own.ensures ∙ alone p) c.once-total.ensures
    ∙ ap (λ n. both_orders n (diagonal_list p) (once_list p (every_run p))) (sym (length_from 0 (runs p)))
    ∙ word-once p (every_run p)
