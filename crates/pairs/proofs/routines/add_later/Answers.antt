-- A turn adds the sums of the pair with one later run.
use Rattle.exact.proofs.Ground.{List, [], ◌∷◌, ◌≡◌, ◌∙◌, sym, ap, ap₂, ℕ, ◌≤◌, ◌<◌, ◌-◌, ◌+◌, ◌^◌, arith, ℤ, nat_abs, length, get_or, take, drop}
use Rattle.exact.proofs.Ground.{length-drop, take_all, get_or-drop}
use Rattle.exact.proofs.Lists.{mem-drop}
use Rattle.exact.proofs.Numbers.{length_from}
use Rattle.rules.specs.Plan.{Plan, plan, runs, every_run, most_runs, highest_product}
use Rattle.plan.specs.Good.{Good, Sound}
use Rattle.plan.proofs.Sound.{run-mem, run_at, mem-run, good-sound}
use Rattle.pairs.specs.Given.{Row, added}
use Rattle.pairs.specs.Lists.{by_length}
use Rattle.pairs.proofs.Totals.{added_none, added-assoc, added-row, totals, totals-none, totals-next, totals-row}
use Rattle.pairs.proofs.OfPlan.{of_pair, row-totals, sound-run, pair_small, pair-added, pair-part}
use Rattle.pairs.proofs.routines.add_later.Goals as goal

-- the runs later than f, of which `passed` are added
module _ (p : Plan) (G : Good p) (f : ℕ) (F : f < runs p) where
  abbrev later : List ℕ
  later = drop (f + 1) (every_run p)

  sound : (g : ℕ) → g < runs p → Sound p (g ∷ [])
  sound g h = sound-run p (every_run p) (good-sound p G) g (run-mem p g h)

  many : length later ≡ runs p - (f + 1)
  many = length-drop (f + 1) (every_run p) ∙ ap (λ n. n - (f + 1)) (length_from 0 (runs p))

  small : (g : ℕ) → g < runs p → (j : ℕ) → nat_abs (of_pair p f j g) ≤ highest_product
  small g h = pair_small p f g (sound f F) (sound g h)

  so-far-row : (total : List ℤ) → Row (2 ^ 60) total → (passed : ℕ) → passed ≤ length later →
      Row (2 ^ 61) (added total (totals (of_pair p f) (take passed later)))
  so-far-row total R passed h =
      let few : length later ≤ most_runs = omega (arith, many, G.runs-high) in
      added-row total (totals (of_pair p f) (take passed later)) (2 ^ 60) (2 ^ 60) R
      (totals-row (of_pair p f) later passed highest_product (2 ^ 60) few (omega arith)
      (λ g m. small g (mem-run p g (mem-drop (f + 1) (every_run p) g m))))

  -- a turn, for run g
  turn : (total : List ℤ) (g : ℕ) → f < g → g < runs p →
      added (added total (totals (of_pair p f) (take (g - (f + 1)) later))) (by_length (λ j. of_pair p f j g))
      ≡ added total (totals (of_pair p f) (take (g + 1 - (f + 1)) later))
  turn total g l h =
      let k = g - (f + 1) in
      let e : f + 1 + k ≡ g = omega arith in
      let next : get_or later k 0 ≡ g = get_or-drop (f + 1) (every_run p) k 0 ∙ ap (λ n. get_or (every_run p) n 0) e ∙ run_at p g h in
      let more : k + 1 ≡ g + 1 - (f + 1) = omega arith in
      ap (λ g. added (added total (totals (of_pair p f) (take k later))) (by_length (λ j. of_pair p f j g))) (sym next)
      ∙ added-assoc total (totals (of_pair p f) (take k later)) (by_length (λ j. of_pair p f j (get_or later k 0)))
      ∙ ap (added total) (totals-next (of_pair p f) later k 0 (omega (arith, many)))
      ∙ ap (λ n. added total (totals (of_pair p f) (take n later))) more

pub loop-g-init : goal.loop-g-init
loop-g-init c =
    let total = c.args.total.now in let p = plan c.args.levels.now c.args.table.now in let f = c.args.f in
    let none : f + 1 - (f + 1) ≡ 0 = omega arith in
    sym (ap (λ k. added total (totals (of_pair p f) (take k (drop (f + 1) (every_run p))))) none
    ∙ ap (added total) (totals-none (of_pair p f)) ∙ added_none total c.requires.0.long)

pub pair-sums-requires : goal.pair-sums-requires
pair-sums-requires c =
    let p = plan c.args.levels.now c.args.table.now in let G = c.requires.1.0 in let F = c.requires.1.1 in
    (sound p G c.args.f F c.args.f F, sound p G c.args.f F c.loop-g.g (omega arith))

pub add_to-requires : goal.add_to-requires
add_to-requires c =
    let p = plan c.args.levels.now c.args.table.now in let G = c.requires.1.0 in let F = c.requires.1.1 in let f = c.args.f in let g = c.loop-g.g in
    let h : g < runs p = omega arith in (
      rw c.loop-g.invariant (so-far-row p G f F c.args.total.now c.requires.0 (g - (f + 1)) (omega (arith, many p G f F))),
      rw c.pair-sums.ensures (pair-part p f g 24 G.columns-high (sound p G f F f F) (sound p G f F g h)),
    )

pub loop-g-preserved : goal.loop-g-preserved
loop-g-preserved c =
    let p = plan c.args.levels.now c.args.table.now in let G = c.requires.1.0 in let F = c.requires.1.1 in let f = c.args.f in let g = c.loop-g.g in
    c.add_to.ensures
    ∙ ap₂ (λ row sums. added row (take 24 (drop 1 sums))) c.loop-g.invariant c.pair-sums.ensures
    ∙ pair-added p f g 24 G.columns-high (added c.args.total.now (totals (of_pair p f) (take (g - (f + 1)) (drop (f + 1) (every_run p)))))
    ∙ turn p G f F c.args.total.now g (omega arith) (omega arith)

pub returns : goal.returns
returns c =
    let p = plan c.args.levels.now c.args.table.now in let G = c.requires.1.0 in let F = c.requires.1.1 in let f = c.args.f in
    let later = drop (f + 1) (every_run p) in
    c.loop-g.invariant
    ∙ ap (λ qs. added c.args.total.now (totals (of_pair p f) qs)) (take_all (c.loop-g.g - (f + 1)) later (omega (arith, many p G f F)))
    ∙ ap (added c.args.total.now) (row-totals p later f)
