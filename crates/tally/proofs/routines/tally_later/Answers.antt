-- A turn counts or adds the pair with one later run.
use Rattle.exact.proofs.Ground.{List, ◌≡◌, ◌∙◌, sym, ap, subst, ℕ, ◌≤◌, ◌<◌, ◌-◌, ◌+◌, ◌*◌, ◌^◌, arith, ℤ, length, get_or, take, drop, length-drop}
use Rattle.exact.proofs.Ground.{get_or-drop, take_all}
use Rattle.exact.proofs.Numbers.{length_from}
use Rattle.rules.specs.Plan.{Plan, plan, runs, every_run, highest_product}
use Rattle.plan.proofs.Sound.{run_at}
use Rattle.pairs.proofs.Totals.{totals, totals-none}
use Rattle.pairs.proofs.OfPlan.{of_pair, row-totals}
use Rattle.tally.specs.Tally.{Counted}
use Rattle.tally.proofs.Turns.{row-less, sound-one, counted_none, counted-more, counted-run}
use Rattle.tally.proofs.routines.tally_later.Goals as goal

-- the runs later than f
module _ (p : Plan) (f : ℕ) where
  abbrev later : List ℕ
  later = drop (f + 1) (every_run p)

  many : length later ≡ runs p - (f + 1)
  many = length-drop (f + 1) (every_run p) ∙ ap (λ n. n - (f + 1)) (length_from 0 (runs p))

  next : (g : ℕ) → f < g → g < runs p → get_or later (g - (f + 1)) 0 ≡ g
  next g l h =
      let e : f + 1 + (g - (f + 1)) ≡ g = omega arith in
      get_or-drop (f + 1) (every_run p) (g - (f + 1)) 0 ∙ ap (λ k. get_or (every_run p) k 0) e ∙ run_at p g h

pub loop-g-init : goal.loop-g-init
loop-g-init c =
    let p = plan c.args.levels.now c.args.table.now in let f = c.args.f in
    let total = c.args.total.now in let counts = c.args.counts.now in let samples = c.args.samples.now in
    let none : 0 ≡ f + 1 - (f + 1) = omega arith in
    subst (λ (k : ℕ). Counted p k (totals (of_pair p f) (take k (later p f))) total counts samples total counts samples) none
    (subst (λ (z : List ℤ). Counted p 0 z total counts samples total counts samples) (sym (totals-none (of_pair p f)))
    (counted_none p total counts samples c.requires.4))

pub tally-requires : goal.tally-requires
tally-requires c =
    let p = plan c.args.levels.now c.args.table.now in let f = c.args.f in let g = c.loop-g.g in let G = c.requires.0 in
    let C = c.loop-g.invariant in let F = C.few 65025 c.requires.5 in
    let most : g - (f + 1) ≤ 255 = omega (arith, G.runs-high) in (
      c.requires.1,
      sound-one p G f c.requires.2,
      sound-one p G g (omega arith),
      row-less (2 ^ 59 + (g - (f + 1)) * highest_product) (2 ^ 60) c.loop-g.total (omega arith) (C.row (2 ^ 59) c.requires.3),
      C.tally,
      record { most = λ k. omega (arith, F.most k) },
    )

pub loop-g-preserved : goal.loop-g-preserved
loop-g-preserved c =
    let p = plan c.args.levels.now c.args.table.now in let f = c.args.f in let g = c.loop-g.g in
    let h : g < runs p = omega arith in
    let l : f < g = omega arith in
    let more : g - (f + 1) + 1 ≡ g + 1 - (f + 1) = omega arith in
    counted-run p (later p f) f g (g - (f + 1)) (g + 1 - (f + 1)) (omega (arith, many p f)) (next p f g l h) more c.loop-g.invariant c.tally.ensures

pub returns : goal.returns
returns c =
    let p = plan c.args.levels.now c.args.table.now in let f = c.args.f in let g = c.loop-g.g in
    let most : g - (f + 1) ≤ 255 = omega (arith, c.requires.0.runs-high) in
    let total = c.args.total.now in let counts = c.args.counts.now in let samples = c.args.samples.now in
    subst (λ (z : List ℤ). Counted p 255 z total counts samples c.loop-g.total c.loop-g.counts c.loop-g.samples)
    (ap (totals (of_pair p f)) (take_all (g - (f + 1)) (later p f) (omega (arith, many p f))) ∙ row-totals p (later p f) f)
    (counted-more p total counts samples c.loop-g.total c.loop-g.counts c.loop-g.samples (g - (f + 1)) _ c.loop-g.invariant 255 most)
