-- `words_figure` meets its contract: the words are their own size, and the denominator is above zero.
use Rattle.exact.proofs.Ground.{◌≡◌, ◌∙◌, ap, ◌≤◌, ◌-◌, ◌*◌, mul-pos, arith, nat_abs, length, w64, to_z, of_z, rules}
use Rattle.exact.specs.Fractions.{reduced}
use Rattle.exact.proofs.Bits.{of}
use Rattle.exact.proofs.Numbers.{mul-below}
use Rattle.rules.specs.Plan.{Plan, plan, level, entry}
use Rattle.tell.specs.Words.{mixed_words, words_figure}
use Rattle.tell.proofs.OfPlan.{all-below}
use Rattle.tell.proofs.Words.{mixed-nonneg}
use Rattle.tell.proofs.Mixed.{mixed-small}
use Rattle.tell.proofs.routines.words_figure.Statement.{statement}
use Rattle.tell.proofs.routines.words_figure.Tie as tie

module _ (s : tie.Start) where
  abbrev given : Plan
  given = plan s.args.levels.now s.args.table.now

  -- the level, and that it is one or more and at most 16
  low : 1 ≤ level given s.args.column
  low = s.requires.0.0.sound.level-low s.args.column s.requires.0.0.column

  high : level given s.args.column ≤ 16
  high = s.requires.0.0.sound.level-high s.args.column s.requires.0.0.column

-- the words, read back from their bits
module _ (c : tie.After-mixed_words) where
  abbrev start : tie.Start
  start = c.before.before.before.before.before

  words : to_z w64 (of_z w64 c.mixed_words.result)
      ≡ mixed_words (level (given start)) (entry (given start)) start.args.runs.now start.args.column start.args.others.now
  words = of c.mixed_words.result c.mixed_words.type_inv ∙ c.mixed_words.ensures

-- and as a number without a sign
module _ (c : tie.After-to_u64-mixed) where
  size : let s = start c.before in
      c.to_u64-mixed.result ≡ nat_abs (mixed_words (level (given s)) (entry (given s)) s.args.runs.now s.args.column s.args.others.now)
  size = ap nat_abs (c.to_u64-mixed.ensures ∙ words c.before)

returns : tie.Need-returns
unfolding words_figure
returns c =
    let u = c.before.before in
    let s = start u.before in
    let n = length s.args.runs.now in
    c.reduced.ensures ∙ ap (λ z. reduced ((level (given s) s.args.column - 1) * z) (n * n)) (size u)

to-u64-requires : tie.Need-to_u64-mixed-requires
to-u64-requires c κs =
    let s = start c in
    let a = s.args in
    rw (words c)
    (mixed-nonneg (level (given s)) (entry (given s)) a.runs.now a.column a.others.now
    (all-below (given s) a.runs.now a.column a.others.now s.requires.0.0))

cast-lower : tie.Need-overflow_cast-lower
cast-lower c = omega (arith, high (start c.before.before))

sub-lower : tie.Need-overflow_sub-lower
sub-lower c = low (start c.before.before)

mul-reduced : tie.Need-overflow_mul-lower
mul-reduced c =
    let u = c.before in
    let s = start u.before in
    let a = s.args in
    let few = mixed-small (given s) a.runs.now a.column a.others.now s.requires.0.0 s.requires.0.1 in
    omega (arith, mul-below (level (given s) a.column - 1) u.to_u64-mixed.result 15 1_966_080_000_000_000 (omega (arith, high s)) (omega (arith, size u)))

mul-reduced-2 : tie.Need-overflow_mul-n
mul-reduced-2 c =
    let s = start c.before.before in
    let n = length s.args.runs.now in
    omega (arith, mul-below n n 256 256 s.requires.0.0.sound.few s.requires.0.0.sound.few)

reduced-requires : tie.Need-reduced-requires
reduced-requires c κs = let s = start c.before.before in mul-pos s.requires.1 s.requires.1

pub words_figure_spec : {M : Type 1} → statement M
words_figure_spec =
    tie.close
    (tie.spec
    (λ c κs. search rules)
    to-u64-requires
    (λ c. search rules)
    cast-lower
    sub-lower
    mul-reduced
    mul-reduced-2
    reduced-requires
    returns)
