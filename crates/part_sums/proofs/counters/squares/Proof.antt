-- `part_sums::counters::squares` meets its contract: the numbers are counted, and gathered at every place that can have a count.
use Rattle.exact.proofs.Ground.{List, [], ◌≡◌, ◌∙◌, ap, ℕ, ◌≤◌, ◌*◌, arith, pos, length, rules, refl}
use Rattle.exact.proofs.Bits.{of}
use Rattle.rules.specs.Plan.{most_runs}
use Rattle.parts.specs.Parts.{squares_of}
use Rattle.part_sums.specs.Counters.{Numbers, squared_sum, counters_of}
use Rattle.part_sums.proofs.Counting.{within, squares-are, squares-few, at-numbers, in_a_row, row-numbers, row-long, counters-long}
use Rattle.part_sums.proofs.counters.squares.Statement.{statement}
use Rattle.part_sums.proofs.counters.squares.Tie as tie

tally-requires : tie.Need-tally-requires
tally-requires c κs =
    let s = c in
    let size = length s.args.counters.now in
    (within s.args.most size s.args.numbers.now (counters_of size s.args.numbers.now) s.requires.0.0 s.requires.0.1 s.requires.0.2 refl, s.requires.1.1)

-- the counters after the numbers are counted
module _ (t : tie.After-tally) where
  abbrev start : tie.Start
  start = t.before.before.before.before.before

  abbrev xs : List ℕ
  xs = start.args.numbers.now

  abbrev size : ℕ
  size = length start.args.counters.now

  abbrev counters : List ℕ
  counters = t.tally.new.counters

  long : length counters ≡ size
  long = ap length t.tally.ensures ∙ counters-long size xs

  counted : Numbers (length counters) xs
  counted = rw long (within start.args.most size xs counters start.requires.0.0 start.requires.0.1 start.requires.0.2 t.tally.ensures)

  few : squared_sum counters ≤ most_runs * most_runs
  few = squares-few start.args.most size xs counters start.requires.0.0 start.requires.0.1 start.requires.0.2 t.tally.ensures

  found : pos (squared_sum counters) ≡ squares_of xs
  found = squares-are start.args.most size xs counters start.requires.0.0 start.requires.0.1 start.requires.0.2 t.tally.ensures

slice-aggregate-gather : tie.Need-slice_bounds-gather-end
slice-aggregate-gather c =
    let t = c.before.before.before in
    let s = start t in
    row-long s.args.all.now s.requires.1.0 s.args.most (omega (arith, c.if-most-numbers.true, s.requires.0.0.few))

gather-requires : tie.Need-gather-requires
gather-requires c κs =
    let t = c.before.before.before.before in
    let s = start t in
    let most : s.args.most ≤ most_runs = omega (arith, c.if-most-numbers.true, s.requires.0.0.few) in
    let zs = s.args.all.now in (
      (row-numbers zs s.requires.1.0 s.args.most most (length (counters t)) (omega (arith, long t, s.requires.0.1)), few t),
      in_a_row s.args.most (size t) (xs t) (counters t) s.requires.0.0 s.requires.0.1 s.requires.0.2 t.tally.ensures zs s.requires.1.0 most,
    )

of-u64-requires : tie.Need-of_u64-requires
of-u64-requires c κs = let t = c.before.before.before.before.before.before.before in omega (arith, c.gather.ensures.0, few t)

returns : tie.Need-returns-then-most-numbers
returns c =
    let t = c.before.before.before.before.before.before.before.before in
    let g = c.gather in (
      of c.of_u64.result c.of_u64.type_inv ∙ c.of_u64.ensures ∙ ap pos g.ensures.0 ∙ found t,
      g.ensures.1 ∙ ap (λ n. counters_of n []) (long t),
    )

gather-requires-2 : tie.Need-gather-requires-2
gather-requires-2 c κs =
    let t = c.before.before.before.before in
    let s = start t in
    ((counted t, few t), at-numbers s.args.most (size t) (xs t) (counters t) s.requires.0.0 s.requires.0.1 s.requires.0.2 t.tally.ensures)

of-u64-requires-2 : tie.Need-of_u64-requires-2
of-u64-requires-2 c κs = let t = c.before.before.before.before.before.before.before in omega (arith, c.gather-2.ensures.0, few t)

returns-2 : tie.Need-returns
returns-2 c =
    let t = c.before.before.before.before.before.before.before.before in
    let g = c.gather-2 in (
      of c.of_u64-2.result c.of_u64-2.type_inv ∙ c.of_u64-2.ensures ∙ ap pos g.ensures.0 ∙ found t,
      g.ensures.1 ∙ ap (λ n. counters_of n []) (long t),
    )

pub squares_spec : {M : Type 1} → statement M
squares_spec =
    tie.close
    (tie.spec
    tally-requires
    slice-aggregate-gather
    gather-requires
    of-u64-requires
    (λ c. search rules)
    returns
    gather-requires-2
    of-u64-requires-2
    (λ c. search rules)
    returns-2)
