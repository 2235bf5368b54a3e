-- The words are those of every run, so that none is negative; the lines stand one behind the other.
use Rattle.exact.proofs.Ground.{arith, length}
use Rattle.exact.proofs.Numbers.{mul-below}
use Rattle.rules.specs.Plan.{most_runs}
use Rattle.text.proofs.Puts.{put_as, put_both, put-kept}
use Rattle.listing_lines.proofs.Every.{every-many, every-sound}
use Rattle.listing_lines.proofs.Measures.{words-shown, counts_whole}
use Rattle.listing_lines.proofs.routines.write_counts.Goals as goal

pub strength-requires-clause-sound : goal.strength-requires-clause-sound
strength-requires-clause-sound c = every-sound c.requires.0.every

pub strength-requires-clause-in_bounds : goal.strength-requires-clause-in_bounds
strength-requires-clause-in_bounds c = omega (arith, every-many c.requires.0.every, c.requires.0.every.good.runs-low)

pub overflow_mul-n : goal.overflow_mul-n
overflow_mul-n c =
    let n = length c.args.runs.now in
    let few = (every-sound c.requires.0.every).few in
    omega (arith, mul-below n n most_runs most_runs few few)

pub write_words-worded-requires : goal.write_words-worded-requires
write_words-worded-requires c =
    let P = c.write_line-named.ensures in
    (words-shown c.requires.0, omega (arith, P.behind, P.short, put-kept P, c.requires.1, c.requires.0.every.good.columns-high))

pub returns : goal.returns
returns c =
    put_as (counts_whole c.requires.0 c.strength.result c.strength.ensures) (omega (arith, c.requires.0.every.good.columns-high))
    (put_both (put_both c.write_line-named.ensures c.write_words-worded.ensures) c.write_line.ensures)
