-- `ratios_in` meets its contract: the walk from no column taken.
use Rattle.exact.proofs.Ground.{le_trans, le_refl, List, ◌≡◌, ◌∙◌, sym, ap, refl, ℕ, ◌≤◌, ◌*◌, arith, length, take, replicate, length-take-le, rules}
use Rattle.exact.specs.Lists.{filled_to}
use Rattle.exact.specs.Fractions.{ShortDenominator, zero_fraction}
use Rattle.exact.proofs.Numbers.{mul-below}
use Rattle.exact.proofs.Rooms.{filled-length, filled-front}
use Rattle.rules.specs.Plan.{Plan, plan, entry, most_columns}
use Rattle.sets.specs.Sets.{choose}
use Rattle.parts.specs.Parts.{turned}
use Rattle.parts.proofs.TurnedEntries.{turned-length}
use Rattle.set_words.proofs.SetWords.{counted-columns}
use Rattle.ratios.proofs.Prefixes.{no-numbers}
use Rattle.ratios.proofs.Walks.{walking_start, further-all, none-taken}
use Rattle.ratios.proofs.ratios_in.Statement.{statement}
use Rattle.ratios.proofs.ratios_in.Tie as tie

few : (s : tie.Start) → length s.args.columns.now * length s.args.runs.now ≤ length s.args.digits.now
few s =
    le_trans (mul-below (length s.args.columns.now) (length s.args.runs.now) most_columns (length s.args.runs.now) s.requires.0.1.1 (le_refl _))
    s.requires.1.1.1.0.0

turn-columns-requires : tie.Need-turn_columns-requires
turn-columns-requires c κs =
    let s = c.before.before.before.before.before.before.before in
    let p = plan s.args.levels.now s.args.table.now in
    let S = s.requires.0.0.sound in
    (S, ((counted-columns p s.args.runs.now s.args.columns.now S s.requires.0.1.0, few s), s.requires.1.1.1.0.1))

-- the digits lent are the entries of the runs in the columns
module _ (c : tie.After-turn_columns) where
  abbrev s : tie.Start
  s = c.before.before.before.before.before.before.before.before

  abbrev p : Plan
  p = plan s.args.levels.now s.args.table.now

  abbrev entries : List ℕ
  entries = turned (entry p) s.args.runs.now s.args.columns.now

  long : length entries ≡ length s.args.columns.now * length s.args.runs.now
  long = turned-length (entry p) s.args.runs.now s.args.columns.now

  held : length s.args.columns.now * length s.args.runs.now ≤ length c.turn_columns.new.room
  held =
      omega (
        arith,
        ap length c.turn_columns.ensures,
        filled-length (length s.args.digits.now) 0 entries (omega (arith, long, few s)),
        few s,
      )

  lent : take (length s.args.columns.now * length s.args.runs.now) c.turn_columns.new.room ≡ entries
  lent =
      ap (take (length s.args.columns.now * length s.args.runs.now)) c.turn_columns.ensures
      ∙ ap (λ k. take k (filled_to (length s.args.digits.now) 0 entries)) (sym long)
      ∙ filled-front (length s.args.digits.now) 0 entries

slice-aggregate-walk : tie.Need-slice_bounds-walk-end-2
slice-aggregate-walk c =
    let d = c.before.before in
    sym (length-take-le (length (s d).args.columns.now * length (s d).args.runs.now) d.turn_columns.new.room (held d))

slice-aggregate-walk-2 : tie.Need-slice_bounds-walk-end-3
slice-aggregate-walk-2 c =
    let d = c.before.before.before in
    sym (length-take-le (length (s d).args.runs.now) (replicate 256 0) (s d).requires.0.0.sound.few)

walk-requires : tie.Need-walk-requires
walk-requires c κs =
    let d = c.before.before.before.before in
    let a = (s d).args in
    let pre = (s d).requires in
    let zero : ShortDenominator zero_fraction = record { above_zero = omega arith; short = omega arith } in (
      (
        walking_start (p d) a.runs.now a.columns.now pre.0.0 pre.0.1.0 a.size pre.1.0.0 pre.1.1.0,
        (pre.1.0.0, (omega (arith, pre.1.0.1), refl)),
      ),
      (
        (no-numbers (p d) a.runs.now 256 pre.0.0.sound.few, lent d),
        (record { largest = zero; held = zero }, pre.1.1.1.1),
      ),
    )

returns : tie.Need-returns
returns c =
    let d = c.before.before.before.before.before.before.before in
    let a = (s d).args in
    c.walk.ensures.0
    ∙ further-all (p d) a.runs.now a.column (record { largest = zero_fraction; held = zero_fraction }) (choose a.size a.columns.now)
    (none-taken (p d) a.runs.now a.column)

pub ratios_in_spec : {M : Type 1} → statement M
ratios_in_spec =
    tie.close
    (tie.spec
    (λ c. omega (arith, few c.before.before.before.before.before.before))
    turn-columns-requires
    (λ c. held c.before.before)
    slice-aggregate-walk
    (λ c. search rules)
    slice-aggregate-walk-2
    walk-requires
    (λ c. search rules)
    (λ c. search rules)
    returns)
