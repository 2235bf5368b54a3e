-- Before place k the ratios are those of the sets that end with an earlier column.
use Rattle.exact.proofs.Ground.{List, [], ◌∷◌, ◌++◌, ◌≡◌, ◌∙◌, sym, ap, ap₂, subst, ℕ, ◌≤◌, ◌<◌, ◌-◌, ◌+◌, ◌*◌, le_trans, add-one, arith, length}
use Rattle.exact.proofs.Ground.{get_or, take, drop, set, length-set, length-map, length-drop, take_all}
use lib.Seq.{take-suc-set, take-set-le}
use Rattle.exact.specs.Lists.{holds}
use Rattle.exact.specs.Fractions.{ShortDenominator}
use Rattle.exact.proofs.Numbers.{row_within}
use Rattle.exact.proofs.Members.{get_or-mem}
use Rattle.rules.specs.Plan.{Plan, plan, level, entry}
use Rattle.counts.specs.Numbered.{number_of}
use Rattle.parts.specs.Parts.{longer, turned}
use Rattle.parts.proofs.OverParts.{from_place}
use Rattle.parts.proofs.TurnedEntries.{turned-length}
use Rattle.set_words.specs.SetWords.{relative_of}
use Rattle.set_ratios.specs.Given.{numbers_in}
use Rattle.ratios.specs.Given.{with_ratio, further, ShortRatios, Walking}
use Rattle.ratios.proofs.Prefixes.{longer-from}
use Rattle.ratios.proofs.Walks.{ending, ended, ending-all, ending-next, ending-each, ending-short, with-short}
use Rattle.ratios.proofs.last_columns.Goals.{In-loop-k, After-ratio-ratio}
use Rattle.ratios.proofs.last_columns.Goals as goal

-- the set of a turn, and its last column
module _ (c : In-loop-k) where
  abbrev p : Plan
  p = plan c.args.levels.now c.args.table.now

  abbrev rs : List ℕ
  rs = c.args.runs.now

  abbrev P : List ℕ
  P = take c.args.depth c.args.set

  abbrev rest : List ℕ
  rest = c.args.rest.now

  abbrev i : ℕ
  i = get_or rest c.loop-k.k 0

  h : c.loop-k.k < length rest
  h = omega arith

  abbrev own : List ℕ
  own = ended p rs P rest c.loop-k.k h

  walking : Walking p rs P rest 1
  walking = c.requires.walking.0

  low : c.args.depth < length c.loop-k.with
  low = omega arith

  front : take (c.args.depth + 1) (set c.loop-k.with c.args.depth i) ≡ own
  front = rw (add-one c.args.depth) (take-suc-set c.loop-k.with c.args.depth i low) ∙ ap (λ J. J ++ i ∷ []) c.loop-k.invariant.taken

  inside : i < length c.args.levels.now
  inside = walking.inside i (get_or-mem rest c.loop-k.k 0 h)

  many : length c.args.numbers.now ≡ length rs
  many = ap length c.requires.numbers_value.0 ∙ length-map rs (λ f. number_of (level p) (entry p) f P)

  row : c.loop-k.k * length c.args.numbers.now + length c.args.numbers.now ≤ length c.args.digits.now
  row =
      rw many (le_trans (row_within c.loop-k.k (length rest) (length rs) h)
      (omega (arith, ap length c.requires.numbers_value.1, turned-length (entry p) rs rest)))

  -- the digits lent begin with those of the column
  lent : take (length c.args.digits.now - c.loop-k.k * length c.args.numbers.now) (drop (c.loop-k.k * length c.args.numbers.now) c.args.digits.now)
      ≡ drop (c.loop-k.k * length rs) (turned (entry p) rs rest)
  lent =
      from_place c.args.digits.now (c.loop-k.k * length c.args.numbers.now)
      ∙ ap₂ (λ j ds. drop (c.loop-k.k * j) ds) many c.requires.numbers_value.1

pub bounds-levels-i : goal.bounds-levels-i
bounds-levels-i c = inside (goal.at.bounds-levels-i c).In-loop-k

pub overflow_mul-k : goal.overflow_mul-k
overflow_mul-k c = omega (arith, row (goal.at.overflow_mul-k c).In-loop-k)

pub slice_bounds-ratio-count : goal.slice_bounds-ratio-count
slice_bounds-ratio-count c = omega (arith, row (goal.at.slice_bounds-ratio-count c).In-loop-k)

pub slice_bounds-ratio-start : goal.slice_bounds-ratio-start
slice_bounds-ratio-start c = omega (arith, row (goal.at.slice_bounds-ratio-start c).In-loop-k)

pub ratio-ratio-requires-clause-tabled : goal.ratio-ratio-requires-clause-tabled
ratio-ratio-requires-clause-tabled c =
    let d = (goal.at.ratio-ratio-requires-clause-tabled c).In-loop-k in
    let (K, O) = ending-each (p d) (rs d) (P d) (rest d) c.loop-k.k (h d) (walking d) in
    ((walking d).tabled, (rw (front d) K, rw (front d) O))

pub ratio-ratio-requires-clause-numbers_in_bounds : goal.ratio-ratio-requires-clause-numbers_in_bounds
ratio-ratio-requires-clause-numbers_in_bounds c =
    let d = (goal.at.ratio-ratio-requires-clause-numbers_in_bounds c).In-loop-k in
    let a = c.args in (
      omega (
        arith,
        ap length (from_place a.digits.now (c.loop-k.k * length a.numbers.now)),
        length-drop (c.loop-k.k * length a.numbers.now) a.digits.now,
        row d,
      ),
      ap₂ (longer (level (p d) (i d))) c.requires.numbers_value.0 (lent d)
          ∙ longer-from (p d) (rs d) (P d) (rest d) c.loop-k.k (h d)
          ∙ ap (numbers_in (p d) (rs d)) (sym (front d)),
    )

-- the ratio is that of the set
value : (c : After-ratio-ratio) (d : In-loop-k) → take (c.args.depth + 1) (set c.loop-k.with c.args.depth (get_or c.args.rest.now c.loop-k.k 0)) ≡ own d →
    let p = plan c.args.levels.now c.args.table.now in
    c.ratio-ratio.result ≡ relative_of (level p) (entry p) c.args.runs.now (own d)
value c d e =
    let p = plan c.args.levels.now c.args.table.now in c.ratio-ratio.ensures.value ∙ ap (relative_of (level p) (entry p) c.args.runs.now) e

pub with_ratio-ratios-requires : goal.with_ratio-ratios-requires
with_ratio-ratios-requires c =
    let g = goal.at.with_ratio-ratios-requires c in
    let d = g.In-loop-k in
    let small = ending-short (p d) (rs d) (P d) (rest d) c.loop-k.k (h d) (walking d) in
    (c.loop-k.invariant.short, subst ShortDenominator (sym (value g.After-ratio-ratio d (front d))) small)

pub loop-k-preserved : goal.loop-k-preserved
loop-k-preserved c =
    let g = goal.at.loop-k-preserved c in
    let d = g.In-loop-k in
    let a = c.args in
    let v = value g.After-ratio-ratio d (front d) in
    let r = relative_of (level (p d)) (entry (p d)) (rs d) (own d) in
    let b : c.holds.result ≡ holds a.column (own d) = c.holds.ensures ∙ ap (holds a.column) (front d) in
    let small = ending-short (p d) (rs d) (P d) (rest d) c.loop-k.k (h d) (walking d) in
    let s : ShortDenominator c.ratio-ratio.result = subst ShortDenominator (sym v) small in
    record {
      long = length-set c.loop-k.with a.depth (i d) ∙ c.loop-k.invariant.long;
      taken = take-set-le a.depth c.loop-k.with a.depth (i d) (omega arith) ∙ c.loop-k.invariant.taken;
      so_far =
          c.with_ratio-ratios.ensures
          ∙ ap₂ (λ r b. with_ratio c.loop-k.ratios r b) v b
          ∙ ap (λ x. with_ratio x r (holds a.column (own d))) c.loop-k.invariant.so_far
          ∙ sym (ending-next (p d) (rs d) (P d) (rest d) c.loop-k.k (h d) a.column a.best);
      short =
          subst ShortRatios (sym c.with_ratio-ratios.ensures)
          (with-short c.loop-k.ratios c.ratio-ratio.result c.holds.result c.loop-k.invariant.short s);
      counters = c.ratio-ratio.ensures.counters ∙ c.loop-k.invariant.counters;
    }

pub returns-clause-ratios : goal.returns-clause-ratios
returns-clause-ratios c =
    let a = c.args in
    let q = plan a.levels.now a.table.now in
    let P = take a.depth a.set in
    c.loop-k.invariant.so_far
    ∙ ap (λ J. further q a.runs.now a.column a.best (ending q a.runs.now P J))
    (take_all c.loop-k.k a.rest.now (let e : length a.rest.now ≤ c.loop-k.k = omega arith in e))
    ∙ ap (further q a.runs.now a.column a.best) (ending-all q a.runs.now P a.rest.now)
