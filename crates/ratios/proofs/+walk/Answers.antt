-- `walk` meets its contract: the sets with the first of the columns left come first, then those without it.
use Rattle.exact.proofs.Ground.{List, [], ◌∷◌, map, ◌++◌, ◌≡◌, ◌∙◌, sym, ap, ap₂, refl, subst, ℕ, ◌≤◌, ◌<◌, ◌-◌, ◌+◌, ◌*◌, add-one, arith, length, get_or}
use Rattle.exact.proofs.Ground.{take, drop, set, length-map, length-set, length-drop}
use lib.Seq.{take-suc-set}
use Rattle.exact.specs.Lists.{filled_to}
use Rattle.exact.proofs.Lists.{get_d_map}
use Rattle.exact.proofs.Members.{get_or-mem}
use Rattle.rules.specs.Plan.{Plan, plan, level, entry, columns}
use Rattle.sets.specs.Sets.{choose}
use Rattle.counts.specs.Numbered.{number_of, most_numbers}
use Rattle.parts.specs.Parts.{longer, turned}
use Rattle.parts.proofs.OverParts.{from_place, longer-front}
use Rattle.set_ratios.specs.Given.{Empty, numbers_in}
use Rattle.set_ratios.proofs.Tallied.{longer-at}
use Rattle.ratios.specs.declared.Ratios.{Ratios}
use Rattle.ratios.specs.Given.{further, ShortRatios, Walking}
use Rattle.ratios.proofs.Prefixes.{turned-from, longer-from}
use Rattle.ratios.proofs.Walks.{further-none, further-short, step-with, step-without, step_small, step-further, walking-as, further-as}
use Rattle.ratios.proofs.+walk.Goals as goal

-- what stands where more than one column is left to take, and enough are left
record Step (p : Plan) (rs rest ds ns : List ℕ) (left : ℕ) (chosen : List ℕ) (depth : ℕ) : Type 0 where
  walking : Walking p rs (take depth chosen) rest left
  few : depth + left ≤ 24
  wide : length chosen ≡ 24
  numbers : ns ≡ numbers_in p rs (take depth chosen)
  digits : ds ≡ turned (entry p) rs rest
  several : 2 ≤ left
  enough : left ≤ length rest

begun : {p : Plan} {rs rest ds ns : List ℕ} {left : ℕ} (chosen : List ℕ) (depth : ℕ) →
    Walking p rs (take depth chosen) rest left × ((1 ≤ left) × ((depth + left ≤ 24) × (length chosen ≡ 24))) →
    (ns ≡ numbers_in p rs (take depth chosen)) × (ds ≡ turned (entry p) rs rest) →
    (left ≡ 1 → ⊥) → left ≤ length rest → Step p rs rest ds ns left chosen depth
begun chosen depth w n several enough = record {
  walking = w.0;
  few = w.1.1.0;
  wide = w.1.1.1;
  numbers = n.0;
  digits = n.1;
  several = omega (arith, w.1.0, several);
  enough = enough;
}

module _ {p : Plan} {rs rest ds ns : List ℕ} {left : ℕ} {chosen : List ℕ} {depth : ℕ} (G : Step p rs rest ds ns left chosen depth) where
  abbrev taken : List ℕ
  taken = take depth chosen

  abbrev i : ℕ
  i = get_or rest 0 0

  abbrev others : List ℕ
  others = take (length rest - 1) (drop 1 rest)

  some : 0 < left
  some = omega (arith, G.several)

  there : 0 < length rest
  there = omega (arith, G.several, G.enough)

  inside : i < columns p
  inside = G.walking.inside i (get_or-mem rest 0 0 there)

  many : length ns ≡ length rs
  many = ap length G.numbers ∙ length-map rs (λ f. number_of (level p) (entry p) f taken)

  -- the numbers with the digits of the first column
  longer-there : longer (level p i) ns ds ≡ numbers_in p rs (taken ++ i ∷ [])
  longer-there =
      let z : 0 ≡ 0 * length rs = omega arith in
      ap₂ (longer (level p i)) G.numbers (G.digits ∙ ap (λ j. drop j (turned (entry p) rs rest)) z) ∙ longer-from p rs taken rest 0 there

  small : (k : ℕ) → k < length ns → get_or ns k 0 * level p i + get_or ds k 0 < most_numbers
  small k h =
      let l : k < length rs = omega (arith, many) in
      rw (
      sym (longer-at (level p i) ns ds k h)
      ∙ ap (λ xs. get_or xs k 0) longer-there
      ∙ get_d_map (λ f. number_of (level p) (entry p) f (taken ++ i ∷ [])) rs k 0 0 l
      ) (step_small p rs taken rest left some G.enough G.walking k l)

  -- the columns taken, with the first of those left
  with-set : take (depth + 1) (set chosen depth i) ≡ taken ++ i ∷ []
  with-set = rw (add-one depth) (take-suc-set chosen depth i (omega (arith, G.few, G.wide, G.several)))

  others-are : others ≡ drop 1 rest
  others-are = from_place rest 1

  -- and the digits of the others
  behind : take (length ds - length ns) (drop (length ns) ds) ≡ turned (entry p) rs others
  behind =
      let o : length rs ≡ 1 * length rs = omega arith in
      from_place ds (length ns)
      ∙ ap₂ (λ j xs. drop j xs) (many ∙ o) G.digits
      ∙ turned-from (entry p) rs rest 1 there
      ∙ ap (turned (entry p) rs) (sym others-are)

  -- a call of itself has fewer columns left
  fewer : length others < length rest
  fewer = rw others-are (omega (arith, length-drop 1 rest, there))

  -- the numbers lent have the digit
  lent : (room : List ℕ) → room ≡ filled_to 256 0 (longer (level p i) ns ds) →
      take (length ns) room ≡ numbers_in p rs (take (depth + 1) (set chosen depth i))
  lent room e = longer-front (level p i) ns ds room e ∙ longer-there ∙ ap (numbers_in p rs) (sym with-set)

  with-walking : Walking p rs (taken ++ i ∷ []) (drop 1 rest) (left - 1)
  with-walking = step-with p rs taken rest left some G.enough G.walking

  -- the ratios of the sets that have the column
  passed : (column : ℕ) (best : Ratios) {found : Ratios} →
      found ≡ further p rs column best (map (λ I. take (depth + 1) (set chosen depth i) ++ I) (choose (left - 1) others)) →
      found ≡ further p rs column best (map (λ I. (taken ++ i ∷ []) ++ I) (choose (left - 1) (drop 1 rest)))
  passed column best e = e ∙ further-as p rs column best (left - 1) with-set others-are

pub returns-then-rest-left-clause-ratios : goal.returns-then-rest-left-clause-ratios
returns-then-rest-left-clause-ratios t c =
    let a = c.args in
    sym (further-none (plan a.levels.now a.table.now) a.runs.now a.column (take a.depth a.set) a.best a.rest.now a.left c.if-rest-left.true)

pub bounds-levels-i : goal.bounds-levels-i
bounds-levels-i t c =
    let a = c.args in
    inside (begun a.set a.depth c.requires.walking c.requires.numbers_value c.if-left-eq1.false c.if-rest-left.false)

pub longer-longer-requires-clause-by_index : goal.longer-longer-requires-clause-by_index
longer-longer-requires-clause-by_index t c =
    let a = c.args in
    small (begun a.set a.depth c.requires.walking c.requires.numbers_value c.if-left-eq1.false c.if-rest-left.false)

pub walk-passed-requires : goal.walk-passed-requires
walk-passed-requires t c =
    let a = c.args in
    let p = plan a.levels.now a.table.now in
    let G = begun a.set a.depth c.requires.walking c.requires.numbers_value c.if-left-eq1.false c.if-rest-left.false in (
      omega (arith, fewer G, c.decreases),
      (
        (
          walking-as p a.runs.now (a.left - 1) (with-set G) (others-are G) (with-walking G),
          (omega (arith, G.several), (omega (arith, G.few, G.several), simp length-set G.wide)),
        ),
        ((lent G c.longer-longer.result c.longer-longer.ensures, behind G), c.requires.short_ratios),
      ),
    )

pub walk-requires : goal.walk-requires
walk-requires t c =
    let a = c.args in
    let p = plan a.levels.now a.table.now in
    let P = take a.depth a.set in
    let G = begun a.set a.depth c.requires.walking c.requires.numbers_value c.if-left-eq1.false c.if-rest-left.false in (
      omega (arith, fewer G, c.decreases),
      (
        (
          walking-as p a.runs.now a.left refl (others-are G) (step-without p a.runs.now P a.rest.now a.left (some G) G.enough G.walking),
          c.requires.walking.1,
        ),
        (
          (G.numbers, behind G),
          (
            subst ShortRatios (sym (passed G a.column a.best c.walk-passed.ensures.ratios))
                (further-short p a.runs.now (P ++ get_or a.rest.now 0 0 ∷ []) (drop 1 a.rest.now) (a.left - 1) a.column a.best (with-walking G)
                c.requires.short_ratios.0),
            subst (Empty a.runs.now) (sym c.walk-passed.ensures.counters) c.requires.short_ratios.1,
          ),
        ),
      ),
    )

pub returns-clause-ratios : goal.returns-clause-ratios
returns-clause-ratios t c =
    let a = c.args in
    let p = plan a.levels.now a.table.now in
    let P = take a.depth a.set in
    let G = begun a.set a.depth c.requires.walking c.requires.numbers_value c.if-left-eq1.false c.if-rest-left.false in
    c.walk.ensures.ratios
    ∙ further-as p a.runs.now a.column c.walk-passed.result {P = P} {P' = P} a.left refl (others-are G)
    ∙ ap (λ x. further p a.runs.now a.column x (map (λ I. P ++ I) (choose a.left (drop 1 a.rest.now)))) (passed G a.column a.best c.walk-passed.ensures.ratios)
    ∙ step-further p a.runs.now P a.column a.best a.rest.now a.left (some G) G.enough
