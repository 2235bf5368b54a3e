-- `parts::over_parts` meets its contract: no column is left, or the first is taken in one half and left out in the other.
use Rattle.exact.proofs.Ground.{List, map, ◌≡◌, ◌∙◌, ap, refl, ap₂, ℕ, ◌<◌, ◌-◌, ◌^◌, arith, pos, ℤ, ◌*ℤ◌, ◌+ℤ◌, ◌-ℤ◌, neg_ℤ, +ℤ_idl, length}
use Rattle.exact.proofs.Ground.{get_or, take, drop, length-drop, w64, to_z, of_z}
use lib.Signed.{mag}
use mir.Val.{SFits}
use Rattle.exact.proofs.Bits.{of, back}
use Rattle.parts.specs.Parts.{squares_of, longer, over_parts, Weighed}
use Rattle.parts.proofs.OverParts.{from_place, longer-front, weighed-as, over-as, leaf-small, over_none}
use Rattle.parts.proofs.OverParts.{longer-small, weight-small, with_first, without-first, over-step, over-small}
use Rattle.parts.proofs.+over_parts.Goals as goal

-- a weight times the squared counts, read back from their bits
leaf : (w : ℤ) (xs : List ℕ) {found : ℤ} → SFits w64 w → mag found < 2 ^ 63 → found ≡ squares_of xs →
    to_z w64 (of_z w64 w) *ℤ to_z w64 (of_z w64 found) ≡ w *ℤ squares_of xs
leaf w xs f m e = ap₂ (λ x y. x *ℤ y) (back f) (of _ m ∙ e)

-- the weight of the parts that take a column of s levels
heavy : (s : ℕ) (w : ℤ) {level turned : ℤ} → SFits w64 w → mag level < 2 ^ 63 → level ≡ pos s → mag turned < 2 ^ 63 →
    turned ≡ pos 0 -ℤ to_z w64 (of_z w64 level) → to_z w64 (of_z w64 turned) *ℤ to_z w64 (of_z w64 w) ≡ neg_ℤ (pos s) *ℤ w
heavy s w f m e n g = ap₂ (λ x y. x *ℤ y) (of _ n ∙ g ∙ ap (λ z. pos 0 -ℤ z) (of _ m ∙ e) ∙ +ℤ_idl (neg_ℤ (pos s))) (back f)

module _ (levels columns digits numbers : List ℕ) (w : ℤ) (W : Weighed levels columns digits numbers w) (h : 0 < length columns) where
  abbrev s : ℕ
  s = get_or levels (get_or columns 0 0) 0

  abbrev others : List ℕ
  others = take (length columns - 1) (drop 1 columns)

  abbrev behind : List ℕ
  behind = take (length digits - length numbers) (drop (length numbers) digits)

  -- a call of itself has fewer columns
  fewer : length others < length columns
  fewer = rw (from_place columns 1) (omega (arith, length-drop 1 columns, h))

  with-weighed : {taken : List ℕ} {weight : ℤ} → taken ≡ longer s numbers digits → weight ≡ neg_ℤ (pos s) *ℤ w → Weighed levels others behind taken weight
  with-weighed a b =
      weighed-as levels (from_place columns 1) (from_place digits (length numbers)) a b (with_first levels columns digits numbers w W h)

  without-weighed : {weight : ℤ} → weight ≡ w → Weighed levels others behind numbers weight
  without-weighed b =
      weighed-as levels (from_place columns 1) (from_place digits (length numbers)) refl b (without-first levels columns digits numbers w W h)

  -- the two halves together
  halves : {taken : List ℕ} {heavier weight with without : ℤ} →
      taken ≡ longer s numbers digits → heavier ≡ neg_ℤ (pos s) *ℤ w → weight ≡ w →
      mag with < 2 ^ 63 → with ≡ over_parts heavier taken (map (λ i. get_or levels i 0) others) behind →
      mag without < 2 ^ 63 → without ≡ over_parts weight numbers (map (λ i. get_or levels i 0) others) behind →
      to_z w64 (of_z w64 with) +ℤ to_z w64 (of_z w64 without) ≡ over_parts w numbers (map (λ i. get_or levels i 0) columns) digits
  halves a b d m e n g =
      ap₂ (λ x y. x +ℤ y)
      (of _ m ∙ e ∙ over-as levels (from_place columns 1) (from_place digits (length numbers)) a b)
      (of _ n ∙ g ∙ over-as levels (from_place columns 1) (from_place digits (length numbers)) refl d)
      ∙ over-step levels columns digits numbers w W h

pub mul-requires : goal.mul-requires
mul-requires t c =
    let a = c.args in
    rw (leaf a.weight a.numbers.now c.ranges.weight c.squares.type_inv c.squares.ensures.squares)
    (omega (arith, leaf-small a.levels.now a.columns.now a.digits.now a.numbers.now a.weight c.requires.0))

pub returns-then-columns-eq0-clause-sum : goal.returns-then-columns-eq0-clause-sum
returns-then-columns-eq0-clause-sum t c =
    let a = c.args in
    of c.mul.result c.mul.type_inv ∙ c.mul.ensures
    ∙ leaf a.weight a.numbers.now c.ranges.weight c.squares.type_inv c.squares.ensures.squares
    ∙ over_none a.levels.now a.columns.now a.digits.now a.numbers.now a.weight c.requires.0 c.if-columns-eq0.true

pub longer-taken-requires-clause-by_index : goal.longer-taken-requires-clause-by_index
longer-taken-requires-clause-by_index t c =
    let a = c.args in
    longer-small a.levels.now a.columns.now a.digits.now a.numbers.now a.weight c.requires.0 (omega arith)

pub mul-heavier-requires : goal.mul-heavier-requires
mul-heavier-requires t c =
    let a = c.args in
    rw (heavy (get_or a.levels.now (get_or a.columns.now 0 0) 0) a.weight c.ranges.weight c.of_byte.type_inv c.of_byte.ensures c.sub.type_inv c.sub.ensures)
    (omega (arith, weight-small a.levels.now a.columns.now a.digits.now a.numbers.now a.weight c.requires.0 (omega arith)))

pub over_parts-with-requires : goal.over_parts-with-requires
over_parts-with-requires t c =
    let a = c.args in
    let l = get_or a.levels.now (get_or a.columns.now 0 0) 0 in
    let h : 0 < length a.columns.now = omega arith in (
      omega (arith, fewer a.levels.now a.columns.now a.digits.now a.numbers.now a.weight c.requires.0 h, c.decreases),
      (
        with-weighed a.levels.now a.columns.now a.digits.now a.numbers.now a.weight c.requires.0 h
            (longer-front l a.numbers.now a.digits.now c.longer-taken.result c.longer-taken.ensures)
            (of c.mul-heavier.result c.mul-heavier.type_inv ∙ c.mul-heavier.ensures
            ∙ heavy l a.weight c.ranges.weight c.of_byte.type_inv c.of_byte.ensures c.sub.type_inv c.sub.ensures),
        c.requires.1,
      ),
    )

pub over_parts-without-requires : goal.over_parts-without-requires
over_parts-without-requires t c =
    let a = c.args in
    let h : 0 < length a.columns.now = omega arith in (
      omega (arith, fewer a.levels.now a.columns.now a.digits.now a.numbers.now a.weight c.requires.0 h, c.decreases),
      (
        without-weighed a.levels.now a.columns.now a.digits.now a.numbers.now a.weight c.requires.0 h (back c.ranges.weight),
        c.over_parts-with.ensures.counters,
      ),
    )

pub add-requires : goal.add-requires
add-requires t c =
    let a = c.args in
    let l = get_or a.levels.now (get_or a.columns.now 0 0) 0 in
    rw (halves a.levels.now a.columns.now a.digits.now a.numbers.now a.weight c.requires.0 (omega arith)
    (longer-front l a.numbers.now a.digits.now c.longer-taken.result c.longer-taken.ensures)
    (of c.mul-heavier.result c.mul-heavier.type_inv ∙ c.mul-heavier.ensures
    ∙ heavy l a.weight c.ranges.weight c.of_byte.type_inv c.of_byte.ensures c.sub.type_inv c.sub.ensures)
    (back c.ranges.weight) c.over_parts-with.type_inv c.over_parts-with.ensures.sum c.over_parts-without.type_inv c.over_parts-without.ensures.sum)
    (omega (arith, over-small a.levels.now a.columns.now a.digits.now a.numbers.now a.weight c.requires.0))

pub returns-clause-sum : goal.returns-clause-sum
returns-clause-sum t c =
    let a = c.args in
    let l = get_or a.levels.now (get_or a.columns.now 0 0) 0 in
    of c.add.result c.add.type_inv ∙ c.add.ensures
    ∙ halves a.levels.now a.columns.now a.digits.now a.numbers.now a.weight c.requires.0 (omega arith)
    (longer-front l a.numbers.now a.digits.now c.longer-taken.result c.longer-taken.ensures)
    (of c.mul-heavier.result c.mul-heavier.type_inv ∙ c.mul-heavier.ensures
    ∙ heavy l a.weight c.ranges.weight c.of_byte.type_inv c.of_byte.ensures c.sub.type_inv c.sub.ensures)
    (back c.ranges.weight) c.over_parts-with.type_inv c.over_parts-with.ensures.sum c.over_parts-without.type_inv c.over_parts-without.ensures.sum
