-- `part_sums::over_stored` meets its contract: the first column is taken in one half and left out in the other.
use Rattle.exact.proofs.Ground.{false, List, ◌≡◌, ◌∙◌, ap₂, ℕ, Bool, ◌<◌, ◌-◌, ◌+◌, ◌*◌, ◌^◌, arith, ℤ, ◌-ℤ◌, length, get_or, take, drop}
use Rattle.exact.proofs.Ground.{length-drop, w64, to_z, of_z}
use lib.Signed.{mag}
use Rattle.exact.proofs.Bits.{of, back}
use Rattle.parts.proofs.OverParts.{from_place}
use Rattle.part_sums.specs.Stored.{over_stored, places}
use Rattle.part_sums.specs.Given.{Readable}
use Rattle.part_sums.proofs.Stored.{readable-with, readable-without, place-small, stored-small, over-step, readable-as, over-as}
use Rattle.part_sums.proofs.+over_stored.Goals as goal

module _ {base : ℕ} {room : List ℤ} {top : ℤ} {whole : Bool} {at : ℕ} {columns : List ℕ}
    (R : Readable base room top whole at columns) (some : 0 < length columns) where
  abbrev others : List ℕ
  others = take (length columns - 1) (drop 1 columns)

  abbrev place : ℕ
  place = at * base + get_or columns 0 0 + 1

  others-are : others ≡ drop 1 columns
  others-are = from_place columns 1

  -- a call of itself has fewer columns
  fewer : length others < length columns
  fewer = rw others-are (omega (arith, length-drop 1 columns, some))

  with_first : {given : ℤ} → given ≡ top → Readable base room given whole place others
  with_first e = readable-as base room whole place e others-are (readable-with base room top at whole columns some R)

  without-first : {given : ℤ} → given ≡ top → Readable base room given false at others
  without-first e = readable-as base room false at e others-are (readable-without base room top at whole columns some R)

  next : place < places 25 4
  next = place-small base room top place whole (drop 1 columns) (readable-with base room top at whole columns some R)

  -- the two halves together
  halves : {given with without : ℤ} → given ≡ top →
      mag with < 2 ^ 63 → with ≡ over_stored base room given whole place others →
      mag without < 2 ^ 63 → without ≡ over_stored base room given false at others →
      to_z w64 (of_z w64 with) -ℤ to_z w64 (of_z w64 without) ≡ over_stored base room top whole at columns
  halves d m e n g =
      ap₂ (λ x y. x -ℤ y)
      (of _ m ∙ e ∙ over-as base room whole place d others-are)
      (of _ n ∙ g ∙ over-as base room false at d others-are)
      ∙ over-step base room top whole at columns some

pub overflow_mul-at : goal.overflow_mul-at
overflow_mul-at t c = omega (arith, next c.requires (omega arith))

pub overflow_add-at : goal.overflow_add-at
overflow_add-at t c = omega (arith, next c.requires (omega arith))

pub overflow_add-at-2 : goal.overflow_add-at-2
overflow_add-at-2 t c = omega (arith, next c.requires (omega arith))

pub over_stored-with-requires : goal.over_stored-with-requires
over_stored-with-requires t c =
    let some : 0 < length c.args.columns.now = omega arith in
    (omega (arith, fewer c.requires some, c.decreases), with_first c.requires some (back c.ranges.top))

pub over_stored-without-requires : goal.over_stored-without-requires
over_stored-without-requires t c =
    let some : 0 < length c.args.columns.now = omega arith in
    (omega (arith, fewer c.requires some, c.decreases), without-first c.requires some (back c.ranges.top))

pub sub-requires : goal.sub-requires
sub-requires t c =
    let a = c.args in
    let some : 0 < length a.columns.now = omega arith in
    let w = c.over_stored-with in
    let v = c.over_stored-without in
    rw (halves c.requires some (back c.ranges.top) w.type_inv w.ensures v.type_inv v.ensures)
    (omega (arith, stored-small a.base a.room.now a.top a.whole a.at a.columns.now c.requires))

pub returns : goal.returns
returns t c =
    let some : 0 < length c.args.columns.now = omega arith in
    let w = c.over_stored-with in
    let v = c.over_stored-without in
    of c.sub.result c.sub.type_inv ∙ c.sub.ensures ∙ halves c.requires some (back c.ranges.top) w.type_inv w.ensures v.type_inv v.ensures
