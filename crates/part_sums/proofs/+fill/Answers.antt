-- `part_sums::fill` meets its contract: T of the columns taken with the first of those left, then the sets with it, and those without it.
use Rattle.exact.proofs.Ground.{List, [], ◌∷◌, ◌++◌, ◌≡◌, ◌∙◌, sym, ap, refl, ap₂, subst, ℕ, ◌≤◌, ◌<◌, ◌-◌, ◌+◌, ◌*◌, ◌^◌, arith, pos, ℤ, nat_abs, ◌*ℤ◌, length}
use Rattle.exact.proofs.Ground.{get_or, take, drop, set, length-drop, length-set, w64, to_z, of_z, le_trans}
use lib.Signed.{mag}
use Rattle.exact.specs.Lists.{filled_to}
use Rattle.exact.proofs.Bits.{of}
use Rattle.exact.proofs.Numbers.{mul-below}
use Rattle.rules.specs.Plan.{Plan, plan, level, columns}
use Rattle.counts.specs.Numbered.{most_numbers}
use Rattle.parts.specs.Parts.{squares_of, longer}
use Rattle.parts.proofs.OverParts.{from_place, longer-front}
use Rattle.part_sums.specs.Stored.{numbers_in, stored_at, filled_by, places}
use Rattle.part_sums.specs.Given.{highest_t, Counting, Filling}
use Rattle.part_sums.specs.Counters.{Numbers}
use Rattle.part_sums.proofs.Filling.{filled-nothing, filled-step, filled-as, first-inside, more-enough, longer-is, longer-small}
use Rattle.part_sums.proofs.Filling.{numbers-long, column-long, numbers-below, next-inside, filling-with, filling-without, value-is, value-small}
use Rattle.part_sums.proofs.Filling.{filling-as, counting-again, next_low, column-start}
use Rattle.part_sums.proofs.+fill.Goals as goal

module _ {p : Plan} {rs : List ℕ} {f base : ℕ} {ds all counters rest : List ℕ} {left at product : ℕ} {xs : List ℕ}
    (C : Counting p rs f ds all counters) (F : Filling p rs rest left f base at product xs) (some : 0 < left) (there : 0 < length rest) where
  abbrev U : ℕ → ℤ
  U = stored_at base p rs

  abbrev i : ℕ
  i = get_or rest 0 0

  abbrev more : ℕ
  more = product * level p i

  abbrev place : ℕ
  place = at * base + i + 1

  abbrev with : List ℕ
  with = F.taken ++ i ∷ []

  abbrev others : List ℕ
  others = take (length rest - 1) (drop 1 rest)

  -- the entries of that column, as they are lent
  abbrev column : List ℕ
  column = take (length ds - i * length rs) (drop (i * length rs) ds)

  column-is : column ≡ drop (i * length rs) ds
  column-is = from_place ds (i * length rs)

  inside : i < columns p
  inside = first-inside p rs f ds all counters C F.taken rest left product xs F.begun some there

  enough : more ≤ length counters
  enough = more-enough p rs f ds all counters C F.taken rest left product xs F.begun some there

  most : more ≤ most_numbers
  most = omega (arith, enough, C.short)

  long : length xs ≡ length rs
  long = numbers-long p rs f ds all counters C F.taken rest left product xs F.begun some there

  start : i * length rs ≤ length ds
  start = column-start p rs f ds all counters C F.taken rest left product xs F.begun some there

  -- where that column starts fits
  start_low : i * length rs ≤ 24 * 256
  start_low = mul-below i (length rs) 24 256 (omega (arith, inside, C.sound.columns-high)) C.sound.few

  wide : length xs ≤ length column
  wide = rw column-is (column-long p rs f ds all counters C F.taken rest left product xs F.begun some there)

  small : (k : ℕ) → k < length xs → get_or xs k 0 * level p i + get_or column k 0 < most_numbers
  small =
      subst (λ ds. (k : ℕ) → k < length xs → get_or xs k 0 * level p i + get_or ds k 0 < most_numbers) (sym column-is)
      (longer-small p rs f ds all counters C F.taken rest left product xs F.begun some there)

  placed : (room : List ℤ) → places base f ≤ length room → place < length room
  placed room h = le_trans (next-inside p rs f base ds all counters C rest left at product xs F some there) h

  low : place < places 25 4
  low = next_low p rs f base ds all counters C rest left at product xs F some there

  others-are : others ≡ drop 1 rest
  others-are = from_place rest 1

  -- a call of itself has fewer columns left
  fewer : length others < length rest
  fewer = rw others-are (omega (arith, length-drop 1 rest, there))

  -- the runs' numbers with the digit of that column
  lent : {room : List ℕ} → room ≡ filled_to 256 0 (longer (level p i) xs column) → take (length rs) room ≡ numbers_in p rs with
  lent {room} e =
      ap (λ k. take k room) (sym long)
      ∙ longer-front (level p i) xs column room e
      ∙ ap (longer (level p i) xs) column-is
      ∙ longer-is p rs f ds all counters C F.taken rest left product xs F.begun some there

  below : {ys : List ℕ} → ys ≡ numbers_in p rs with → Numbers more ys
  below e = subst (Numbers more) (sym e) (numbers-below p rs f ds all counters C F.taken rest left product xs F.begun some there)

  -- T of the columns taken with that one, read back from its bits
  value : {size found : ℤ} {ys : List ℕ} → mag size < 2 ^ 63 → size ≡ pos more → mag found < 2 ^ 63 → found ≡ squares_of ys →
      ys ≡ numbers_in p rs with → to_z w64 (of_z w64 size) *ℤ to_z w64 (of_z w64 found) ≡ U place
  value {found = found} m e n g l =
      ap₂ (λ x y. x *ℤ y) (of _ m ∙ e) (of _ n)
      ∙ value-is p rs f base ds all counters C rest left at product xs F some there more found refl (g ∙ ap squares_of l)

  value_low : nat_abs (U place) ≤ highest_t
  value_low = value-small p rs f base ds all counters C rest left at product xs F some there

  filling_on : {ys : List ℕ} → ys ≡ numbers_in p rs with → Filling p rs others (left - 1) f base place more ys
  filling_on {ys} e =
      filling-as p rs (left - 1) f base place more others-are refl
      (filling-with p rs f base ds all counters C rest left at product xs F some there ys e)

  filling-past : Filling p rs others left f base at product xs
  filling-past =
      filling-as p rs left f base at product others-are refl (filling-without p rs f base ds all counters C rest left at product xs F some there)

  -- the room with the sets that have the column
  passed_is : (room : List ℤ) {passed : List ℤ} {v : ℤ} → v ≡ U place → passed ≡ filled_by base U (left - 1) place others (set room place v) →
      passed ≡ filled_by base U (left - 1) place (drop 1 rest) (set room place (U place))
  passed_is room e g = g ∙ filled-as base U (left - 1) place others-are (ap (set room place) e)

  -- and then with those that do not
  filled : (room : List ℤ) {passed last : List ℤ} → passed ≡ filled_by base U (left - 1) place (drop 1 rest) (set room place (U place)) →
      last ≡ filled_by base U left at others passed → last ≡ filled_by base U left at rest room
  filled room e g = g ∙ filled-as base U left at others-are e ∙ filled-step base U left at rest room some there

pub returns-then-rest-eq0-clause-room : goal.returns-then-rest-eq0-clause-room
returns-then-rest-eq0-clause-room t c =
    let a = c.args in
    filled-nothing a.base (stored_at a.base (plan a.levels.now a.table.now) a.runs.now) a.left a.at a.rest.now a.room.now c.if-rest-eq0.true

pub bounds-levels-i : goal.bounds-levels-i
bounds-levels-i t c = inside c.requires.counting c.requires.filling.0 (omega arith) (omega arith)

pub overflow_mul-i : goal.overflow_mul-i
overflow_mul-i t c = omega (arith, start_low c.requires.counting c.requires.filling.0 (omega arith) (omega arith))

pub slice_bounds-longer-count : goal.slice_bounds-longer-count
slice_bounds-longer-count t c = start c.requires.counting c.requires.filling.0 (omega arith) (omega arith)

pub slice_bounds-longer-start : goal.slice_bounds-longer-start
slice_bounds-longer-start t c = start c.requires.counting c.requires.filling.0 (omega arith) (omega arith)

pub longer-taken-requires-clause-numbers_len_bound : goal.longer-taken-requires-clause-numbers_len_bound
longer-taken-requires-clause-numbers_len_bound t c =
    let C = c.requires.counting in
    let F = c.requires.filling.0 in
    let some : 0 < c.args.left = omega arith in
    let there : 0 < length c.args.rest.now = omega arith in
    (omega (arith, long C F some there, C.sound.few), wide C F some there)

pub longer-taken-requires-clause-by_index : goal.longer-taken-requires-clause-by_index
longer-taken-requires-clause-by_index t c = small c.requires.counting c.requires.filling.0 (omega arith) (omega arith)

pub bounds-levels-i-2 : goal.bounds-levels-i-2
bounds-levels-i-2 t c = inside c.requires.counting c.requires.filling.0 (omega arith) (omega arith)

pub overflow_mul-more : goal.overflow_mul-more
overflow_mul-more t c = rw c.from.ensures (omega (arith, most c.requires.counting c.requires.filling.0 (omega arith) (omega arith)))

pub overflow_mul-place : goal.overflow_mul-place
overflow_mul-place t c = omega (arith, low c.requires.counting c.requires.filling.0 (omega arith) (omega arith))

pub overflow_add-place : goal.overflow_add-place
overflow_add-place t c = omega (arith, low c.requires.counting c.requires.filling.0 (omega arith) (omega arith))

pub overflow_add-place-2 : goal.overflow_add-place-2
overflow_add-place-2 t c = omega (arith, low c.requires.counting c.requires.filling.0 (omega arith) (omega arith))

pub squares-counted-requires-clause-numbers : goal.squares-counted-requires-clause-numbers
squares-counted-requires-clause-numbers t c =
    let C = c.requires.counting in
    let F = c.requires.filling.0 in
    let some : 0 < c.args.left = omega arith in
    let there : 0 < length c.args.rest.now = omega arith in
    rw c.from.ensures (below C F some there (lent C F some there c.longer-taken.ensures), enough C F some there, C.short)

pub of_size-requires : goal.of_size-requires
of_size-requires t c = rw c.from.ensures (omega (arith, most c.requires.counting c.requires.filling.0 (omega arith) (omega arith)))

pub mul-requires : goal.mul-requires
mul-requires t c =
    let a = c.args in
    let C = c.requires.counting in
    let F = c.requires.filling.0 in
    let some : 0 < a.left = omega arith in
    let there : 0 < length a.rest.now = omega arith in
    let q = c.squares-counted in
    let size = rw c.from.ensures at c.of_size.ensures in
    rw (value C F some there c.of_size.type_inv size q.type_inv q.ensures.squares (lent C F some there c.longer-taken.ensures))
    (omega (arith, value_low C F some there))

pub offset_bounds-room-place : goal.offset_bounds-room-place
offset_bounds-room-place t c = omega (arith, low c.requires.counting c.requires.filling.0 (omega arith) (omega arith))

pub bounds-room-place : goal.bounds-room-place
bounds-room-place t c = placed c.requires.counting c.requires.filling.0 (omega arith) (omega arith) c.args.room.now c.requires.filling.1

pub fill-requires : goal.fill-requires
fill-requires t c =
    let a = c.args in
    let p = plan a.levels.now a.table.now in
    let C = c.requires.counting in
    let F = c.requires.filling.0 in
    let some : 0 < a.left = omega arith in
    let there : 0 < length a.rest.now = omega arith in
    let q = c.squares-counted in (
      omega (arith, fewer C F some there, c.decreases),
      (
        counting-again p a.runs.now a.f a.digits.now a.all.now a.counters.now q.new.counters C q.ensures.counters,
        (
          rw c.from.ensures (filling_on C F some there (lent C F some there c.longer-taken.ensures)),
          rw (length-set a.room.now (a.at * a.base + get_or a.rest.now 0 0 + 1) (to_z w64 (of_z w64 c.mul.result))) c.requires.filling.1,
        ),
      ),
    )

pub fill-requires-2 : goal.fill-requires-2
fill-requires-2 t c =
    let a = c.args in
    let p = plan a.levels.now a.table.now in
    let C = c.requires.counting in
    let F = c.requires.filling.0 in
    let some : 0 < a.left = omega arith in
    let there : 0 < length a.rest.now = omega arith in
    let q = c.squares-counted in (
      omega (arith, fewer C F some there, c.decreases),
      (
        counting-again p a.runs.now a.f a.digits.now a.all.now q.new.counters c.fill.new.counters
            (counting-again p a.runs.now a.f a.digits.now a.all.now a.counters.now q.new.counters C q.ensures.counters) c.fill.ensures.counters,
        (
          filling-past C F some there,
          omega (
            arith,
            c.requires.filling.1,
            c.fill.auto.room,
            length-set a.room.now (a.at * a.base + get_or a.rest.now 0 0 + 1) (to_z w64 (of_z w64 c.mul.result)),
          ),
        ),
      ),
    )

pub returns-clause-room : goal.returns-clause-room
returns-clause-room t c =
    let a = c.args in
    let C = c.requires.counting in
    let F = c.requires.filling.0 in
    let some : 0 < a.left = omega arith in
    let there : 0 < length a.rest.now = omega arith in
    let q = c.squares-counted in
    let size = rw c.from.ensures at c.of_size.ensures in
    filled C F some there a.room.now
    (passed_is C F some there a.room.now
    (of c.mul.result c.mul.type_inv ∙ c.mul.ensures
    ∙ value C F some there c.of_size.type_inv size q.type_inv q.ensures.squares (lent C F some there c.longer-taken.ensures))
    c.fill.ensures.room)
    c.fill-2.ensures.room
