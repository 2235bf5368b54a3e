-- `part_sums::fill_room` meets its contract: the walk from no column taken, in a room that holds T of the empty set.
use Rattle.exact.proofs.Ground.{List, [], ◌≡◌, ◌∙◌, sym, ap, refl, subst, ℕ, ◌<◌, ◌+◌, arith, ℤ, le_trans, length, set, replicate, length-set, length-take-le, w64, to_z, of_z, rules}
use Rattle.exact.proofs.Bits.{of}
use Rattle.rules.specs.Plan.{Plan, plan, columns}
use Rattle.parts.specs.Parts.{squares_of}
use Rattle.part_sums.specs.Counters.{Numbers, counters_of}
use Rattle.part_sums.specs.Stored.{stored_at, filled_by}
use Rattle.part_sums.proofs.Counting.{counters-long}
use Rattle.part_sums.proofs.Places.{places-mono}
use Rattle.part_sums.proofs.Filling.{filled-as, filled-long, counting-again}
use Rattle.part_sums.proofs.Kept.{no-numbers, none_below, one-enough, stored-none, filling-start}
use Rattle.part_sums.proofs.fill_room.Statement.{statement}
use Rattle.part_sums.proofs.fill_room.Tie as tie

module _ (s : tie.Start) where
  abbrev p : Plan
  p = plan s.args.levels.now s.args.table.now

  abbrev rs : List ℕ
  rs = s.args.runs.now

  abbrev base : ℕ
  base = columns p + 1

  abbrev U : ℕ → ℤ
  U = stored_at base p rs

slice-aggregate-squares : tie.Need-slice_bounds-squares-end
slice-aggregate-squares c =
    let s = c.before.before.before.before.before.before.before.before in
    sym (length-take-le (length (rs s)) (replicate 256 0) s.requires.0.sound.few)

squares-requires : tie.Need-squares-requires
squares-requires c κs =
    let s = c.before.before.before.before.before.before.before.before.before in
    let a = s.args in
    let C = s.requires.0 in (
      (
        subst (Numbers 1) (sym (no-numbers (p s) (rs s) 256 C.sound.few)) (none_below (p s) (rs s) a.k a.digits.now a.all.now a.counters.now C),
        one-enough (p s) (rs s) a.k a.digits.now a.all.now a.counters.now C,
        C.short,
      ),
      (C.listed, C.cleared),
    )

-- there is a place for the empty set
held : (s : tie.Start) → 0 < length s.args.room.now
held s = le_trans (places-mono (base s) (omega arith) 0 s.args.k (omega arith)) s.requires.1.1

slice-set-from-room : tie.Need-bounds-room-0
slice-set-from-room c = held c.before.before.before.before.before.before.before.before.before.before.before.before

slice-aggregate-fill : tie.Need-slice_bounds-fill-end
slice-aggregate-fill c =
    let s = c.before.before.before.before.before.before.before.before.before.before.before.before.before in
    sym (length-take-le (length (rs s)) (replicate 256 0) s.requires.0.sound.few)

-- T of the empty set
first : (c : tie.After-squares) → let s = c.before.before.before.before.before.before.before.before.before.before in to_z w64 (of_z w64 c.squares.result) ≡ U s 0
first c =
    let s = c.before.before.before.before.before.before.before.before.before.before in
    let a = s.args in
    of c.squares.result c.squares.type_inv
    ∙ stored-none (p s) (rs s) a.k a.digits.now a.all.now a.counters.now s.requires.0 c.squares.result
    (c.squares.ensures.0 ∙ ap squares_of (no-numbers (p s) (rs s) 256 s.requires.0.sound.few))

fill-requires : tie.Need-fill-requires
fill-requires c κs =
    let q = c in
    let s = q.before.before.before.before.before.before.before.before.before.before.before.before.before.before.before in
    let a = s.args in
    let C = s.requires.0 in (
      counting-again (p s) (rs s) a.k a.digits.now a.all.now a.counters.now q.squares.new.counters C q.squares.ensures.1,
      (
        filling-start (p s) (rs s) a.k a.digits.now a.all.now a.counters.now C _ a.columns.now s.requires.1.0 (no-numbers (p s) (rs s) 256 C.sound.few),
        rw (length-set a.room.now 0 (to_z w64 (of_z w64 q.squares.result))) s.requires.1.1,
      ),
    )

filled : (c : tie.After-fill) → let s = c.before.before.before.before.before.before.before.before.before.before.before.before.before.before.before.before in
    c.fill.new.room ≡ filled_by (base s) (U s) s.args.k 0 s.args.columns.now (set s.args.room.now 0 (U s 0))
filled c =
    let q = c.before.before.before.before.before.before in
    let s = q.before.before.before.before.before.before.before.before.before.before in
    c.fill.ensures.0 ∙ filled-as (base s) (U s) s.args.k 0 refl (ap (set s.args.room.now 0) (first q))

as_many : (c : tie.After-fill) → length c.squares.new.counters ≡ length c.args.counters.now
as_many c = let q = c in ap length q.squares.ensures.1 ∙ counters-long (length q.args.counters.now) []

same_length : tie.Need-shape_of-room
same_length c =
    let d = c.before.before.before in
    let s = d.before.before.before.before.before.before.before.before.before.before.before.before.before.before.before.before in
    ap length (filled d) ∙ filled-long (base s) (U s) s.args.k 0 s.args.columns.now (set s.args.room.now 0 (U s 0))
    ∙ length-set s.args.room.now 0 (U s 0)

returns : tie.Need-returns
returns c = let d = c.before.before.before in (filled d, d.fill.ensures.1 ∙ ap (λ n. counters_of n []) (as_many d))

pub fill_room_spec : {M : Type 1} → statement M
fill_room_spec =
    tie.close
    (tie.spec
    (λ c. search rules)
    (λ c. search rules)
    slice-aggregate-squares
    squares-requires
    slice-set-from-room
    (λ c. search rules)
    slice-aggregate-fill
    fill-requires
    same_length
    (λ c. search rules)
    returns)
