-- `part_sums::word` meets its contract: T of the set, and the room for its smaller parts.
use Rattle.exact.proofs.Ground.{List, ◌≡◌, ◌∙◌, ap₂, ℕ, arith, ◌*ℤ◌, w64, to_z, of_z, rules}
use Rattle.exact.proofs.Bits.{of}
use Rattle.rules.specs.Plan.{Plan, plan}
use Rattle.part_sums.specs.Stored.{stored_of}
use Rattle.part_sums.proofs.Kept.{product-enough, set_below, top-is, top_small, worded-readable, worded}
use Rattle.part_sums.proofs.word.Statement.{statement}
use Rattle.part_sums.proofs.word.Tie as tie

module _ (s : tie.Start) where
  abbrev p : Plan
  p = plan s.args.levels.now s.args.table.now

  abbrev rs : List ℕ
  rs = s.args.runs.now

squares-requires : tie.Need-squares-counted-requires
squares-requires c κs =
    let s = c.before.before.before.before.before.before.before.before.before in
    let a = s.args in
    let C = s.requires.0 in (
      (
        set_below (p s) (rs s) a.f a.digits.now a.all.now a.counters.now C a.columns.now a.product a.numbers.now a.room.now s.requires.1,
        product-enough (p s) (rs s) a.f a.digits.now a.all.now a.counters.now C a.columns.now a.product a.numbers.now a.room.now s.requires.1,
        C.short,
      ),
      (C.listed, C.cleared),
    )

abbrev started : tie.After-squares-counted → tie.Start
started c = c.before.before.before.before.before.before.before.before.before.before

of-size-requires : tie.Need-of_size-requires
of-size-requires c κs =
    let s = started c.before.before in
    let a = s.args in
    omega (arith, product-enough (p s) (rs s) a.f a.digits.now a.all.now a.counters.now s.requires.0 a.columns.now a.product a.numbers.now a.room.now s.requires.1, s.requires.0.short)

-- T of the set
top : (c : tie.After-of_size) → let s = started c.before.before.before in
    to_z w64 (of_z w64 c.of_size.result) *ℤ to_z w64 (of_z w64 c.squares-counted.result) ≡ stored_of (p s) (rs s) s.args.columns.now
top c =
    let q = c.squares-counted in
    let s = started c.before.before.before in
    let a = s.args in
    ap₂ (λ x y. x *ℤ y) (of c.of_size.result c.of_size.type_inv ∙ c.of_size.ensures) (of q.result q.type_inv)
    ∙ top-is (p s) (rs s) a.f a.digits.now a.all.now a.counters.now s.requires.0 a.columns.now a.product a.numbers.now a.room.now s.requires.1 q.result q.ensures.0

mul-requires : tie.Need-mul-top-requires
mul-requires c κs =
    let s = started c.before.before.before in
    let a = s.args in
    rw (top c) (omega (arith, top_small (p s) (rs s) a.f a.digits.now a.all.now a.counters.now s.requires.0 a.columns.now a.product a.numbers.now a.room.now s.requires.1))

over-stored-requires : tie.Need-over_stored-requires
over-stored-requires c κs =
    let s = started c.before.before.before.before in
    let a = s.args in
    worded-readable (p s) (rs s) a.f a.digits.now a.all.now a.counters.now s.requires.0 a.columns.now a.product a.numbers.now a.room.now s.requires.1
    _ (of c.mul-top.result c.mul-top.type_inv ∙ c.mul-top.ensures ∙ top c.before)

returns : tie.Need-returns
returns c =
    let m = c in
    let s = started m.before.before.before.before.before in
    let a = s.args in (
      of c.over_stored.result c.over_stored.type_inv ∙ c.over_stored.ensures
          ∙ worded (p s) (rs s) a.f a.digits.now a.all.now a.counters.now s.requires.0 a.columns.now a.product a.numbers.now a.room.now s.requires.1
          _ (of m.mul-top.result m.mul-top.type_inv ∙ m.mul-top.ensures ∙ top m.before.before),
      m.squares-counted.ensures.1,
    )

pub word_spec : {M : Type 1} → statement M
word_spec =
    tie.close
    (tie.spec
    (λ c. search rules)
    squares-requires
    of-size-requires
    mul-requires
    over-stored-requires
    (λ c. search rules)
    returns)
