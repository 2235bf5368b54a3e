-- `held::routines::changed_words` meets its contract: below length j the words are the new ones, and no step passes 64 bits.
use Rattle.exact.proofs.Ground.{◌≡◌, refl, ◌≤◌, ◌<◌, ◌-◌, ◌^◌, arith, pos, ℤ, nat_abs, ◌*ℤ◌, ◌+ℤ◌, length, get_or, replicate, rules, w64, to_z, of_z}
use Rattle.exact.proofs.Bits.{fits, back}
use Rattle.exact.proofs.Rooms.{begun, write-next, all-written}
use Rattle.rules.specs.Plan.{most_columns}
use Rattle.held.specs.Given.{changed_at, changed}
use Rattle.held.proofs.Update.{product-fits, word_fits, changed-fits}
use Rattle.held.proofs.routines.changed_words.Statement.{statement}
use Rattle.held.proofs.routines.changed_words.Tie as tie

abbrev invariant-loop-j : tie.invariant-loop-j
invariant-loop-j words factor row diagonal after₀ j₀ after j =
    (j ≤ most_columns) × (length after₀ ≡ most_columns) × (after ≡ begun (changed_at (to_z w64 factor) words row diagonal) after₀ j)

abbrev decreases-loop-j : tie.decreases-loop-j
decreases-loop-j words factor row diagonal after₀ j₀ after j = most_columns - j

loop-holds : tie.Need-loop-j-init invariant-loop-j decreases-loop-j
loop-holds c = (omega arith, search rules, refl)

read : (z : ℤ) → nat_abs z < 2 ^ 63 → to_z w64 (of_z w64 z) ≡ z
read z h = back (fits z h)

-- what a turn reads, and that each step fits
module _ (l : tie.At-loop-j invariant-loop-j decreases-loop-j) where
  abbrev factor : ℤ
  factor = l.args.factor

  abbrev word : ℤ
  word = get_or l.args.words.now l.loop-j.j (pos 0)

  abbrev sum : ℤ
  sum = get_or l.args.row.now l.loop-j.j (pos 0)

  abbrev e : ℤ
  e = get_or l.args.diagonal.now l.loop-j.j (pos 0)

  small_word : nat_abs word ≤ 2 ^ 60
  small_word = l.requires.1.0.small l.loop-j.j

  small-sum : nat_abs sum ≤ 2 ^ 60
  small-sum = l.requires.1.1.0.small l.loop-j.j

  small-e : nat_abs e ≤ 2 ^ 60
  small-e = l.requires.1.1.1.small l.loop-j.j

  product_small : nat_abs (factor *ℤ sum) ≤ 2 ^ 61
  product_small = product-fits factor word sum e l.requires.0 small_word small-sum small-e

  word_small : nat_abs (word +ℤ factor *ℤ sum) ≤ 2 ^ 62
  word_small = word_fits factor word sum e l.requires.0 small_word small-sum small-e

  whole-small : nat_abs (word +ℤ factor *ℤ sum +ℤ e) < 2 ^ 63
  whole-small = changed-fits factor word sum e l.requires.0 small_word small-sum small-e

  product_is : to_z w64 (of_z w64 factor) *ℤ to_z w64 (of_z w64 sum) ≡ factor *ℤ sum
  product_is = rw (read factor (omega (arith, l.requires.0)), read sum (omega (arith, small-sum)))

  word-is : to_z w64 (of_z w64 word) +ℤ to_z w64 (of_z w64 (factor *ℤ sum)) ≡ word +ℤ factor *ℤ sum
  word-is = rw (read word (omega (arith, small_word)), read (factor *ℤ sum) (omega (arith, product_small)))

  whole_is : to_z w64 (of_z w64 (word +ℤ factor *ℤ sum)) +ℤ to_z w64 (of_z w64 e) ≡ word +ℤ factor *ℤ sum +ℤ e
  whole_is = rw (read (word +ℤ factor *ℤ sum) (omega (arith, word_small)), read e (omega (arith, small-e)))

mul-requires : tie.Need-mul-requires invariant-loop-j decreases-loop-j
mul-requires c κs = let l = c.before.before.before in rw (product_is l) (omega (arith, product_small l))

add-requires : tie.Need-add-requires invariant-loop-j decreases-loop-j
add-requires c κs =
    let l = c.before.before.before.before in
    rw (c.mul.ensures, product_is l, word-is l) (omega (arith, word_small l))

add-requires-2 : tie.Need-add-requires-in-loop-j invariant-loop-j decreases-loop-j
add-requires-2 c κs =
    let l = c.before.before.before.before.before.before in
    rw (c.add.ensures, c.mul.ensures, product_is l, word-is l, whole_is l) (whole-small l)

loop-again : tie.Need-loop-j-preserved invariant-loop-j decreases-loop-j
loop-again c =
    let l = c.before.before.before.before.before.before.before in
    let a = l.args in
    let g = changed_at a.factor a.words.now a.row.now a.diagonal.now in (
      omega arith,
      refl,
      rw (
        c.add-in-loop-j.ensures,
        c.add.ensures,
        c.mul.ensures,
        product_is l,
        word-is l,
        whole_is l,
        read (g l.loop-j.j) (whole-small l),
        l.loop-j.invariant.2,
        read a.factor (omega (arith, l.requires.0)),
      ) (write-next g (replicate most_columns (pos 0)) l.loop-j.j (pos 0) (omega arith)),
    )

returns : tie.Need-returns invariant-loop-j decreases-loop-j
unfolding changed
returns c =
    let l = c in
    let a = l.args in
    let g = changed_at a.factor a.words.now a.row.now a.diagonal.now in
    let e : l.loop-j.j ≡ most_columns = omega arith in
    rw (l.loop-j.invariant.2, read a.factor (omega (arith, l.requires.0)), e)
    (all-written g (replicate most_columns (pos 0)) most_columns refl)

pub changed_words_spec : {M : Type 1} → statement M
changed_words_spec =
    tie.close
    (tie.spec
    invariant-loop-j
    decreases-loop-j
    loop-holds
    (λ c. omega arith)
    (λ c. omega arith)
    (λ c. omega arith)
    (λ c. omega arith)
    mul-requires
    add-requires
    (λ c. omega arith)
    (λ c. omega arith)
    add-requires-2
    (λ c. omega arith)
    (λ c. omega arith)
    (λ c. omega arith)
    (λ c. omega arith)
    loop-again
    returns)
