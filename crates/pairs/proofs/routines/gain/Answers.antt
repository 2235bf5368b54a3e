-- The two sums and the score are small, so that they are read as they stand, and the new sum fits.
use Rattle.exact.proofs.Ground.{List, ◌≡◌, ℕ, ◌≤◌, ◌+◌, ◌*◌, arith, pos, ℤ, nat_abs, ◌*ℤ◌, ◌+ℤ◌, get_or, w64, to_z, of_z}
use Rattle.exact.proofs.Bits.{fits, back, of}
use Rattle.exact.proofs.Numbers.{mul-below}
use Rattle.exact.proofs.Order.{nat_abs-+, nat_abs-*}
use Rattle.pairs.specs.Given.{Gains}
use Rattle.pairs.proofs.routines.gain.Goals as goal

module _ (x : ℤ) (k : ℕ) (row : List ℤ) (G : Gains x k row) where
  abbrev sum : ℤ
  sum = get_or row (k + 1) (pos 0)

  abbrev less : ℤ
  less = get_or row k (pos 0)

  sum-read : to_z w64 (of_z w64 sum) ≡ sum
  sum-read = back (fits sum (omega (arith, G.sum)))

  less-read : to_z w64 (of_z w64 less) ≡ less
  less-read = back (fits less (omega (arith, G.less)))

  product_small : nat_abs (x *ℤ less) ≤ 16 * 2_000_000_000
  product_small = rw (nat_abs-* x less) (mul-below (nat_abs x) (nat_abs less) 16 2_000_000_000 G.score G.less)

  sum-small : nat_abs (sum +ℤ x *ℤ less) ≤ 2_000_000_000 + 16 * 2_000_000_000
  sum-small = omega (arith, nat_abs-+ sum (x *ℤ less), G.sum, product_small)

pub mul-requires : goal.mul-requires
mul-requires c =
    let x = c.args.score in let k = c.args.k in let row = c.args.sums.now in
    rw (back c.ranges.score, less-read x k row c.requires) (omega (arith, product_small x k row c.requires))

pub add-requires : goal.add-requires
add-requires c =
    let x = c.args.score in let k = c.args.k in let row = c.args.sums.now in
    rw (sum-read x k row c.requires, of c.mul.result c.mul.type_inv, c.mul.ensures, back c.ranges.score, less-read x k row c.requires)
    (omega (arith, sum-small x k row c.requires))

pub returns : goal.returns
returns c =
    let x = c.args.score in let k = c.args.k in let row = c.args.sums.now in
    rw (
      of c.add.result c.add.type_inv,
      c.add.ensures,
      sum-read x k row c.requires,
      of c.mul.result c.mul.type_inv,
      c.mul.ensures,
      back c.ranges.score,
      less-read x k row c.requires,
    )
