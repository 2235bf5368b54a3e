-- A row added to another so many times, in place: the sums below length j are the new ones.
use Rattle.exact.proofs.Ground.{List, ◌≡◌, ◌∙◌, ap, ℕ, ◌<◌, ◌≤◌, ◌^◌, arith, pos, ℤ, nat_abs, ◌*ℤ◌, ◌+ℤ◌, get_or, w64, to_z, of_z}
use Rattle.exact.proofs.Bits.{fits, back}
use Rattle.exact.proofs.Order.{nat_abs-+, nat_abs-*-≤}
use Rattle.exact.proofs.Rooms.{begun, read_next}
use Rattle.pairs.specs.Given.{Row}

-- the new sum at place k
abbrev pub times-both : ℕ → List ℤ → List ℤ → ℕ → ℤ
times-both times row more k = get_or row k (pos 0) +ℤ pos times *ℤ get_or more k (pos 0)

-- what a turn reads
module _ (times : ℕ) (row more : List ℤ) (few : times < 2 ^ 16) (R : Row (2 ^ 61) row) (M : Row (2 ^ 32) more) (j : ℕ) (h : j < 24) where
  abbrev old : ℤ
  old = get_or row j (pos 0)

  abbrev each : ℤ
  each = get_or more j (pos 0)

  all_small : nat_abs (pos times *ℤ each) ≤ 2 ^ 48
  all_small = nat_abs-*-≤ (pos times) each (2 ^ 16) (2 ^ 32) (omega arith) (M.small j)

  pub product-small : nat_abs (pos times *ℤ each) < 2 ^ 63
  product-small = omega (arith, all_small)

  pub sum-small : nat_abs (old +ℤ pos times *ℤ each) < 2 ^ 63
  sum-small = omega (arith, nat_abs-+ old (pos times *ℤ each), all_small, R.small j)

  pub read-old : (total : List ℤ) → total ≡ begun (times-both times row more) row j → to_z w64 (of_z w64 (get_or total j (pos 0))) ≡ old
  read-old total e =
      ap (λ out. to_z w64 (of_z w64 (get_or out j (pos 0)))) e
      ∙ ap (λ z. to_z w64 (of_z w64 z)) (read_next (times-both times row more) row j (pos 0) (omega (arith, R.long)))
      ∙ back (fits old (omega (arith, R.small j)))

  pub read-each : to_z w64 (of_z w64 each) ≡ each
  read-each = back (fits each (omega (arith, M.small j)))
