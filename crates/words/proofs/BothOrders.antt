-- Sums with each pair in one order, made sums with both orders in place: those below length j are the new ones.
use Rattle.exact.proofs.Ground.{List, ◌≡◌, ◌∙◌, ap, ℕ, ◌≤◌, ◌<◌, ◌^◌, le_trans, mul-le-mul, arith, pos, ℤ, nat_abs, ◌*ℤ◌, ◌+ℤ◌}
use Rattle.exact.proofs.Ground.{get_or, w64, to_z, of_z}
use Rattle.exact.proofs.Bits.{fits, back}
use Rattle.exact.proofs.Order.{nat_abs-+, nat_abs-*}
use Rattle.exact.proofs.Ring.{ring}
use Rattle.exact.proofs.Rooms.{begun, read_next}
use Rattle.rules.specs.Plan.{most_runs}
use Rattle.pairs.specs.Given.{Row}

-- the new sum at place k
abbrev pub both : ℕ → List ℤ → List ℤ → ℕ → ℤ
both n own once k = pos 2 *ℤ get_or once k (pos 0) +ℤ pos n *ℤ get_or own k (pos 0)

-- as it is added up: the pairs in one order and the own ones, then the pairs in the other order
pub in-turn : (o d : ℤ) → (o +ℤ d) +ℤ o ≡ pos 2 *ℤ o +ℤ d
in-turn o d = simp ring

-- what a turn reads
module _ (n : ℕ) (own row : List ℤ) (few : n ≤ most_runs) (O : Row (2 ^ 32) own) (R : Row (2 ^ 60) row) (j : ℕ) (h : j < 24) where
  abbrev old : ℤ
  old = get_or row j (pos 0)

  abbrev each : ℤ
  each = get_or own j (pos 0)

  pub read-old : (total : List ℤ) → total ≡ begun (both n own row) row j → to_z w64 (of_z w64 (get_or total j (pos 0))) ≡ old
  read-old total e =
      ap (λ out. to_z w64 (of_z w64 (get_or out j (pos 0)))) e
      ∙ ap (λ z. to_z w64 (of_z w64 z)) (read_next (both n own row) row j (pos 0) (omega (arith, R.long)))
      ∙ back (fits old (omega (arith, R.small j)))

  pub read-each : to_z w64 (of_z w64 each) ≡ each
  read-each = back (fits each (omega (arith, O.small j)))

  own-small : nat_abs (pos n *ℤ each) ≤ 2 ^ 40
  own-small = rw nat_abs-* (le_trans (mul-le-mul few (O.small j)) (omega arith))

  pub product-small : nat_abs (pos n *ℤ each) < 2 ^ 63
  product-small = omega (arith, own-small)

  pub half-small : nat_abs (old +ℤ pos n *ℤ each) < 2 ^ 63
  half-small = omega (arith, nat_abs-+ old (pos n *ℤ each), own-small, R.small j)

  pub both-small : nat_abs ((old +ℤ pos n *ℤ each) +ℤ old) < 2 ^ 63
  both-small = omega (arith, nat_abs-+ (old +ℤ pos n *ℤ each) old, nat_abs-+ old (pos n *ℤ each), own-small, R.small j)
