-- A row, or a part of one, added to another in place: the sums below length j are the new ones, and what is read past the part's end is zero.
use Rattle.exact.proofs.Ground.{List, map, ◌++◌, ◌≡◌, ◌∙◌, sym, ap, ℕ, ◌≤◌, ◌<◌, ◌-◌, ◌+◌, ◌^◌, arith, pos, ℤ, nat_abs, ◌+ℤ◌, +ℤ_idr}
use Rattle.exact.proofs.Ground.{length, get_or, drop, length-drop, get_or-eq_default, get_or-drop, ext_get_or, w64, to_z, of_z}
use Rattle.exact.proofs.Bits.{fits, back}
use Rattle.exact.proofs.Order.{nat_abs-+}
use Rattle.exact.specs.Lists.{from}
use Rattle.exact.proofs.Numbers.{from-add, length-map-from, map-from-at}
use Rattle.exact.proofs.Rooms.{map-++, begun, read_next}
use Rattle.pairs.specs.Given.{Row, Part, added}

-- the new sum at place k
abbrev pub both : List ℤ → List ℤ → ℕ → ℤ
both row more k = get_or row k (pos 0) +ℤ get_or more k (pos 0)

-- what a turn reads
module _ (row more : List ℤ) (R : Row (2 ^ 61) row) (M : Part (2 ^ 61) more) (j : ℕ) (h : j < length more) where
  abbrev old : ℤ
  old = get_or row j (pos 0)

  abbrev new : ℤ
  new = get_or more j (pos 0)

  pub sum-small : nat_abs (old +ℤ new) < 2 ^ 63
  sum-small = omega (arith, nat_abs-+ old new, R.small j, M.small j)

  pub read-old : (total : List ℤ) → total ≡ begun (both row more) row j → to_z w64 (of_z w64 (get_or total j (pos 0))) ≡ old
  read-old total e =
      ap (λ out. to_z w64 (of_z w64 (get_or out j (pos 0)))) e
      ∙ ap (λ z. to_z w64 (of_z w64 z)) (read_next (both row more) row j (pos 0) (omega (arith, R.long, M.short)))
      ∙ back (fits old (omega (arith, R.small j)))

  pub read-new : to_z w64 (of_z w64 new) ≡ new
  read-new = back (fits new (omega (arith, M.small j)))

-- past the end of `more` the row stays as it was
pub rest-stays : (row more : List ℤ) (n : ℕ) → n ≡ length more → n ≤ 24 → length row ≡ 24 → begun (both row more) row n ≡ added row more
unfolding added
rest-stays row more n e h long =
    ap (λ l. map (both row more) (from 0 n) ++ l) (ext_get_or (pos 0) (drop n row) (map (both row more) (from (0 + n) (24 - n)))
    (length-drop n row ∙ ap (λ k. k - n) long ∙ sym (length-map-from (both row more) (0 + n) (24 - n)))
    (λ k l. get_or-drop n row k (pos 0) ∙ sym (+ℤ_idr (get_or row (n + k) (pos 0)))
    ∙ ap (λ z. get_or row (n + k) (pos 0) +ℤ z) (sym (get_or-eq_default more (pos 0) {n = n + k} (omega arith)))
    ∙ ap (both row more) (let d : n + k ≡ 0 + n + k = omega arith in d)
    ∙ sym (map-from-at (both row more) (0 + n) (24 - n) k (pos 0) (omega (arith, length-drop n row)))))
    ∙ sym (map-++ (both row more) (from 0 n) (from (0 + n) (24 - n)))
    ∙ ap (map (both row more)) (sym (from-add 0 n (24 - n)) ∙ ap (from 0) (let d : n + (24 - n) ≡ 24 = omega arith in d))
