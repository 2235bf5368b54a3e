-- The lines of the words: one more is that of the next length.
use Rattle.exact.proofs.Ground.{List, ◌++◌, ◌≡◌, ◌∙◌, sym, ap, ap₂, ℕ, ◌-◌, ◌+◌, ◌*◌, arith, pos, ℤ, nat_abs, get_or}
use Rattle.exact.specs.Lists.{from, each}
use Rattle.exact.specs.Fractions.{reduced}
use Rattle.exact.proofs.Numbers.{from-snoc}
use Rattle.text.specs.Bytes.{Put}
use Rattle.text.proofs.Puts.{each_snoc, put_as, put_both}
use Rattle.listing_lines.specs.Listing.{word_line}
use Rattle.listing_lines.specs.Parts.{word_lines_of}

module _ (words : List ℤ) (pairs : ℕ) where
  -- the line of length j
  abbrev line_at : ℕ → List ℕ
  line_at j = word_line j (reduced (nat_abs (get_or words (j - 1) (pos 0))) pairs)

  line-next : (k : ℕ) → word_line (k + 1) (reduced (nat_abs (get_or words k (pos 0))) pairs) ≡ line_at (1 + k)
  line-next k =
      let e : k + 1 ≡ 1 + k = omega arith in
      let d : k ≡ 1 + k - 1 = omega arith in
      ap₂ (λ j i. word_line j (reduced (nat_abs (get_or words i (pos 0))) pairs)) e d

  pub words-next : (k : ℕ) {room between after : List ℕ} {at mid next : ℕ} →
      Put (word_lines_of words pairs k) (68 * k) at room mid between →
      Put (word_line (k + 1) (reduced (nat_abs (get_or words k (pos 0))) pairs)) 68 mid between next after →
      Put (word_lines_of words pairs (k + 1)) (68 * (k + 1)) at room next after
  words-next k P Q =
      put_as (ap (λ l. each (from 1 k) line_at ++ l) (line-next k) ∙ sym (each_snoc (from 1 k) (1 + k) line_at)
      ∙ ap (λ l. each l line_at) (sym (from-snoc 1 k)))
      (omega arith) (put_both P Q)
