-- A loop upward that returns the first number that passes.
use Rattle.exact.proofs.Ground.{true, false, Bool, ◌≡◌, ◌∙◌, sym, ℕ, ◌≤◌, ◌<◌, ◌-◌, ◌+◌, arith}
use Rattle.exact.specs.Lists.{first}
use Rattle.exact.proofs.Searches.{first_found, first-later, first-none}

module _ (test : ℕ → Bool) (end found : ℕ) where
  -- what is left to search, from j on, finds it
  abbrev pub Left : ℕ → Type 0
  Left j = first test j (end - j) ≡ found

  pub left-found : (j : ℕ) → Left j → j < end → test j ≡ true → j ≡ found
  left-found j L l e = sym (first_found test j (end - j) (omega arith) e) ∙ L

  pub left-later : (j : ℕ) → Left j → j < end → test j ≡ false → Left (j + 1)
  left-later j L l e =
      let d : end - j - 1 ≡ end - (j + 1) = omega arith in rw d at (sym (first-later test j (end - j) (omega arith) e) ∙ L)

  pub left-last : (j : ℕ) → Left j → end ≤ j → j ≡ found
  left-last j L h = sym (first-none test j (end - j) (omega arith)) ∙ L
