-- What the strength is, said without a search; and what a law on words asks of a plan's entries.
use Rattle.std.specs.Prelude.{◌≡◌, ℕ, ◌≤◌, length}
use mathlib.Core.List.{List, Memᴰ}
use Rattle.sets.specs.Sets.{choose}
use Rattle.counts.specs.Counts.{combinations, tally}

module _ {R C : Type 0} (level : C → ℕ) (entry : R → C → ℕ) (rs : List R) where
  -- every two level combinations of the columns J occur equally often
  abbrev pub Even : List C → Type 0
  Even J = (P Q : List ℕ) → Memᴰ P (combinations level J) → Memᴰ Q (combinations level J) →
      tally entry rs J P ≡ tally entry rs J Q

  -- t is the largest such that in every choice of t columns all level combinations occur equally often
  pub record IsStrength (cols : List C) (t : ℕ) : Type 0 where
    pub fits : t ≤ length cols
    pub all-even : (J : List C) → Memᴰ J (choose t cols) → Even J
    pub most : (u : ℕ) → u ≤ length cols → ((J : List C) → Memᴰ J (choose u cols) → Even J) → u ≤ t
