-- The sets of t of some columns, place after place: the set at a place has the columns at the places of a set of numbers.
use Rattle.exact.proofs.Ground.{List, [], map, Memᴰ, ◌≡◌, ◌∙◌, sym, ap, ℕ, ◌≤◌, ◌<◌, arith, length, get_or}
use Rattle.exact.specs.Lists.{from}
use Rattle.exact.proofs.Numbers.{map-places}
use Rattle.exact.proofs.Members.{get_or-mem}
use Rattle.exact.proofs.Lists.{get_d_map}
use Rattle.sets.specs.Sets.{choose, sets_of, set_at, binom}
use Rattle.sets.proofs.Choose.{choose-map}
use Rattle.sets.proofs.Parts.{Part, choose-part, part_length}
use Rattle.sets.proofs.Pascal.{length-choose, many-sets}

module _ (cols : List ℕ) (t k : ℕ) where
  -- the set at place k
  abbrev pub chosen : List ℕ
  chosen = get_or (choose t cols) k []

module _ (cols : List ℕ) (t k : ℕ) (h : k < binom (length cols) t) where
  pub there : Memᴰ (chosen cols t k) (choose t cols)
  there = get_or-mem (choose t cols) k [] (rw (length-choose t cols) h)

  pub chosen-long : length (chosen cols t k) ≡ t
  chosen-long = (choose-part t cols (chosen cols t k) there).1

  -- there are so many columns
  pub enough : t ≤ length cols
  enough = omega (arith, chosen-long, part_length (choose-part t cols (chosen cols t k) there).0)

  -- its columns are among them
  pub chosen-part : Part (chosen cols t k) cols
  chosen-part = (choose-part t cols (chosen cols t k) there).0

  -- it has the columns at the places of a set of numbers
  pub chosen-places : chosen cols t k ≡ map (λ i. get_or cols i 0) (set_at (length cols) t k)
  unfolding set_at
  chosen-places =
      let column : ℕ → ℕ = λ i. get_or cols i 0 in
      ap (λ l. get_or l k []) (ap (choose t) (sym (map-places cols 0)) ∙ choose-map column t (from 0 (length cols)))
      ∙ get_d_map (map column) (sets_of (length cols) t) k [] [] (rw (many-sets t 0 (length cols)) h)
