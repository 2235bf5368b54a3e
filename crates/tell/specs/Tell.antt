-- Whether the runs can tell an effect of one column from other columns acting together. A column's effect is a figure for each of its levels;
-- an effect of the columns J acting together is a figure for each cell, that is for each combination of their levels.
use Rattle.std.specs.Prelude.{◌≡◌, Bool, true, false, ℕ, ℤ, ◌+ℤ◌, ◌-ℤ◌}
use mathlib.Core.List.{List, map, Memᴰ}

module _ {R C : Type 0} (entry : R → C → ℕ) (J : List C) where
  -- the cell of run f: its entries in the columns J
  abbrev pub cell : R → List ℕ
  cell f = map (entry f) J

module _ {R C : Type 0} (entry : R → C → ℕ) (rs : List R) (a : C) (J : List C) where
  -- an effect u of column a alone and an effect v of the columns J acting together give the same figure in every run
  abbrev pub SameFigures : (ℕ → ℤ) → (List ℕ → ℤ) → Type 0
  SameFigures u v = (f : R) → Memᴰ f rs → u (entry f a) ≡ v (cell entry J f)

  -- the runs can compare the levels x and y of column a: no such u sets them apart
  abbrev pub Compares : ℕ → ℕ → Type 0
  Compares x y = (u : ℕ → ℤ) (v : List ℕ → ℤ) → SameFigures u v → u x ≡ u y

  -- the runs can tell an effect of column a from J acting together: every such u is constant on the levels that occur
  abbrev pub Tells : Type 0
  Tells = (f g : R) → Memᴰ f rs → Memᴰ g rs → Compares (entry f a) (entry g a)

  -- they cannot: such a u sets two levels that occur apart
  pub record CannotTell : Type 0 where
    pub alone : ℕ → ℤ
    pub together : List ℕ → ℤ
    pub same-figures : SameFigures alone together
    pub one : R
    pub other : R
    pub one_in : Memᴰ one rs
    pub other-in : Memᴰ other rs
    pub apart : ¬ (alone (entry one a) ≡ alone (entry other a))

  -- the same in the words of linear models: two accounts of the same figures, each an effect of column a plus an effect of J acting
  -- together, have the same difference between the levels x and y
  abbrev pub Estimable : ℕ → ℕ → Type 0
  Estimable x y = (u u' : ℕ → ℤ) (v v' : List ℕ → ℤ) →
      ((f : R) → Memᴰ f rs → u (entry f a) +ℤ v (cell entry J f) ≡ u' (entry f a) +ℤ v' (cell entry J f)) →
      u x -ℤ u y ≡ u' x -ℤ u' y

  -- ---- evidence for yes

  -- two runs in one cell, with x and y in column a
  pub record Meet (x y : ℕ) : Type 0 where
    pub left : R
    pub right : R
    pub left_in : Memᴰ left rs
    pub right-in : Memᴰ right rs
    pub left-level : entry left a ≡ x
    pub right-level : entry right a ≡ y
    pub one_cell : cell entry J left ≡ cell entry J right

  -- from x to y over such pairs
  pub data Chain : ℕ → ℕ → Type 0 where
    here : {x : ℕ} → Chain x x
    over : {x y z : ℕ} → Meet x y → Chain y z → Chain x z

  -- ---- evidence for no

  -- the levels of column a on two sides, and the cells on two sides; in every run the two sides are the same, and both sides occur
  pub record Split : Type 0 where
    pub side : ℕ → Bool
    pub cell_side : List ℕ → Bool
    pub same-side : (f : R) → Memᴰ f rs → side (entry f a) ≡ cell_side (cell entry J f)
    pub one : R
    pub other : R
    pub one_in : Memᴰ one rs
    pub other-in : Memᴰ other rs
    pub one_side : side (entry one a) ≡ true
    pub other-side : side (entry other a) ≡ false
