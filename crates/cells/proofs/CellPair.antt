-- What a pair of runs adds to the words depends only on its cell, where that is below the window.
use mathlib.Core.Path.{◌≡◌, refl, sym, ◌∙◌}
use mathlib.Core.Bool.{Bool, true, false, cond, ◌&&◌}
use mathlib.Core.List.{List, [], ◌∷◌, map, Memᴰ}
use Prim.Native.Nat.{ℕ, suc, ◌+◌, ◌≤◌, ◌<◌}
use native.Mathlib.Decide.{dec_lt}
use native.Mathlib.Omega.{arith}
use lib.Dec.{eqb}
use lib.IntN.{ℤ, pos, negsuc, ◌-ℤ◌}
use Rattle.exact.specs.Lists.{count}
use Rattle.exact.proofs.Numbers.{mem-from, map-from-cong}
use Rattle.sets.proofs.Choose.{esp, esp-cong-in}
use Rattle.rules.specs.Plan.{Plan, columns, level, entry, every_column, highest_level}
use Rattle.pairs.specs.Words.{score}
use Rattle.pairs.specs.Lists.{pair_list}
use Rattle.pairs.proofs.Laws.{pair-esp}
use Rattle.pairs.proofs.OfPlan.{of_pair}
use Rattle.cells.specs.Cells.{window, stride, cell, agrees, cell_of, pair_row}
use Rattle.cells.proofs.Bags.{eq_z, esp-map, SameBag, esp-bag}
use Rattle.cells.proofs.Radix.{digit, part-all, digit-none, digits}

-- a column's key: its level, and whether it agrees; the score is read off it
abbrev key_of : Bool → ℕ → ℤ
key_of true s = pos s
key_of false s = negsuc s

abbrev score_of : ℤ → ℤ
score_of (pos s) = pos s -ℤ pos 1
score_of (negsuc s) = negsuc 0

key-score : (b : Bool) (s : ℕ) → cond b (pos s -ℤ pos 1) (negsuc 0) ≡ score_of (key_of b s)
key-score true s = refl
key-score false s = refl

module _ {C : Type 0} (level : C → ℕ) (t : ℕ → ℕ) (a : C → Bool) where
  abbrev key : C → ℤ
  key i = key_of (a i) (level i)

  -- how often a key occurs: the digit of the level, or the other columns of the level
  agreeing : (s : ℕ) (xs : List C) → count (eq_z (pos s)) (map key xs) ≡ digit level t a s xs
  agreeing s [] = refl
  agreeing s (x ∷ xs) = rw (agreeing s xs) (go (a x) (level x) (digit level t a s xs))
    where
      no-and : (c : Bool) → (c && false) ≡ false
      no-and true = refl
      no-and false = refl

      yes_and : (c : Bool) → (c && true) ≡ c
      yes_and true = refl
      yes_and false = refl

      go : (b : Bool) (l n : ℕ) → cond (eq_z (pos s) (key_of b l)) (suc n) n ≡ cond (eqb s l && b) (suc n) n
      go true l n = rw (yes_and (eqb s l))
      go false l n = rw (no-and (eqb s l))

  differing : (s : ℕ) (xs : List C) → count (eq_z (negsuc s)) (map key xs) + digit level t a s xs ≡ count (λ i. eqb s (level i)) xs
  differing s [] = refl
  differing s (x ∷ xs) =
      rw (differs (a x) (level x))
      (go (a x) (eqb s (level x)) (count (eq_z (negsuc s)) (map key xs)) (digit level t a s xs) (count (λ i. eqb s (level i)) xs) (differing s xs))
    where
      differs : (b : Bool) (l : ℕ) → eq_z (negsuc s) (key_of b l) ≡ cond b false (eqb s l)
      differs true l = refl
      differs false l = refl

      go : (b c : Bool) (m d n : ℕ) → m + d ≡ n → cond (cond b false c) (suc m) m + cond (c && b) (suc d) d ≡ cond c (suc n) n
      go true true m d n e = omega arith
      go true false m d n e = omega arith
      go false true m d n e = omega arith
      go false false m d n e = omega arith

module _ {C : Type 0} (level : C → ℕ) (cols : List C) (a b : C → Bool) (k : ℕ) (low : (i : C) → Memᴰ i cols → level i < k) where
  same_digits : cell level cols a ≡ cell level cols b → cell level cols a < window → (s : ℕ) →
      digit level (stride level cols) a s cols ≡ digit level (stride level cols) b s cols
  unfolding cell
  same_digits e h s = go (dec_lt s k)
    where
      go : Dec (s < k) → digit level (stride level cols) a s cols ≡ digit level (stride level cols) b s cols
      go (yes l) =
          digits level cols a b k
          (part-all level (stride level cols) a k cols low ∙ e ∙ sym (part-all level (stride level cols) b k cols low))
          (rw (part-all level (stride level cols) a k cols low) h) s l
      go (no l) = digit-none level (stride level cols) a k s cols low (omega arith) ∙ sym (digit-none level (stride level cols) b k s cols low (omega arith))

  same-bag : cell level cols a ≡ cell level cols b → cell level cols a < window →
      SameBag (map (key level (stride level cols) a) cols) (map (key level (stride level cols) b) cols)
  same-bag e h (pos s) = agreeing level (stride level cols) a s cols ∙ same_digits e h s ∙ sym (agreeing level (stride level cols) b s cols)
  same-bag e h (negsuc s) =
      omega (arith, differing level (stride level cols) a s cols, differing level (stride level cols) b s cols, same_digits e h s)

  pub cell-esp : cell level cols a ≡ cell level cols b → cell level cols a < window → (j : ℕ) →
      esp j cols (λ i. cond (a i) (pos (level i) -ℤ pos 1) (negsuc 0)) ≡ esp j cols (λ i. cond (b i) (pos (level i) -ℤ pos 1) (negsuc 0))
  cell-esp e h j =
      esp-cong-in j cols (λ i m. key-score (a i) (level i))
      ∙ sym (esp-map j (key level (stride level cols) a) cols score_of)
      ∙ esp-bag score_of _ _ (same-bag e h) j
      ∙ esp-map j (key level (stride level cols) b) cols score_of
      ∙ sym (esp-cong-in j cols (λ i m. key-score (b i) (level i)))

module _ (p : Plan) (high : (i : ℕ) → i < columns p → level p i ≤ highest_level) (f g h k : ℕ) where
  -- the law: pairs of the same cell add the same to every word
  pub cell-pair : cell_of p f g ≡ cell_of p h k → cell_of p f g < window → (j : ℕ) → of_pair p f j g ≡ of_pair p h j k
  unfolding cell_of score
  cell-pair e l j =
      pair-esp (level p) (entry p) (every_column p) j f g
      ∙ cell-esp (level p) (every_column p) (agrees p f g) (agrees p h k) 17
      (λ i m. let q = mem-from 0 (columns p) m in let r = high i (omega arith) in omega arith) e l j
      ∙ sym (pair-esp (level p) (entry p) (every_column p) j h k)

  pub cell-list : cell_of p f g ≡ cell_of p h k → cell_of p f g < window → pair_list p f g ≡ pair_list p h k
  unfolding pair_list
  cell-list e l = map-from-cong 0 25 (cell-pair e l)

  pub cell_row : cell_of p f g ≡ cell_of p h k → cell_of p f g < window → pair_row p f g ≡ pair_row p h k
  unfolding pair_row
  cell_row e l = map-from-cong 1 24 (cell-pair e l)
