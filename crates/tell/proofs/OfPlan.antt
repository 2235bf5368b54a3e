-- The theorem for the runs of a plan, as the routines are asked: every entry is below 16, so that 16 places hold the groups of every column.
use Rattle.exact.proofs.Ground.{◌≡◌, true, false, List, Memᴰ, ℕ, ◌<◌, arith, ◌∷◌, mem-head, mem-tail}
use mathlib.Core.Logic.{◌↔◌}
use Rattle.rules.specs.Plan.{Plan, columns, level, entry}
use Rattle.words.specs.Entries.{AllBelow}
use Rattle.tell.specs.Words.{words_figure}
use Rattle.tell.specs.Tell.{Compares, Tells, CannotTell}
use Rattle.tell.specs.Evidence.{group_of, groups, tells, most_groups}
use Rattle.tell.specs.Given.{Asked}
use Rattle.tell.proofs.Words.{words-tell, words-occur}
use Rattle.tell.proofs.Telling.{compares-iff, tells-iff, cannot-iff}

module _ (p : Plan) (rs : List ℕ) (a : ℕ) (J : List ℕ) (A : Asked p rs a J) where
  pub below-16 : (f : ℕ) → Memᴰ f rs → entry p f a < most_groups
  below-16 f m = omega (arith, A.sound.below f m a A.column, A.sound.level-high a A.column)

  pub plan-tells : Tells (entry p) rs a J ↔ (tells (entry p) a J most_groups rs ≡ true)
  plan-tells = tells-iff (entry p) rs a J most_groups below-16

  pub plan-cannot : CannotTell (entry p) rs a J ↔ (tells (entry p) a J most_groups rs ≡ false)
  plan-cannot = cannot-iff (entry p) rs a J most_groups below-16

  pub plan-compares : (x y : ℕ) → x < level p a → y < level p a →
      (Compares (entry p) rs a J x y ↔ (group_of (groups (entry p) a J most_groups rs) x ≡ group_of (groups (entry p) a J most_groups rs) y))
  plan-compares x y h k =
      let l = A.sound.level-high a A.column in compares-iff (entry p) rs a J most_groups below-16 x y (omega arith) (omega arith)

  -- every entry is below its level
  pub all-below : AllBelow (level p) (entry p) rs (a ∷ J)
  all-below i m = let l = inside i m in (A.sound.level-low i l, λ f n. A.sound.below f n i l)
    where
      inside : (i : ℕ) → Memᴰ i (a ∷ J) → i < columns p
      inside i (mem-head d) = rw d A.column
      inside i (mem-tail n) = A.others i n

  -- where the figure of the words is below 1 the answer is yes, and every level occurs
  pub plan-words : (words_figure (level p) (entry p) rs a J).num < (words_figure (level p) (entry p) rs a J).den →
      (tells (entry p) a J most_groups rs ≡ true) × ((x : ℕ) → x < level p a → (f : ℕ) × Memᴰ f rs × (entry p f a ≡ x))
  plan-words h = (plan-tells.0 (words-tell (level p) (entry p) rs a J all-below h), words-occur (level p) (entry p) rs a J all-below h)
