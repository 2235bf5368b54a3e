-- The words of column a with every part of J, added up, from one sum over the pairs of runs: those of different cells add nothing, and those
-- of one cell add the score of column a times the levels of J.
use Rattle.exact.proofs.Ground.{true, false, Bool, cond, ◌&&◌, List, [], ◌∷◌, Memᴰ, ◌≡◌, ◌∙◌, sym, ap, refl, ap₂, ℕ, ◌≤◌, ◌<◌, ◌-◌, ◌*◌}
use Rattle.exact.proofs.Ground.{le_trans, arith, eqb, eqb→eq, pos, ℤ, nat_abs, ◌*ℤ◌, ◌+ℤ◌, *ℤ-zero, length, get_or, drop, length-drop, drop-length}
use lib.IntN.{*ℤ_comm}
use Rattle.exact.specs.Lists.{sum, prod}
use Rattle.exact.proofs.Ring.{*-one}
use Rattle.exact.proofs.Lists.{drop-back, mem-drop}
use Rattle.exact.proofs.Numbers.{mul-below}
use Rattle.exact.proofs.Sums.{sum-cong, prod-cong, sum-*, sum-swap}
use Rattle.exact.proofs.Tests.{is_true, true-is, both}
use Rattle.exact.proofs.Order.{nat_abs-*-≤}
use Rattle.rules.specs.Plan.{Plan, level, entry, most_runs, highest_product}
use Rattle.sets.specs.Sets.{subsets}
use Rattle.sets.proofs.Choose.{sum-subsets}
use Rattle.words.specs.Words.{score, score_at, word_of}
use Rattle.words.proofs.Laws.{eqb-sym, score-sym, score-same, total-with}
use Rattle.words.proofs.Squares.{agree_same}
use Rattle.words.proofs.Bound.{sum_bound, score-bound}
use Rattle.counts.specs.Numbered.{product_of}
use Rattle.counts.proofs.Ceiling.{both as met, score-plus}
use Rattle.set_words.specs.Given.{Projection}
use Rattle.tell.specs.Words.{mixed_words}
use Rattle.tell.specs.Evidence.{agree}
use Rattle.tell.specs.Given.{Asked, cell_score}
use Rattle.tell.proofs.Cells.{cell_agree}
use Rattle.tell.proofs.Words.{cells-apart}
use Rattle.words.proofs.Squares as squares

module _ {R C : Type 0} (level : C → ℕ) (entry : R → C → ℕ) (rs : List R) where
  -- the product of the levels
  abbrev levels : List C → ℤ
  levels K = prod K (λ i. pos (level i))

  levels-product : (K : List C) → levels K ≡ pos (product_of level K)
  levels-product [] = refl
  levels-product (i ∷ K) = ap (λ z. pos (level i) *ℤ z) (levels-product K)

  -- runs in one cell
  cells-met : (K : List C) (f g : R) → agree entry K f g ≡ true → prod K (met level entry rs f g) ≡ levels K
  cells-met [] f g e = refl
  cells-met (i ∷ K) f g e =
      let (p, q) = both (eqb (entry f i) (entry g i)) (agree entry K f g) (true-is _ e) in
      let same : squares.agree (entry f i) (entry g i) ≡ pos 1
      = ap (λ x. squares.agree x (entry g i)) (eqb→eq (entry f i) (entry g i) p) ∙ agree_same (entry g i) in
      ap₂ (λ x y. x *ℤ y) (ap (λ z. pos (level i) *ℤ z) same ∙ *-one (pos (level i))) (cells-met K f g (is_true _ q))

  agree-sym : (K : List C) (f g : R) → agree entry K f g ≡ agree entry K g f
  agree-sym [] f g = refl
  agree-sym (i ∷ K) f g = ap₂ (λ x y. x && y) (eqb-sym (entry f i) (entry g i)) (agree-sym K f g)

  module _ (a : C) (J : List C) where
    -- the score of column a in one cell
    abbrev scored : R → R → ℤ
    scored f g = cond (agree entry J f g) (score_at level entry f g a) (pos 0)

    one-pair : (f g : R) → sum (subsets J) (λ K. prod (a ∷ K) (score_at level entry f g)) ≡ levels J *ℤ scored f g
    one-pair f g =
        sum-* (subsets J) (score_at level entry f g a) (λ K. prod K (score_at level entry f g))
        ∙ ap (λ z. score_at level entry f g a *ℤ z)
        (sum-subsets J (score_at level entry f g) ∙ prod-cong J (λ i. score-plus (level i) (entry f i) (entry g i)))
        ∙ go (agree entry J f g) refl
      where
        go : (b : Bool) → agree entry J f g ≡ b →
            score_at level entry f g a *ℤ prod J (met level entry rs f g) ≡ levels J *ℤ cond b (score_at level entry f g a) (pos 0)
        go true e = ap (λ z. score_at level entry f g a *ℤ z) (cells-met J f g e) ∙ *ℤ_comm (score_at level entry f g a) (levels J)
        go false e =
            ap (λ z. score_at level entry f g a *ℤ z) (cells-apart level entry rs J f g e)
            ∙ *ℤ-zero (score_at level entry f g a) ∙ sym (*ℤ-zero (levels J))

    pub mixed-pairs : mixed_words level entry rs a J ≡ pos (product_of level J) *ℤ sum rs (λ f. sum rs (scored f))
    unfolding mixed_words word_of
    mixed-pairs =
        sum-swap (subsets J) rs (λ K f. sum rs (λ g. prod (a ∷ K) (score_at level entry f g)))
        ∙ sum-cong rs (λ f. sum-swap (subsets J) rs (λ K g. prod (a ∷ K) (score_at level entry f g))
        ∙ sum-cong rs (λ g. one-pair f g) ∙ sum-* rs (levels J) (scored f))
        ∙ sum-* rs (levels J) (λ f. sum rs (scored f))
        ∙ ap (λ z. z *ℤ sum rs (λ f. sum rs (scored f))) (levels-product J)

    pub scored-sym : (f g : R) → scored f g ≡ scored g f
    scored-sym f g =
        ap₂ (λ b z. cond b z (pos 0)) (agree-sym J f g) (score-sym (level a) (entry f a) (entry g a))

    -- a run with itself
    pub scored-same : (f : R) (x : ℕ) → scored f f ≡ score (level a) x x
    scored-same f x =
        rw (cell_agree entry J f f refl) (score-same (level a) (entry f a) ∙ sym (score-same (level a) x))

-- ---- of the runs of a plan: how large the sums are, and the turns of two loops from the last run down

-- no score is larger
abbrev pub most_score : ℕ
most_score = 15

module _ (p : Plan) (a : ℕ) (J : List ℕ) (f g : ℕ) where
  pub score-apart : agree (entry p) J f g ≡ false → pos 0 ≡ cell_score p a J f g
  score-apart e = rw e

  pub score-met : (x y : ℕ) → x ≡ entry p f a → y ≡ entry p g a → agree (entry p) J f g ≡ true → score (level p a) x y ≡ cell_score p a J f g
  score-met x y c d e = rw (c, d, e)

-- over all ordered pairs of the runs from place k on
abbrev pub scores_from : Plan → List ℕ → ℕ → List ℕ → ℕ → ℤ
scores_from p rs a J k = sum (drop k rs) (λ f. sum (drop k rs) (cell_score p a J f))

module _ (p : Plan) (rs : List ℕ) (a : ℕ) (J : List ℕ) (A : Asked p rs a J) where
  score-small : (f g : ℕ) → Memᴰ f rs → Memᴰ g rs → nat_abs (cell_score p a J f g) ≤ most_score
  score-small f g m n = go (agree (entry p) J f g)
    where
      go : (b : Bool) → nat_abs (cond b (score_at (level p) (entry p) f g a) (pos 0)) ≤ most_score
      go true =
          let S = A.sound in
          omega (
            arith,
            score-bound (level p a) (entry p f a) (entry p g a) (S.below f m a A.column) (S.below g n a A.column),
            S.level-high a A.column,
          )
      go false = omega arith

  few-left : (k : ℕ) → length (drop k rs) ≤ most_runs
  few-left k = omega (arith, length-drop k rs, A.sound.few)

  pub row_small : (f : ℕ) → Memᴰ f rs → (k : ℕ) → nat_abs (sum (drop k rs) (cell_score p a J f)) ≤ most_runs * most_score
  row_small f m k =
      le_trans (sum_bound (drop k rs) (cell_score p a J f) most_score (λ g n. score-small f g m (mem-drop k rs g n)))
      (mul-below (length (drop k rs)) most_score most_runs most_score (few-left k) (omega arith))

  pub row-turn : (f k : ℕ) → 0 < k → k ≤ length rs →
      cell_score p a J f (get_or rs (k - 1) 0) +ℤ sum (drop k rs) (cell_score p a J f) ≡ sum (drop (k - 1) rs) (cell_score p a J f)
  row-turn f k h l = sym (ap (λ l. sum l (cell_score p a J f)) (drop-back rs k 0 h l))

  pub row-none : (f : ℕ) → pos 0 ≡ sum (drop (length rs) rs) (cell_score p a J f)
  row-none f = rw drop-length

  pub scores-none : pos 0 ≡ scores_from p rs a J (length rs)
  scores-none = rw drop-length

  pub scores-small : (k : ℕ) → nat_abs (scores_from p rs a J k) ≤ most_runs * (most_runs * most_score)
  scores-small k =
      le_trans (sum_bound (drop k rs) (λ f. sum (drop k rs) (cell_score p a J f)) (most_runs * most_score) (λ f m. row_small f (mem-drop k rs f m) k))
      (mul-below (length (drop k rs)) (most_runs * most_score) most_runs (most_runs * most_score) (few-left k) (omega arith))

  -- a run more: its pairs with the later runs counted double, and the pair with itself
  pub scores-turn : (k x : ℕ) → 0 < k → k ≤ length rs →
      scores_from p rs a J k +ℤ pos 2 *ℤ sum (drop k rs) (cell_score p a J (get_or rs (k - 1) 0)) +ℤ score (level p a) x x ≡ scores_from p rs a J (k - 1)
  scores-turn k x h l =
      let f = get_or rs (k - 1) 0 in
      ap (λ z. scores_from p rs a J k +ℤ pos 2 *ℤ sum (drop k rs) (cell_score p a J f) +ℤ z) (sym (scored-same (level p) (entry p) rs a J f x))
      ∙ rw (drop-back rs k 0 h l) (sym (total-with (cell_score p a J) (scored-sym (level p) (entry p) rs a J) [] f (drop k rs)))

  -- all of them together
  pub mixed-small : Projection p J → nat_abs (mixed_words (level p) (entry p) rs a J) ≤ highest_product * (most_runs * (most_runs * most_score))
  mixed-small P =
      rw (mixed-pairs (level p) (entry p) rs a J)
      (nat_abs-*-≤ (pos (product_of (level p) J)) (scores_from p rs a J 0) highest_product (most_runs * (most_runs * most_score)) P.small (scores-small 0))
