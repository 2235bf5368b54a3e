-- The words after a strike or a reinstatement, from the words before and one row sum.
use Rattle.exact.proofs.Ground.{true, false, Bool, not, List, ◌∷◌, ◌++◌, ◌≡◌, ◌∙◌, sym, ap, ℕ, ◌≤◌, ◌<◌, ◌+◌, ◌^◌, arith, pos, ℤ, nat_abs, ◌*ℤ◌, ◌+ℤ◌}
use Rattle.exact.proofs.Ground.{length, get_or, set, ext_get_or}
use Rattle.exact.proofs.Ring.{neg-*}
use Rattle.exact.proofs.Order.{nat_abs-+, nat_abs-*-≤}
use Rattle.exact.proofs.Numbers.{length-map-from, map-from-at}
use Rattle.rules.specs.Plan.{Plan, level, entry, every_column, most_columns}
use Rattle.words.specs.Words.{word, row_sum, diagonal}
use Rattle.words.specs.Answers.{word_list, row_list, diagonal_list}
use Rattle.words.proofs.Laws.{strike, reinstate}
use Rattle.held.specs.Held.{standing}
use Rattle.held.specs.Given.{factor_of, changed}
use Rattle.held.proofs.Standing.{around, set_same}

module _ (p : Plan) where
  -- W_j, the row sum and E_j
  abbrev W : List ℕ → ℕ → ℤ
  W rs j = word (level p) (entry p) rs (every_column p) j

  abbrev row : List ℕ → ℕ → ℕ → ℤ
  row rs j f = row_sum (level p) (entry p) rs (every_column p) j f

  abbrev E : ℕ → ℤ
  E j = diagonal (level p) (every_column p) j

module _ (p : Plan) (marks : List Bool) (f : ℕ) (h : f < length marks) where
  -- without run f: the word less twice its row sum, plus E; with run f again: plus twice the row sum over the others, plus E
  word-changed : (b : Bool) → get_or marks f false ≡ not b → (j : ℕ) →
      W p (standing (set marks f b)) j ≡ W p (standing marks) j +ℤ factor_of b *ℤ row p (standing marks) j f +ℤ E p j
  word-changed false e j =
      let s = around marks f h in
      let d : standing marks ≡ s.before ++ f ∷ s.after = ap standing (sym (set_same marks f true e)) ∙ s.with-is in
      rw (s.without_is, d)
      (strike (level p) (entry p) s.before f s.after (every_column p) j
      ∙ ap (λ z. W p (s.before ++ f ∷ s.after) j +ℤ z +ℤ E p j) (sym (neg-* (pos 2) (row p (s.before ++ f ∷ s.after) j f))))
  word-changed true e j =
      let s = around marks f h in
      let d : standing marks ≡ s.before ++ s.after = ap standing (sym (set_same marks f false e)) ∙ s.without_is in
      rw (s.with-is, d) (reinstate (level p) (entry p) s.before f s.after (every_column p) j)

  -- the same, length by length
  pub words-changed : (b : Bool) → get_or marks f false ≡ not b →
      changed (factor_of b) (word_list p (standing marks)) (row_list p (standing marks) f) (diagonal_list p) ≡ word_list p (standing (set marks f b))
  unfolding changed word_list row_list diagonal_list
  words-changed b e =
      let new = W p (standing (set marks f b)) in
      let old : ℕ → ℤ = λ k. get_or (word_list p (standing marks)) k (pos 0) +ℤ factor_of b *ℤ get_or (row_list p (standing marks) f) k (pos 0)
      +ℤ get_or (diagonal_list p) k (pos 0) in
      ext_get_or (pos 0) _ _ (length-map-from old 0 most_columns ∙ sym (length-map-from new 1 most_columns))
      (λ k l. let i : k < most_columns = omega (arith, length-map-from old 0 most_columns) in
      map-from-at old 0 most_columns k (pos 0) i
      ∙ rw (
        let q : 0 + k ≡ k = omega arith in q,
        map-from-at (W p (standing marks)) 1 most_columns k (pos 0) i,
        map-from-at (λ j. row p (standing marks) j f) 1 most_columns k (pos 0) i,
        map-from-at (E p) 1 most_columns k (pos 0) i,
      ) (sym (word-changed b e (1 + k)))
      ∙ sym (map-from-at new 1 most_columns k (pos 0) i))

-- ---- each step fits an i64

module _ (factor word sum e : ℤ) (two : nat_abs factor ≤ 2) (a : nat_abs word ≤ 2 ^ 60) (b : nat_abs sum ≤ 2 ^ 60) (c : nat_abs e ≤ 2 ^ 60) where
  pub product-fits : nat_abs (factor *ℤ sum) ≤ 2 ^ 61
  product-fits = omega (arith, nat_abs-*-≤ factor sum 2 (2 ^ 60) two b)

  pub word_fits : nat_abs (word +ℤ factor *ℤ sum) ≤ 2 ^ 62
  word_fits = omega (arith, product-fits, nat_abs-+ word (factor *ℤ sum))

  pub changed-fits : nat_abs (word +ℤ factor *ℤ sum +ℤ e) < 2 ^ 63
  changed-fits = omega (arith, word_fits, nat_abs-+ (word +ℤ factor *ℤ sum) e)
