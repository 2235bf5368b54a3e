-- Row sums filled pair by pair: the rows of the first k places of a list, over the first k runs. The pairs of a run with itself come at the end.
use Rattle.exact.proofs.Ground.{List, [], ◌∷◌, map, ◌++◌, ◌≡◌, ◌∙◌, sym, ap, refl, ℕ, ◌≤◌, ◌<◌, ◌+◌, ◌^◌, zero-add, arith, ℤ, ◌+ℤ◌, ◌-ℤ◌, length, get_or, take}
use Rattle.exact.proofs.Ground.{drop, replicate, set, get_or-append, length-replicate, drop_at, take-length, take-append-drop, drop-cons, add-one}
use Rattle.exact.specs.Lists.{from, sum}
use Rattle.exact.proofs.Sums.{sum-at, sum-++}
use Rattle.exact.proofs.Numbers.{map-from-at, map-from-cong}
use Rattle.exact.proofs.Order.{nat_abs--}
use Rattle.exact.proofs.Ring.{ring}
use Rattle.exact.proofs.Rooms.{begun, length-numbered, length-begun, write-next, read_next}
use Rattle.rules.specs.Plan.{Plan, level, entry, every_column, most_runs}
use Rattle.plan.specs.Good.{Sound}
use Rattle.pairs.specs.Words.{row_sum, diagonal}
use Rattle.pairs.specs.Given.{Row, added}
use Rattle.words.specs.Given.{others_list, others_by_place}
use Rattle.words.specs.Answers.{by_length, zeros, row_list, diagonal_list}
use Rattle.words.specs.declared.Sums.{Sums}
use Rattle.pairs.proofs.Laws.{pair-self, pair-sym, row-pairs}
use Rattle.pairs.proofs.Totals.{by-length-row, added-by-length, sum-next}
use Rattle.pairs.proofs.OfPlan.{of_pair, row_small, diagonal-small}

module _ (p : Plan) where
  abbrev row : List ℕ → ℕ → ℕ → ℤ
  row rs f j = row_sum (level p) (entry p) rs (every_column p) j f

  abbrev own : ℕ → ℤ
  own j = diagonal (level p) (every_column p) j

  module _ (rs : List ℕ) (k : ℕ) (h : k < length rs) where
    row_next : (f j : ℕ) → row (take k rs) f j +ℤ of_pair p f j (get_or rs k 0) ≡ row (take (k + 1) rs) f j
    row_next f j =
        ap (λ z. z +ℤ of_pair p f j (get_or rs k 0)) (row-pairs (level p) (entry p) (take k rs) (every_column p) j f)
        ∙ sum-next rs k 0 h (of_pair p f j)
        ∙ sym (row-pairs (level p) (entry p) (take (k + 1) rs) (every_column p) j f)

    -- the run at place k, over the runs before it
    pub others-first : row_list p (take k rs) (get_or rs k 0) ≡ others_list p (take (k + 1) rs) (get_or rs k 0)
    unfolding row_list others_list
    others-first =
        let f = get_or rs k 0 in
        let each : (j : ℕ) → row (take k rs) f j ≡ row (take (k + 1) rs) f j -ℤ diagonal (level p) (every_column p) j =
        λ j. rw (← (row_next f j), pair-self (level p) (entry p) (every_column p) j f) (simp ring) in
        map-from-cong 1 24 each

    -- the run f at an earlier place has a pair more, which adds to it what it adds to the run at place k
    pub others-next : (f : ℕ) → added (others_list p (take k rs) f) (by_length (λ j. of_pair p (get_or rs k 0) j f)) ≡ others_list p (take (k + 1) rs) f
    unfolding others_list
    others-next f =
        let g = get_or rs k 0 in
        let each : (j : ℕ) → (row (take k rs) f j -ℤ own j) +ℤ of_pair p g j f ≡ row (take (k + 1) rs) f j -ℤ own j =
        λ j. rw (← (row_next f j), pair-sym (level p) (entry p) (every_column p) j g f) (simp ring) in
        added-by-length (λ j. row (take k rs) f j -ℤ own j) (λ j. of_pair p g j f) ∙ map-from-cong 1 24 each

  -- the run at place k, over the runs before it and after it
  pub others-split : (rs : List ℕ) (k : ℕ) → k < length rs →
      added (row_list p (take k rs) (get_or rs k 0)) (row_list p (drop (k + 1) rs) (get_or rs k 0)) ≡ others_list p rs (get_or rs k 0)
  unfolding row_list others_list
  others-split rs k h =
      let f = get_or rs k 0 in let before = take k rs in let after = drop (k + 1) rs in
      let whole : rs ≡ before ++ f ∷ after
      = sym (take-append-drop k rs) ∙ ap (λ qs. before ++ qs) (drop-cons rs k 0 h ∙ ap (λ n. f ∷ drop n rs) (sym (add-one k))) in
      let all : (j : ℕ) → row rs f j ≡ own j +ℤ (row before f j +ℤ row after f j) = λ j.
      row-pairs (level p) (entry p) rs (every_column p) j f
      ∙ ap (λ qs. sum qs (of_pair p f j)) whole
      ∙ sum-at before f after (of_pair p f j)
      ∙ rw (
        pair-self (level p) (entry p) (every_column p) j f,
        sum-++ before after (of_pair p f j),
        row-pairs (level p) (entry p) before (every_column p) j f,
        row-pairs (level p) (entry p) after (every_column p) j f,
      ) in
      let each : (j : ℕ) → row before f j +ℤ row after f j ≡ row rs f j -ℤ own j = λ j. rw (all j) (simp ring) in
      added-by-length (λ j. row before f j) (λ j. row after f j) ∙ map-from-cong 1 24 each

  -- at the end the pair of run f with itself
  pub others-own : (rs : List ℕ) (f : ℕ) → added (others_list p rs f) (diagonal_list p) ≡ row_list p rs f
  unfolding row_list others_list diagonal_list
  others-own rs f =
      let each : (j : ℕ) → (row rs f j -ℤ own j) +ℤ own j ≡ row rs f j = λ j. simp ring in
      added-by-length (λ j. row rs f j -ℤ own j) own ∙ map-from-cong 1 24 each

  pub others-row : (rs : List ℕ) → Sound p rs → (f : ℕ) → Sound p (f ∷ []) → Row (2 ^ 61) (others_list p rs f)
  unfolding others_list
  others-row rs S f F =
      by-length-row (λ j. row rs f j -ℤ own j) (2 ^ 61)
      (λ j. omega (arith, nat_abs-- (row rs f j) (own j), row_small p rs S f F j, diagonal-small p rs S j))

-- ---- the rows by place

-- what the logic reads past the end of the rows
abbrev pub past : Sums
past = record { sums = [] }

abbrev blank : List Sums
blank = replicate most_runs (record { sums = zeros })

module _ (p : Plan) (rs : List ℕ) where
  -- the row at place i, over the first k runs
  abbrev pub row_at : ℕ → ℕ → Sums
  row_at k i = record { sums = others_list p (take k rs) (get_or rs i 0) }

  -- the first k places have their pairs
  abbrev pub paired : ℕ → List Sums
  paired k = begun (row_at k) blank k

  -- the first e of them have their pair with the run at place k too
  abbrev pub pairing : ℕ → ℕ → List Sums
  pairing k e = begun (row_at (k + 1)) (paired k) e

  pub paired-all : paired (length rs) ≡ others_by_place p rs
  unfolding others_by_place
  paired-all =
      ap (λ qs. map (λ k. record { sums = others_list p qs (get_or rs k 0) }) (from 0 (length rs)) ++ drop (length rs) blank) (take-length rs)

  -- the rows of the first k places, whole
  abbrev pub placed : ℕ → List Sums
  placed k = begun (λ i. record { sums = others_list p rs (get_or rs i 0) }) blank k

  pub placed-next : (k : ℕ) → k < most_runs → set (placed k) k (record { sums = others_list p rs (get_or rs k 0) }) ≡ placed (k + 1)
  placed-next k h = write-next (λ i. record { sums = others_list p rs (get_or rs i 0) }) blank k past h

  pub placed-all : placed (length rs) ≡ others_by_place p rs
  unfolding others_by_place
  placed-all = refl

  pub length-others : length rs ≤ most_runs → length (others_by_place p rs) ≡ most_runs
  length-others h =
      ap length (sym placed-all)
      ∙ length-begun (λ i. record { sums = others_list p rs (get_or rs i 0) }) blank (length rs) (omega (arith, length-replicate most_runs (row_at 0 0)))
      ∙ length-replicate {A = Sums} most_runs (record { sums = zeros })

  paired_at : (k i : ℕ) → i < k → get_or (paired k) i past ≡ row_at k i
  paired_at k i h =
      get_or-append (map (row_at k) (from 0 k)) (drop k blank) past i (rw (length-numbered (row_at k) k) h)
      ∙ map-from-at (row_at k) 0 k i past h
      ∙ ap (row_at k) (zero-add i)

  pub others-at : (k : ℕ) → k < length rs → get_or (others_by_place p rs) k past ≡ record { sums = others_list p rs (get_or rs k 0) }
  others-at k h =
      ap (λ rows. get_or rows k past) (sym paired-all)
      ∙ paired_at (length rs) k h
      ∙ ap (λ qs. record { sums = others_list p qs (get_or rs k 0) }) (take-length rs)

  module _ (k : ℕ) (h : k < most_runs) where
    length-paired : length (paired k) ≡ most_runs
    length-paired = length-begun (row_at k) blank k (omega (arith, length-replicate most_runs (row_at 0 0))) ∙ length-replicate most_runs (row_at 0 0)

    pub pairing-reads : (e : ℕ) → e < k → get_or (pairing k e) e past ≡ row_at k e
    pairing-reads e l = read_next (row_at (k + 1)) (paired k) e past (omega (arith, length-paired)) ∙ paired_at k e l

    pub pairing-next : (e : ℕ) → e < k → set (pairing k e) e (row_at (k + 1) e) ≡ pairing k (e + 1)
    pairing-next e l = write-next (row_at (k + 1)) (paired k) e past (omega (arith, length-paired))

    -- all of them, and the row at place k itself
    pub paired-next : set (pairing k k) k (row_at (k + 1) k) ≡ paired (k + 1)
    paired-next =
        ap (λ rows. set (map (row_at (k + 1)) (from 0 k) ++ rows) k (row_at (k + 1) k))
        (drop_at (map (row_at k) (from 0 k)) (drop k blank) k (length-numbered (row_at k) k))
        ∙ write-next (row_at (k + 1)) blank k past h
