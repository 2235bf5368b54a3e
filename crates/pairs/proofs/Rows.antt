-- Rows of sums by word length, over plain lists: one column more, in place.
use Rattle.exact.proofs.Ground.{List, ◌++◌, ◌≡◌, ◌∙◌, sym, ap, refl, ℕ, ◌≤◌, ◌<◌, ◌+◌, suc, zero-add, add-one, arith, pos, ℤ, ◌*ℤ◌, ◌+ℤ◌}
use Rattle.exact.proofs.Ground.{*ℤ-zero, length, get_or, take, drop, set, length-drop, get_or-append, take-append-drop, length-take-le, take-suc}
use Rattle.exact.proofs.Ground.{drop-cons, get_or-take, get_or-drop, ext_get_or, append_snoc}
use lib.Seq.{set_at}
use Rattle.exact.proofs.Numbers.{length-map-from, map-from-at}
use Rattle.rules.specs.Plan.{most_columns}
use Rattle.pairs.specs.Given.{OfColumns, with_column}

-- ---- a list turned into another of the same length from its end on: the first k places are the old ones

module _ {A : Type 0} where
  -- the first k places of one list, and the other from place k on
  abbrev pub halves : List A → List A → ℕ → List A
  halves a b k = take k a ++ drop k b

module _ {A : Type 0} (a b : List A) (d : A) (alike : length a ≡ length b) where
  pub halves-left : (k i : ℕ) → k ≤ length a → i < k → get_or (halves a b k) i d ≡ get_or a i d
  halves-left k i h l = get_or-append (take k a) (drop k b) d i (rw (length-take-le k a h) l) ∙ get_or-take k a i d l

  -- a turn of a loop downward: `b` takes the place of `a`
  pub halves-down : (k : ℕ) → k < length a → set (halves a b (k + 1)) k (get_or b k d) ≡ halves a b k
  halves-down k h =
      let l : k < length b = omega arith in
      rw (add-one, drop-cons b k d l, take-suc a k d h, append_snoc)
      (set_at (take k a) (get_or a k d) (drop (suc k) b) (get_or b k d) k (length-take-le k a (omega arith)))

-- ---- one column more, downward in place: the sums above length j are the new ones

abbrev pub Partway : ℤ → List ℤ → List ℤ → ℕ → Type 0
Partway x row out j = out ≡ halves row (with_column x row) (j + 1)

pub with_column-first : (x : ℤ) (row : List ℤ) → get_or (with_column x row) 0 (pos 0) ≡ get_or row 0 (pos 0)
unfolding with_column
with_column-first x row = refl

module _ (x : ℤ) (row : List ℤ) (long : length row ≡ most_columns + 1) where
  pub length-with_column : length row ≡ length (with_column x row)
  unfolding with_column
  length-with_column = long ∙ sym (ap suc (length-map-from (λ k. get_or row (k + 1) (pos 0) +ℤ x *ℤ get_or row k (pos 0)) 0 most_columns))

  pub with_column-next : (k : ℕ) → k < most_columns → get_or (with_column x row) (k + 1) (pos 0) ≡ get_or row (k + 1) (pos 0) +ℤ x *ℤ get_or row k (pos 0)
  unfolding with_column
  with_column-next k h =
      ap (λ i. get_or (with_column x row) i (pos 0)) (add-one k)
      ∙ map-from-at (λ k. get_or row (k + 1) (pos 0) +ℤ x *ℤ get_or row k (pos 0)) 0 most_columns k (pos 0) h
      ∙ ap (λ k. get_or row (k + 1) (pos 0) +ℤ x *ℤ get_or row k (pos 0)) (zero-add k)

  pub partway-reads : (out : List ℤ) (j k : ℕ) → Partway x row out j → j ≤ most_columns → k ≤ j → get_or out k (pos 0) ≡ get_or row k (pos 0)
  partway-reads out j k e h l = rw e (halves-left row (with_column x row) (pos 0) length-with_column (j + 1) k (omega arith) (omega arith))

  -- above the columns so far both rows are zero
  pub partway-starts : (i : ℕ) → OfColumns i row → Partway x row row (i + 1)
  partway-starts i S =
      sym (take-append-drop (i + 1 + 1) row)
      ∙ ap (λ l. take (i + 1 + 1) row ++ l)
      (ext_get_or (pos 0) (drop (i + 1 + 1) row) (drop (i + 1 + 1) (with_column x row)) (simp length-drop (rw (← length-with_column))) same)
    where
      zeros : (k : ℕ) → i < k → k < most_columns → get_or row (k + 1) (pos 0) ≡ get_or (with_column x row) (k + 1) (pos 0)
      zeros k l h =
          S.above (k + 1) (omega arith)
          ∙ sym (with_column-next k h ∙ rw (S.above (k + 1) (omega arith), S.above k l) (rw (*ℤ-zero x)))

      same : (k : ℕ) → k < length (drop (i + 1 + 1) row) → get_or (drop (i + 1 + 1) row) k (pos 0) ≡ get_or (drop (i + 1 + 1) (with_column x row)) k (pos 0)
      same k h =
          let e : i + 1 + 1 + k ≡ i + 1 + k + 1 = omega arith in
          let l = length-drop (i + 1 + 1) row in
          rw (get_or-drop (i + 1 + 1) row k (pos 0), get_or-drop (i + 1 + 1) (with_column x row) k (pos 0), e) (zeros (i + 1 + k) (omega arith) (omega arith))

  pub partway-turn : (out : List ℤ) (j k : ℕ) → j ≡ k + 1 → k < most_columns → Partway x row out j →
      Partway x row (set out (k + 1) (get_or out (k + 1) (pos 0) +ℤ x *ℤ get_or out k (pos 0))) k
  partway-turn out j k d h e =
      rw (
        partway-reads out j (k + 1) e (omega arith) (omega arith),
        partway-reads out j k e (omega arith) (omega arith),
        ← (with_column-next k h),
        e,
        d,
      ) (halves-down row (with_column x row) (pos 0) length-with_column (k + 1) (omega arith))

  pub partway-ends : (out : List ℤ) (j : ℕ) → j ≡ 0 → Partway x row out j → out ≡ with_column x row
  unfolding with_column
  partway-ends out j d e = e ∙ rw d (ap (λ l. l ++ drop 1 (with_column x row)) (take-suc row 0 (pos 0) (omega arith)))
