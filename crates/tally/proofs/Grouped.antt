-- A sum over pairs, grouped by cell: a counter and one pair for each cell stand for all its pairs.
use Rattle.exact.proofs.Ground.{List, [], ◌∷◌, mem-head, ◌≡◌, ◌∙◌, sym, ap, refl, ap₂, ℕ, ◌≤◌, ◌<◌, ◌+◌, ◌*◌, suc, zero, ◌/◌, ◌%◌, dec_lt, ℕ_discrete}
use Rattle.exact.proofs.Ground.{add-one, arith, pos, ℤ, ◌*ℤ◌, ◌+ℤ◌, zero-*ℤ, +ℤ_assoc, length, get_or, set, length-set}
use lib.IntN.{suc_ℤ-*ℤ}
use lib.Seq.{get_or-set_same, get_or-set_other}
use Rattle.exact.specs.Lists.{from, sum}
use Rattle.exact.proofs.Sums.{sum-cong-in}
use Rattle.exact.proofs.Ring.{ring}
use Rattle.exact.proofs.Numbers.{mem-from, map-from-cong}
use Rattle.rules.specs.Plan.{Plan}
use Rattle.plan.specs.Good.{Sound}
use Rattle.pairs.specs.Given.{added}
use Rattle.pairs.specs.Lists.{by_length}
use Rattle.pairs.proofs.OfPlan.{of_pair}
use Rattle.pairs.proofs.Totals.{added-by-length, added-assoc}
use Rattle.cells.specs.Cells.{cell_of, pair_row}
use Rattle.cells.proofs.CellPair.{cell-pair}
use Rattle.tally.specs.Tally.{Runs, Tally, Few, of_cell, worth}

-- a sum over numbers in a row, one of whose terms gains d
gain : (f d r : ℤ) → f +ℤ d +ℤ r ≡ f +ℤ r +ℤ d
gain f d r = simp ring

sum-change : (a n c : ℕ) (F G : ℕ → ℤ) (d : ℤ) → a ≤ c → c < a + n → G c ≡ F c +ℤ d → ((i : ℕ) → ¬ (i ≡ c) → G i ≡ F i) →
    sum (from a n) G ≡ sum (from a n) F +ℤ d
sum-change a zero c F G d low high at others = absurd (omega arith)
sum-change a (suc n) c F G d low high at others = go (ℕ_discrete a c) (λ l. sum-change (suc a) n c F G d l (omega arith) at others)
  where
    go : Dec (a ≡ c) → (suc a ≤ c → sum (from (suc a) n) G ≡ sum (from (suc a) n) F +ℤ d) → G a +ℤ sum (from (suc a) n) G ≡ F a +ℤ sum (from (suc a) n) F +ℤ d
    go (yes e) later =
        ap₂ (λ x y. x +ℤ y) (ap G e ∙ at ∙ ap (λ k. F k +ℤ d) (sym e))
        (sum-cong-in (from (suc a) n) (λ i m. others i (let q = mem-from (suc a) n m in omega arith)))
        ∙ gain (F a) d (sum (from (suc a) n) F)
    go (no ne) later =
        ap₂ (λ x y. x +ℤ y) (others a ne) (later (omega arith)) ∙ sym (+ℤ_assoc (F a) (sum (from (suc a) n) F) d)

-- the pair f, g as a number
pair-first : (f g : ℕ) → g < 256 → (f * 256 + g) / 256 ≡ f
pair-first f g h = omega arith

pair-second : (f g : ℕ) → g < 256 → (f * 256 + g) % 256 ≡ g
pair-second f g h = omega arith

module _ (p : Plan) (counts pairs : List ℕ) (T : Tally p counts pairs) (f g c : ℕ)
    (F : Sound p (f ∷ [])) (G : Sound p (g ∷ [])) (e : cell_of p f g ≡ c) (l : c < length counts) where
  abbrev more : ℕ
  more = get_or counts c 0 + 1

  abbrev x : ℕ
  x = f * 256 + g

  abbrev counts' : List ℕ
  counts' = set counts c more

  abbrev pairs' : List ℕ
  pairs' = set pairs c x

  small : g < 256
  small = G.numbered g (mem-head refl)

  at_count : get_or counts' c 0 ≡ more
  at_count = get_or-set_same counts c more 0 l

  at_pair : get_or pairs' c 0 ≡ x
  at_pair = get_or-set_same pairs c x 0 (omega (arith, T.long-pairs))

  other-count : (i : ℕ) → ¬ (i ≡ c) → get_or counts' i 0 ≡ get_or counts i 0
  other-count i n = get_or-set_other counts c i more 0 n

  other-pair : (i : ℕ) → ¬ (i ≡ c) → get_or pairs' i 0 ≡ get_or pairs i 0
  other-pair i n = get_or-set_other pairs c i x 0 n

  -- the cell's pair may be exchanged for the new one
  exchanged : (j : ℕ) → of_cell p counts pairs j c ≡ pos (get_or counts c 0) *ℤ of_pair p f j g
  exchanged j = go (dec_lt 0 (get_or counts c 0))
    where
      go : Dec (0 < get_or counts c 0) → of_cell p counts pairs j c ≡ pos (get_or counts c 0) *ℤ of_pair p f j g
      go (yes m) =
          ap (λ z. pos (get_or counts c 0) *ℤ z)
          (sym (cell-pair p G.level-high f g (get_or pairs c 0 / 256) (get_or pairs c 0 % 256) (e ∙ sym (T.same c m)) (omega (arith, e, T.few-counts)) j))
      go (no m) =
          let z : get_or counts c 0 ≡ 0 = omega arith in
          ap (λ n. pos n *ℤ of_pair p (get_or pairs c 0 / 256) j (get_or pairs c 0 % 256)) z
          ∙ zero-*ℤ (of_pair p (get_or pairs c 0 / 256) j (get_or pairs c 0 % 256)) ∙ sym (zero-*ℤ (of_pair p f j g))
          ∙ ap (λ n. pos n *ℤ of_pair p f j g) (sym z)

  cell-gains : (j : ℕ) → of_cell p counts' pairs' j c ≡ of_cell p counts pairs j c +ℤ of_pair p f j g
  cell-gains j =
      ap₂ (λ n y. pos n *ℤ of_pair p (y / 256) j (y % 256)) at_count at_pair
      ∙ ap₂ (λ a b. pos (get_or counts c 0 + 1) *ℤ of_pair p a j b) (pair-first f g small) (pair-second f g small)
      ∙ ap (λ n. pos n *ℤ of_pair p f j g) (add-one (get_or counts c 0))
      ∙ suc_ℤ-*ℤ (pos (get_or counts c 0)) (of_pair p f j g)
      ∙ ap (λ z. z +ℤ of_pair p f j g) (sym (exchanged j))

  -- a pair more in its cell: the sum over the cells gains what the pair adds
  grouped : (j : ℕ) → sum (from 0 (length counts')) (of_cell p counts' pairs' j) ≡ sum (from 0 (length counts)) (of_cell p counts pairs j) +ℤ of_pair p f j g
  grouped j =
      ap (λ n. sum (from 0 n) (of_cell p counts' pairs' j)) (length-set counts c more)
      ∙ sum-change 0 (length counts) c (of_cell p counts pairs j) (of_cell p counts' pairs' j) (of_pair p f j g) (omega arith) (omega arith) (cell-gains j)
      (λ i n. ap₂ (λ k y. pos k *ℤ of_pair p (y / 256) j (y % 256)) (other-count i n) (other-pair i n))

  pub counted-worth : (total : List ℤ) → worth p total counts' pairs' ≡ added (worth p total counts pairs) (pair_row p f g)
  unfolding worth pair_row
  counted-worth total =
      let so_far : ℕ → ℤ = λ j. sum (from 0 (length counts)) (of_cell p counts pairs j) in let pairs : ℕ → ℤ = λ j. of_pair p f j g in
      ap (added total) (map-from-cong 1 24 grouped ∙ sym (added-by-length so_far pairs))
      ∙ sym (added-assoc total (by_length so_far) (by_length pairs))

  pub counted-tally : Tally p counts' pairs'
  counted-tally = record {
    few-counts = rw (length-set counts c more) T.few-counts;
    long-pairs = length-set pairs c x ∙ T.long-pairs ∙ sym (length-set counts c more);
    there = λ i h. there i h (ℕ_discrete i c);
    same = λ i h. same i h (ℕ_discrete i c);
  }
    where
      there : (i : ℕ) → 0 < get_or counts' i 0 → Dec (i ≡ c) → Runs p (get_or pairs' i 0)
      there i h (yes q) = rw (q, at_pair) (record { first = rw (pair-first f g small) F; second = rw (pair-second f g small) G })
      there i h (no n) = rw (other-pair i n) (T.there i (rw (other-count i n) at h))

      same : (i : ℕ) → 0 < get_or counts' i 0 → Dec (i ≡ c) → cell_of p (get_or pairs' i 0 / 256) (get_or pairs' i 0 % 256) ≡ i
      same i h (yes q) = rw (q, at_pair) (ap₂ (cell_of p) (pair-first f g small) (pair-second f g small) ∙ e)
      same i h (no n) = rw (other-pair i n) (T.same i (rw (other-count i n) at h))

  pub counted-few : (b : ℕ) → Few b counts → Few (b + 1) counts'
  counted-few b B = record { most = λ i. most i (ℕ_discrete i c) }
    where
      most : (i : ℕ) → Dec (i ≡ c) → get_or counts' i 0 ≤ b + 1
      most i (yes q) = rw (q, at_count) (omega (arith, B.most c))
      most i (no n) = rw (other-count i n) (omega (arith, B.most i))
