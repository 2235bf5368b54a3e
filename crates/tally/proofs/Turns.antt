-- The turns of the loops: a pair counted or added, the pairs of a run one after the other, and the cells added at the end.
use Rattle.exact.proofs.Ground.{List, [], ◌∷◌, ◌++◌, ◌≡◌, ◌∙◌, sym, ap, refl, subst, ℕ, ◌≤◌, ◌<◌, ◌+◌, ◌*◌, suc, zero, ◌^◌, ◌/◌, ◌%◌}
use Rattle.exact.proofs.Ground.{dec_lt, zero-add, le_trans, mul-le-mul_right, arith, pos, ℤ, nat_abs, ◌*ℤ◌, ◌+ℤ◌, +ℤ_idr, +ℤ_comm, zero-*ℤ}
use Rattle.exact.proofs.Ground.{length, get_or, take, drop, set, length-set, length-take-le, get_or-take, get_or-eq_default, replicate, length-replicate}
use Rattle.exact.specs.Lists.{from, sum}
use Rattle.exact.proofs.Numbers.{map-from-cong, length-map-from, length_from, from-snoc}
use Rattle.exact.proofs.Order.{nat_abs-*-≤}
use Rattle.exact.proofs.Sums.{sum-++, sum-cong, sum-0}
use Rattle.rules.specs.Plan.{Plan, runs, every_run, highest_product, most_columns}
use Rattle.plan.specs.Good.{Good, Sound}
use Rattle.plan.proofs.Sound.{run-mem, good-sound}
use Rattle.pairs.specs.Given.{Row, added}
use Rattle.pairs.specs.Lists.{by_length, zeros, pair_list}
use Rattle.pairs.proofs.Bound.{sum_bound}
use Rattle.pairs.proofs.OfPlan.{of_pair, sound-run, pair_small}
use Rattle.pairs.proofs.Totals.{by-length-row, added-by-length, added-assoc, added_none, added-row, totals, totals-next}
use Rattle.cells.specs.Cells.{window, cell_of, pair_row}
use Rattle.tally.specs.Tally.{added_times, Tally, Few, of_cell, worth, Counted, Lent}
use Rattle.tally.proofs.Grouped.{counted-worth, counted-tally, counted-few}

-- ---- rows

pub row-less : (b c : ℕ) (row : List ℤ) → b ≤ c → Row b row → Row c row
row-less b c row h R = record { long = R.long; small = λ k. omega (arith, R.small k) }

added-comm : (row more : List ℤ) → added row more ≡ added more row
unfolding added
added-comm row more = map-from-cong 0 24 (λ k. +ℤ_comm (get_or row k (pos 0)) (get_or more k (pos 0)))

long-added : (row more : List ℤ) → length (added row more) ≡ most_columns
unfolding added
long-added row more = length-map-from (λ k. get_or row k (pos 0) +ℤ get_or more k (pos 0)) 0 most_columns

pub zeros-added : (row more : List ℤ) → added zeros (added row more) ≡ added row more
zeros-added row more = added-comm zeros (added row more) ∙ added_none (added row more) (long-added row more)

pub times-by-length : (times : ℕ) (row : List ℤ) (F : ℕ → ℤ) → added_times times row (by_length F) ≡ added row (by_length (λ j. pos times *ℤ F j))
unfolding added_times added
times-by-length times row F = refl

pub times_none : (row more : List ℤ) → length row ≡ most_columns → added_times 0 row more ≡ row
unfolding added_times added
times_none row more long =
    map-from-cong 0 24 (λ k. ap (λ z. get_or row k (pos 0) +ℤ z) (zero-*ℤ (get_or more k (pos 0)))) ∙ added_none row long

-- ---- what the runs of a good plan are given

pub sound-one : (p : Plan) → Good p → (f : ℕ) → f < runs p → Sound p (f ∷ [])
sound-one p G f h = sound-run p (every_run p) (good-sound p G) f (run-mem p f h)

pub pair-row : (p : Plan) (f g : ℕ) → Sound p (f ∷ []) → Sound p (g ∷ []) → Row highest_product (pair_row p f g)
unfolding pair_row
pair-row p f g F G = by-length-row (λ j. of_pair p f j g) highest_product (pair_small p f g F G)

-- its sums from length 1 on
pub pair-longer : (p : Plan) (f g : ℕ) → take 24 (drop 1 (pair_list p f g)) ≡ pair_row p f g
unfolding pair_list pair_row
pair-longer p f g = refl

-- ---- one pair

module _ (p : Plan) (total : List ℤ) (counts pairs : List ℕ) (T : Tally p counts pairs) (f g : ℕ) (F : Sound p (f ∷ [])) (G : Sound p (g ∷ [])) where
  -- counted in its cell
  pub counted : (c : ℕ) → cell_of p f g ≡ c → c < length counts →
      Counted p 1 (pair_row p f g) total counts pairs total (set counts c (get_or counts c 0 + 1)) (set pairs c (f * 256 + g))
  counted c e l = record {
    gains = counted-worth p counts pairs T f g c F G e l total;
    tally = counted-tally p counts pairs T f g c F G e l;
    long = length-set counts c (get_or counts c 0 + 1);
    few = counted-few p counts pairs T f g c F G e l;
    row = λ b R. row-less b (b + 1 * highest_product) total (omega arith) R;
  }

  direct-gains : worth p (added total (pair_row p f g)) counts pairs ≡ added (worth p total counts pairs) (pair_row p f g)
  unfolding worth
  direct-gains =
      let X = by_length (λ j. sum (from 0 (length counts)) (of_cell p counts pairs j)) in
      added-assoc total (pair_row p f g) X ∙ ap (added total) (added-comm (pair_row p f g) X) ∙ sym (added-assoc total X (pair_row p f g))

  -- added at once
  pub direct : Counted p 1 (pair_row p f g) total counts pairs (added total (pair_row p f g)) counts pairs
  direct = record {
    gains = direct-gains;
    tally = T;
    long = refl;
    few = λ b B. record { most = λ c. omega (arith, B.most c) };
    row = λ b R. row-less (b + highest_product) (b + 1 * highest_product) (added total (pair_row p f g)) (omega arith)
        (added-row total (pair_row p f g) b highest_product R (pair-row p f g F G));
  }

-- ---- pairs one after the other

module _ (p : Plan) (total : List ℤ) (counts pairs : List ℕ) where
  none-gains : worth p total counts pairs ≡ added (worth p total counts pairs) zeros
  unfolding worth
  none-gains = sym (added_none (worth p total counts pairs) (long-added total (by_length (λ j. sum (from 0 (length counts)) (of_cell p counts pairs j)))))

  pub counted_none : Tally p counts pairs → Counted p 0 zeros total counts pairs total counts pairs
  counted_none T = record {
    gains = none-gains;
    tally = T;
    long = refl;
    few = λ b B. record { most = λ c. omega (arith, B.most c) };
    row = λ b R. row-less b (b + 0 * highest_product) total (omega arith) R;
  }

  module _ (total₁ : List ℤ) (counts₁ pairs₁ : List ℕ) (k : ℕ) (more : List ℤ) (C : Counted p k more total counts pairs total₁ counts₁ pairs₁) where
    pub counted-then : (total₂ : List ℤ) (counts₂ pairs₂ : List ℕ) (l : ℕ) (most : List ℤ) →
        Counted p l most total₁ counts₁ pairs₁ total₂ counts₂ pairs₂ → Counted p (k + l) (added more most) total counts pairs total₂ counts₂ pairs₂
    counted-then total₂ counts₂ pairs₂ l most D = record {
      gains = D.gains ∙ ap (λ z. added z most) C.gains ∙ added-assoc (worth p total counts pairs) more most;
      tally = D.tally;
      long = D.long ∙ C.long;
      few = λ b B. let F = D.few (b + k) (C.few b B) in record { most = λ c. omega (arith, F.most c) };
      row = λ b R. row-less (b + k * highest_product + l * highest_product) (b + (k + l) * highest_product) total₂ (omega arith)
          (D.row (b + k * highest_product) (C.row b R));
    }

    pub counted-more : (n : ℕ) → k ≤ n → Counted p n more total counts pairs total₁ counts₁ pairs₁
    counted-more n h = record {
      gains = C.gains;
      tally = C.tally;
      long = C.long;
      few = λ b B. let F = C.few b B in record { most = λ c. omega (arith, F.most c) };
      row = λ b R. row-less (b + k * highest_product) (b + n * highest_product) total₁ (omega arith) (C.row b R);
    }

-- of run f with the runs of a list, the run at place k being g
module _ (p : Plan) (rs : List ℕ) (f g k k' : ℕ) (h : k < length rs) (e : get_or rs k 0 ≡ g) (d : k + 1 ≡ k') where
  pair-next : added (totals (of_pair p f) (take k rs)) (pair_row p f g) ≡ totals (of_pair p f) (take (k + 1) rs)
  unfolding pair_row
  pair-next = rw (← e) (totals-next (of_pair p f) rs k 0 h)

  pub counted-run : {total total₁ total₂ : List ℤ} {counts pairs counts₁ pairs₁ counts₂ pairs₂ : List ℕ} →
      Counted p k (totals (of_pair p f) (take k rs)) total counts pairs total₁ counts₁ pairs₁ →
      Counted p 1 (pair_row p f g) total₁ counts₁ pairs₁ total₂ counts₂ pairs₂ →
      Counted p k' (totals (of_pair p f) (take k' rs)) total counts pairs total₂ counts₂ pairs₂
  counted-run {total} {total₁} {total₂} {counts} {pairs} {counts₁} {pairs₁} {counts₂} {pairs₂} C D =
      subst (λ (n : ℕ). Counted p n (totals (of_pair p f) (take n rs)) total counts pairs total₂ counts₂ pairs₂) d
      (subst (λ (z : List ℤ). Counted p (k + 1) z total counts pairs total₂ counts₂ pairs₂) pair-next
      (counted-then p total counts pairs total₁ counts₁ pairs₁ k (totals (of_pair p f) (take k rs)) C total₂ counts₂ pairs₂ 1 (pair_row p f g) D))

-- ---- the cells, one after the other

module _ (F : ℕ → ℕ → ℤ) where
  pub totals-from : (c : ℕ) → added (totals F (from 0 c)) (by_length (λ j. F j c)) ≡ totals F (from 0 (c + 1))
  unfolding totals
  totals-from c =
      added-by-length (λ j. sum (from 0 c) (F j)) (λ j. F j c)
      ∙ map-from-cong 1 24 (λ j.
      ap (λ z. sum (from 0 c) (F j) +ℤ z) (sym (+ℤ_idr (F j c)))
      ∙ sym (sum-++ (from 0 c) (c ∷ []) (F j))
      ∙ ap (λ l. sum l (F j)) (ap (λ k. from 0 c ++ k ∷ []) (sym (zero-add c)) ∙ sym (from-snoc 0 c)))

module _ (p : Plan) (counts pairs : List ℕ) where
  pub worth-totals : (total : List ℤ) → added total (totals (of_cell p counts pairs) (from 0 (length counts))) ≡ worth p total counts pairs
  unfolding worth totals
  worth-totals total = refl

  -- a turn adds the pairs of a cell
  pub cell-turn : (total now : List ℤ) (c : ℕ) → now ≡ added total (totals (of_cell p counts pairs) (from 0 c)) →
      added_times (get_or counts c 0) now (pair_row p (get_or pairs c 0 / 256) (get_or pairs c 0 % 256))
      ≡ added total (totals (of_cell p counts pairs) (from 0 (c + 1)))
  unfolding pair_row
  cell-turn total now c e =
      times-by-length (get_or counts c 0) now (λ j. of_pair p (get_or pairs c 0 / 256) j (get_or pairs c 0 % 256))
      ∙ ap (λ z. added z (by_length (λ j. of_cell p counts pairs j c))) e
      ∙ added-assoc total (totals (of_cell p counts pairs) (from 0 c)) (by_length (λ j. of_cell p counts pairs j c))
      ∙ ap (added total) (totals-from (of_cell p counts pairs) c)

  module _ (T : Tally p counts pairs) (B : Few 65535 counts) where
    cell-small : (j c : ℕ) → nat_abs (of_cell p counts pairs j c) ≤ 65535 * highest_product
    cell-small j c = go (dec_lt 0 (get_or counts c 0))
      where
        go : Dec (0 < get_or counts c 0) → nat_abs (of_cell p counts pairs j c) ≤ 65535 * highest_product
        go (yes h) =
            let R = T.there c h in
            nat_abs-*-≤ (pos (get_or counts c 0)) (of_pair p (get_or pairs c 0 / 256) j (get_or pairs c 0 % 256)) 65535 highest_product (B.most c)
            (pair_small p (get_or pairs c 0 / 256) (get_or pairs c 0 % 256) R.first R.second j)
        go (no h) =
            let z : get_or counts c 0 ≡ 0 = omega arith in
            rw (z, zero-*ℤ (of_pair p (get_or pairs c 0 / 256) j (get_or pairs c 0 % 256))) (omega arith)

    pub cells-row : (total : List ℤ) → Row (2 ^ 59) total → (c : ℕ) → c ≤ window → Row (2 ^ 60) (added total (totals (of_cell p counts pairs) (from 0 c)))
    unfolding totals
    cells-row total R c h =
        row-less (2 ^ 59 + 2 ^ 59) (2 ^ 60) _ (omega arith)
        (added-row total (totals (of_cell p counts pairs) (from 0 c)) (2 ^ 59) (2 ^ 59) R
        (by-length-row (λ j. sum (from 0 c) (of_cell p counts pairs j)) (2 ^ 59) (λ j.
        le_trans (sum_bound (from 0 c) (of_cell p counts pairs j) (65535 * highest_product) (λ x m. cell-small j x))
        (le_trans (mul-le-mul_right (65535 * highest_product) (let l : length (from 0 c) ≤ window = omega (arith, length_from 0 c) in l)) (omega arith)))))

-- ---- nothing counted yet

module _ (p : Plan) (counts pairs : List ℕ) (L : Lent counts pairs) where
  pub blank-worth : worth p zeros counts pairs ≡ zeros
  unfolding worth
  blank-worth =
      ap (added zeros) (map-from-cong 1 24 (λ j.
      sum-cong (from 0 (length counts)) (λ c. ap (λ n. pos n *ℤ of_pair p (get_or pairs c 0 / 256) j (get_or pairs c 0 % 256)) (L.blank c)
      ∙ zero-*ℤ (of_pair p (get_or pairs c 0 / 256) j (get_or pairs c 0 % 256)))
      ∙ sum-0 (from 0 (length counts))))
      ∙ added_none zeros refl

  pub blank-tally : Tally p counts pairs
  blank-tally = record {
    few-counts = L.few;
    long-pairs = L.alike;
    there = λ c l. absurd (omega (arith, L.blank c));
    same = λ c l. absurd (omega (arith, L.blank c));
  }

  pub blank-few : (b : ℕ) → Few b counts
  blank-few b = record { most = λ c. omega (arith, L.blank c) }

pub get_or-zeros : (n c : ℕ) → ◌≡◌ {A = ℕ} (get_or (replicate n 0) c 0) 0
get_or-zeros zero c = refl
get_or-zeros (suc n) zero = refl
get_or-zeros (suc n) (suc c) = get_or-zeros n c

pub lent-new : (n : ℕ) → n ≤ window → Lent (replicate n 0) (replicate n 0)
lent-new n h = record { few = rw (length-replicate {A = ℕ} n 0) h; alike = refl; blank = get_or-zeros n }

-- counters that are cleared are lent anew
pub cleared : (p : Plan) (counts pairs : List ℕ) → Tally p counts pairs → Lent (replicate (length counts) 0) pairs
cleared p counts pairs T = record {
  few = rw (length-replicate {A = ℕ} (length counts) 0) T.few-counts;
  alike = T.long-pairs ∙ sym (length-replicate {A = ℕ} (length counts) 0);
  blank = get_or-zeros (length counts);
}

-- the first counters alone
module _ (counts pairs : List ℕ) (L : Lent counts pairs) where
  pub lent-take : (n : ℕ) → n ≤ length counts → Lent (take n counts) (take n pairs)
  lent-take n h = record {
    few = omega (arith, length-take-le n counts h, L.few);
    alike = length-take-le n pairs (omega (arith, L.alike)) ∙ sym (length-take-le n counts h);
    blank = λ c. blank c (dec_lt c n);
  }
    where
      blank : (c : ℕ) → Dec (c < n) → get_or (take n counts) c 0 ≡ 0
      blank c (yes l) = get_or-take n counts c 0 l ∙ L.blank c
      blank c (no m) = get_or-eq_default (take n counts) 0 (omega (arith, length-take-le n counts h))

pub blank-row : (b : ℕ) → Row b zeros
blank-row b = by-length-row (λ j. pos 0) b (λ j. omega arith)

-- counters with smaller numbers
pub few-less : (b c : ℕ) (counts : List ℕ) → b ≤ c → Few b counts → Few c counts
few-less b c counts h B = record { most = λ k. omega (arith, B.most k) }
