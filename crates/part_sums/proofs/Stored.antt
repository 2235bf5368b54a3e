-- The alternating sum over the parts, from what the room holds, is W(I).
use Rattle.exact.proofs.Ground.{Bool, true, false, cond, List, [], ◌∷◌, ◌≡◌, ◌∙◌, sym, ap, refl, ap₂, ℕ, ◌≤◌, ◌<◌, ◌-◌, ◌+◌, ◌*◌, suc, zero}
use Rattle.exact.proofs.Ground.{le_trans, arith, pos, ℤ, nat_abs, ◌*ℤ◌, ◌+ℤ◌, ◌-ℤ◌, negsuc, neg_ℤ, length, get_or, drop}
use native.Mathlib.Nat.{suc-sub-suc}
use Rattle.exact.specs.Lists.{sum, prod}
use Rattle.exact.proofs.Ring.{ring}
use Rattle.exact.proofs.Order.{nat_abs--}
use Rattle.exact.proofs.Sums.{sum-cong, sum-cong-in, sum-*}
use Rattle.sets.specs.Sets.{subsets}
use Rattle.sets.proofs.Parts.{Part, none, skip, keep, part_length, sum-parts, subsets-part}
use Rattle.words.specs.Words.{word_of}
use Rattle.words.specs.Entries.{AllBelow}
use Rattle.parts.specs.Parts.{sign, squared_counts, from_combinations}
use Rattle.parts.proofs.WordCounts.{word-combinations}
use Rattle.part_sums.specs.Stored.{place_in, over_stored, places}
use Rattle.part_sums.specs.Given.{highest_t, most_taken, Readable}
use Rattle.part_sums.proofs.Places.{places-mono, places-base, place-next}

one_less : (n k : ℕ) → k ≤ n → suc n - k ≡ suc (n - k)
one_less n k h = omega arith

turned : (s t : ℤ) → neg_ℤ s *ℤ t ≡ negsuc 0 *ℤ (s *ℤ t)
turned s t = simp ring

apart : (x y : ℤ) → x -ℤ y ≡ x +ℤ negsuc 0 *ℤ y
apart x y = simp ring

one : (t : ℤ) → t ≡ pos 1 *ℤ t +ℤ pos 0
one t = simp ring

-- what the room holds of the parts of I, all of which `T` values; the set of all columns stands as top
module _ (b : ℕ) (room : List ℤ) (top : ℤ) where
  abbrev pub Holding : (List ℕ → ℤ) → Bool → ℕ → List ℕ → Type 0
  Holding T whole at I = (whole ≡ true → top ≡ T I)
      × ((J : List ℕ) → Part J I → (whole ≡ true → length J < length I) → get_or room (place_in b at J) (pos 0) ≡ T J)

  pub stored-parts : (T : List ℕ → ℤ) (whole : Bool) (at : ℕ) (I : List ℕ) → Holding T whole at I →
      over_stored b room top whole at I ≡ sum (subsets I) (λ J. sign (length I - length J) *ℤ T J)
  stored-parts T true at [] (t, h) = t refl ∙ one (T [])
  stored-parts T false at [] (t, h) = h [] none (λ e. absurd (unlike e)) ∙ one (T [])
    where
      unlike : false ≡ true → ⊥
      unlike e = let z : ◌≡◌ {A = ℕ} 0 1 = ap (λ b. cond b 1 0) e in omega arith
  stored-parts T whole at (i ∷ I) (t, h) =
      let n = length I in
      let F : List ℕ → ℤ = λ J. sign (suc n - length J) *ℤ T J in
      ap₂ (λ x y. x -ℤ y)
      (stored-parts (λ J. T (i ∷ J)) whole (at * b + i + 1) I (t, λ J p l. h (i ∷ J) (keep p) (λ e. let q = l e in omega arith)))
      (stored-parts T false at I ((λ e. absurd (unlike e)), λ J p l. h J (skip p) (λ e. let q = part_length p in omega arith)))
      ∙ apart (sum (subsets I) (λ J. sign (n - length J) *ℤ T (i ∷ J))) (sum (subsets I) (λ J. sign (n - length J) *ℤ T J))
      ∙ ap₂ (λ x y. x +ℤ y)
      (sum-cong (subsets I) {f = λ J. sign (n - length J) *ℤ T (i ∷ J)} {g = λ J. F (i ∷ J)}
      (λ J. ap (λ k. sign k *ℤ T (i ∷ J)) (sym (suc-sub-suc n (length J)))))
      (sym (sum-* (subsets I) (negsuc 0) (λ J. sign (n - length J) *ℤ T J))
      ∙ sum-cong-in (subsets I) {f = λ J. negsuc 0 *ℤ (sign (n - length J) *ℤ T J)} {g = F}
      (λ J m. let l = part_length (subsets-part I J m) in sym (ap (λ k. sign k *ℤ T J) (one_less n (length J) l) ∙ turned (sign (n - length J)) (T J))))
      ∙ sym (sum-parts i I F)
    where
      unlike : false ≡ true → ⊥
      unlike e = let z : ◌≡◌ {A = ℕ} 0 1 = ap (λ b. cond b 1 0) e in omega arith

-- ---- W(I)

module _ {R : Type 0} (level : ℕ → ℕ) (entry : R → ℕ → ℕ) (runs : List R) where
  -- T(J): the product of the levels times the squared counts
  abbrev pub stored : List ℕ → ℤ
  stored J = prod J (λ i. pos (level i)) *ℤ squared_counts level entry runs J

  -- the room holds T of every part of I but I itself, and top is T of I
  pub word-stored : (b : ℕ) (room : List ℤ) (top : ℤ) (I : List ℕ) → AllBelow level entry runs I → Holding b room top stored true 0 I →
      over_stored b room top true 0 I ≡ word_of level entry runs I
  unfolding from_combinations
  word-stored b room top I v H = stored-parts b room top stored true 0 I H ∙ sym (word-combinations level entry runs I v)

-- ---- in the words of the code

module _ (b : ℕ) (room : List ℤ) (top : ℤ) (at : ℕ) where
  pub readable-with : (whole : Bool) (I : List ℕ) → 0 < length I → Readable b room top whole at I →
      Readable b room top whole (at * b + get_or I 0 0 + 1) (drop 1 I)
  readable-with whole [] h D = absurd (omega arith)
  readable-with whole (i ∷ I) h D = record {
    most = D.most;
    most-few = D.most-few;
    base-low = D.base-low;
    base-few = D.base-few;
    wide = D.wide;
    small = D.small;
    top_small = D.top_small;
    few = let q = D.few in omega arith;
    low = λ k l. D.low (suc k) (omega arith);
    behind =
        let q = D.few in
        let e : most_taken whole D.most - length I ≡ suc (most_taken whole D.most - suc (length I)) = omega arith in
        rw e (place-next b (most_taken whole D.most - suc (length I)) at i D.behind (D.low 0 (omega arith)));
  }

  pub readable-without : (whole : Bool) (I : List ℕ) → 0 < length I → Readable b room top whole at I → Readable b room top false at (drop 1 I)
  readable-without whole [] h D = absurd (omega arith)
  readable-without whole (i ∷ I) h D = record {
    most = D.most;
    most-few = D.most-few;
    base-low = D.base-low;
    base-few = D.base-few;
    wide = D.wide;
    small = D.small;
    top_small = D.top_small;
    few = one_left whole D.few;
    low = λ k l. D.low (suc k) (omega arith);
    behind = le_trans D.behind (places-mono b D.base-low (most_taken whole D.most - suc (length I)) (D.most - length I) (fewer whole));
  }
    where
      one_left : (w : Bool) → suc (length I) ≤ most_taken w D.most → length I ≤ D.most
      one_left true h = omega arith
      one_left false h = omega arith

      fewer : (w : Bool) → most_taken w D.most - suc (length I) ≤ D.most - length I
      fewer true = omega arith
      fewer false = omega arith

  pub place_inside : (I : List ℕ) → length I ≡ 0 → Readable b room top false at I → at < length room
  place_inside I e D = le_trans (let z : D.most - length I ≡ D.most = omega arith in rw z at D.behind) D.wide

  -- the place is small
  pub place-small : (whole : Bool) (I : List ℕ) → Readable b room top whole at I → at < places 25 4
  place-small whole I D =
      le_trans D.behind
      (le_trans (places-mono b D.base-low (most_taken whole D.most - length I) 4 (go whole D.most-few)) (places-base b 25 D.base-few 4))
    where
      go : (w : Bool) → D.most ≤ 3 → most_taken w D.most - length I ≤ 4
      go true h = omega arith
      go false h = omega arith

-- ---- no sum is too large

abbrev twice : ℕ → ℕ
twice zero = highest_t
twice (suc n) = twice n + twice n

stored-bound : (b : ℕ) (room : List ℤ) (top : ℤ) (whole : Bool) (at : ℕ) (I : List ℕ) → ((k : ℕ) → nat_abs (get_or room k (pos 0)) ≤ highest_t) → nat_abs top ≤ highest_t →
    nat_abs (over_stored b room top whole at I) ≤ twice (length I)
stored-bound b room top true at [] h t = t
stored-bound b room top false at [] h t = h at
stored-bound b room top whole at (i ∷ I) h t =
    omega (
      arith,
      nat_abs-- (over_stored b room top whole (at * b + i + 1) I) (over_stored b room top false at I),
      stored-bound b room top whole (at * b + i + 1) I h t,
      stored-bound b room top false at I h t,
    )

pub stored-small : (b : ℕ) (room : List ℤ) (top : ℤ) (whole : Bool) (at : ℕ) (I : List ℕ) → Readable b room top whole at I →
    nat_abs (over_stored b room top whole at I) ≤ 16 * highest_t
stored-small b room top whole at I D = omega (arith, stored-bound b room top whole at I D.small D.top_small, go (length I) (four whole D.few))
  where
    four : (w : Bool) → length I ≤ most_taken w D.most → length I ≤ 4
    four true h = omega (arith, D.most-few)
    four false h = omega (arith, D.most-few)

    go : (n : ℕ) → n ≤ 4 → twice n ≤ 16 * highest_t
    go zero h = omega arith
    go (suc zero) h = omega arith
    go (suc (suc zero)) h = omega arith
    go (suc (suc (suc zero))) h = omega arith
    go (suc (suc (suc (suc k)))) h = let e : k ≡ 0 = omega arith in rw e (omega arith)

pub over_none : (b : ℕ) (room : List ℤ) (top : ℤ) (whole : Bool) (at : ℕ) (I : List ℕ) → length I ≡ 0 →
    cond whole top (get_or room at (pos 0)) ≡ over_stored b room top whole at I
over_none b room top whole at [] e = refl
over_none b room top whole at (i ∷ I) e = absurd (omega arith)

pub over-step : (b : ℕ) (room : List ℤ) (top : ℤ) (whole : Bool) (at : ℕ) (I : List ℕ) → 0 < length I →
    over_stored b room top whole (at * b + get_or I 0 0 + 1) (drop 1 I) -ℤ over_stored b room top false at (drop 1 I) ≡ over_stored b room top whole at I
over-step b room top whole at [] h = absurd (omega arith)
over-step b room top whole at (i ∷ I) h = refl

pub readable-as : (b : ℕ) (room : List ℤ) {top top' : ℤ} (whole : Bool) (at : ℕ) {I I' : List ℕ} → top ≡ top' → I ≡ I' →
    Readable b room top' whole at I' → Readable b room top whole at I
readable-as b room whole at u v D = rw (u, v) D

pub over-as : (b : ℕ) (room : List ℤ) {top top' : ℤ} (whole : Bool) (at : ℕ) {I I' : List ℕ} → top ≡ top' → I ≡ I' →
    over_stored b room top whole at I ≡ over_stored b room top' whole at I'
over-as b room whole at u v = rw (u, v)
