-- The room, once filled over all columns, holds T of every set of up to k of them; so W(I) of k + 1 columns is the sum over it.
use Rattle.exact.proofs.Ground.{true, List, [], ◌∷◌, Memᴰ, mem-not_nil, ◌≡◌, ◌∙◌, sym, ap, refl, subst, ℕ, ◌≤◌, ◌<◌, ◌-◌, ◌+◌, suc, zero}
use Rattle.exact.proofs.Ground.{le_trans, arith, pos, ℤ, nat_abs, ◌*ℤ◌, length, get_or, set, take, replicate, length-map, length-set, mem-of_map}
use Rattle.exact.proofs.Ground.{Bool, false, cond, eqb, ◌++◌, ◌/◌, ◌%◌, length-append}
use native.Mathlib.Nat.{mod-lt}
use lib.Seq.{get_or-set_same}
use Rattle.exact.specs.Lists.{from, prod}
use Rattle.exact.proofs.Members.{get_or-mem}
use Rattle.exact.proofs.Numbers.{mem-from, length_from}
use Rattle.exact.proofs.Ring.{ring}
use Rattle.rules.specs.Plan.{Plan, columns, level, entry}
use Rattle.plan.specs.Good.{Sound}
use Rattle.sets.proofs.Parts.{Part, part-mem, part-trans, part_length, choose-part}
use Rattle.words.specs.Words.{word_of}
use Rattle.counts.specs.Numbered.{product_of, number_of}
use Rattle.counts.proofs.Turns.{number-one}
use Rattle.parts.specs.Parts.{squares_of, squared_counts}
use Rattle.parts.proofs.FromCounts.{combinations-few}
use Rattle.parts.proofs.OnlyWord.{only-numbers}
use Rattle.part_sums.specs.Counters.{Numbers}
use Rattle.part_sums.specs.Stored.{numbers_in, stored_of, stored_at, place_in, columns_at, filled_by, over_stored}
use Rattle.part_sums.specs.Given.{highest_t, Inside, Counting, Filling, Kept, Readable, Worded}
use Rattle.part_sums.proofs.Places.{Low, place-bound, places-mono, columns-place}
use Rattle.part_sums.proofs.Filling.{filled-long, filled_keeps, filled-holds, set_keeps, stored-small, stored_is, snoc-mem}
use Rattle.part_sums.proofs.Stored.{stored, word-stored}

product-levels : (level : ℕ → ℕ) (I : List ℕ) → prod I (λ i. pos (level i)) ≡ pos (product_of level I)
product-levels level [] = refl
product-levels level (i ∷ I) = ap (λ z. pos (level i) *ℤ z) (product-levels level I)

-- every place is that of columns of the plan
columns-inside : (p : Plan) (n x : ℕ) → 1 ≤ columns p → Inside p (columns_at (columns p + 1) n x) × (length (columns_at (columns p + 1) n x) ≤ n)
columns-inside p zero x some = ((λ i m. absurd (mem-not_nil m)), omega arith)
columns-inside p (suc n) x some = go (eqb x 0) (columns-inside p n (x / (columns p + 1)) some)
  where
    go : (c : Bool) → let b = columns p + 1 in Inside p (columns_at b n (x / b)) × (length (columns_at b n (x / b)) ≤ n) →
        let J = cond c [] (columns_at b n (x / b) ++ (x % b - 1) ∷ []) in Inside p J × (length J ≤ suc n)
    go true q = ((λ i m. absurd (mem-not_nil m)), omega arith)
    go false (v, l) =
        let b = columns p + 1 in (
          snoc-mem (columns_at b n (x / b)) (x % b - 1) (λ i. i < columns p) v (omega (arith, mod-lt x {m = b} (omega arith))),
          omega (arith, length-append (columns_at b n (x / b)) ((x % b - 1) ∷ [])),
        )

-- a part of all columns
part-inside : (p : Plan) (K : List ℕ) → Part K (from 0 (columns p)) → Inside p K
part-inside p K q i m = omega (arith, mem-from 0 (columns p) (part-mem q i m))

module _ (p : Plan) (rs : List ℕ) (base k : ℕ) (room : List ℤ) (K : Kept p rs base k room) where
  abbrev U : ℕ → ℤ
  U = stored_at base p rs

  abbrev first : List ℤ
  first = set K.before 0 (U 0)

  low : (J : List ℕ) → Part J (from 0 (columns p)) → Low base J
  low J q i m = omega (arith, part-inside p J q i m, K.base-is)

  some : 1 ≤ base
  some = omega (arith, K.base-is)

  place-held : (J : List ℕ) → Part J (from 0 (columns p)) → length J ≤ k → place_in base 0 J < length first
  place-held J q h =
      rw (length-set K.before 0 (U 0))
      (le_trans (place-bound base J 0 0 (low J q) (omega arith)) (le_trans (places-mono base some (length J + 0) k (omega arith)) K.wide))

  -- T of every set of up to k columns is in its place
  pub kept : (J : List ℕ) → Part J (from 0 (columns p)) → length J ≤ k → get_or room (place_in base 0 J) (pos 0) ≡ stored_of p rs J
  kept J q h = ap (λ r. get_or r (place_in base 0 J) (pos 0)) K.filled ∙ there J q h ∙ ap (stored_of p rs) (columns-place base J (low J q) 4 (omega (arith, K.few)))
    where
      there : (J : List ℕ) → Part J (from 0 (columns p)) → length J ≤ k →
          get_or (filled_by base U k 0 (from 0 (columns p)) first) (place_in base 0 J) (pos 0) ≡ U (place_in base 0 J)
      there [] q h =
          filled_keeps base U (λ x z. z ≡ U x) (λ x. refl) k 0 (from 0 (columns p)) first 0
          (get_or-set_same K.before 0 (U 0) (pos 0) (rw (length-set K.before 0 (U 0)) at (place-held [] q h)))
      there (j ∷ J) q h = filled-holds base U k 0 (from 0 (columns p)) first (λ J q l. place-held J q l) (j ∷ J) q (omega arith) h

  -- the stored numbers are the products of the sum over the parts
  stored-counts : Sound p rs → (J : List ℕ) → Inside p J → length J ≤ 4 → stored_of p rs J ≡ stored (level p) (entry p) rs J
  unfolding stored_of
  stored-counts S J v h =
      let few = combinations-few (level p) J h (λ i m. S.level-high i (v i m)) in
      ap (λ z. pos (product_of (level p) J) *ℤ z) (only-numbers (level p) (entry p) rs J (λ f m i n. S.below f m i (v i n)) few)
      ∙ ap (λ y. y *ℤ squared_counts (level p) (entry p) rs J) (sym (product-levels (level p) J))

  module _ (S : Sound p rs) (top : ℤ) (I : List ℕ) (t : top ≡ stored_of p rs I) (q : Part I (from 0 (columns p))) (h : length I ≡ suc k) where
    -- W(I): the alternating sum over the room, with T of all columns as top
    pub word_kept : over_stored base room top true 0 I ≡ word_of (level p) (entry p) rs I
    word_kept =
        word-stored (level p) (entry p) rs base room top I
        (λ i n. (S.level-low i (part-inside p I q i n), λ f m. S.below f m i (part-inside p I q i n))) (
          (λ b. t ∙ stored-counts S I (part-inside p I q) (omega (arith, K.few))),
          λ J r l.
              let s = part-trans r q in
              let fewer : length J ≤ k = let d = l refl in omega arith in
              kept J s fewer ∙ stored-counts S J (part-inside p J s) (omega (arith, K.few)),
        )

    U-small : (x : ℕ) → nat_abs (stored_at (columns p + 1) p rs x) ≤ highest_t
    U-small x =
        let (v, l) = columns-inside p 4 x (omega (arith, part_length q, length_from 0 (columns p))) in
        stored-small p rs S (columns_at (columns p + 1) 4 x) v l

    pub kept-readable : Readable base room top true 0 I
    kept-readable = record {
      most = k;
      most-few = K.few;
      base-low = some;
      base-few = omega (arith, K.base-is, S.columns-high);
      wide = rw K.filled (rw (filled-long base U k 0 (from 0 (columns p)) first, length-set K.before 0 (U 0)) K.wide);
      small = λ x.
          rw (K.filled, K.base-is) (filled_keeps (columns p + 1) (stored_at (columns p + 1) p rs) (λ x z. nat_abs z ≤ highest_t) U-small k 0 (from 0 (columns p)) _ x
          (set_keeps (columns p + 1) (stored_at (columns p + 1) p rs) (λ x z. nat_abs z ≤ highest_t) U-small K.before 0 x (K.small x)));
      top_small = rw t (stored-small p rs S I (part-inside p I q) (omega (arith, K.few)));
      few = omega arith;
      low = λ j l. low I q _ (get_or-mem I j 0 l);
      behind = let e : suc k - length I ≡ 0 = omega arith in rw e (omega arith);
    }

-- ---- before any column is taken

pub no-numbers : (p : Plan) (rs : List ℕ) (k : ℕ) → length rs ≤ k → take (length rs) (replicate {A = ℕ} k 0) ≡ numbers_in p rs []
no-numbers p [] k h = refl
no-numbers p (f ∷ rs) zero h = absurd (omega arith)
no-numbers p (f ∷ rs) (suc k) h = ap (λ l. 0 ∷ l) (no-numbers p rs k (omega arith))

module _ (p : Plan) (rs : List ℕ) (k : ℕ) (ds all counters : List ℕ) (C : Counting p rs k ds all counters) where
  pub none_below : Numbers 1 (numbers_in p rs [])
  none_below = record {
    few = rw (length-map rs (λ f. number_of (level p) (entry p) f [])) C.sound.few;
    below = λ x m. let (f, n, e) = mem-of_map (λ f. number_of (level p) (entry p) f []) rs m in omega (arith, e);
  }

  pub one-enough : 1 ≤ length counters
  one-enough = C.enough [] (λ i m. absurd (mem-not_nil m)) (omega arith)

  pub stored-none : (z : ℤ) → z ≡ squares_of (numbers_in p rs []) → z ≡ stored_at (columns p + 1) p rs 0
  stored-none z e = unit z ∙ stored_is p rs [] 1 z refl e
    where
      unit : (z : ℤ) → z ≡ pos 1 *ℤ z
      unit z = simp ring

  pub filling-start : (xs cs : List ℕ) → cs ≡ from 0 (columns p) → xs ≡ numbers_in p rs [] → Filling p rs cs k k (columns p + 1) 0 1 xs
  filling-start xs cs a e = record {
    taken = [];
    begun = record {
      taken-inside = λ i m. absurd (mem-not_nil m);
      inside = λ i m. omega (arith, mem-from 0 (columns p) (subst (λ cs. Memᴰ i cs) a m));
      few = omega arith;
      numbers-are = e;
      product_is = refl;
    };
    place = refl;
    base-is = refl;
  }

-- ---- a set of f columns

module _ (p : Plan) (rs : List ℕ) (f : ℕ) (ds all counters : List ℕ) (C : Counting p rs f ds all counters)
    (I : List ℕ) (product : ℕ) (xs : List ℕ) (room : List ℤ) (W : Worded p rs f I product xs room) where
  part : Part I (from 0 (columns p))
  part = (choose-part f (from 0 (columns p)) I W.chosen).0

  size : length I ≡ f
  size = (choose-part f (from 0 (columns p)) I W.chosen).1

  pub product-enough : product ≤ length counters
  product-enough = rw W.product_is (C.enough I (part-inside p I part) (omega (arith, size)))

  pub set_below : Numbers product xs
  set_below = record {
    few = rw (W.numbers-are, length-map rs (λ f. number_of (level p) (entry p) f I)) C.sound.few;
    below = λ x m.
        let (f, n, e) = mem-of_map (λ f. number_of (level p) (entry p) f I) rs (subst (λ xs. Memᴰ x xs) W.numbers-are m) in
        subst (λ x. x < product) e (rw W.product_is (number-one (level p) (entry p) f I (λ j k. C.sound.below f n j (part-inside p I part j k))));
  }

  pub top-is : (z : ℤ) → z ≡ squares_of xs → pos product *ℤ z ≡ stored_of p rs I
  top-is z e = stored_is p rs I product z W.product_is (e ∙ ap squares_of W.numbers-are)

  pub top_small : nat_abs (stored_of p rs I) ≤ highest_t
  top_small = stored-small p rs C.sound I (part-inside p I part) (omega (arith, size, C.size))

  one_less : length I ≡ suc (f - 1)
  one_less = omega (arith, size, W.some)

  pub worded-readable : (top : ℤ) → top ≡ stored_of p rs I → Readable (columns p + 1) room top true 0 I
  worded-readable top t = kept-readable p rs (columns p + 1) (f - 1) room W.kept C.sound top I t part one_less

  pub worded : (top : ℤ) → top ≡ stored_of p rs I → over_stored (columns p + 1) room top true 0 I ≡ word_of (level p) (entry p) rs I
  worded top t = word_kept p rs (columns p + 1) (f - 1) room W.kept C.sound top I t part one_less
