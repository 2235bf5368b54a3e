-- A count as a sum over the runs of 1 where a run has the combination and 0 where not; columns and combinations one by one.
use Rattle.exact.proofs.Ground.{true, false, Bool, cond, ◌&&◌, List, [], ◌∷◌, map, Memᴰ, mem-head, mem-tail, mem-append_left}
use Rattle.exact.proofs.Ground.{mem-append_right, mem-map, ◌≡◌, ◌∙◌, sym, ap, refl, subst, ℕ, ◌<◌, suc, zero-le, arith, eqb, pos, ℤ, ◌*ℤ◌, ◌+ℤ◌}
use Rattle.exact.specs.Lists.{each, sum}
use Rattle.exact.proofs.Numbers.{from-mem}
use Rattle.exact.proofs.Ring.{one-*}
use Rattle.exact.proofs.Sums.{sum-cong}
use Rattle.words.proofs.Squares.{agree}
use Rattle.counts.specs.Counts.{combinations, shows, tally}

module _ {A B : Type 0} where
  each-mem : {x : A} {y : B} {xs : List A} → Memᴰ x xs → (g : A → List B) → Memᴰ y (g x) → Memᴰ y (each xs g)
  each-mem {y} (mem-head {xs = xs} e) g n = mem-append_left (each xs g) (subst (λ z. Memᴰ y (g z)) e n)
  each-mem (mem-tail {x = z} m) g n = mem-append_right (g z) (each-mem m g n)

module _ {C : Type 0} (level : C → ℕ) where
  -- the combinations are the choices of a level in each column
  pub combinations-mem : (i : C) (K : List C) (a : ℕ) (P : List ℕ) → a < level i → Memᴰ P (combinations level K) →
      Memᴰ (a ∷ P) (combinations level (i ∷ K))
  combinations-mem i K a P h m =
      each-mem (from-mem a 0 (level i) zero-le (omega arith)) (λ a. map (λ P. a ∷ P) (combinations level K)) (mem-map (λ P. a ∷ P) m)

module _ {R C : Type 0} (entry : R → C → ℕ) where
  -- 1 where run f has the combination P in the columns J, and 0 where not
  pub has : R → List C → List ℕ → ℤ
  has f J P = cond (shows entry f J P) (pos 1) (pos 0)

  pub has-nil : (f : R) (P : List ℕ) → has f [] P ≡ pos 1
  unfolding has
  has-nil f P = refl

  pub has-cons : (f : R) (i : C) (J : List C) (a : ℕ) (P : List ℕ) → has f (i ∷ J) (a ∷ P) ≡ agree (entry f i) a *ℤ has f J P
  unfolding has agree
  has-cons f i J a P = by (eqb (entry f i) a) (shows entry f J P)
    where
      by : (b c : Bool) → cond (b && c) (pos 1) (pos 0) ≡ cond b (pos 1) (pos 0) *ℤ cond c (pos 1) (pos 0)
      by true true = refl
      by true false = refl
      by false true = refl
      by false false = refl

  pub tally-has : (rs : List R) (J : List C) (P : List ℕ) → pos (tally entry rs J P) ≡ sum rs (λ f. has f J P)
  unfolding has
  tally-has [] J P = refl
  tally-has (f ∷ rs) J P = by (shows entry f J P) ∙ ap (λ z. has f J P +ℤ z) (tally-has rs J P)
    where
      by : (b : Bool) → pos (cond b (suc (tally entry rs J P)) (tally entry rs J P)) ≡ cond b (pos 1) (pos 0) +ℤ pos (tally entry rs J P)
      by true = ap pos (omega arith)
      by false = ap pos (omega arith)

  pub tally-sum : (rs : List R) (J : List C) (P : List ℕ) → sum rs (λ f. pos 1 *ℤ has f J P) ≡ pos (tally entry rs J P)
  tally-sum rs J P = sum-cong rs (λ f. one-* (has f J P)) ∙ sym (tally-has rs J P)
