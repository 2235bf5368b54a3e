-- Strength is what document 01 says: the largest t such that in every choice of t columns all level combinations occur equally often.
use Rattle.exact.proofs.Ground.{List, [], ◌∷◌, map, Memᴰ, mem-head, mem-tail, mem-not_nil, mem-of_map, mem-map, ◌≡◌, ◌∙◌}
use Rattle.exact.proofs.Ground.{sym, refl, subst, ℕ, ◌<◌, suc, zero, arith, eqb, T, eqb_refl, length}
use Rattle.exact.specs.Lists.{alike, largest}
use Rattle.exact.proofs.Tests.{all-mem, mem-all}
use Rattle.exact.proofs.Searches.{largest-is}
use Rattle.sets.specs.Sets.{choose}
use Rattle.counts.specs.Counts.{combinations, tally, even, balanced, strength}
use Rattle.counts.specs.Strength.{Even, IsStrength}
use Rattle.counts.proofs.Counted.{alike-first}

alike-mem : (xs : List ℕ) → T (alike xs) → (x y : ℕ) → Memᴰ x xs → Memᴰ y xs → x ≡ y
alike-mem [] t x y m n = absurd (mem-not_nil m)
alike-mem (z ∷ zs) t x y m n = sym (alike-first z zs t x m) ∙ alike-first z zs t y n

mem-alike : (xs : List ℕ) → ((x y : ℕ) → Memᴰ x xs → Memᴰ y xs → x ≡ y) → T (alike xs)
mem-alike [] h = tt
mem-alike (z ∷ zs) h =
    mem-all (λ y. eqb z y) zs (λ y m. subst (λ x. T (eqb z x)) (h z y (mem-head refl) (mem-tail m)) (eqb_refl z))

module _ {R C : Type 0} (level : C → ℕ) (entry : R → C → ℕ) (rs : List R) where
  pub even→Even : (J : List C) → T (even level entry rs J) → Even level entry rs J
  unfolding even
  even→Even J t P Q p q =
      alike-mem (map (tally entry rs J) (combinations level J)) t (tally entry rs J P) (tally entry rs J Q)
      (mem-map (tally entry rs J) p) (mem-map (tally entry rs J) q)

  pub Even→even : (J : List C) → Even level entry rs J → T (even level entry rs J)
  unfolding even
  Even→even J h =
      let n = tally entry rs J in
      mem-alike (map n (combinations level J))
      (λ x y m k.
      let (P, p, d) = mem-of_map n (combinations level J) m in
      let (Q, q, e) = mem-of_map n (combinations level J) k in
      sym d ∙ h P Q p q ∙ e)

  -- t = 0 always passes
  pub passed : (cols : List C) (t : ℕ) → (0 < t → T (balanced level entry rs cols t)) → T (balanced level entry rs cols t)
  unfolding balanced even
  passed cols zero h = tt
  passed cols (suc t) h = h (omega arith)

  pub strength-is : (cols : List C) → IsStrength level entry rs cols (strength level entry rs cols)
  unfolding strength balanced
  strength-is cols =
      let L = largest-is (balanced level entry rs cols) (length cols) in
      let t = largest (balanced level entry rs cols) (length cols) in
      record {
        fits = L.within;
        all-even = λ J m. even→Even J (all-mem (even level entry rs) (choose t cols) (passed cols t L.passes) J m);
        most = λ u l h. L.most u l (mem-all (even level entry rs) (choose u cols) (λ J m. Even→even J (h J m)));
      }

  pub strength-unique : (cols : List C) (t u : ℕ) → IsStrength level entry rs cols t → IsStrength level entry rs cols u → t ≡ u
  strength-unique cols t u S U = omega (arith, S.most u U.fits U.all-even, U.most t S.fits S.all-even)
