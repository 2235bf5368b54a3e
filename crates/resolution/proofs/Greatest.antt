-- The greatest fraction is one of them, or 0/1, and none of them is greater.
use Rattle.exact.proofs.Ground.{false, cond, List, [], ◌∷◌, ◌++◌, Memᴰ, mem-head, mem-not_nil, mem-append_left, mem-append_right}
use Rattle.exact.proofs.Ground.{mem-append_cases, mem-of_singleton, ◌⊎◌, inl, inr, ◌≡◌, ◌∙◌, sym, ap, refl, subst, ◌<◌, ◌*◌, arith}
use Rattle.exact.specs.Fractions.{zero_fraction, smaller_fraction, is_better}
use Rattle.exact.specs.declared.fractions.Fraction.{Fraction}
use Rattle.exact.specs.declared.fractions.Verdict.{Verdict}
use Rattle.exact.specs.declared.fractions.Verdict.TheVariants.{Better, Worse, Equal}
use Rattle.exact.proofs.Lists.{grown}
use Rattle.exact.proofs.Lawful.{fractions}
use Rattle.exact.specs.Lawful.{opposite}
use Rattle.exact.proofs.Verdicts.{lt-smaller}
use Rattle.set_words.specs.Properties.{IsReduced}
use Rattle.set_words.proofs.Reduced.{zero-reduced, equal-reduced}
use Rattle.ratios.specs.Ratios.{greater, greatest}
use Rattle.ratios.proofs.Greatest.{greatest-none, greatest-snoc}
use Rattle.resolution.specs.Properties.{IsGreatest}

abbrev EachProper : List Fraction → Type 0
EachProper xs = (x : Fraction) → Memᴰ x xs → 0 < x.den

module _ (xs : List Fraction) (y g : Fraction) (proper : EachProper (xs ++ y ∷ [])) (G : IsGreatest xs g) where
  others : EachProper xs
  others x m = proper x (mem-append_left (y ∷ []) m)

  last : 0 < y.den
  last = proper y (mem-append_right xs (mem-head refl))

  own : 0 < g.den
  own = go G.among
    where
      go : (g ≡ zero_fraction) ⊎ Memᴰ g xs → 0 < g.den
      go (inl e) = rw e (omega arith)
      go (inr m) = others g m

  kept : ¬ (smaller_fraction g y ≡ Better) → IsGreatest (xs ++ y ∷ []) g
  kept n = record { among = go G.among; none_above = λ x m. above x (mem-append_cases xs m) }
    where
      go : (g ≡ zero_fraction) ⊎ Memᴰ g xs → (g ≡ zero_fraction) ⊎ Memᴰ g (xs ++ y ∷ [])
      go (inl e) = inl e
      go (inr m) = inr (mem-append_left (y ∷ []) m)

      above : (x : Fraction) → Memᴰ x xs ⊎ Memᴰ x (y ∷ []) → ¬ (smaller_fraction g x ≡ Better)
      above x (inl m) = G.none_above x m
      above x (inr m) = subst (λ z. ¬ (smaller_fraction g z ≡ Better)) (sym (mem-of_singleton m)) n

  taken : smaller_fraction g y ≡ Better → IsGreatest (xs ++ y ∷ []) y
  taken e = record {
    among = inr (mem-append_right xs (mem-head refl));
    none_above = λ x m. above x (mem-append_cases xs m);
  }
    where
      unlike : ¬ (Equal ≡ Better)
      unlike q = subst (λ v. cond (is_better v) ⊥ (Unit {0})) q tt

      above : (x : Fraction) → Memᴰ x xs ⊎ Memᴰ x (y ∷ []) → ¬ (smaller_fraction y x ≡ Better)
      above x (inl m) d = G.none_above x m (fractions.trans g y x own last (others x m) e d)
      above x (inr m) d =
          unlike (sym (fractions.same y last) ∙ subst (λ z. smaller_fraction y z ≡ Better) (mem-of_singleton m) d)

  next : IsGreatest (xs ++ y ∷ []) (greater g y)
  next = go (smaller_fraction g y) refl
    where
      unlike : (v : Verdict) → is_better v ≡ false → ¬ (v ≡ Better)
      unlike v e q = subst (λ b. cond b (Unit {0}) ⊥) (subst (λ v. is_better v ≡ false) q e) tt

      go : (v : Verdict) → smaller_fraction g y ≡ v → IsGreatest (xs ++ y ∷ []) (cond (is_better v) y g)
      go Better e = taken e
      go Worse e = kept (λ q. unlike Worse refl (sym e ∙ q))
      go Equal e = kept (λ q. unlike Equal refl (sym e ∙ q))

pub greatest-is : (xs : List Fraction) → EachProper xs → IsGreatest xs (greatest xs)
greatest-is =
    grown (λ xs. EachProper xs → IsGreatest xs (greatest xs))
    (λ h. record { among = inl (sym greatest-none); none_above = λ x m. absurd (mem-not_nil m) })
    (λ xs x ih h. rw (greatest-snoc xs x) (next xs x (greatest xs) h (ih (λ y m. h y (mem-append_left (x ∷ []) m)))))

-- ---- and it is told by that: of fractions in lowest terms there is only one

module _ (xs : List Fraction) (reduced : (x : Fraction) → Memᴰ x xs → IsReduced x) where
  greatest-reduced : (g : Fraction) → IsGreatest xs g → IsReduced g
  greatest-reduced g G = go G.among
    where
      go : (g ≡ zero_fraction) ⊎ Memᴰ g xs → IsReduced g
      go (inl e) = subst IsReduced (sym e) zero-reduced
      go (inr m) = reduced g m

  -- nothing is smaller than 0/1
  none-above-zero : (g : Fraction) → ¬ (smaller_fraction g zero_fraction ≡ Better)
  unfolding smaller_fraction
  none-above-zero g e = let l = lt-smaller (g.num * 1) (0 * g.den) e in omega arith

  not-above : (g h : Fraction) → IsGreatest xs g → IsGreatest xs h → ¬ (smaller_fraction g h ≡ Better)
  not-above g h G H = go H.among
    where
      go : (h ≡ zero_fraction) ⊎ Memᴰ h xs → ¬ (smaller_fraction g h ≡ Better)
      go (inl e) = subst (λ z. ¬ (smaller_fraction g z ≡ Better)) (sym e) (none-above-zero g)
      go (inr m) = G.none_above h m

  pub greatest-unique : (g h : Fraction) → IsGreatest xs g → IsGreatest xs h → g ≡ h
  greatest-unique g h G H = go (smaller_fraction g h) refl
    where
      R : IsReduced g
      R = greatest-reduced g G

      S : IsReduced h
      S = greatest-reduced h H

      go : (v : Verdict) → smaller_fraction g h ≡ v → g ≡ h
      go Better e = absurd (not-above g h G H e)
      go Worse e = absurd (not-above h g H G (fractions.turn g h R.above_zero S.above_zero ∙ ap opposite e))
      go Equal e = equal-reduced g h R S e
