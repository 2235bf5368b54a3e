-- A column of one level has no part in a largest ratio: the sets that hold it have the value 0/1, which is never the greater. It is clear.
use Rattle.exact.proofs.Ground.{true, false, Bool, cond, List, [], ◌∷◌, map, Memᴰ, mem-head, mem-tail, mem-of_map, mem-map, ◌≡◌}
use Rattle.exact.proofs.Ground.{◌∙◌, sym, ap, refl, ap₂, subst, ℕ, ◌≤◌, ◌<◌, ◌*◌, zero-mul, arith, ltb, le-ltb}
use Rattle.std.specs.Prelude.{None}
use Rattle.exact.specs.Lists.{all, keep, holds}
use Rattle.exact.specs.Fractions.{zero_fraction, smaller_fraction, is_better}
use Rattle.exact.specs.declared.fractions.Fraction.{Fraction}
use Rattle.exact.specs.declared.fractions.Verdict.TheVariants.{Worse, Equal}
use Rattle.exact.proofs.Lists.{keep_all, keep-swap}
use Rattle.exact.proofs.Numbers.{mem-from}
use Rattle.exact.proofs.Members.{keep-mem, keep-passes, holds-mem}
use Rattle.rules.specs.Plan.{Plan, columns, level, entry, every_column, several}
use Rattle.sets.specs.Sets.{choose, sets_of}
use Rattle.sets.proofs.Choose.{choose-keep}
use Rattle.words.proofs.OneLevel.{holds-one}
use Rattle.set_words.specs.SetWords.{relative_of}
use Rattle.set_words.proofs.Values.{relative-one}
use Rattle.resolution.specs.Resolution.{greatest, resolution_in}
use Rattle.ratios.specs.Ratios.{ratios_of}
use Rattle.resolution.specs.Charts.{figure_of, column_ratio}
use Rattle.ratios.specs.Ratios.{greater, greatest_from}
use Rattle.ratios.proofs.Greatest.{greatest-of}

greater-zero : (x : Fraction) → greater x zero_fraction ≡ x
unfolding smaller_fraction
greater-zero x = rw (zero-mul x.den, le-ltb (x.num * 1) 0 (omega arith)) (go (ltb 0 (x.num * 1)))
  where
    go : (b : Bool) → cond (is_better (cond b Worse Equal)) zero_fraction x ≡ x
    go true = refl
    go false = refl

module _ {A : Type 0} (test : A → Bool) (F : A → Fraction) where
  from-pass : (x : Fraction) (Is : List A) → ((I : A) → Memᴰ I Is → test I ≡ false → F I ≡ zero_fraction) →
      greatest_from x (map F Is) ≡ greatest_from x (map F (keep test Is))
  from-pass x [] h = refl
  from-pass x (I ∷ Is) h = go (test I) refl (λ y. from-pass y Is (λ J m. h J (mem-tail m)))
    where
      go : (b : Bool) → test I ≡ b → ((y : Fraction) → greatest_from y (map F Is) ≡ greatest_from y (map F (keep test Is))) →
          greatest_from (greater x (F I)) (map F Is) ≡ greatest_from x (map F (cond b (I ∷ keep test Is) (keep test Is)))
      go true e later = later (greater x (F I))
      go false e later = ap (λ y. greatest_from y (map F Is)) (ap (greater x) (h I (mem-head refl) e) ∙ greater-zero x) ∙ later x

module _ {R C : Type 0} (level : C → ℕ) (entry : R → C → ℕ) (rs : List R) (cols : List C) (low : (i : C) → Memᴰ i cols → 0 < level i) where
  -- of the sets of j columns that pass a test the largest ratio is that of those of several levels
  pub ratios-several : (test : List C → Bool) (j : ℕ) →
      greatest (map (relative_of level entry rs) (keep test (choose j cols)))
      ≡ greatest (map (relative_of level entry rs) (keep test (choose j (several level cols))))
  unfolding greatest
  ratios-several test j =
      let all-several : List C → Bool = λ I. all I (λ i. ltb 1 (level i)) in
      from-pass all-several (relative_of level entry rs) zero_fraction (keep test (choose j cols)) (λ I m d.
      let (i, n, k, e) = holds-one level cols low j I (keep-mem test (choose j cols) I m) d in
      relative-one level entry rs I (subst (λ s. Memᴰ s (map level I)) e (mem-map level n)))
      ∙ ap (λ l. greatest_from zero_fraction (map (relative_of level entry rs) l))
      (keep-swap all-several test (choose j cols) ∙ ap (keep test) (choose-keep (λ i. ltb 1 (level i)) j cols))

-- so both ratios of a plan are those of its columns of several levels
pub walk-several : (p : Plan) (rs : List ℕ) → ((i : ℕ) → i < columns p → 1 ≤ level p i) → (j i : ℕ) →
    ratios_of p rs (choose j (several (level p) (every_column p))) i ≡ ratios_of p rs (sets_of (columns p) j) i
unfolding ratios_of
walk-several p rs low j i =
    let cols = every_column p in
    let kept = ratios-several (level p) (entry p) rs cols (λ i m. low i (omega (arith, mem-from 0 (columns p) m))) in
    let ratio = relative_of (level p) (entry p) rs in
    let every : (Is : List (List ℕ)) → greatest (map ratio (keep (λ I. true) Is)) ≡ greatest (map ratio Is)
    = λ Is. ap (λ l. greatest (map ratio l)) (keep_all Is) in
    sym (ap₂ (λ x y. record { largest = x; held = y })
    (sym (every (choose j cols)) ∙ kept (λ I. true) j ∙ every (choose j (several (level p) cols)))
    (kept (holds i) j))

-- a column of one level is clear
pub one-level-clear : (p : Plan) (rs : List ℕ) (i : ℕ) → level p i ≡ 1 → figure_of (column_ratio p rs i) ≡ None
unfolding column_ratio
one-level-clear p rs i e =
    let sets = sets_of (columns p) (resolution_in p rs) in
    ap figure_of (greatest-of (λ x. x ≡ zero_fraction) (map (relative_of (level p) (entry p) rs) (keep (holds i) sets)) refl (λ x m.
    let (I, k, d) = mem-of_map (relative_of (level p) (entry p) rs) (keep (holds i) sets) m in
    sym d ∙ relative-one (level p) (entry p) rs I
    (subst (λ s. Memᴰ s (map (level p) I)) e (mem-map (level p) (holds-mem i I (keep-passes (holds i) sets I k))))))
