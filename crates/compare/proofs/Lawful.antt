-- The comparison of patterns is lawful, and so is that of plans with equally many columns.
use Rattle.exact.proofs.Ground.{List, [], ◌∷◌, map, Memᴰ, mem-of_map, ◌≡◌, ap, refl, ap₂, subst, ℕ, ◌<◌, mul-pos}
use Rattle.exact.specs.Lawful.{Lawful}
use Rattle.exact.specs.Lists.{from}
use Rattle.exact.specs.Fractions.{then, smaller_fraction}
use Rattle.exact.specs.declared.fractions.Fraction.{Fraction}
use Rattle.exact.specs.declared.fractions.Verdict.{Verdict}
use Rattle.exact.proofs.Lawful.{fractions}
use Rattle.best.specs.Ranking.{Ranking, chain}
use Rattle.best.proofs.Ranking.{ranking, by_part, chain-lawful}
use Rattle.rules.specs.Plan.{level, entry}
use Rattle.compare.specs.Compare.{A, pattern, compare_patterns}
use Rattle.compare.specs.Judged.{Judged, OfColumns, pattern_in, compare_judged}

-- ---- patterns: A_j and B_j for the same lengths j, with denominators above 0

abbrev at_length : ℕ → (ℕ → Fraction) → (ℕ → Fraction) → Verdict
at_length j A B = smaller_fraction (A j) (B j)

patterns-chain : (js : List ℕ) (A B : ℕ → Fraction) → compare_patterns (map A js) (map B js) ≡ chain (map at_length js) A B
unfolding compare_patterns
patterns-chain [] A B = refl
patterns-chain (j ∷ js) A B = ap (then (smaller_fraction (A j) (B j))) (patterns-chain js A B)

abbrev pub AllAboveZero : (ℕ → Fraction) → Type 0
AllAboveZero A = (j : ℕ) → 0 < (A j).den

lengths-lawful : (js : List ℕ) (c : (ℕ → Fraction) → (ℕ → Fraction) → Verdict) → Memᴰ c (map at_length js) → Lawful AllAboveZero c
lengths-lawful js c m =
    let (j, _, e) = mem-of_map at_length js m in
    subst (Lawful AllAboveZero) e (by_part fractions (λ A. A j) (λ A p. p j) (λ A B p q. refl))

pub patterns : (js : List ℕ) → Lawful AllAboveZero (λ A B. compare_patterns (map A js) (map B js))
patterns js = by_part (chain-lawful (map at_length js) (lengths-lawful js)) (λ A. A) (λ A p. p) (λ A B p q. patterns-chain js A B)

-- ---- m columns, and one run or more

abbrev figures : Judged → ℕ → Fraction
figures x = A (level x.plan) (entry x.plan) x.runs x.columns

pattern-figures : (m : ℕ) (x : Judged) → OfColumns m x → pattern_in x ≡ map (figures x) (from 1 m)
unfolding pattern
pattern-figures m x X = ap (λ n. map (figures x) (from 1 n)) X.wide

figures-above-zero : (m : ℕ) (x : Judged) → OfColumns m x → AllAboveZero (figures x)
unfolding A
figures-above-zero m x X j = mul-pos X.some X.some

pub judged-lawful : (m : ℕ) → Lawful (OfColumns m) compare_judged
judged-lawful m =
    by_part (patterns (from 1 m)) figures (figures-above-zero m)
    (λ x y X Y. ap₂ compare_patterns (pattern-figures m x X) (pattern-figures m y Y))

-- better is transitive, and with equally many columns exactly one of better, worse and equal holds
pub judged-ranking : (m : ℕ) → Ranking (OfColumns m) compare_judged
judged-ranking m = ranking (judged-lawful m)
