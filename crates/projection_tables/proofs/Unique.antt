-- A table is told by what it is: of values in lowest terms there is only one.
use Rattle.exact.proofs.Ground.{Bool, List, [], ◌∷◌, map, Memᴰ, mem-head, mem-tail, mem-not_nil, mem-of_map, mem-map, ◌≡◌}
use Rattle.exact.proofs.Ground.{◌∙◌, sym, ap, refl, ap₂, subst, ℕ, ◌*◌, arith}
use Rattle.exact.specs.Fractions.{smaller_fraction}
use Rattle.exact.specs.declared.fractions.Fraction.{Fraction}
use Rattle.exact.specs.declared.fractions.Verdict.TheVariants.{Better}
use Rattle.exact.proofs.Verdicts.{lt-smaller}
use Rattle.rules.specs.Plan.{Plan, columns}
use Rattle.sets.specs.Sets.{sets_of}
use Rattle.set_words.specs.Given.{SizeOf, Tabled}
use Rattle.set_words.specs.Properties.{IsReduced}
use Rattle.set_words.specs.SetWords.{value_in}
use Rattle.set_words.proofs.Reduced.{equal-reduced, value-reduced}
use Rattle.projection_tables.specs.Properties.{Below, Rising, IsTable}
use Rattle.projection_tables.specs.Tables.{Line, line, times, table_in}
use Rattle.projection_tables.proofs.Walks.{each-value, table-right}

-- ---- rising values with the same members

-- of two fractions not both are smaller
not-both : {X : Type 0} (x y : Fraction) → smaller_fraction x y ≡ Better → smaller_fraction y x ≡ Better → X
unfolding smaller_fraction
not-both x y e d =
    absurd (let p = lt-smaller (x.num * y.den) (y.num * x.den) e in let q = lt-smaller (y.num * x.den) (x.num * y.den) d in omega arith)

abbrev Within : List Fraction → List Fraction → Type 0
Within xs ys = (x : Fraction) → Memᴰ x xs → Memᴰ x ys

same_first : (x y : Fraction) (xs ys : List Fraction) → Below x xs → Below y ys → Memᴰ x (y ∷ ys) → Memᴰ y (x ∷ xs) → x ≡ y
same_first x y xs ys b c (mem-head e) n = e
same_first x y xs ys b c (mem-tail m) (mem-head e) = sym e
same_first x y xs ys b c (mem-tail m) (mem-tail n) = not-both x y (b y n) (c x m)

-- what stands behind the first is not the first
later : (x y : Fraction) (xs ys : List Fraction) → Below x xs → x ≡ y → Within (x ∷ xs) (y ∷ ys) → Within xs ys
later x y xs ys b e w z m = go (w z (mem-tail m))
  where
    go : Memᴰ z (y ∷ ys) → Memᴰ z ys
    go (mem-head d) =
        let t : z ≡ x = d ∙ sym e in
        let s : smaller_fraction x x ≡ Better = subst (λ u. smaller_fraction x u ≡ Better) t (b z m) in
        not-both x x s s
    go (mem-tail n) = n

same-rising : (xs ys : List Fraction) → Rising xs → Rising ys → Within xs ys → Within ys xs → xs ≡ ys
same-rising [] [] r s v w = refl
same-rising [] (y ∷ ys) r s v w = absurd (mem-not_nil (w y (mem-head refl)))
same-rising (x ∷ xs) [] r s v w = absurd (mem-not_nil (v x (mem-head refl)))
same-rising (x ∷ xs) (y ∷ ys) (b, r) (c, s) v w =
    let e = same_first x y xs ys b c (v x (mem-head refl)) (w y (mem-head refl)) in
    ap₂ (λ z l. z ∷ l) e (same-rising xs ys r s (later x y xs ys b e v) (later y x ys xs c (sym e) w))

-- ---- the lines

abbrev values_of : List Line → List Fraction
values_of ls = map (λ l. l.value) ls

module _ (vs : List Fraction) (reduced : (x : Fraction) → Memᴰ x vs → IsReduced x) where
  -- a value of one table is a value of the other
  among : (ls ms : List Line) → IsTable vs ls → IsTable vs ms → Within (values_of ls) (values_of ms)
  among ls ms T U x m =
      let (l, k, e) = mem-of_map (λ (l : Line). l.value) ls m in
      let x-in : Memᴰ x vs = subst (λ z. Memᴰ z vs) e (T.occurs l k) in
      let (n, j, d) = U.complete x x-in in
      subst (λ z. Memᴰ z (values_of ms)) (equal-reduced n.value x (reduced n.value (U.occurs n j)) (reduced x x-in) d)
      (mem-map (λ (l : Line). l.value) j)

  -- a line is told by its value
  by_value : (ls : List Line) → ((l : Line) → Memᴰ l ls → l.sets ≡ times vs l.value) → ls ≡ map (λ v. line v (times vs v)) (values_of ls)
  by_value [] c = refl
  by_value (l ∷ ls) c = ap₂ (λ k rest. line l.value k ∷ rest) (c l (mem-head refl)) (by_value ls (λ k m. c k (mem-tail m)))

  pub table-unique : (ls ms : List Line) → IsTable vs ls → IsTable vs ms → ls ≡ ms
  table-unique ls ms T U =
      by_value ls T.counts
      ∙ ap (map (λ v. line v (times vs v))) (same-rising (values_of ls) (values_of ms) T.rising U.rising (among ls ms T U) (among ms ls U T))
      ∙ sym (by_value ms U.counts)

-- whatever is a table of a plan's values is the table that is answered
module _ (relative : Bool) (p : Plan) (rs : List ℕ) (f : ℕ) (G : Tabled p rs) (z : SizeOf (columns p) f) where
  pub table-only : (ls : List Line) → IsTable (map (value_in relative p rs) (sets_of (columns p) f)) ls → ls ≡ table_in relative p rs f
  table-only ls T =
      table-unique (map (value_in relative p rs) (sets_of (columns p) f))
      (each-value relative p rs f G z IsReduced (λ I P some. value-reduced p rs I G P some relative)) ls (table_in relative p rs f) T
      (table-right relative p rs f G z)
