-- Below R every value is zero, so that a table has one line: 0/1, with all sets.
use Rattle.exact.proofs.Ground.{Bool, true, false, List, [], ◌∷◌, map, Memᴰ, mem-head, mem-tail, mem-of_map, ◌≡◌, ◌∙◌, sym, ap, ap₂, refl}
use Rattle.exact.proofs.Ground.{ℕ, ◌*◌, ◌≤◌, ◌<◌, suc, zero, arith, pos, nat_abs, length, replicate, length-map}
use Rattle.exact.specs.Fractions.{zero_fraction, reduced, smaller_fraction}
use Rattle.exact.specs.declared.fractions.Fraction.{Fraction}
use Rattle.exact.proofs.Reduced.{reduced-zero}
use Rattle.rules.specs.Plan.{Plan, columns, level, entry, every_column}
use Rattle.sets.specs.Sets.{binom, choose}
use Rattle.sets.proofs.Pascal.{many-sets}
use Rattle.sets.proofs.Parts.{choose-part}
use Rattle.words.specs.Words.{word_of}
use Rattle.counts.proofs.Wordless.{word-zero}
use Rattle.set_words.specs.Given.{Tabled, SizeOf}
use Rattle.set_words.specs.SetWords.{value_in}
use Rattle.set_words.proofs.Products.{part-projection}
use Rattle.set_words.proofs.Values.{over-between, value-has}
use Rattle.resolution.specs.Resolution.{resolution_in}
use Rattle.resolution.proofs.Agreement.{none-shorter, all-below}
use Rattle.projection_tables.specs.Tables.{line, insert_all, times, table_of, table_in, absolute_table, relative_table}

-- ---- a table of zeros

all-zeros : (vs : List Fraction) → ((x : Fraction) → Memᴰ x vs → x ≡ zero_fraction) → vs ≡ replicate (length vs) zero_fraction
all-zeros [] h = refl
all-zeros (v ∷ vs) h = ap₂ ◌∷◌ (h v (mem-head refl)) (all-zeros vs (λ x m. h x (mem-tail m)))

one_value : (k : ℕ) → insert_all (zero_fraction ∷ []) (replicate k zero_fraction) ≡ zero_fraction ∷ []
unfolding smaller_fraction
one_value zero = refl
one_value (suc k) = one_value k

all-counted : (k : ℕ) → times (replicate k zero_fraction) zero_fraction ≡ k
unfolding smaller_fraction
all-counted zero = refl
all-counted (suc k) = ap suc (all-counted k)

zeros-table : (k : ℕ) → 0 < k → table_of (replicate k zero_fraction) ≡ line zero_fraction k ∷ []
unfolding table_of smaller_fraction
zeros-table zero h = absurd (omega arith)
zeros-table (suc k) h =
    ap (map (λ v. line v (times (replicate (suc k) zero_fraction) v))) (one_value k) ∙ ap (λ n. line zero_fraction n ∷ []) (all-counted (suc k))

-- ---- below R

some-sets : (m f : ℕ) → f ≤ m → 0 < binom m f
some-sets m zero h = omega arith
some-sets zero (suc f) h = absurd (omega arith)
some-sets (suc m) (suc f) h = omega (arith, some-sets m f (omega arith))

table-values : (relative : Bool) (p : Plan) (rs : List ℕ) (f : ℕ) → table_of (map (value_in relative p rs) (choose f (every_column p))) ≡ table_in relative p rs f
unfolding absolute_table relative_table
table-values true p rs f = refl
table-values false p rs f = refl

module _ (relative : Bool) (p : Plan) (rs : List ℕ) (f : ℕ) (G : Tabled p rs) (z : SizeOf (columns p) f) (below : f < resolution_in p rs) where
  no_word : (I : List ℕ) → Memᴰ I (choose f (every_column p)) → word_of (level p) (entry p) rs I ≡ pos 0
  no_word =
      let v = all-below p rs G.sound in
      word-zero (level p) (entry p) rs (every_column p) v f (none-shorter (level p) (entry p) rs (every_column p) v f z.low below)

  pub value-below : (I : List ℕ) → Memᴰ I (choose f (every_column p)) → value_in relative p rs I ≡ zero_fraction
  value-below I m =
      let (part, long) = choose-part f (every_column p) I m in
      let P = part-projection p G.sound.level-low G.sound.small I part in
      value-has p rs I G P (omega (arith, long, z.low)) (λ x. x ≡ zero_fraction) refl (λ d low high.
      ap (λ w. reduced (nat_abs w) (length rs * length rs * d)) (no_word I m)
      ∙ reduced-zero (length rs * length rs * d) (over-between (length rs) d G.some G.sound.few low high).0) relative

  values : List Fraction
  values = map (value_in relative p rs) (choose f (every_column p))

  pub table_below : table_in relative p rs f ≡ line zero_fraction (binom (columns p) f) ∷ []
  unfolding values
  table_below =
      let many : length values ≡ binom (columns p) f = length-map (choose f (every_column p)) (value_in relative p rs) ∙ many-sets f 0 (columns p) in
      let none = all-zeros values (λ x m. let (I, k, e) = mem-of_map (value_in relative p rs) (choose f (every_column p)) m in sym e ∙ value-below I k) in
      sym (table-values relative p rs f) ∙ ap table_of none ∙ ap (λ n. table_of (replicate n zero_fraction)) many
      ∙ zeros-table (binom (columns p) f) (some-sets (columns p) f z.within)
