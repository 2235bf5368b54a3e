-- Each measure of some runs and columns sees only the entries of those runs in those columns.
use Rattle.exact.proofs.Ground.{Bool, cond, ◌&&◌, List, [], ◌∷◌, map, Memᴰ, mem-head, mem-tail, ◌≡◌, ◌∙◌, sym, ap, refl, ap₂}
use Rattle.exact.proofs.Ground.{fun_ext, ℕ, ◌-◌, ◌*◌, eqb, pos, ℤ, nat_abs, length, lt_z}
use Rattle.exact.specs.Lists.{from, prod, all, keep, holds, largest, alike, first, smallest}
use Rattle.exact.specs.Fractions.{zero_fraction, reduced}
use Rattle.exact.proofs.Lists.{map-cong-in}
use Rattle.exact.proofs.Sums.{sum-cong-in}
use Rattle.exact.proofs.Members.{keep-mem}
use Rattle.rules.specs.Plan.{entry}
use Rattle.sets.specs.Sets.{choose}
use Rattle.sets.proofs.Parts.{part-mem, choose-part}
use Rattle.words.specs.Words.{score, word_of, word, row_sum}
use Rattle.words.proofs.Laws.{row-pairs, pair-local, word-local}
use Rattle.counts.specs.Counts.{combinations, shows, even, balanced, strength}
use Rattle.counts.proofs.Numbered.{count-cong-in}
use Rattle.set_words.specs.SetWords.{value_of, relative_of}
use Rattle.projection_tables.specs.Tables.{table_of, absolute_table, relative_table}
use Rattle.resolution.specs.Resolution.{greatest, resolution, largest_ratio}
use Rattle.compare.specs.Compare.{over, A, pattern}

-- the same entries in these runs and columns
abbrev pub Agree : (ℕ → ℕ → ℕ) → (ℕ → ℕ → ℕ) → List ℕ → List ℕ → Type 0
Agree entry other rs cols = (f : ℕ) → Memᴰ f rs → (i : ℕ) → Memᴰ i cols → entry f i ≡ other f i

-- ---- lists of what agrees

module _ {A : Type 0} where
  prod-cong-in : (xs : List A) {f g : A → ℤ} → ((x : A) → Memᴰ x xs → f x ≡ g x) → prod xs f ≡ prod xs g
  prod-cong-in [] h = refl
  prod-cong-in (x ∷ xs) {f} {g} h =
      rw (h x (mem-head refl), prod-cong-in xs {f = f} {g = g} (λ y m. h y (mem-tail m)))

  all-cong-in : (xs : List A) {f g : A → Bool} → ((x : A) → Memᴰ x xs → f x ≡ g x) → all xs f ≡ all xs g
  all-cong-in [] h = refl
  all-cong-in (x ∷ xs) {f} {g} h =
      ap₂ (λ a b. a && b) (h x (mem-head refl)) (all-cong-in xs {f = f} {g = g} (λ y m. h y (mem-tail m)))

-- ---- each measure sees only the entries of its runs in its columns

module _ (level : ℕ → ℕ) (entry other : ℕ → ℕ → ℕ) (rs cols : List ℕ) (same : Agree entry other rs cols) where
  pub word-seen : word level entry rs cols ≡ word level other rs cols
  word-seen = fun_ext (λ j. word-local level entry other rs cols j same)

  pub row_seen : (j f : ℕ) → Memᴰ f rs → row_sum level entry rs cols j f ≡ row_sum level other rs cols j f
  row_seen j f m =
      row-pairs level entry rs cols j f
      ∙ sum-cong-in rs (λ g mg. pair-local level entry other cols j f g (λ i mi. (same f m i mi, same g mg i mi)))
      ∙ sym (row-pairs level other rs cols j f)

  -- of a set of columns
  module _ (I : List ℕ) (part : (i : ℕ) → Memᴰ i I → Memᴰ i cols) where
    pub set-seen : word_of level entry rs I ≡ word_of level other rs I
    unfolding word_of
    set-seen = sum-cong-in rs (λ f mf. sum-cong-in rs (λ g mg. prod-cong-in I (λ i mi.
        ap₂ (score (level i)) (same f mf i (part i mi)) (same g mg i (part i mi)))))

    ratio-of-set-seen : relative_of level entry rs I ≡ relative_of level other rs I
    unfolding relative_of
    ratio-of-set-seen =
        ap (λ w. cond (holds 1 (map level I)) zero_fraction (reduced (nat_abs w) (length rs * length rs * (smallest (map level I) - 1)))) set-seen

    shows-seen : (f : ℕ) → Memᴰ f rs → (P : List ℕ) → shows entry f I P ≡ shows other f I P
    shows-seen f mf = go I part
      where
        go : (J : List ℕ) → ((i : ℕ) → Memᴰ i J → Memᴰ i cols) → (P : List ℕ) → shows entry f J P ≡ shows other f J P
        go [] h P = refl
        go (i ∷ J) h [] = refl
        go (i ∷ J) h (a ∷ P) =
            ap₂ (λ x y. eqb x a && y) (same f mf i (h i (mem-head refl))) (go J (λ k m. h k (mem-tail m)) P)

    even-seen : even level entry rs I ≡ even level other rs I
    unfolding even
    even-seen = ap (λ t. alike (map t (combinations level I))) (fun_ext (λ P. count-cong-in rs (λ f mf. shows-seen f mf P)))

  pub chosen : (j : ℕ) (I : List ℕ) → Memᴰ I (choose j cols) → (i : ℕ) → Memᴰ i I → Memᴰ i cols
  chosen j I m = part-mem (choose-part j cols I m).0

  pub strength-seen : strength level entry rs cols ≡ strength level other rs cols
  unfolding strength balanced
  strength-seen = ap (λ b. largest b (length cols)) (fun_ext (λ t. all-cong-in (choose t cols) (λ I m. even-seen I (chosen t I m))))

  pub absolute-seen : (f : ℕ) → absolute_table level entry rs cols f ≡ absolute_table level other rs cols f
  unfolding absolute_table value_of
  absolute-seen f = ap table_of (map-cong-in (choose f cols) (λ I m.
      ap (λ w. reduced (nat_abs w) (length rs * length rs)) (set-seen I (chosen f I m))))

  pub relatives-seen : (j : ℕ) → map (relative_of level entry rs) (choose j cols) ≡ map (relative_of level other rs) (choose j cols)
  relatives-seen j = map-cong-in (choose j cols) (λ I m. ratio-of-set-seen I (chosen j I m))

  pub relative-seen : (f : ℕ) → relative_table level entry rs cols f ≡ relative_table level other rs cols f
  unfolding relative_table
  relative-seen f = ap table_of (relatives-seen f)

  pub resolution-seen : resolution level entry rs cols ≡ resolution level other rs cols
  unfolding resolution
  resolution-seen = ap (λ w. first (λ j. lt_z (pos 0) (w j)) 1 (length cols)) word-seen

  pub ratio-seen : largest_ratio level entry rs cols ≡ largest_ratio level other rs cols
  unfolding largest_ratio
  ratio-seen =
      ap (λ R. greatest (map (relative_of level entry rs) (choose R cols))) resolution-seen
      ∙ ap greatest (relatives-seen (resolution level other rs cols))

  pub pattern-seen : pattern level entry rs cols ≡ pattern level other rs cols
  unfolding pattern A
  pattern-seen = ap (λ w. map (λ j. over (length rs) (w j)) (from 1 (length cols))) word-seen

  -- of the sets that hold column i
  pub column-seen : (i j : ℕ) →
      map (relative_of level entry rs) (keep (holds i) (choose j cols)) ≡ map (relative_of level other rs) (keep (holds i) (choose j cols))
  column-seen i j = map-cong-in (keep (holds i) (choose j cols)) (λ I m. ratio-of-set-seen I (chosen j I (keep-mem (holds i) (choose j cols) I m)))
