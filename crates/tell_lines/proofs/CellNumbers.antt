-- The cells that occur, in dictionary order, are those of the numbers that occur, from 0 on.
use Rattle.exact.proofs.Ground.{true, false, Bool, List, [], ◌∷◌, map, Memᴰ, mem-head, mem-tail, mem-not_nil}
use Rattle.exact.proofs.Ground.{mem-of_singleton, ◌≡◌, ◌∙◌, sym, ap, refl, ap₂, subst, ℕ, ◌<◌, suc, arith, eqb, T, eqb→eq, eqb_refl, ltb}
use Rattle.exact.proofs.Ground.{length, get_or, length-map, ne_eqb, eq-eqb, lt-ltb, eqb-true, eqb-false}
use Rattle.exact.specs.Lists.{keep, each, count, holds}
use Rattle.exact.proofs.Lists.{keep-map, get_d_map}
use Rattle.exact.proofs.Members.{get_or-mem, keep-mem, keep-passes}
use Rattle.exact.proofs.Tests.{is_true, true-is, both}
use Rattle.rules.specs.Plan.{Plan, level, entry}
use Rattle.counts.specs.Counts.{combinations, shows}
use Rattle.counts.specs.Numbered.{product_of, number_of}
use Rattle.counts.proofs.Numbered.{place, places, mem-combinations, Below, shows-number}
use Rattle.text.specs.Bytes.{bytes}
use Rattle.lines.specs.Lines.{line_of}
use Rattle.lines.proofs.Lines.{each-cong-in}
use Rattle.tell.specs.Tell.{cell}
use Rattle.tell.specs.Given.{Asked}
use Rattle.tell.specs.Evidence.{most_groups}
use Rattle.tell.proofs.Cells.{mem-keep}
use Rattle.tell.proofs.Telling.{cell-group}
use Rattle.tell_lines.specs.TellLines.{grouping, cell_occurs, group_in, cell_lines}
use Rattle.tell_lines.specs.Parts.{numbers_of, place_of, cell_line_at, cell_lines_to}
use Rattle.tell_lines.proofs.Least.{place_found}

-- ---- lists

each_map : {A : Type 0} (n : A → ℕ) (g : ℕ → List ℕ) (xs : List A) → each (map n xs) g ≡ each xs (λ x. g (n x))
each_map n g [] = refl
each_map n g (x ∷ xs) = rw (each_map n g xs)

keep-cong-in : {A : Type 0} (xs : List A) {p q : A → Bool} → ((x : A) → Memᴰ x xs → p x ≡ q x) → keep p xs ≡ keep q xs
keep-cong-in [] h = refl
keep-cong-in (x ∷ xs) {p} {q} h = rw (h x (mem-head refl), keep-cong-in xs {p = p} {q = q} (λ y m. h y (mem-tail m)))

module _ (p : Plan) (rs : List ℕ) (a : ℕ) (J : List ℕ) (A : Asked p rs a J) where
  abbrev number : ℕ → ℕ
  number f = number_of (level p) (entry p) f J

  below : Below (level p) (entry p) rs J
  below f m i n = A.sound.below f m i (A.others i n)

  -- ---- a cell occurs where its number does

  holds-count : (k : ℕ) (test : ℕ → Bool) (xs : List ℕ) → ((f : ℕ) → Memᴰ f xs → test f ≡ eqb (number f) k) →
      holds k (map number xs) ≡ ltb 0 (count test xs)
  holds-count k test [] h = refl
  holds-count k test (f ∷ xs) h = go (eqb (number f) k) refl (h f (mem-head refl)) (holds-count k test xs (λ g m. h g (mem-tail m)))
    where
      go : (b : Bool) → eqb (number f) k ≡ b → test f ≡ eqb (number f) k → holds k (map number xs) ≡ ltb 0 (count test xs) →
          holds k (map number (f ∷ xs)) ≡ ltb 0 (count test (f ∷ xs))
      go true e t ih = rw (t, e, eq-eqb k (number f) (sym (eqb-true (number f) k e)), lt-ltb 0 (suc (count test xs)) (omega arith))
      go false e t ih = rw (t, e, ne_eqb k (number f) (λ d. eqb-false (number f) k e (sym d))) ih

  module _ (c : List ℕ) (m : Memᴰ c (combinations (level p) J)) where
    abbrev k : ℕ
    k = place (level p) J c

    occurs-number : holds k (numbers_of p rs J) ≡ cell_occurs p rs a J c
    occurs-number = holds-count k (λ f. shows (entry p) f J c) rs (λ f n. shows-number (level p) (entry p) rs J below f n c m)

  -- ---- the runs in a cell

  shown-cell : (f : ℕ) (I : List ℕ) (c : List ℕ) → Memᴰ c (combinations (level p) I) → T (shows (entry p) f I c) → cell (entry p) I f ≡ c
  shown-cell f [] c m t = sym (mem-of_singleton m)
  shown-cell f (i ∷ I) c m t = let (b, P, l, n, e) = mem-combinations (level p) i I c m in
      subst (λ c. T (shows (entry p) f (i ∷ I) c) → cell (entry p) (i ∷ I) f ≡ c) e
      (λ t. let (x, y) = both (eqb (entry p f i) b) (shows (entry p) f I P) t in ap₂ (λ z zs. z ∷ zs) (eqb→eq (entry p f i) b x) (shown-cell f I P n y)) t

  module _ (c : List ℕ) (m : Memᴰ c (combinations (level p) J)) (o : cell_occurs p rs a J c ≡ true) where
    -- the first run with the number of the cell
    abbrev one : ℕ
    one = get_or rs (place_of (numbers_of p rs J) (k c m)) 0

    found : (place_of (numbers_of p rs J) (k c m) < length rs) × (number one ≡ k c m)
    found =
        let (l, e) = place_found (numbers_of p rs J) (k c m) (occurs-number c m ∙ o) in
        let h : place_of (numbers_of p rs J) (k c m) < length rs = rw (← length-map rs number) l in
        (h, sym (get_d_map number rs (place_of (numbers_of p rs J) (k c m)) 0 0 h) ∙ e)

    one_in : Memᴰ one rs
    one_in = get_or-mem rs (place_of (numbers_of p rs J) (k c m)) 0 found.0

    one-shows : T (shows (entry p) one J c)
    one-shows = rw (shows-number (level p) (entry p) rs J below one one_in c m) (rw found.1 (eqb_refl (k c m)))

    -- the first run that shows it
    abbrev shown : List ℕ
    shown = keep (λ f. shows (entry p) f J c) rs

    other-in : Memᴰ (get_or shown 0 0) shown
    other-in = go shown (mem-keep (λ f. shows (entry p) f J c) rs one_in (is_true (shows (entry p) one J c) one-shows))
      where
        go : (xs : List ℕ) → Memᴰ one xs → Memᴰ (get_or xs 0 0) xs
        go [] n = absurd (mem-not_nil n)
        go (x ∷ xs) n = mem-head refl

    below-groups : (f : ℕ) → Memᴰ f rs → entry p f a < most_groups
    below-groups f n = omega (arith, A.sound.below f n a A.column, A.sound.level-high a A.column)

    cell-line : cell_line_at p rs a J (grouping p rs a J) (k c m) ≡ line_of (bytes "cell") (group_in p rs a J c ∷ c)
    unfolding grouping
    cell-line =
        let other = get_or shown 0 0 in
        let there = keep-mem (λ f. shows (entry p) f J c) rs other other-in in
        let t = true-is (shows (entry p) other J c) (keep-passes (λ f. shows (entry p) f J c) rs other other-in) in
        let e = shown-cell one J c m one-shows in
        ap₂ (λ x y. line_of (bytes "cell") (x ∷ y))
        (cell-group (entry p) rs a J most_groups below-groups one other one_in there (e ∙ sym (shown-cell other J c m t))) e

  -- ---- all of them

  pub cells-all : cell_lines_to p rs a J (grouping p rs a J) (product_of (level p) J) ≡ cell_lines p rs a J
  cells-all =
      let cs = combinations (level p) J in
      let n = place (level p) J in
      let g = cell_line_at p rs a J (grouping p rs a J) in
      let test : ℕ → Bool = λ k. holds k (numbers_of p rs J) in
      ap (λ l. each (keep test l) g) (sym (places (level p) J)) ∙ ap (λ l. each l g) (keep-map test n cs)
      ∙ each_map n g (keep (λ c. test (n c)) cs)
      ∙ ap (λ l. each l (λ c. g (n c))) (keep-cong-in cs (λ c m. occurs-number c m))
      ∙ each-cong-in (keep (cell_occurs p rs a J) cs)
      (λ c m. cell-line c (keep-mem (cell_occurs p rs a J) cs c m) (keep-passes (cell_occurs p rs a J) cs c m))
