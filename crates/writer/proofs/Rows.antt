-- The runs of a plan as rows of its table: the table is the rows one after the other, and a row is a stretch of it.
use Rattle.exact.proofs.Ground.{List, [], ◌∷◌, map, ◌++◌, Memᴰ, mem-head, mem-tail, append_assoc, ◌≡◌, ◌∙◌, sym, ap, refl, ap₂, ℕ}
use Rattle.exact.proofs.Ground.{◌≤◌, ◌<◌, ◌-◌, ◌+◌, ◌*◌, suc, zero, zero-add, suc-mul, zero-mul, arith, length, get_or, take, drop, length-append}
use Rattle.exact.proofs.Ground.{length-drop, take-append-drop, length-take-le, get_or-take, get_or-drop, drop-drop, drop_at}
use native.Mathlib.Nat.{mul-div_cancel}
use lib.Seq.{take-append_seam}
use Rattle.exact.specs.Lists.{from, each}
use Rattle.exact.proofs.Numbers.{length-map-from, map-from-at, map-places, mem-from}
use Rattle.exact.proofs.Lists.{map-cong-in}
use Rattle.rules.specs.Plan.{Plan, plan, columns, runs, entry, every_run}
use Rattle.text.proofs.Split.{All}
use Rattle.text.proofs.Lines.{Row}
use Rattle.writer.specs.Writer.{row, plan_of_runs, Short, Runs}

-- ---- rows one after the other

abbrev pub flat : List (List ℕ) → List ℕ
flat rows = each rows (λ row. row)

pub each-flat : {A : Type 0} (xs : List A) (g : A → List ℕ) → each xs g ≡ flat (map g xs)
each-flat [] g = refl
each-flat (x ∷ xs) g = ap (λ l. g x ++ l) (each-flat xs g)

pub flat-size : (m : ℕ) (rows : List (List ℕ)) → All (Row m) rows → length (flat rows) ≡ length rows * m
flat-size m [] h = omega arith
flat-size m (row ∷ rows) h =
    length-append row (flat rows) ∙ rw (h.0.size, flat-size m rows h.1, suc-mul (length rows) m) (omega arith)

-- ---- a row is a stretch of the table

-- what the table of rows of m entries has in row f
abbrev row_in : ℕ → List ℕ → ℕ → List ℕ
row_in m table f = map (λ i. get_or table (f * m + i) 0) (from 0 m)

stretch : (m : ℕ) (table : List ℕ) (f : ℕ) → f * m + m ≤ length table → row_in m table f ≡ take m (drop (f * m) table)
stretch m table f h =
    let part = take m (drop (f * m) table) in
    let d = length-drop (f * m) table in
    let l : length part ≡ m = length-take-le m (drop (f * m) table) (omega arith) in
    map-cong-in (from 0 m) (λ i mi.
    sym (get_or-take m (drop (f * m) table) i 0 (let b = mem-from 0 m mi in omega arith) ∙ get_or-drop (f * m) table i 0))
    ∙ ap (λ n. map (λ i. get_or part i 0) (from 0 n)) (sym l) ∙ map-places part 0

pub row-stretch : (p : Plan) (f : ℕ) → f * columns p + columns p ≤ length p.table →
    row p f ≡ take (columns p) (drop (f * columns p) p.table)
row-stretch p f h = stretch (columns p) p.table f h

-- the rows behind others
rows_behind : (m : ℕ) (before : List ℕ) (a : ℕ) (rows : List (List ℕ)) → length before ≡ a * m → All (Row m) rows →
    map (row_in m (before ++ flat rows)) (from a (length rows)) ≡ rows
rows_behind m before a [] e h = refl
rows_behind m before a (xs ∷ rows) e h =
    let s = suc-mul a m in
    let k = h.0.size in
    let l = length-append before (xs ++ flat rows) in
    let n = length-append xs (flat rows) in
    ap₂ (λ x ys. x ∷ ys)
    (stretch m (before ++ (xs ++ flat rows)) a (omega arith)
    ∙ ap (take m) (drop_at before (xs ++ flat rows) (a * m) e) ∙ ap (λ j. take j (xs ++ flat rows)) (sym k) ∙ take-append_seam xs (flat rows))
    (ap (λ t. map (row_in m t) (from (suc a) (length rows))) (sym (append_assoc before xs (flat rows)))
    ∙ rows_behind m (before ++ xs) (suc a) rows (length-append before xs ∙ (let q : length before + length xs ≡ suc a * m = omega arith in q)) h.1)

-- a plan whose table was made of rows has these rows
pub rows-flat : (levels : List ℕ) (rows : List (List ℕ)) {m : ℕ} → Row m levels → All (Row m) rows →
    let p = plan levels (flat rows) in map (row p) (every_run p) ≡ rows
rows-flat levels rows {m} R h =
    let e = R.size in
    let low : 0 < length levels = omega (arith, R.low) in
    let h' : All (Row (length levels)) rows = rw e h in
    rw (flat-size (length levels) rows h', mul-div_cancel (length rows) low)
    (rows_behind (length levels) [] 0 rows (sym (zero-mul (length levels))) h')

-- ---- and the rows one after the other are the table

rows-joined : (m : ℕ) (table : List ℕ) (a n : ℕ) (rest : List ℕ) → drop (a * m) table ≡ rest → length rest ≡ n * m → a * m + n * m ≤ length table →
    each (from a n) (row_in m table) ≡ rest
rows-joined m table a zero rest e l h = empty rest (l ∙ zero-mul m)
  where
    empty : (xs : List ℕ) → length xs ≡ 0 → [] ≡ xs
    empty [] q = refl
    empty (x ∷ xs) q = absurd (omega arith)
rows-joined m table a (suc n) rest e l h =
    let s = suc-mul n m in
    let t = suc-mul a m in
    let d : drop (suc a * m) table ≡ drop m rest = ap (λ j. drop j table) t ∙ sym (drop-drop m (a * m) table) ∙ ap (drop m) e in
    ap₂ (λ x y. x ++ y) (stretch m table a (omega arith) ∙ ap (take m) e)
    (rows-joined m table (suc a) n (drop m rest) d (length-drop m rest ∙ (let q : length rest - m ≡ n * m = omega arith in q)) (omega arith))
    ∙ take-append-drop m rest

-- all runs of a plan make this plan
pub every-run : (p : Plan) → length p.table ≡ runs p * columns p → plan_of_runs p (every_run p) ≡ p
every-run p e =
    let m = columns p in
    ap (plan p.levels)
    (rows-joined m p.table 0 (runs p) p.table (ap (λ j. drop j p.table) (zero-mul m)) e (let z = zero-mul m in omega arith))

-- ---- the numbers are small

module _ {A : Type 0} (P : A → Type 0) where
  all-at : (d : A) (xs : List A) → ((i : ℕ) → i < length xs → P (get_or xs i d)) → All P xs
  all-at d [] h = tt
  all-at d (x ∷ xs) h = (h 0 (omega arith), all-at d xs (λ i l. h (suc i) (omega arith)))

pub short_row : {xs : List ℕ} → Short xs → Row (length xs) xs
short_row {xs} S = record { low = S.some; size = refl; small = all-at (λ x. x < 100) 0 xs S.small }

pub row-size : (p : Plan) (f : ℕ) → length (row p f) ≡ columns p
row-size p f = length-map-from (entry p f) 0 (columns p)

module _ (p : Plan) (rs : List ℕ) (R : Runs p rs) where
  pub short-levels : Short p.levels
  short-levels = record { some = R.some-columns; small = λ i h. omega (arith, R.sound.level-high i h) }

  pub short-run : (f : ℕ) → Memᴰ f rs → Short (row p f)
  short-run f m =
      let S = R.sound in
      let size = row-size p f in
      record {
        some = omega (arith, R.some-columns);
        small = λ i h.
            rw (map-from-at (entry p f) 0 (columns p) i 0 (omega arith), zero-add i)
            (omega (arith, S.below f m i (omega arith), S.level-high i (omega arith)));
      }

  pub runs-rows : All (Row (columns p)) (p.levels ∷ map (row p) rs)
  runs-rows = (short_row short-levels, go rs (λ f m. m))
    where
      go : (ss : List ℕ) → ((f : ℕ) → Memᴰ f ss → Memᴰ f rs) → All (Row (columns p)) (map (row p) ss)
      go [] h = tt
      go (f ∷ ss) h =
          (rw (row-size p f) at (short_row (short-run f (h f (mem-head refl)))), go ss (λ g m. h g (mem-tail m)))
