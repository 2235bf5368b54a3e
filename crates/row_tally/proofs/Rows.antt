-- Rows in a room: a row that is put there stands at its place, and the others stay.
use Rattle.exact.proofs.Ground.{List, ◌++◌, append_assoc, ◌≡◌, ◌∙◌, sym, ap, ℕ, ◌≤◌, ◌<◌, ◌-◌, ◌+◌, ◌*◌, dec_lt, arith, pos, ℤ, ℕ_discrete}
use Rattle.exact.proofs.Ground.{length, get_or, take, drop, min, refl, take-length, replicate, length-replicate}
use Rattle.exact.proofs.Ground.{set, length-set, length-drop, get_or-append, length-take-le, take_at, drop_at, get_or-take, get_or-drop, ext_get_or}
use lib.ListN.{length-take}
use lib.Seq.{paste, length-paste, drop-paste, length_paste_head, get_or-set_other}
use Rattle.rules.specs.Plan.{Plan, columns, level, highest_level, most_columns}
use Rattle.cells.specs.Cells.{window, cell_of, pair_row}
use Rattle.cells.proofs.CellPair.{cell_row}
use Rattle.tally.proofs.Turns.{get_or-zeros}
use Rattle.row_tally.specs.Kept.{row_at, Kept, KeptOn}

module _ (room row : List ℤ) (c : ℕ) (long : length row ≡ most_columns) (fits : c * most_columns + most_columns ≤ length room) where
  abbrev after : List ℤ
  after = paste room (c * most_columns) row most_columns

  whole : take most_columns row ≡ row
  whole = ap (λ n. take n row) (sym long) ∙ take-length row

  pub length-after : length after ≡ length room
  length-after = length-paste room (c * most_columns) row most_columns fits (omega (arith, long))

  pub row-there : row_at after c ≡ row
  row-there =
      let before = take (c * most_columns) room in let rest = drop (c * most_columns + most_columns) room in
      ap (λ l. take most_columns (drop (c * most_columns) l)) (append_assoc before (take most_columns row) rest)
      ∙ ap (take most_columns) (drop_at before (take most_columns row ++ rest) (c * most_columns) (length-take-le (c * most_columns) room (omega arith)))
      ∙ take_at (take most_columns row) rest most_columns (length-take-le most_columns row (omega (arith, long)))
      ∙ whole

  -- a number outside the row
  low : (i : ℕ) → i < c * most_columns → get_or after i (pos 0) ≡ get_or room i (pos 0)
  low i l =
      let before = take (c * most_columns) room in
      let short = length-take-le (c * most_columns) room (omega arith) in
      get_or-append (before ++ take most_columns row) (drop (c * most_columns + most_columns) room) (pos 0) i
      (omega (arith, length_paste_head room (c * most_columns) row most_columns (omega arith) (omega (arith, long))))
      ∙ get_or-append before (take most_columns row) (pos 0) i (omega arith)
      ∙ get_or-take (c * most_columns) room i (pos 0) l

  high : (i : ℕ) → c * most_columns + most_columns ≤ i → get_or after i (pos 0) ≡ get_or room i (pos 0)
  high i l =
      let n = c * most_columns + most_columns in let e : n + (i - n) ≡ i = omega arith in
      ap (λ k. get_or after k (pos 0)) (sym e)
      ∙ sym (get_or-drop n after (i - n) (pos 0))
      ∙ ap (λ rows. get_or rows (i - n) (pos 0)) (drop-paste room (c * most_columns) row most_columns (omega arith) (omega (arith, long)))
      ∙ get_or-drop n room (i - n) (pos 0)
      ∙ ap (λ k. get_or room k (pos 0)) e

  pub row_stays : (d : ℕ) → ¬ (d ≡ c) → row_at after d ≡ row_at room d
  row_stays d n =
      ext_get_or (pos 0) (row_at after d) (row_at room d)
      (length-row after ∙ ap (λ k. min most_columns (k - d * most_columns)) length-after ∙ sym (length-row room))
      (λ k h. let l : k < most_columns = omega (arith, length-row after) in
      at after k l ∙ other (d * most_columns + k) (dec_lt d c) l ∙ sym (at room k l))
    where
      length-row : (rows : List ℤ) → length (row_at rows d) ≡ min most_columns (length rows - d * most_columns)
      length-row rows = length-take most_columns (drop (d * most_columns) rows) ∙ ap (min most_columns) (length-drop (d * most_columns) rows)

      at : (rows : List ℤ) (k : ℕ) → k < most_columns → get_or (row_at rows d) k (pos 0) ≡ get_or rows (d * most_columns + k) (pos 0)
      at rows k l = get_or-take most_columns (drop (d * most_columns) rows) k (pos 0) l ∙ get_or-drop (d * most_columns) rows k (pos 0)

      other : {k : ℕ} (i : ℕ) → Dec (d < c) → k < most_columns → get_or after (d * most_columns + k) (pos 0) ≡ get_or room (d * most_columns + k) (pos 0)
      other {k} i (yes l) h = low (d * most_columns + k) (omega arith)
      other {k} i (no l) h = high (d * most_columns + k) (omega arith)

-- ---- the rows of cells

-- none yet
pub kept_new : (p : Plan) (n m : ℕ) → n ≤ window → m ≡ n * most_columns → Kept p (replicate n 0) (replicate m (pos 0))
kept_new p n m h e = record {
  few = rw (length-replicate {A = ℕ} n 0) h;
  room = length-replicate m (pos 0) ∙ e ∙ ap (λ k. k * most_columns) (sym (length-replicate {A = ℕ} n 0));
  row = λ c l f g q. absurd (omega (arith, get_or-zeros n c));
}

module _ (p : Plan) (known : List ℕ) (kept : List ℤ) (K : Kept p known kept) where
  pub kept_on : KeptOn p known known kept
  kept_on = record { still = K; long = refl }

  -- the row of the pair f, g is that of its cell
  pub keep_row : (high : (i : ℕ) → i < columns p → level p i ≤ highest_level) (c f g : ℕ) → c < length known → cell_of p f g ≡ c →
      length (pair_row p f g) ≡ most_columns → KeptOn p known (set known c 1) (paste kept (c * most_columns) (pair_row p f g) most_columns)
  keep_row high c f g h e long = record {
    still = record {
      few = rw (length-set known c 1) K.few;
      room = length-after kept (pair_row p f g) c long fits ∙ K.room ∙ ap (λ n. n * most_columns) (sym (length-set known c 1));
      row = λ d m f' g' q. row d m f' g' q (ℕ_discrete d c);
    };
    long = length-set known c 1;
  }
    where
      fits : c * most_columns + most_columns ≤ length kept
      fits = omega (arith, K.room)

      row : (d : ℕ) → 0 < get_or (set known c 1) d 0 → (f' g' : ℕ) → cell_of p f' g' ≡ d → Dec (d ≡ c) →
          row_at (paste kept (c * most_columns) (pair_row p f g) most_columns) d ≡ pair_row p f' g'
      row d m f' g' q (yes s) =
          ap (row_at (paste kept (c * most_columns) (pair_row p f g) most_columns)) s
          ∙ row-there kept (pair_row p f g) c long fits
          ∙ cell_row p high f g f' g' (e ∙ sym (q ∙ s)) (omega (arith, e, K.few))
      row d m f' g' q (no n) =
          row_stays kept (pair_row p f g) c long fits d n
          ∙ K.row d (rw (get_or-set_other known c d 1 0 n) at m) f' g' q

-- more and more rows
module _ (p : Plan) (known known₁ known₂ : List ℕ) (kept₂ : List ℤ) where
  pub kept_then : length known₁ ≡ length known → KeptOn p known₁ known₂ kept₂ → KeptOn p known known₂ kept₂
  kept_then e L = record { still = L.still; long = L.long ∙ e }
