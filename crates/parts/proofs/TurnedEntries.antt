-- The entries of some runs, column after column: one run more, and one column more.
use Rattle.exact.proofs.Ground.{List, [], ◌∷◌, map, ◌++◌, append_assoc, append-nil, ◌≡◌, ◌∙◌, sym, ap, refl, ap₂, ℕ, ◌≤◌, ◌<◌, ◌-◌, ◌+◌, ◌*◌, le_refl}
use Rattle.exact.proofs.Ground.{mul-le-mul_right, suc-mul, add-one, arith, length, get_or, take, drop, replicate, set, length-append, length-map}
use Rattle.exact.proofs.Ground.{length-take-le, take_at, take-suc, take_all}
use native.Mathlib.Nat.{le_of_lt}
use lib.Seq.{paste, paste-suc, drop-append-add}
use Rattle.exact.specs.Lists.{filled_to}
use Rattle.exact.proofs.Lists.{get_d_map}
use Rattle.exact.proofs.Rooms.{into-blank}
use Rattle.rules.specs.Plan.{Plan, entry}
use Rattle.parts.specs.Parts.{turned}

-- the entry of the run at place k, in the room that has those of the runs before it
pub column-next : (p : Plan) (i : ℕ) (d : List ℕ) (at : ℕ) (rs : List ℕ) (k : ℕ) (room : List ℕ) → room ≡ paste d at (map (λ f. entry p f i) rs) k →
    k < length rs → at + k < length d → set room (at + k) (entry p (get_or rs k 0) i) ≡ paste d at (map (λ f. entry p f i) rs) (k + 1)
column-next p i d at rs k room e h l =
    rw (e, sym (get_d_map (λ f. entry p f i) rs k 0 0 h), add-one k)
    (paste-suc d at (map (λ f. entry p f i) rs) k 0 l (let q : k < length (map (λ f. entry p f i) rs) = rw (length-map rs (λ f. entry p f i)) h in q))

module _ {R C : Type 0} (entry : R → C → ℕ) (rs : List R) where
  turned-snoc : (I : List C) (i : C) → turned entry rs (I ++ i ∷ []) ≡ turned entry rs I ++ map (λ f. entry f i) rs
  turned-snoc [] i = append-nil (map (λ f. entry f i) rs)
  turned-snoc (j ∷ I) i =
      ap (λ l. map (λ f. entry f j) rs ++ l) (turned-snoc I i) ∙ sym (append_assoc (map (λ f. entry f j) rs) (turned entry rs I) (map (λ f. entry f i) rs))

  pub turned-length : (I : List C) → length (turned entry rs I) ≡ length I * length rs
  turned-length [] = omega arith
  turned-length (i ∷ I) =
      rw (length-append (map (λ f. entry f i) rs) (turned entry rs I), length-map rs (λ f. entry f i), turned-length I, suc-mul (length I) (length rs)) (omega arith)

-- a row behind what a room holds
row_next : (n : ℕ) (xs row : List ℕ) → length xs + length row ≤ n →
    paste (filled_to n 0 xs) (length xs) row (length row) ≡ filled_to n 0 (xs ++ row)
row_next n xs row h =
    let R = length row in
    let free : List ℕ = replicate (n - length xs) 0 in
    let e : n - length xs - R ≡ n - length (xs ++ row) = omega (arith, length-append xs row) in
    ap₂ (λ a b. a ++ b ++ drop (length xs + R) (xs ++ free)) (take_at xs free (length xs) refl) (take_all R row (le_refl R))
    ∙ ap (λ l. xs ++ row ++ l) (drop-append-add xs free R)
    ∙ append_assoc xs row (drop R free)
    ∙ ap (λ l. xs ++ l) (into-blank row (n - length xs) 0)
    ∙ sym (append_assoc xs row (replicate (n - length xs - R) 0))
    ∙ ap (λ k. xs ++ row ++ replicate k 0) e

module _ {R C : Type 0} (entry : R → C → ℕ) (rs : List R) (I : List C) where
  -- the column at place t, in the room that has those before it
  pub turned-next : (n t : ℕ) (d : C) (room : List ℕ) → room ≡ filled_to n 0 (turned entry rs (take t I)) → t < length I → length I * length rs ≤ n →
      paste room (t * length rs) (map (λ f. entry f (get_or I t d)) rs) (length rs) ≡ filled_to n 0 (turned entry rs (take (t + 1) I))
  turned-next n t d room e h l =
      let xs = turned entry rs (take t I) in
      let row = map (λ f. entry f (get_or I t d)) rs in
      let long : length xs ≡ t * length rs = turned-length entry rs (take t I) ∙ ap (λ k. k * length rs) (length-take-le t I (le_of_lt h)) in
      let wide : length row ≡ length rs = length-map rs (λ f. entry f (get_or I t d)) in
      ap₂ (λ a b. paste room a row b) (sym long) (sym wide)
      ∙ ap (λ room. paste room (length xs) row (length row)) e
      ∙ row_next n xs row (omega (arith, long, wide, suc-mul t (length rs), mul-le-mul_right (length rs) h))
      ∙ ap (filled_to n 0) (sym (turned-snoc entry rs (take t I) (get_or I t d)) ∙ ap (turned entry rs) (sym (take-suc I t d h) ∙ ap (λ k. take k I) (sym (add-one t))))
