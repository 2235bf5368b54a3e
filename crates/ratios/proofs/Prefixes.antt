-- The runs' numbers in the columns taken: with the digit of one column more they are the numbers in one column more.
use Rattle.exact.proofs.Ground.{length-map, ◌<◌, List, [], ◌∷◌, map, ◌++◌, ◌≡◌, ◌∙◌, sym, ap, refl, fun_ext, ℕ, ◌≤◌, ◌+◌, ◌*◌, suc, zero, suc-mul, arith, length, get_or}
use Rattle.exact.proofs.Ground.{take, drop, replicate, drop-cons}
use lib.Seq.{drop-append-add}
use Rattle.rules.specs.Plan.{Plan, level, entry}
use Rattle.counts.specs.Numbered.{number_of}
use Rattle.counts.proofs.Turns.{number-snoc}
use Rattle.parts.specs.Parts.{longer, turned}
use Rattle.parts.proofs.FromCounts.{longer-map}
use Rattle.set_ratios.specs.Given.{numbers_in}

-- before any column is taken every number is zero
pub no-numbers : (p : Plan) (rs : List ℕ) (k : ℕ) → length rs ≤ k → take (length rs) (replicate {A = ℕ} k 0) ≡ numbers_in p rs []
no-numbers p [] k h = refl
no-numbers p (f ∷ rs) zero h = absurd (omega arith)
no-numbers p (f ∷ rs) (suc k) h = ap (λ l. 0 ∷ l) (no-numbers p rs k (omega arith))

module _ (p : Plan) (rs P : List ℕ) (i : ℕ) (z : List ℕ) where
  pub longer-numbers : longer (level p i) (numbers_in p rs P) (map (λ f. entry p f i) rs ++ z) ≡ numbers_in p rs (P ++ i ∷ [])
  longer-numbers =
      longer-map (level p i) (λ f. number_of (level p) (entry p) f P) (λ f. entry p f i) z rs
      ∙ ap (λ g. map g rs) (fun_ext (λ f. sym (number-snoc (level p) (entry p) f P i)))

-- the entries from the column at place k on
module _ {R C : Type 0} (entry : R → C → ℕ) (rs : List R) where
  pub turned-from : (I : List C) (k : ℕ) → k ≤ length I → drop (k * length rs) (turned entry rs I) ≡ turned entry rs (drop k I)
  turned-from I zero h = ap (λ j. drop j (turned entry rs I)) (let e : 0 * length rs ≡ 0 = omega arith in e)
  turned-from [] (suc k) h = absurd (omega arith)
  turned-from (i ∷ I) (suc k) h =
      let row = map (λ f. entry f i) rs in
      let e : suc k * length rs ≡ length row + k * length rs = omega (arith, suc-mul k (length rs), length-map rs (λ f. entry f i)) in
      ap (λ j. drop j (turned entry rs (i ∷ I))) e ∙ drop-append-add row (turned entry rs I) (k * length rs) ∙ turned-from I k (omega arith)

-- the column at place k, its digit behind the numbers
pub longer-from : (p : Plan) (rs P rest : List ℕ) (k : ℕ) → k < length rest →
    longer (level p (get_or rest k 0)) (numbers_in p rs P) (drop (k * length rs) (turned (entry p) rs rest)) ≡ numbers_in p rs (P ++ get_or rest k 0 ∷ [])
longer-from p rs P rest k h =
    ap (longer (level p (get_or rest k 0)) (numbers_in p rs P)) (turned-from (entry p) rs rest k (omega arith) ∙ ap (turned (entry p) rs) (drop-cons rest k 0 h))
    ∙ longer-numbers p rs P (get_or rest k 0) (turned (entry p) rs (drop (suc k) rest))
