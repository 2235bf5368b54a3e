-- What a call on a held plan hands to the routines below: its levels, the standing runs, and how large their numbers are.
use Rattle.exact.proofs.Ground.{true, false, Bool, List, [], ◌∷◌, ◌≡◌, ◌∙◌, sym, ap, refl, ℕ, ◌≤◌, ◌<◌, ◌-◌, suc, ◌^◌, arith, pos, ℤ, nat_abs}
use Rattle.exact.proofs.Ground.{length, get_or, length-take-le, get_or-take, ne_eqb, le-ltb, w64, to_z, of_z}
use Rattle.std.specs.Prelude.{Ok, Err}
use Rattle.exact.proofs.Bits.{fits, back}
use Rattle.rules.specs.Plan.{Plan, plan, columns, level, entry, every_column}
use Rattle.rules.specs.declared.Refusal.{Refusal}
use Rattle.rules.specs.Refusals.{Check, refusal, answered, plain, or_else, of_held, too_few}
use Rattle.rules.proofs.Answered.{answered-err, err-refused, err-is, ok-accepted, ok-is}
use Rattle.rules.proofs.Ranges.{or-refused, or-accepted}
use Rattle.plan.specs.Good.{Sound}
use Rattle.words.specs.Words.{word, row_sum, diagonal}
use Rattle.words.specs.Given.{Row}
use Rattle.words.specs.Answers.{word_list, row_list, diagonal_list}
use Rattle.words.proofs.Totals.{by-length-row}
use Rattle.words.proofs.OfPlan.{sound-levels, row_small, word_small, diagonal-small}
use Rattle.words.proofs.Answered.{word_at}
use Rattle.held.specs.declared.Held.{Held}
use Rattle.held.specs.Held.{IsHeld, standing, marks_in, plan_in, standing_in, of_standing, remarked}
use Rattle.held.specs.Given.{Changes, factor_of, changed}
use Rattle.held.proofs.History.{words-standing}
use Rattle.held.proofs.Sizes.{sized}
use Rattle.held.proofs.Standing.{standing-within}
use Rattle.held.proofs.Update.{words-changed}

-- ---- the levels are as many as the columns

pub columns-in : {h : Held} → IsHeld h → columns (plan_in h) ≡ h.columns
columns-in {h} H = let S = sized H in length-take-le h.columns h.levels (omega arith)

-- a question is refused by 10 where no run stands, and else by its own checks
pub standing-begins : (h : Held) (checks : List Check) → refusal (of_standing h checks) ≡ or_else (refusal (of_standing h [])) (refusal checks)
standing-begins h checks = go (standing_in h)
  where
    go : (rs : List ℕ) → refusal (of_held rs checks) ≡ or_else (refusal (of_held rs [])) (refusal checks)
    go [] = refl
    go (f ∷ rs) = rw (ne_eqb (suc (length rs)) 0 (λ q. omega arith))

-- on the empty plan it is refused by 10, and else by its own checks
module _ {h : Held} (H : IsHeld h) (checks : List Check) where
  pub none-refuses : h.runs ≡ 0 → refusal (of_standing h checks) ≡ plain 10
  unfolding standing
  none-refuses e = rw e

  pub some-asks : ¬ (h.runs ≡ 0) → refusal (of_standing h checks) ≡ refusal checks
  some-asks n = let l = (sized H).some-stand (omega arith) in rw (ne_eqb (length (standing_in h)) 0 (λ e. omega arith))

-- where a question is not refused, some run stands
pub some-stand : (h : Held) → (refusal (of_standing h [])).number ≡ 0 → 1 ≤ length (standing_in h)
some-stand h z = go (standing_in h) z
  where
    go : (rs : List ℕ) → (refusal (of_held rs [])).number ≡ 0 → 1 ≤ length rs
    go [] z = absurd (omega arith)
    go (f ∷ rs) z = omega arith

pub some_runs : {h : Held} → IsHeld h → 1 ≤ length (standing_in h) → 0 < h.runs
some_runs {h} H l = omega (arith, standing-within (marks_in h), (sized H).marks-held)

-- ---- the standing runs, behind refusal 10 where there is none

pub none-stands : (rs : List ℕ) → refusal (too_few 1 (length rs) ∷ []) ≡ refusal (of_held rs [])
none-stands [] = refl
none-stands (f ∷ rs) = rw (le-ltb (suc (length rs)) 1 (omega arith), ne_eqb (suc (length rs)) 0 (λ q. omega arith))

-- where it stops, so does every question, whatever its checks
pub stops : (h : Held) {e : Refusal} → Err e ≡ answered (refusal (too_few 1 (length (standing_in h)) ∷ [])) (standing_in h) →
    {B : Type 0} (checks : List Check) (value : B) → Err e ≡ answered (refusal (of_standing h checks)) value
stops h w checks value =
    let n = err-refused _ (standing_in h) w in
    let q = none-stands (standing_in h) in
    rw (standing-begins h checks, or-refused (refusal (of_standing h [])) (refusal checks) (rw q at n))
    (ap Err (err-is _ (standing_in h) w ∙ q) ∙ sym (answered-err _ value (rw q at n)))

module _ (h : Held) {y : List ℕ} (w : Ok y ≡ answered (refusal (too_few 1 (length (standing_in h)) ∷ [])) (standing_in h)) where
  -- where it goes on, the runs are those that stand, one or more
  pub runs-are : y ≡ standing_in h
  runs-are = ok-is _ (standing_in h) w

  begins-well : (refusal (of_standing h [])).number ≡ 0
  begins-well = ap (λ r. r.number) (sym (none-stands (standing_in h))) ∙ ok-accepted _ (standing_in h) w

  pub some-run : 1 ≤ length (standing_in h)
  some-run = some-stand h begins-well

  -- and it is refused by its own checks alone
  pub asks-on : (checks : List Check) → refusal (of_standing h checks) ≡ refusal checks
  asks-on checks = standing-begins h checks ∙ or-accepted _ (refusal checks) begins-well

  pub goes-on : {B : Type 0} (checks : List Check) (value : B) → answered (refusal (of_standing h checks)) value ≡ answered (refusal checks) value
  goes-on checks value = ap (λ r. answered r value) (asks-on checks)

-- ---- the numbers are small

module _ (p : Plan) (rs : List ℕ) (S : Sound p rs) where
  words_small : Row (2 ^ 60) (word_list p rs)
  unfolding word_list
  words_small = by-length-row (word (level p) (entry p) rs (every_column p)) (2 ^ 60) (λ j. omega (arith, word_small p rs S j))

  row_fits : (f : ℕ) → Sound p (f ∷ []) → Row (2 ^ 60) (row_list p rs f)
  unfolding row_list
  row_fits f F = by-length-row (λ j. row_sum (level p) (entry p) rs (every_column p) j f) (2 ^ 60) (λ j. omega (arith, row_small p rs S f F j))

  diagonal-fits : Row (2 ^ 60) (diagonal_list p)
  unfolding diagonal_list
  diagonal-fits = by-length-row (diagonal (level p) (every_column p)) (2 ^ 60) (λ j. omega (arith, diagonal-small p rs S j))

factor-small : (b : Bool) → nat_abs (factor_of b) ≤ 2
factor-small true = omega arith
factor-small false = omega arith

pub factor-is : (b : Bool) → to_z w64 (of_z w64 (factor_of b)) ≡ factor_of b
factor-is b = back (fits (factor_of b) (omega (arith, factor-small b)))

-- a word read from the held plan
pub word_read : {h : Held} → IsHeld h → (j : ℕ) → 1 ≤ j → j ≤ h.columns →
    to_z w64 (of_z w64 (get_or h.words (j - 1) (pos 0))) ≡ word (level (plan_in h)) (entry (plan_in h)) (standing_in h) (every_column (plan_in h)) j
word_read {h} H j l k =
    let W = (words_small (plan_in h) (standing_in h) (sized H).sound).small (j - 1) in
    rw (words-standing H) (back (fits (get_or (word_list (plan_in h) (standing_in h)) (j - 1) (pos 0)) (omega arith)))
    ∙ ap (λ w. get_or w (j - 1) (pos 0)) (words-standing H)
    ∙ word_at (plan_in h) (standing_in h) j l (omega (arith, (sized H).columns-high))

-- ---- the words that a change of mark leaves

module _ {h : Held} {f : ℕ} {b : Bool} (C : Changes h f b) where
  abbrev row_of : List ℤ
  row_of = row_list (plan_in h) (standing_in h) f

  abbrev diagonal_of : List ℤ
  diagonal_of = diagonal_list (plan (plan_in h).levels [])

  pub change-small : (nat_abs (factor_of b) ≤ 2) × (Row (2 ^ 60) h.words × (Row (2 ^ 60) row_of × Row (2 ^ 60) diagonal_of))
  change-small =
      let S = (sized C.held).sound in
      let F = (sized C.held).each f C.there in (
        factor-small b,
        (
          rw (words-standing C.held) (words_small (plan_in h) (standing_in h) S),
          (row_fits (plan_in h) (standing_in h) S f F, diagonal-fits (plan (plan_in h).levels []) [] (sound-levels (plan_in h) (standing_in h) S)),
        ),
      )

  pub changed-held : changed (factor_of b) h.words row_of diagonal_of ≡ (remarked h f b).words
  unfolding remarked diagonal_list
  changed-held =
      let there : f < length (marks_in h) = rw (sized C.held).marks-held C.there in
      rw (words-standing C.held)
      (words-changed (plan_in h) (marks_in h) f there b (get_or-take h.runs h.marks f false C.there ∙ C.mark))
