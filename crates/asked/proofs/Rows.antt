-- What an answer lists fits the row of numbers that it is put into: three runs lost in turn, four columns.
use Rattle.exact.proofs.Ground.{true, false, Bool, cond, List, [], ◌∷◌, mem-head, mem-tail, mem-append_right, ◌≡◌, ap, refl, subst⁻¹}
use Rattle.exact.proofs.Ground.{ℕ, ◌≤◌, ◌<◌, ◌+◌, ℕ_discrete, suc, zero, arith, eqb, ltb, length, add-one}
use Rattle.std.specs.Prelude.{Result, Ok, Err}
use Rattle.std.specs.Result.{result_unwrap_or}
use Rattle.exact.specs.Lists.{outside}
use Rattle.exact.proofs.Tests.{neither, not-true}
use borrow.Author.Tests.{ltb-true}
use Rattle.rules.specs.declared.Refusal.{Refusal}
use Rattle.rules.specs.Plan.{Plan}
use Rattle.rules.specs.Refusals.{Check, refusal, answered, plan_checks, of_plan, of_held, too_few, bad_number, bad_size, bad_place}
use Rattle.rules.proofs.Answered.{answered-ok, answered-err}
use Rattle.rules.proofs.Order.{passed_none}
use Rattle.rules.proofs.Ranges.{inside}
use Rattle.sets.specs.Sets.{binom, sets_of, set_at, set_checks, set_answer}
use Rattle.sets.proofs.Pascal.{many-sets}
use Rattle.sets.proofs.Places.{set-at-set}
use Rattle.advice.specs.Advice.{without, in_turn, turns_checks, turns_answer}

-- a list is short where it is answered; nothing is listed in a refusal
short : (r : Refusal) (xs : List ℕ) (most : ℕ) → (r.number ≡ 0 → length xs ≤ most) → length (result_unwrap_or (answered r xs) []) ≤ most
short r xs most f = go (ℕ_discrete r.number 0)
  where
    go : Dec (r.number ≡ 0) → length (result_unwrap_or (answered r xs) []) ≤ most
    go (yes z) = subst⁻¹ (λ x. length (result_unwrap_or x []) ≤ most) (answered-ok r xs z) (f z)
    go (no n) = subst⁻¹ (λ x. length (result_unwrap_or x []) ≤ most) (answered-err r xs n) (omega arith)

-- ---- the runs lost in turn

module _ (p : Plan) where
  length_lost : (k : ℕ) (rs : List ℕ) → length (in_turn p k rs) ≡ k
  unfolding in_turn
  length_lost zero rs = refl
  length_lost (suc k) rs = ap suc (length_lost k _)

  turns-short : (rs : List ℕ) (k : ℕ) → (bad_number k).fails ≡ false → length (in_turn p k rs) ≤ 3
  turns-short rs k e = rw (length_lost k rs) (inside 1 3 k e).1

  -- of all runs of a plan, and of the standing runs of a held one
  pub plan-turns : (rs : List ℕ) (k : ℕ) → length (result_unwrap_or (turns_answer p rs (of_plan p) k) []) ≤ 3
  unfolding turns_answer
  plan-turns rs k =
      let checks = of_plan p (turns_checks k rs) in
      short (refusal checks) (in_turn p k rs) 3
      (λ z. turns-short rs k (passed_none checks tt refl z (bad_number k) (mem-append_right (plan_checks p) (mem-head refl))))

  pub held-turns : (standing rs : List ℕ) (k : ℕ) → length (result_unwrap_or (turns_answer p rs (of_held standing) k) []) ≤ 3
  unfolding turns_answer
  held-turns standing rs k =
      short (refusal (of_held standing (turns_checks k rs))) (in_turn p k rs) 3 (λ z. turns-short rs k (go (eqb (length standing) 0) z))
    where
      go : (b : Bool) → (refusal (cond b (too_few 1 0 ∷ []) (turns_checks k rs))).number ≡ 0 → (bad_number k).fails ≡ false
      go true z = absurd (omega (arith, z))
      go false z = passed_none (turns_checks k rs) tt refl z (bad_number k) (mem-head refl)

-- ---- the columns of a set

pub columns-few : (m f k : ℕ) → length (result_unwrap_or (set_answer m f k) []) ≤ 4
unfolding set_answer
columns-few m f k = short (refusal (set_checks m f k)) (set_at m f k) 4 few
  where
    few : (refusal (set_checks m f k)).number ≡ 0 → length (set_at m f k) ≤ 4
    few z =
        let passes = passed_none (set_checks m f k) tt refl z in
        let (size, wide) = neither (outside 1 4 f) (ltb m f) (passes (bad_size m f) (mem-tail (mem-head refl))) in
        let there = ltb-true k (length (sets_of m f)) (not-true _ (passes (bad_place (length (sets_of m f)) k) (mem-tail (mem-tail (mem-head refl))))) in
        let place : k < binom m f = rw (many-sets f 0 m) at there in
        omega (arith, (set-at-set m f k place).1, (inside 1 4 f size).1)
