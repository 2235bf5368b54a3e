-- What the checks of levels and of a length tell where they pass, and the word of one length.
use Rattle.exact.proofs.Ground.{List, [], ◌∷◌, mem-head, mem-tail, mem-not_nil, ◌≡◌, ◌∙◌, ap, refl, ℕ, ◌≤◌, ◌-◌, ◌+◌, arith}
use Rattle.exact.proofs.Ground.{pos, get_or, ltb-false}
use Rattle.exact.specs.Lists.{product}
use Rattle.exact.proofs.Numbers.{map-from-at}
use Rattle.rules.specs.declared.Refusal.{Refusal}
use Rattle.rules.specs.Plan.{Plan, plan, columns, level, entry, every_column, most_columns, highest_product}
use Rattle.rules.specs.Refusals.{refusal, level_checks, bad_columns, bad_level, bad_product, bad_length}
use Rattle.rules.proofs.Order.{passed_none}
use Rattle.rules.proofs.Ranges.{inside}
use Rattle.plan.specs.Good.{Sound}
use Rattle.plan.proofs.Checks.{columns-passed, levels-passed}
use Rattle.pairs.specs.Words.{word}
use Rattle.words.specs.Answers.{word_list}

-- levels that pass, with no runs
pub levels_sound : (levels : List ℕ) {r : Refusal} → r ≡ refusal (level_checks (plan levels [])) → r.number ≡ 0 → Sound (plan levels []) []
levels_sound levels e z =
    let p = plan levels [] in
    let passes = passed_none (level_checks p) tt e z in
    let m = columns-passed (columns p) (passes (bad_columns (columns p)) (mem-head refl)) in
    let s = levels-passed p (passes (bad_level p) (mem-tail (mem-head refl))) in
    record {
      columns-high = m.1;
      level-low = λ i h. omega (arith, (s i h).0);
      level-high = λ i h. (s i h).1;
      small = ltb-false highest_product (product levels) (passes (bad_product p) (mem-tail (mem-tail (mem-head refl))));
      few = omega arith;
      numbered = λ f n. absurd (mem-not_nil n);
      inside = λ f n. absurd (mem-not_nil n);
      below = λ f n. absurd (mem-not_nil n);
    }

-- ---- the word of one length

pub word_at : (p : Plan) (rs : List ℕ) (j : ℕ) → 1 ≤ j → j ≤ most_columns →
    get_or (word_list p rs) (j - 1) (pos 0) ≡ word (level p) (entry p) rs (every_column p) j
unfolding word_list
word_at p rs j l h =
    let W = word (level p) (entry p) rs (every_column p) in
    let e : 1 + (j - 1) ≡ j = omega arith in
    map-from-at W 1 most_columns (j - 1) (pos 0) (omega arith) ∙ ap W e

-- a length that passes its check is one of the words'
pub length-passed : (m j : ℕ) {r : Refusal} → r ≡ refusal (bad_length m j ∷ []) → r.number ≡ 0 → (1 ≤ j) × (j ≤ m)
length-passed m j e z = inside 1 m j (passed_none (bad_length m j ∷ []) tt e z (bad_length m j) (mem-head refl))
