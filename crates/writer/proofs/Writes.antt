-- What the writer answers, by the length of the room; and no answer has more bytes than a good plan's text.
use Rattle.exact.proofs.Ground.{List, [], ◌∷◌, ◌≡◌, ◌∙◌, sym, ap, refl, ℕ, ◌≤◌, ◌<◌, ℕ_discrete, length, le-ltb, lt-ltb}
use Rattle.std.specs.Prelude.{Ok, Err}
use Rattle.rules.specs.Plan.{Plan, every_run}
use Rattle.rules.specs.Refusals.{Check, refusal, plain, of_plan, plan_checks}
use Rattle.rules.proofs.Answered.{ok-accepted, ok-is}
use Rattle.plan.proofs.Checks.{passed-good, plan-refused}
use Rattle.writer.specs.Writer.{text_of, bad_text_room, write_answer, most_of_text}
use Rattle.writer.proofs.Written.{text-short, good-runs}

module _ (p : Plan) (rs : List ℕ) (bytes : ℕ) where
  pub room_small : bytes < length (text_of p rs) → Err (plain 7) ≡ write_answer p rs (λ checks. checks) bytes
  unfolding write_answer
  room_small h = rw (lt-ltb bytes (length (text_of p rs)) h)

  pub room-large : length (text_of p rs) ≤ bytes → Ok (length (text_of p rs)) ≡ write_answer p rs (λ checks. checks) bytes
  unfolding write_answer
  room-large h = rw (le-ltb bytes (length (text_of p rs)) h)

-- of a plan's own text
pub write-few : (p : Plan) (bytes : ℕ) {n : ℕ} → Ok n ≡ write_answer p (every_run p) (of_plan p) bytes → n ≤ most_of_text
unfolding write_answer
write-few p bytes {n} e = go (ℕ_discrete (refusal (plan_checks p)).number 0)
  where
    own : List Check
    own = bad_text_room p (every_run p) bytes ∷ []

    go : Dec ((refusal (plan_checks p)).number ≡ 0) → n ≤ most_of_text
    go (yes z) =
        rw (ok-is (refusal (of_plan p own)) (length (text_of p (every_run p))) e) (text-short p (every_run p) (good-runs p (passed-good p refl z)))
    go (no h) =
        let z = ok-accepted (refusal (of_plan p own)) (length (text_of p (every_run p))) e in
        absurd (h (ap (λ r. r.number) (sym (plan-refused p own tt refl h)) ∙ z))
