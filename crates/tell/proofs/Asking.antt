-- What a call that is not refused is given.
use Rattle.exact.proofs.Ground.{◌≡◌, true, false, List, [], ◌∷◌, ℕ, ◌≤◌, ◌<◌, lt-ltb, le-ltb, ltb, ltb→lt, not, ◌&&◌, refl}
use Rattle.exact.proofs.Ground.{mem-head, T}
use Rattle.exact.specs.Lists.{holds}
use Rattle.exact.proofs.Tests.{true-is, both, not-true}
use Rattle.rules.specs.Plan.{Plan, columns}
use Rattle.rules.specs.Refusals.{refusal, accepted, plain, is_set}
use Rattle.rules.specs.declared.Refusal.{Refusal}
use Rattle.rules.proofs.Order.{passed_none}
use Rattle.plan.specs.Good.{Sound}
use Rattle.set_words.specs.Given.{Projection}
use Rattle.set_words.proofs.Answers.{set_given}
use Rattle.tell.specs.Given.{Asked}
use Rattle.tell.specs.Answer.{bad_asked, tell_checks}

-- ---- the one check of its own

module _ (m a : ℕ) (J : List ℕ) where
  pub asked-outside : m ≤ a → refusal (bad_asked m a J ∷ []) ≡ plain 8
  asked-outside h = rw (le-ltb a m h)

  pub asked-no-set : a < m → is_set m J ≡ false → refusal (bad_asked m a J ∷ []) ≡ plain 8
  asked-no-set h e = rw (lt-ltb a m h, e)

  pub asked-among : a < m → is_set m J ≡ true → holds a J ≡ true → refusal (bad_asked m a J ∷ []) ≡ plain 8
  asked-among h e d = rw (lt-ltb a m h, e, d)

  pub asked-right : a < m → is_set m J ≡ true → holds a J ≡ false → refusal (bad_asked m a J ∷ []) ≡ accepted
  asked-right h e d = rw (lt-ltb a m h, e, d)

  -- what is passed: a is one of the columns, and J is a set of them
  pub asked-passed : {r : Refusal} → r ≡ refusal (bad_asked m a J ∷ []) → r.number ≡ 0 → (a < m) × T (is_set m J)
  asked-passed e z =
      let right = ltb a m && (is_set m J && not (holds a J)) in
      let (l, s) = both (ltb a m) (is_set m J && not (holds a J))
      (true-is right (not-true right (passed_none (bad_asked m a J ∷ []) tt e z (bad_asked m a J) (mem-head refl)))) in
      (ltb→lt a m l, (both (is_set m J) (not (holds a J)) s).0)

-- so the routines below have what they ask for
module _ (p : Plan) (rs : List ℕ) (a : ℕ) (J : List ℕ) (S : Sound p rs) {r : Refusal} (e : r ≡ refusal (tell_checks p a J)) (z : r.number ≡ 0) where
  pub asked-projection : Projection p J
  asked-projection = set_given p rs J S (asked-passed (columns p) a J e z).1

  pub asked-given : Asked p rs a J
  asked-given = record { sound = S; column = (asked-passed (columns p) a J e z).0; others = asked-projection.inside }
