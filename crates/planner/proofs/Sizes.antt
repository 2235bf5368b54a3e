-- The sizes that C programs get: a number of bytes or lines.
use Rattle.exact.proofs.Ground.{◌≡◌, refl, ℕ, ◌≤◌}
use Rattle.std.specs.Prelude.{Result, Ok, Err, IfOk, IsOkAnd, MatchResult}
use Rattle.rules.specs.declared.Refusal.{Refusal}
use Rattle.rules.specs.Refusals.{refusal_in}

-- what holds of the size that an answer has
pub in-answer : (answer : Result ℕ Refusal) (P : ℕ → Type 0) → ((size : ℕ) → Ok size ≡ answer → P size) → IfOk answer P
in-answer (Ok size) P f = f size refl
in-answer (Err r) P f = tt

-- an answer with another value in its place has the refusal that it had
pub map-number : {A : Type 0} (answer : Result A Refusal) (size : Result ℕ Refusal) (most : ℕ) (Q : A → ℕ → Type 0) →
    MatchResult answer (λ x. IsOkAnd size (Q x)) (λ r. size ≡ Err r) → (refusal_in answer).number ≤ most → (refusal_in size).number ≤ most
map-number (Ok x) (Ok n) most Q m l = l
map-number (Ok x) (Err r) most Q m l = absurd m
map-number (Err r) size most Q m l = rw m l
