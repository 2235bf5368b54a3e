-- The words of both sides are those of runs.
use Rattle.exact.proofs.Ground.{true, ◌≡◌, subst}
use Rattle.std.specs.Prelude.{Result, Ok, Err, is_ok, MatchResult}
use Rattle.rules.specs.declared.Refusal.{Refusal}
use Rattle.compare.specs.declared.RefusedPlan.{RefusedPlan}
use Rattle.compare.specs.declared.routines.Side.{Side}
use Rattle.compare.specs.Given.{OfWords, Sided}
use Rattle.compare.proofs.routines.compare_answer.Goals as goal

abbrev here : Side → Result Side RefusedPlan
here s = Ok s

-- a side that was answered is one of those given
given-words : (x : Result Side Refusal) (Q : Refusal → Type 0) (a : Side) → Sided x → true ≡ is_ok x →
    MatchResult x (λ s. here a ≡ here s) Q → OfWords a
given-words (Ok s) Q a S o m = let e : s ≡ a = cc in subst OfWords e S
given-words (Err r) Q a S o m = cc

pub compare_words-verdict-requires : goal.compare_words-verdict-requires
compare_words-verdict-requires c =
    let A = given-words _ _ c.in_ok-a.a c.requires.0 c.in_ok-a.ensures.variant c.in_ok-a.ensures.cases in
    let B = given-words _ _ c.in_ok-b.b c.requires.1 c.in_ok-b.ensures.variant c.in_ok-b.ensures.cases in
    (A.words, (B.words, A.few))
