-- The first run with a number that occurs: it is among the runs, and lies in the plan.
use Rattle.exact.proofs.Ground.{true, List, [], ◌∷◌, Memᴰ, mem-not_nil, ◌≡◌, ap, ℕ, ◌<◌, arith, length, get_or, length-map}
use Rattle.exact.specs.Lists.{holds}
use Rattle.exact.proofs.Members.{get_or-mem}
use Rattle.rules.specs.Plan.{Plan, level, entry}
use Rattle.plan.specs.Good.{Sound}
use Rattle.words.proofs.OfPlan.{sound-run}
use Rattle.counts.specs.Numbered.{number_of}
use Rattle.tell.specs.Given.{Asked}
use Rattle.tell_lines.specs.Parts.{place_of, Numbered}
use Rattle.tell_lines.proofs.Least.{place_found}

module _ {p : Plan} {rs : List ℕ} {a : ℕ} {J numbers : List ℕ} (N : Numbered p rs a J numbers) (number : ℕ) {place : ℕ} (h : holds number numbers ≡ true)
    (e : place ≡ place_of numbers number) where
  pub numbered-place : place < length rs
  numbered-place =
      omega (arith, e, (place_found numbers number h).0, ap length N.are, length-map rs (λ f. number_of (level p) (entry p) f J))

  here : Memᴰ (get_or rs place 0) rs
  here = get_or-mem rs place 0 numbered-place

  pub numbered-sound : Sound p (get_or rs place 0 ∷ [])
  numbered-sound = sound-run p rs N.asked.sound (get_or rs place 0) here

  pub numbered_asked : Asked p (get_or rs place 0 ∷ []) a []
  numbered_asked = record { sound = numbered-sound; column = N.asked.column; others = λ i m. absurd (mem-not_nil m) }
