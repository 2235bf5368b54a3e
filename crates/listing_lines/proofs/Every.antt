-- Every run of an accepted plan.
use Rattle.exact.proofs.Ground.{List, ◌≡◌, ◌∙◌, ap, subst⁻¹, ℕ, length}
use Rattle.exact.proofs.Numbers.{length_from}
use Rattle.rules.specs.Plan.{Plan, runs}
use Rattle.plan.specs.Good.{Sound}
use Rattle.plan.proofs.Sound.{good-sound}
use Rattle.advice.specs.Given.{Standing}
use Rattle.advice.proofs.Enough.{good-standing}
use Rattle.listing_lines.specs.Parts.{Every}

module _ {p : Plan} {rs : List ℕ} (E : Every p rs) where
  pub every-many : length rs ≡ runs p
  every-many = ap length E.all ∙ length_from 0 (runs p)

  pub every-sound : Sound p rs
  every-sound = subst⁻¹ (Sound p) E.all (good-sound p E.good)

  pub every-standing : Standing p rs
  every-standing = subst⁻¹ (Standing p) E.all (good-standing p E.good)
