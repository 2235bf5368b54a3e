-- What a question that is not refused hands to the lines.
use Rattle.exact.proofs.Ground.{List, ◌≡◌, ℕ, arith, refl}
use Rattle.exact.specs.declared.fractions.Fraction.{Fraction}
use Rattle.exact.proofs.Numbers.{length_from}
use Rattle.std.specs.Prelude.{Ok}
use Rattle.rules.specs.Plan.{Plan, columns, level, entry}
use Rattle.rules.specs.Refusals.{refusal, answered}
use Rattle.rules.proofs.Answered.{ok-accepted, ok-is}
use Rattle.sets.proofs.Parts.{part_length}
use Rattle.sets.proofs.Rising.{set-part}
use Rattle.plan.specs.Good.{Sound}
use Rattle.tell.specs.declared.Told.{Told}
use Rattle.tell.specs.Given.{Asked}
use Rattle.tell.specs.Words.{words_figure}
use Rattle.tell.specs.Answer.{tell_checks, told}
use Rattle.tell.proofs.Asking.{asked-passed, asked-projection, asked-given}
use Rattle.set_words.specs.Given.{Projection}
use Rattle.tell_lines.specs.Parts.{Shown, Answered}

module _ (p : Plan) (rs : List ℕ) (a : ℕ) (J : List ℕ) (S : Sound p rs) {t : Told} (e : Ok t ≡ answered (refusal (tell_checks p a J)) (told p rs a J)) where
  own : (refusal (tell_checks p a J)).number ≡ 0
  own = ok-accepted (refusal (tell_checks p a J)) (told p rs a J) e

  pub given-asked : Asked p rs a J
  given-asked = asked-given p rs a J S refl own

  pub given-projection : Projection p J
  given-projection = asked-projection p rs a J S refl own

  given-shown : Shown p J
  given-shown = record {
    inside = given-projection.inside;
    few = omega (
      arith,
      part_length (set-part (columns p) J (asked-passed (columns p) a J refl own).1),
      length_from 0 (columns p),
      S.columns-high,
    );
    small = given-projection.small;
  }

  pub given-answered : {words : Fraction} → words ≡ words_figure (level p) (entry p) rs a J → Answered p rs a J t words
  given-answered w = record {
    asked = given-asked;
    shown = given-shown;
    is-told = ok-is (refusal (tell_checks p a J)) (told p rs a J) e;
    are_words = w;
  }
