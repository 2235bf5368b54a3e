-- What is answered, and the room then: by how the call begins, by the question, and by the room's length.
use Rattle.exact.proofs.Ground.{List, [], ◌∷◌, ◌≡◌, ◌∙◌, sym, ap, ℕ, ◌≤◌, ◌<◌, length, le-ltb, lt-ltb}
use Rattle.std.specs.Prelude.{Result, Ok, Err}
use Rattle.exact.specs.Lists.{into}
use Rattle.rules.specs.declared.Refusal.{Refusal}
use Rattle.rules.specs.Plan.{Plan, columns}
use Rattle.rules.specs.Refusals.{Check, refusal, answered, plain, bad_room}
use Rattle.rules.proofs.Answered.{err-first, ok-first, err-refused, ok-accepted}
use Rattle.rules.proofs.Ranges.{unless-refused, unless-accepted}
use Rattle.marked.specs.Marked.{marked_runs, of_marked}
use Rattle.marked.proofs.MarkedRuns.{marked-stops, marked-are, marked-asks}
use Rattle.tell.specs.Answer.{bad_asked, tell_checks}
use Rattle.tell_lines.specs.TellLines.{tell_lines}
use Rattle.tell_marked.specs.TellMarked.{marked_lines, marked_refusal, marked_written, tell_room}

module _ (p : Plan) (marks : List ℕ) (a : ℕ) (J room : List ℕ) where
  abbrev lines : List ℕ
  lines = marked_lines p marks a J

  abbrev asks : Check
  asks = bad_asked (columns p) a J

  abbrev last : Check
  last = bad_room (length lines) (length room)

  abbrev whole : Refusal
  whole = marked_refusal p marks a J room

  -- the answer, and the room then
  abbrev Answered : Result ℕ Refusal → List ℕ → Type 0
  Answered r after = (r ≡ marked_written p marks a J room) × (after ≡ tell_room p marks a J room)

  stopped : {e : Refusal} → Err e ≡ answered whole (length lines) → Answered (Err e) room
  unfolding marked_written tell_room
  stopped w = (w, sym (unless-refused whole room (into lines room) (err-refused whole (length lines) w)))

  pub runs-stop : {e : Refusal} → Err e ≡ answered (refusal (of_marked p marks [])) (marked_runs p marks) → Answered (Err e) room
  runs-stop w = stopped (marked-stops p marks w (asks ∷ last ∷ []) tt (length lines))

  module _ {rs : List ℕ} (w : Ok rs ≡ answered (refusal (of_marked p marks [])) (marked_runs p marks)) where
    own : whole ≡ refusal (asks ∷ last ∷ [])
    own = marked-asks p marks w (asks ∷ last ∷ []) tt

    pub question-stops : {e : Refusal} → Err e ≡ answered (refusal (tell_checks p a J)) (tt {0}) → Answered (Err e) room
    question-stops v = stopped (err-first (asks ∷ []) (last ∷ []) tt (tt {0}) (length lines) v ∙ ap (λ r. answered r (length lines)) (sym own))

    module _ (v : Ok (tt {0}) ≡ answered (refusal (tell_checks p a J)) (tt {0})) where
      shown-lines : tell_lines p rs a J ≡ lines
      shown-lines = ap (λ rs. tell_lines p rs a J) (marked-are p marks w)

      decided : answered whole (length lines) ≡ answered (refusal (last ∷ [])) (length lines)
      decided = ap (λ r. answered r (length lines)) own ∙ ok-first (asks ∷ []) (last ∷ []) tt (tt {0}) (length lines) v

      pub room-small : length room < length (tell_lines p rs a J) → Answered (Err (plain 7)) room
      room-small h =
          let l : length room < length lines = rw shown-lines at h in
          let e : answered (refusal (last ∷ [])) (length lines) ≡ Err (plain 7) = rw (lt-ltb (length room) (length lines) l) in
          stopped (sym (decided ∙ e))

      pub room-large : length (tell_lines p rs a J) ≤ length room →
          Answered (Ok (length (tell_lines p rs a J))) (into (tell_lines p rs a J) room)
      unfolding marked_written tell_room
      room-large h =
          let l : length lines ≤ length room = rw shown-lines at h in
          let e : answered (refusal (last ∷ [])) (length lines) ≡ Ok (length lines) = rw (le-ltb (length room) (length lines) l) in
          let d = sym (decided ∙ e) in (
            ap (λ xs. Ok (length xs)) shown-lines ∙ d,
            ap (λ xs. into xs room) shown-lines ∙ sym (unless-accepted whole room (into lines room) (ok-accepted whole (length lines) d)),
          )
