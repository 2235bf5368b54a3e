-- Held plans that differ only in entries of struck runs answer alike until such a run is reinstated (demand 3): after any calls, refused ones
-- among them, that reinstate none of these runs.
use Rattle.exact.proofs.Ground.{true, false, List, [], ◌∷◌, Memᴰ, mem-head, mem-tail, ◌≡◌, ◌∙◌, sym, ap, ap₂, refl, subst, ℕ}
use Rattle.exact.proofs.Ground.{◌<◌, set, length}
use lib.Seq.{get_or-set_other}
use Rattle.rules.specs.Plan.{Plan, columns, entry}
use Rattle.rules.specs.Refusals.{refusal, answered, refusal_in}
use Rattle.held.specs.declared.Held.{Held}
use Rattle.held.specs.Held.{standing, marks_in, standing_in, IsHeld, Call, strikes, reinstates, run_of, stands, call_checks, call_answer}
use Rattle.held.specs.History.{after}
use Rattle.held.proofs.Standing.{marked, stands-marked, stands-below, fewer-stand}
use Rattle.held.proofs.Marks.{marks_after, Accepts, after-ind, length-after}
use Rattle.held.proofs.History.{marks-after, call-plan, call-held}
use Rattle.held_questions.specs.Alike.{Alike, AlikeBut, ReinstateNone, refusals, SameAnswers}
use Rattle.held_questions.proofs.Alike.{same-answers}

module _ {D : List ℕ} {h k : Held} (A : AlikeBut D h k) where
  -- of a run that stands the entries are the same
  pub alike : Alike h k
  alike = record {
    marks = A.marks;
    levels = A.levels;
    entries = λ f m i l. A.entries f (stands-below (marks_in h) f m) (λ d. A.struck f d m) i l;
  }

  -- a call is refused of both or of neither
  call-alike : (c : Call) → refusal_in (call_answer h c).answer ≡ refusal_in (call_answer k c).answer
  unfolding call_answer
  call-alike c = ap (λ marks. refusal_in (answered (refusal (call_checks marks c)) (tt {0}))) A.marks

  -- a call that does not reinstate a struck run leaves it struck
  still-struck : (c : Call) (f : ℕ) → ¬ (reinstates f ≡ c) → Memᴰ f D → ¬ (Memᴰ f (standing (marks_after (marks_in h) c)))
  still-struck c f other d =
      after-ind (λ marks. ¬ (Memᴰ f (standing marks))) (marks_in h) c (A.struck f d) (λ B m. A.struck f d (before c other B m))
    where
      before : (c : Call) → ¬ (reinstates f ≡ c) → Accepts (marks_in h) c → Memᴰ f (standing (set (marks_in h) (run_of c) (stands c))) →
          Memᴰ f (standing_in h)
      before (strikes g) n B m = fewer-stand (marks_in h) g B.before f m
      before (reinstates g) n B m =
          stands-marked (marks_in h) f
          (sym (get_or-set_other (marks_in h) g f true false (λ e. n (ap reinstates e))) ∙ marked (set (marks_in h) g true) f m)

  module _ (H : IsHeld h) (K : IsHeld k) where
    alike-call : (c : Call) → ((f : ℕ) → Memᴰ f D → ¬ (reinstates f ≡ c)) → AlikeBut D (call_answer h c).held (call_answer k c).held
    alike-call c none =
        let n : length (marks_in (call_answer h c).held) ≡ length (marks_in h) = ap length (marks-after H c) ∙ length-after (marks_in h) c in
        record {
          marks = marks-after H c ∙ ap (λ marks. marks_after marks c) A.marks ∙ sym (marks-after K c);
          levels = ap (λ (p : Plan). p.levels) (call-plan H c) ∙ A.levels ∙ ap (λ (p : Plan). p.levels) (sym (call-plan K c));
          struck = λ f d m. still-struck c f (none f d) d (subst (λ marks. Memᴰ f (standing marks)) (marks-after H c) m);
          entries = λ f l o i w.
              ap (λ p. entry p f i) (call-plan H c)
              ∙ A.entries f (subst (λ j. f < j) n l) o i (subst (λ p. i < columns p) (call-plan H c) w)
              ∙ ap (λ p. entry p f i) (sym (call-plan K c));
        }

-- after any calls that reinstate no run of D the plans differ only in entries of D, all still struck
pub alike-history : {D : List ℕ} {h k : Held} → AlikeBut D h k → IsHeld h → IsHeld k → (cs : List Call) → ReinstateNone D cs →
    AlikeBut D (after h cs) (after k cs)
alike-history A H K [] none = A
alike-history {h = h} {k = k} A H K (c ∷ cs) none =
    alike-history {h = (call_answer h c).held} {k = (call_answer k c).held} (alike-call A H K c (λ f d e. none f d (mem-head e))) (call-held H c) (call-held K c) cs (λ f d m. none f d (mem-tail m))

-- every call was refused of both or of neither, by the same refusal
pub alike-refusals : {D : List ℕ} {h k : Held} → AlikeBut D h k → IsHeld h → IsHeld k → (cs : List Call) → ReinstateNone D cs →
    refusals h cs ≡ refusals k cs
alike-refusals A H K [] none = refl
alike-refusals {h = h} {k = k} A H K (c ∷ cs) none =
    ap₂ (λ r rest. r ∷ rest) (call-alike A c)
    (alike-refusals {h = (call_answer h c).held} {k = (call_answer k c).held} (alike-call A H K c (λ f d e. none f d (mem-head e))) (call-held H c) (call-held K c) cs (λ f d m. none f d (mem-tail m)))

-- and every answer is the same of both
pub alike-after : {D : List ℕ} {h k : Held} → AlikeBut D h k → IsHeld h → IsHeld k → (cs : List Call) → ReinstateNone D cs →
    SameAnswers (after h cs) (after k cs)
alike-after A H K cs none = same-answers (alike (alike-history A H K cs none))
