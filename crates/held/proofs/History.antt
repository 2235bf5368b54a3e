-- Runs are struck and reinstated, refused calls among them (demand 3).
use Rattle.exact.proofs.Ground.{true, false, Bool, cond, not, List, [], ◌∷◌, Memᴰ, none, ◌≡◌, ◌∙◌, sym, ap, refl, ap₂, subst, ℕ, ◌<◌, ◌-◌, arith}
use Rattle.exact.proofs.Ground.{eqb, length, get_or, replicate, set, length-append, length-set, ext_get_or, le-ltb, lt-ltb, eqb-true, eqb-false, not-true}
use mathlib.Core.Option.{Option, some}
use lib.Seq.{get_or-set_same, get_or-set_other, set-set, set_comm}
use Rattle.exact.proofs.Tests.{clash}
use Rattle.rules.specs.Plan.{Plan, columns, runs, most_runs}
use Rattle.rules.specs.Refusals.{refuses, accepted, refusal_in}
use Rattle.plan.specs.Good.{Good}
use Rattle.words.specs.Words.{word}
use Rattle.words.specs.Answers.{word_list}
use Rattle.held.specs.declared.Held.{Held}
use Rattle.held.specs.declared.Answered.{Answered}
use Rattle.held.specs.Held.{
  standing,
  held_of,
  empty_held,
  IsHeld,
  none-held,
  held,
  marks_in,
  plan_in,
  standing_in,
  Call,
  strikes,
  reinstates,
  run_of,
  stands,
  call_checks,
  remarked,
  call_answer,
}
use Rattle.held.specs.History.{is_accepted, after, or_before, own, last_of, stands_by, mark_of}
use Rattle.held.proofs.Standing.{marked, stands-marked, fewer, set_same}
use Rattle.held.proofs.Marks.{handed, refuses-in, refusal_of, marks_after, Accepts, accepts, after-ind, length-after, left_after, marks-in, plan-in, call-is, call-empty}

-- ---- every call hands back a held plan

pub call-held : {h : Held} → IsHeld h → (c : Call) → IsHeld (call_answer h c).held
call-held none-held c = rw (call-empty c) none-held
call-held (held p marks G size left) c =
    rw (call-is p G marks size c) (held p (marks_after marks c) G (length-after marks c ∙ size) (left_after marks c left))

pub after-held : {h : Held} → IsHeld h → (cs : List Call) → IsHeld (after h cs)
after-held H [] = H
after-held {h = h} H (c ∷ cs) = after-held {h = (call_answer h c).held} (call-held H c) cs

-- ---- the words held are those of the runs now standing

pub words-standing : {h : Held} → IsHeld h → h.words ≡ word_list (plan_in h) (standing_in h)
unfolding held_of word_list word standing
words-standing none-held = refl
words-standing (held p marks G size left) =
    sym (ap₂ (λ q l. word_list q (standing l)) (plan-in p G marks size) (marks-in p marks size))

pub words-after : {h : Held} → IsHeld h → (cs : List Call) → (after h cs).words ≡ word_list (plan_in (after h cs)) (standing_in (after h cs))
words-after H cs = words-standing (after-held H cs)

-- ---- a refused call hands the plan back as it was

pub refused-same : (h : Held) (c : Call) → is_accepted h c ≡ false → (call_answer h c).held ≡ h
unfolding call_answer
refused-same h c e = go (refuses (refusal_of (marks_in h) c)) (ap not (sym (refuses-in (refusal_of (marks_in h) c) tt)) ∙ e)
  where
    go : (b : Bool) → not b ≡ false → cond b h (remarked h (run_of c) (stands c)) ≡ h
    go true d = refl
    go false d = clash true refl d

-- ---- histories that end with the same runs standing

-- the marks are those that the call leaves
pub marks-after : {h : Held} → IsHeld h → (c : Call) → marks_in (call_answer h c).held ≡ marks_after (marks_in h) c
marks-after none-held c = rw (call-empty c) (after-ind (λ l. [] ≡ l) [] c refl (λ A. absurd (let l = A.there in omega arith)))
marks-after (held p marks G size left) c =
    rw (call-is p G marks size c, marks-in p marks size) (marks-in p (marks_after marks c) (length-after marks c ∙ size))

-- levels and entries never change
pub call-plan : {h : Held} → IsHeld h → (c : Call) → plan_in (call_answer h c).held ≡ plan_in h
call-plan none-held c = rw (call-empty c)
call-plan (held p marks G size left) c =
    rw (call-is p G marks size c) (plan-in p G (marks_after marks c) (length-after marks c ∙ size) ∙ sym (plan-in p G marks size))

pub plan_after : {h : Held} → IsHeld h → (cs : List Call) → plan_in (after h cs) ≡ plan_in h
plan_after H [] = refl
plan_after {h = h} H (c ∷ cs) = plan_after {h = (call_answer h c).held} (call-held H c) cs ∙ call-plan H c

-- the runs that stand tell the marks
marks-by-standing : (l k : List Bool) → length l ≡ length k → standing l ≡ standing k → l ≡ k
marks-by-standing l k e s = ext_get_or false l k e (λ f h. both (get_or l f false) (get_or k f false) refl refl
    (λ t. marked k f (subst (Memᴰ f) s (stands-marked l f t))) (λ t. marked l f (subst (Memᴰ f) (sym s) (stands-marked k f t))))
  where
    both : (a b : Bool) {x y : Bool} → x ≡ a → y ≡ b → (x ≡ true → y ≡ true) → (y ≡ true → x ≡ true) → x ≡ y
    both true b p q f g = p ∙ sym (f p)
    both false true p q f g = clash _ (g q) p
    both false false p q f g = p ∙ sym q

-- a held plan is told by its plan and by the runs that stand
pub determined : {h k : Held} → IsHeld h → IsHeld k → plan_in h ≡ plan_in k → standing_in h ≡ standing_in k → h ≡ k
determined none-held none-held e s = refl
determined none-held (held q l H size left) e s = absurd (let z = ap columns (e ∙ plan-in q H l size) in omega (arith, H.columns-low))
determined (held p l G size left) none-held e s = absurd (let z = ap columns (sym e ∙ plan-in p G l size) in omega (arith, G.columns-low))
determined (held p l G size left) (held q k H room rest) e s =
    let d : p ≡ q = sym (plan-in p G l size) ∙ e ∙ plan-in q H k room in
    ap₂ held_of d (marks-by-standing l k (size ∙ ap runs d ∙ sym room)
    (ap standing (sym (marks-in p l size)) ∙ s ∙ ap standing (marks-in q k room)))

pub same-standing : {h : Held} → IsHeld h → (cs ds : List Call) → standing_in (after h cs) ≡ standing_in (after h ds) → after h cs ≡ after h ds
same-standing H cs ds s = determined (after-held H cs) (after-held H ds) (plan_after H cs ∙ sym (plan_after H ds)) s

-- ---- an accepted call on a held plan sets the mark

never-empty : {X : Type 0} (c : Call) → is_accepted empty_held c ≡ true → X
never-empty c e = clash true refl (sym e ∙ ap (λ (a : Answered Unit). not (refuses (refusal_in a.answer))) (call-empty c))

module _ (p : Plan) (G : Good p) (marks : List Bool) (size : length marks ≡ runs p) (c : Call) (a : is_accepted (held_of p marks) c ≡ true) where
  not-refused : refuses (refusal_of marks c) ≡ false
  not-refused =
      not-true _ (ap not (sym (refuses-in (refusal_of marks c) tt))
      ∙ sym (ap (λ (x : Answered Unit). not (refuses (refusal_in x.answer))) (call-is p G marks size c)) ∙ a)

  accepts-held : Accepts marks c
  accepts-held = accepts marks c not-refused

  mark_set : (call_answer (held_of p marks) c).held ≡ held_of p (set marks (run_of c) (stands c))
  mark_set =
      ap (λ (x : Answered Unit). x.held) (call-is p G marks size c)
      ∙ ap (λ b. held_of p (cond b marks (set marks (run_of c) (stands c)))) not-refused

-- ---- calls on different runs lead to the same plan in either order, where both orders are accepted

both-set : (p : Plan) → Good p → (marks : List Bool) → length marks ≡ runs p → (c d : Call) →
    is_accepted (held_of p marks) c ≡ true → is_accepted (call_answer (held_of p marks) c).held d ≡ true →
    after (held_of p marks) (c ∷ d ∷ []) ≡ held_of p (set (set marks (run_of c) (stands c)) (run_of d) (stands d))
both-set p G marks size c d a b =
    let e = mark_set p G marks size c a in
    ap (λ h. (call_answer h d).held) e
    ∙ mark_set p G (set marks (run_of c) (stands c)) (length-set marks (run_of c) (stands c) ∙ size) d
    (subst (λ h. is_accepted h d ≡ true) e b)

pub commute : {h : Held} → IsHeld h → (c d : Call) → ¬ (run_of c ≡ run_of d) →
    is_accepted h c ≡ true → is_accepted (call_answer h c).held d ≡ true →
    is_accepted h d ≡ true → is_accepted (call_answer h d).held c ≡ true → after h (c ∷ d ∷ []) ≡ after h (d ∷ c ∷ [])
commute none-held c d n a b a' b' = never-empty c a
commute (held p marks G size left) c d n a b a' b' =
    both-set p G marks size c d a b
    ∙ ap (held_of p) (set_comm marks (run_of c) (run_of d) (stands c) (stands d) n)
    ∙ sym (both-set p G marks size d c a' b')

-- ---- a strike and then a reinstatement, or the other way round, gives the plan back

abbrev pub undone : Call → Call
undone (strikes f) = reinstates f
undone (reinstates f) = strikes f

undo-accepted : (marks : List Bool) (c : Call) → 0 < length (standing marks) → Accepts marks c →
    refusal_of (set marks (run_of c) (stands c)) (undone c) ≡ accepted
unfolding call_checks
undo-accepted marks (strikes f) h A =
    rw (length-set marks f false, lt-ltb f (length marks) A.there, get_or-set_same marks f false false A.there)
undo-accepted marks (reinstates f) h A =
    let n = fewer marks f A.there in
    let d : length (standing (set marks f false)) ≡ length (standing marks)
    = ap (λ l. length (standing l)) (set_same marks f false A.before) in
    rw (
      length-set marks f true,
      lt-ltb f (length marks) A.there,
      get_or-set_same marks f true false A.there,
      le-ltb (length (standing (set marks f true))) 2 (omega arith),
    )

undo-marks : (marks : List Bool) (c : Call) → Accepts marks c →
    set (set marks (run_of c) (stands c)) (run_of (undone c)) (stands (undone c)) ≡ marks
undo-marks marks (strikes f) A = set-set marks f false true ∙ set_same marks f true A.before
undo-marks marks (reinstates f) A = set-set marks f true false ∙ set_same marks f false A.before

pub undo : {h : Held} → IsHeld h → (c : Call) → is_accepted h c ≡ true →
    call_answer (call_answer h c).held (undone c) ≡ handed accepted h
undo none-held c e = never-empty c e
undo (held p marks G size left) c e =
    let A = accepts-held p G marks size c e in
    let now = set marks (run_of c) (stands c) in
    ap (λ h. call_answer h (undone c)) (mark_set p G marks size c e)
    ∙ call-is p G now (length-set marks (run_of c) (stands c) ∙ size) (undone c)
    ∙ rw (undo-accepted marks c left A, undo-marks marks c A)

-- ---- a run stands unless the last accepted strike or reinstatement of it was a strike

mark-step : (h : Held) (c : Call) (f : ℕ) → (is_accepted h c ≡ true → run_of c < length h.marks) →
    mark_of (call_answer h c).held f ≡ stands_by (mark_of h f) (own h c f)
unfolding call_answer remarked
mark-step h c f there = rw (refuses-in (refusal_of (marks_in h) c) (tt {0})) (go (refuses (refusal_of (marks_in h) c)) (rw (refuses-in (refusal_of (marks_in h) c) (tt {0})) at there))
  where
    at : (b : Bool) → run_of c < length h.marks → eqb (run_of c) f ≡ b →
        get_or (set h.marks (run_of c) (stands c)) f false ≡ stands_by (mark_of h f) (cond b (some c) none)
    at true l e = subst (λ j. get_or (set h.marks (run_of c) (stands c)) j false ≡ stands c) (eqb-true (run_of c) f e)
        (get_or-set_same h.marks (run_of c) (stands c) false l)
    at false l e = get_or-set_other h.marks (run_of c) f (stands c) false (λ q. eqb-false (run_of c) f e (sym q))

    same : (b : Bool) → mark_of h f ≡ stands_by (mark_of h f) (cond b none none)
    same true = refl
    same false = refl

    go : (b : Bool) → (not b ≡ true → run_of c < length h.marks) →
        mark_of (cond b h (remarked h (run_of c) (stands c))) f
        ≡ stands_by (mark_of h f) (cond (eqb (run_of c) f) (cond (not b) (some c) none) none)
    go true l = same (eqb (run_of c) f)
    go false l = at (eqb (run_of c) f) (l refl) refl

in-room : {h : Held} → IsHeld h → (c : Call) → is_accepted h c ≡ true → run_of c < length h.marks
unfolding held_of
in-room none-held c e = never-empty c e
in-room (held p marks G size left) c e =
    rw (length-append marks (replicate (most_runs - length marks) false)) (omega (arith, (accepts-held p G marks size c e).there))

stands-then : (b : Bool) (c d : Option Call) → stands_by (stands_by b d) c ≡ stands_by b (or_before c d)
stands-then b none d = refl
stands-then b (some c) d = refl

pub stands-by : {h : Held} → IsHeld h → (cs : List Call) (f : ℕ) → mark_of (after h cs) f ≡ stands_by (mark_of h f) (last_of h cs f)
stands-by H [] f = refl
stands-by {h} H (c ∷ cs) f =
    stands-by {h = (call_answer h c).held} (call-held H c) cs f
    ∙ ap (λ b. stands_by b (last_of (call_answer h c).held cs f)) (mark-step h c f (in-room H c))
    ∙ stands-then (mark_of h f) (last_of (call_answer h c).held cs f) (own h c f)
