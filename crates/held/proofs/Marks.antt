-- A call on a held plan is a call on its marks: what it accepts, and what it leaves.
use Rattle.exact.proofs.Ground.{true, false, Bool, cond, not, List, ◌++◌, ◌≡◌, ◌∙◌, sym, ap, refl, ap₂, ℕ, ◌<◌, ◌-◌, ◌*◌, arith, ltb, length}
use Rattle.exact.proofs.Ground.{get_or, replicate, set, length-set, take_at, le-ltb, ltb-false, eqb}
use Rattle.std.specs.Prelude.{Ok, Err, is_ok}
use borrow.Author.Tests.{ltb-true}
use lib.Seq.{set-append_left}
use Rattle.exact.specs.Lists.{filled_to}
use Rattle.exact.proofs.Tests.{clash}
use Rattle.rules.specs.Plan.{Plan, plan, columns, runs, most_columns, most_runs, most_entries}
use Rattle.rules.specs.Refusals.{refusal, refuses, answered, refusal_in, unless, plain, accepted}
use Rattle.rules.specs.declared.Refusal.{Refusal}
use Rattle.plan.specs.Good.{Good}
use Rattle.words.specs.Answers.{word_list}
use Rattle.held.specs.declared.Held.{Held}
use Rattle.held.specs.declared.Answered.{Answered}
use Rattle.held.specs.Held.{
  standing,
  held_of,
  empty_held,
  marks_in,
  plan_in,
  Call,
  strikes,
  reinstates,
  run_of,
  stands,
  call_checks,
  remarked,
  call_answer,
}
use Rattle.held.proofs.Standing.{fewer, set_same}

-- the plan handed back, and the refusal of the call
abbrev pub handed : Refusal → Held → Answered Unit
handed r h = record { held = h; answer = answered r tt }

-- an answer refuses where its refusal does
pub refuses-in : {A : Type 0} (r : Refusal) (value : A) → refuses (refusal_in (answered r value)) ≡ refuses r
refuses-in r value = go (eqb r.number 0) refl
  where
    go : (b : Bool) → eqb r.number 0 ≡ b → refuses (refusal_in (cond (not b) (Err r) (Ok value))) ≡ not b
    go true e = refl
    go false e = rw e

-- whether an answer is a value tells its refusal
module _ {A : Type 0} (r : Refusal) (value : A) where
  ok-refuses : (b : Bool) → is_ok (answered r value) ≡ b → refuses r ≡ not b
  ok-refuses b e = go (refuses r) refl e
    where
      go : (c : Bool) → refuses r ≡ c → is_ok {E = Refusal} (cond c (Err r) (Ok value)) ≡ b → c ≡ not b
      go true d e = ap not e
      go false d e = ap not e

  pub accepted-ok : is_ok (answered r value) ≡ true → refuses r ≡ false
  accepted-ok = ok-refuses true

  pub refused-ok : is_ok (answered r value) ≡ false → refuses r ≡ true
  refused-ok = ok-refuses false

-- ---- what a call does to the marks

abbrev pub refusal_of : List Bool → Call → Refusal
refusal_of marks c = refusal (call_checks marks c)

-- the marks after a call
abbrev pub marks_after : List Bool → Call → List Bool
marks_after marks c = unless (refusal_of marks c) marks (set marks (run_of c) (stands c))

-- an accepted call names a run, changes its mark, and leaves a run standing
pub record Accepts (marks : List Bool) (c : Call) : Type 0 where
  pub there : run_of c < length marks
  pub before : get_or marks (run_of c) false ≡ not (stands c)
  pub left : 0 < length (standing (set marks (run_of c) (stands c)))
  pub passes : refusal_of marks c ≡ accepted

module _ (marks : List Bool) (f : ℕ) where
  by-strike : (a b c : Bool) → ltb f (length marks) ≡ a → get_or marks f false ≡ b → ltb (length (standing marks)) 2 ≡ c →
      refuses (refusal_of marks (strikes f)) ≡ false → Accepts marks (strikes f)
  unfolding call_checks
  by-strike false b c p q r e = clash true refl (rw p at e)
  by-strike true false c p q r e = clash true refl (rw (p, q) at e)
  by-strike true true true p q r e = clash true refl (rw (p, q, r) at e)
  by-strike true true false p q r e =
      let h : f < length marks = ltb-true f (length marks) p in
      let s = fewer marks f h in
      let d : length (standing (set marks f true)) ≡ length (standing marks) = ap (λ l. length (standing l)) (set_same marks f true q) in
      record { there = h; before = q; left = omega (arith, ltb-false (length (standing marks)) 2 r); passes = rw (p, q, r) }

  by-reinstatement : (a b : Bool) → ltb f (length marks) ≡ a → get_or marks f false ≡ b →
      refuses (refusal_of marks (reinstates f)) ≡ false → Accepts marks (reinstates f)
  unfolding call_checks
  by-reinstatement false b p q e = clash true refl (rw p at e)
  by-reinstatement true true p q e = clash true refl (rw (p, q) at e)
  by-reinstatement true false p q e =
      let h : f < length marks = ltb-true f (length marks) p in
      record { there = h; before = q; left = omega (arith, fewer marks f h); passes = rw (p, q) }

pub accepts : (marks : List Bool) (c : Call) → refuses (refusal_of marks c) ≡ false → Accepts marks c
accepts marks (strikes f) e =
    by-strike marks f (ltb f (length marks)) (get_or marks f false) (ltb (length (standing marks)) 2) refl refl refl e
accepts marks (reinstates f) e = by-reinstatement marks f (ltb f (length marks)) (get_or marks f false) refl refl e

-- whatever holds of marks that are left, and of marks that an accepted call sets, holds after any call
pub after-ind : (P : List Bool → Type 0) (marks : List Bool) (c : Call) → P marks →
    (Accepts marks c → P (set marks (run_of c) (stands c))) → P (marks_after marks c)
after-ind P marks c same changed = go (refuses (refusal_of marks c)) refl
  where
    go : (b : Bool) → refuses (refusal_of marks c) ≡ b → P (cond b marks (set marks (run_of c) (stands c)))
    go true e = same
    go false e = changed (accepts marks c e)

pub length-after : (marks : List Bool) (c : Call) → length (marks_after marks c) ≡ length marks
length-after marks c = after-ind (λ l. length l ≡ length marks) marks c refl (λ A. length-set marks (run_of c) (stands c))

pub left_after : (marks : List Bool) (c : Call) → 0 < length (standing marks) → 0 < length (standing (marks_after marks c))
left_after marks c h = after-ind (λ l. 0 < length (standing l)) marks c h (λ A. A.left)

-- ---- what is held

module _ (p : Plan) (marks : List Bool) (size : length marks ≡ runs p) where
  pub marks-in : marks_in (held_of p marks) ≡ marks
  unfolding held_of
  marks-in = take_at marks (replicate (most_runs - length marks) false) (runs p) size

module _ (p : Plan) (G : Good p) (marks : List Bool) (size : length marks ≡ runs p) where
  pub plan-in : plan_in (held_of p marks) ≡ p
  unfolding held_of
  plan-in =
      ap₂ plan
      (take_at p.levels (replicate (most_columns - columns p) 0) (columns p) refl)
      (take_at p.table (replicate (most_entries - length p.table) 0) (runs p * columns p) G.size)

  remarked-held : (f : ℕ) (b : Bool) → f < length marks → remarked (held_of p marks) f b ≡ held_of p (set marks f b)
  unfolding remarked held_of
  remarked-held f b h =
      ap₂ (λ x y. record {
        columns = columns p;
        runs = runs p;
        levels = filled_to most_columns 0 p.levels;
        entries = filled_to most_entries 0 p.table;
        marks = x;
        words = y;
      })
      (set-append_left marks (replicate (most_runs - length marks) false) f b h
      ∙ ap (λ n. set marks f b ++ replicate (most_runs - n) false) (sym (length-set marks f b)))
      (ap₂ (λ q l. word_list q (standing (set l f b))) plan-in (marks-in p marks size))

  -- a call on a held plan is a call on its marks
  pub call-is : (c : Call) →
      call_answer (held_of p marks) c ≡ handed (refusal_of marks c) (held_of p (marks_after marks c))
  unfolding call_answer
  call-is c = rw (marks-in p marks size) (go (refuses (refusal_of marks c)) refl)
    where
      go : (b : Bool) → refuses (refusal_of marks c) ≡ b →
          handed (refusal_of marks c) (cond b (held_of p marks) (remarked (held_of p marks) (run_of c) (stands c)))
          ≡ handed (refusal_of marks c) (held_of p (cond b marks (set marks (run_of c) (stands c))))
      go true e = refl
      go false e = ap (handed (refusal_of marks c)) (remarked-held (run_of c) (stands c) (accepts marks c e).there)

-- every call on the empty plan is refusal 8
pub call-empty : (c : Call) → call_answer empty_held c ≡ handed (plain 8) empty_held
unfolding call_answer call_checks
call-empty (strikes f) = rw (le-ltb f 0 (omega arith))
call-empty (reinstates f) = rw (le-ltb f 0 (omega arith))
