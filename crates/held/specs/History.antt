-- Document 01, "The held plan": histories of strikes and reinstatements, refused calls among them.
use Rattle.std.specs.Prelude.{Bool, false, cond, not, List, [], ◌∷◌, ℕ, eqb, get_or}
use Rattle.std.proofs.Math.Option.{Option, none, some}
use Rattle.rules.specs.Refusals.{refuses, refusal_in}
use Rattle.held.specs.declared.Held.{Held}
use Rattle.held.specs.Held.{Call, run_of, stands, call_answer}

abbrev pub is_accepted : Held → Call → Bool
is_accepted h c = not (refuses (refusal_in (call_answer h c).answer))

-- the plan after the calls, one after the other
abbrev pub after : Held → List Call → Held
after h [] = h
after h (c ∷ cs) = after (call_answer h c).held cs

-- the call, and where there is none the one before
abbrev pub or_before : Option Call → Option Call → Option Call
or_before none d = d
or_before (some c) d = some c

-- the call, where it names run f and is accepted
abbrev pub own : Held → Call → ℕ → Option Call
own h c f = cond (eqb (run_of c) f) (cond (is_accepted h c) (some c) none) none

-- the last accepted strike or reinstatement of run f
abbrev pub last_of : Held → List Call → ℕ → Option Call
last_of h [] f = none
last_of h (c ∷ cs) f = or_before (last_of (call_answer h c).held cs f) (own h c f)

-- a run stands unless the last accepted strike or reinstatement of it was a strike; without one, as before
abbrev pub stands_by : Bool → Option Call → Bool
stands_by b none = b
stands_by b (some c) = stands c

abbrev pub mark_of : Held → ℕ → Bool
mark_of h f = get_or h.marks f false
