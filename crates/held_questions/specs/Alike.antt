-- Document 01, "The held plan": plans that differ only in entries of struck runs, and that their answers are the same.
use Rattle.std.specs.Prelude.{◌≡◌, Bool, ℕ, ◌<◌, length}
use mathlib.Core.List.{List, [], ◌∷◌, Memᴰ}
use Rattle.rules.specs.declared.Refusal.{Refusal}
use Rattle.rules.specs.Refusals.{refusal_in}
use Rattle.rules.specs.Plan.{columns, entry}
use Rattle.projection_tables.specs.Tables.{Rooms}
use Rattle.held.specs.declared.Held.{Held}
use Rattle.held.specs.Held.{marks_in, plan_in, standing_in, Call, reinstates, call_answer}
use Rattle.held_questions.specs.Answers.{
  held_words,
  held_word,
  held_row_sums,
  held_strength,
  held_resolution,
  held_generalized,
  held_chart,
  held_figure,
  held_set_word,
  held_tell,
  held_table,
  held_rooms,
  held_comparison,
  held_advice,
  held_turns,
}

-- two held plans that differ only in entries of struck runs
pub record Alike (h k : Held) : Type 0 where
  pub marks : marks_in h ≡ marks_in k
  pub levels : (plan_in h).levels ≡ (plan_in k).levels
  pub entries : (f : ℕ) → Memᴰ f (standing_in h) → (i : ℕ) → i < columns (plan_in h) → entry (plan_in h) f i ≡ entry (plan_in k) f i

-- two held plans that differ only in entries of the runs D, all of which are struck
pub record AlikeBut (D : List ℕ) (h k : Held) : Type 0 where
  pub marks : marks_in h ≡ marks_in k
  pub levels : (plan_in h).levels ≡ (plan_in k).levels
  pub struck : (f : ℕ) → Memᴰ f D → ¬ (Memᴰ f (standing_in h))
  pub entries : (f : ℕ) → f < length (marks_in h) → ¬ (Memᴰ f D) → (i : ℕ) → i < columns (plan_in h) →
      entry (plan_in h) f i ≡ entry (plan_in k) f i

-- calls that reinstate no run of D
abbrev pub ReinstateNone : List ℕ → List Call → Type 0
ReinstateNone D cs = (f : ℕ) → Memᴰ f D → ¬ (Memᴰ (reinstates f) cs)

-- the refusals of the calls, one after the other
abbrev pub refusals : Held → List Call → List Refusal
refusals h [] = []
refusals h (c ∷ cs) = refusal_in (call_answer h c).answer ∷ refusals (call_answer h c).held cs

-- every answer is the same of both, the plan handed back apart
pub record SameAnswers (h k : Held) : Type 0 where
  pub words : (held_words h).answer ≡ (held_words k).answer
  pub word : (j : ℕ) → (held_word h j).answer ≡ (held_word k j).answer
  pub row-sums : (held_row_sums h).answer ≡ (held_row_sums k).answer
  pub strength : (held_strength h).answer ≡ (held_strength k).answer
  pub resolution : (held_resolution h).answer ≡ (held_resolution k).answer
  pub generalized : (held_generalized h).answer ≡ (held_generalized k).answer
  pub chart : (held_chart h).answer ≡ (held_chart k).answer
  pub figure : (i : ℕ) → (held_figure h i).answer ≡ (held_figure k i).answer
  pub set_word : (f : ℕ) (I : List ℕ) → (held_set_word h f I).answer ≡ (held_set_word k f I).answer
  pub tell : (i : ℕ) (J : List ℕ) → (held_tell h i J).answer ≡ (held_tell k i J).answer
  -- a table's answer, and the three rooms afterwards
  pub table : (relative : Bool) (f : ℕ) (R : Rooms) →
      ((held_table h relative f R).answer ≡ (held_table k relative f R).answer) × (held_rooms h relative f R ≡ held_rooms k relative f R)
  -- the comparison with a third, on either side
  pub comparison : (o : Held) → (held_comparison h o).answer ≡ (held_comparison k o).answer
  pub other : (o : Held) → (held_comparison o h).answer ≡ (held_comparison o k).answer
  pub advice : (held_advice h).answer ≡ (held_advice k).answer
  pub turns : (n : ℕ) → (held_turns h n).answer ≡ (held_turns k n).answer
