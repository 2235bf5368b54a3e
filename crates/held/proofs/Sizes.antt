-- What a function may use of a held plan: its sizes, and that its standing runs are sound.
use Rattle.exact.proofs.Ground.{List, [], ◌∷◌, Memᴰ, mem-not_nil, ◌≡◌, refl, ℕ, ◌≤◌, ◌<◌, ◌*◌, arith, length, length-replicate}
use Rattle.exact.proofs.Numbers.{length_from, mul-below}
use Rattle.exact.proofs.Rooms.{filled-length}
use Rattle.rules.specs.Plan.{Plan, columns, runs, every_run, most_entries}
use Rattle.plan.specs.Good.{Sound}
use Rattle.plan.proofs.Sound.{run-mem, good-sound}
use Rattle.words.proofs.OfPlan.{sound-run}
use Rattle.held.specs.declared.Held.{Held}
use Rattle.held.specs.Held.{standing, held_of, IsHeld, none-held, held, marks_in, plan_in, standing_in}
use Rattle.held.proofs.Standing.{stands-below, standing-within}
use Rattle.held.proofs.Marks.{marks-in, plan-in}

-- some of sound runs are sound
pub some-sound : (p : Plan) (rs ss : List ℕ) → Sound p rs → length ss ≤ length rs → ((f : ℕ) → Memᴰ f ss → Memᴰ f rs) → Sound p ss
some-sound p rs ss S fewer among = record {
  columns-high = S.columns-high;
  level-low = S.level-low;
  level-high = S.level-high;
  small = S.small;
  few = omega (arith, S.few);
  numbered = λ f m. S.numbered f (among f m);
  inside = λ f m. S.inside f (among f m);
  below = λ f m. S.below f (among f m);
}

pub record Sized (h : Held) : Type 0 where
  pub columns-high : h.columns ≤ 24
  pub runs-high : h.runs ≤ 256
  pub table-high : h.runs * h.columns ≤ most_entries
  pub levels-room : length h.levels ≡ 24
  pub entries-room : length h.entries ≡ most_entries
  pub marks-held : length (marks_in h) ≡ h.runs
  pub sound : Sound (plan_in h) (standing_in h)
  pub each : (f : ℕ) → f < h.runs → Sound (plan_in h) (f ∷ [])
  pub columns-low : 0 < h.runs → 0 < h.columns
  pub some-stand : 0 < h.runs → 0 < length (standing_in h)

pub sized : {h : Held} → IsHeld h → Sized h
unfolding held_of standing
sized none-held = record {
  columns-high = omega arith;
  runs-high = omega arith;
  table-high = omega arith;
  sound = record {
    columns-high = omega arith;
    level-low = λ i h. absurd (omega arith);
    level-high = λ i h. absurd (omega arith);
    small = omega arith;
    few = omega arith;
    numbered = λ f m. absurd (mem-not_nil m);
    inside = λ f m. absurd (mem-not_nil m);
    below = λ f m. absurd (mem-not_nil m);
  };
  levels-room = length-replicate {A = ℕ} 24 0;
  entries-room = length-replicate {A = ℕ} most_entries 0;
  marks-held = refl;
  each = λ f h. absurd (omega arith);
  columns-low = λ h. absurd (omega arith);
  some-stand = λ h. absurd (omega arith);
}
sized (held p marks G size left) = record {
  columns-high = G.columns-high;
  runs-high = G.runs-high;
  table-high = mul-below (runs p) (columns p) 256 24 G.runs-high G.columns-high;
  sound =
      rw (plan-in p G marks size, marks-in p marks size)
      (some-sound p (every_run p) (standing marks) (good-sound p G) (omega (arith, standing-within marks, length_from 0 (runs p)))
      (λ f m. run-mem p f (omega (arith, stands-below marks f m))));
  levels-room = filled-length 24 0 p.levels G.columns-high;
  entries-room = filled-length most_entries 0 p.table (omega (arith, G.size, mul-below (runs p) (columns p) 256 24 G.runs-high G.columns-high));
  marks-held = rw (marks-in p marks size) size;
  columns-low = λ h. G.columns-low;
  each = λ f h. rw (plan-in p G marks size) (sound-run p (every_run p) (good-sound p G) f (run-mem p f h));
  some-stand = λ h. rw (marks-in p marks size) left;
}
