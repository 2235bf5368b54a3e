-- Rooms of 10,626 places hold every table, so that no table that is printed is refused by 7; and the lines in them are those of the table.
use Rattle.exact.proofs.Ground.{true, false, Bool, cond, ◌||◌, ◌&&◌, List, ◌++◌, ◌≡◌, ◌∙◌, ap, refl, ap₂, ℕ, ◌≤◌, arith, ltb, length, replicate}
use Rattle.exact.proofs.Ground.{sym, length-map, length-replicate, le-ltb}
use Rattle.exact.specs.Lists.{each, outside}
use Rattle.rules.specs.declared.Refusal.{Refusal}
use Rattle.rules.specs.Plan.{Plan, columns}
use Rattle.std.specs.Prelude.{Ok, Err}
use Rattle.rules.specs.Refusals.{refusal, accepted, plain, answered}
use Rattle.rules.proofs.Answered.{err-again, ok-accepted, ok-is}
use Rattle.rules.proofs.Ranges.{unless-accepted}
use Rattle.sets.specs.Sets.{sets_of}
use Rattle.sets.proofs.Pascal.{many-sets}
use Rattle.set_words.specs.Given.{SizeOf, Tabled}
use Rattle.set_words.specs.SetWords.{value_in}
use Rattle.set_words.proofs.Answers.{size-given}
use Rattle.resolution.specs.Resolution.{resolution_in}
use Rattle.projection_tables.specs.Tables.{Line, Rooms, rooms, shortest, table_in, lines_in, rooms_filled, table_checks, rooms_beside}
use Rattle.projection_tables.specs.Given.{Wide}
use Rattle.projection_tables.proofs.Answers.{lines-held}
use Rattle.projection_tables.proofs.Walks.{few-sets, table-right, lines-filled}
use Rattle.table_lines.specs.TableLines.{head_line, value_line, table_lines, print_checks}
use Rattle.table_lines.specs.Given.{most_lines}

-- the rooms that a table is made in
abbrev pub blank : Rooms
blank = rooms (replicate most_lines 0) (replicate most_lines 0) (replicate most_lines 0)

blank-long : most_lines ≤ shortest blank
blank-long = rw (length-replicate {A = ℕ} most_lines 0) (omega arith)

module _ (p : Plan) (rs : List ℕ) (relative : Bool) (f : ℕ) where
  abbrev values : List Line
  values = table_in relative p rs f

  few-lines : Tabled p rs → SizeOf (columns p) f → length values ≤ most_lines
  few-lines G z =
      omega (
        arith,
        (table-right relative p rs f G z).fewer,
        length-map (sets_of (columns p) f) (value_in relative p rs),
        many-sets f 0 (columns p),
        few-sets (columns p) f G.sound.columns-high z,
      )

  sized : (outside 1 4 f || ltb (columns p) f) ≡ false → SizeOf (columns p) f
  sized e = size-given (columns p) f {r = accepted} (rw e refl) refl

  passed-sized : (refusal (table_checks p rs relative f blank)).number ≡ 0 → SizeOf (columns p) f
  passed-sized = go (outside 1 4 f || ltb (columns p) f) refl _
    where
      go : (a : Bool) → (outside 1 4 f || ltb (columns p) f) ≡ a → (later : Refusal) → (cond a (plain 6) later).number ≡ 0 → SizeOf (columns p) f
      go true e later z = absurd (omega arith)
      go false e later z = sized e

  -- the last check, that of the rooms, never fails
  checks-printed : Tabled p rs → refusal (table_checks p rs relative f blank) ≡ refusal (print_checks p rs relative f)
  checks-printed G = go (outside 1 4 f || ltb (columns p) f) refl (relative && ltb (resolution_in p rs) f)
    where
      go : (a : Bool) → (outside 1 4 f || ltb (columns p) f) ≡ a → (b : Bool) →
          cond a (plain 6) (cond b (plain 16) (cond (ltb (shortest blank) (length values)) (plain 7) accepted))
          ≡ cond a (plain 6) (cond b (plain 16) accepted)
      go true e b = refl
      go false e b = rw (le-ltb (shortest blank) (length values) (omega (arith, few-lines G (sized e), blank-long))) refl

  module _ (G : Tabled p rs) where
    abbrev whole : Refusal
    whole = refusal (table_checks p rs relative f blank)

    pub refused-lines : {e : Refusal} → Err e ≡ answered whole (length values) →
        Err e ≡ answered (refusal (print_checks p rs relative f)) (tt {0})
    refused-lines w = rw (← checks-printed G) (err-again whole (length values) w (tt {0}))

    module _ {n : ℕ} {R : Rooms} (e : Ok n ≡ answered whole (length values)) (d : R ≡ rooms_beside values blank whole) where
      passed : whole.number ≡ 0
      passed = ok-accepted whole (length values) e

      pub given-passed : (refusal (print_checks p rs relative f)).number ≡ 0
      given-passed = ap (λ r. r.number) (sym (checks-printed G)) ∙ passed

      lines_are : n ≡ length values
      lines_are = ok-is whole (length values) e

      rooms-are : R ≡ rooms_filled values blank
      rooms-are = d ∙ unless-accepted whole blank (rooms_filled values blank) passed

      pub given-few : n ≤ most_lines
      given-few = omega (arith, lines_are, few-lines G (passed-sized passed))

      pub given-wide : Wide n R
      given-wide = let (a, b, c) = lines-held values blank R n lines_are rooms-are in record { nums-wide = a; dens-wide = b; counts-wide = c }

      pub given-lines : head_line relative f n ++ each (lines_in R n) value_line ≡ table_lines p rs relative f
      unfolding table_lines
      given-lines =
          ap₂ (λ n ls. head_line relative f n ++ each ls value_line) lines_are
          (ap₂ lines_in rooms-are lines_are ∙ lines-filled values blank)
