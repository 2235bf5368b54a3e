-- Document 01, "The held plan": every answer is that of the standing runs; the plan comes back as it was.
use Rattle.std.specs.Prelude.{Bool, List, ℕ, ℤ, Option, Float}
use Rattle.words.specs.declared.Sums.{Sums}
use Rattle.words.specs.Answers.{words_answer, word_answer, row_sums_answer}
use Rattle.counts.specs.Counts.{strength_answer}
use Rattle.set_words.specs.SetWords.{set_word_answer}
use Rattle.projection_tables.specs.Tables.{Rooms, table_answer, table_rooms}
use Rattle.resolution.specs.declared.GeneralizedResolution.{GeneralizedResolution}
use Rattle.resolution.specs.declared.Chart.{Chart}
use Rattle.resolution.specs.Resolution.{resolution_answer, generalized_answer}
use Rattle.resolution.specs.Charts.{chart_answer, figure_answer}
use Rattle.tell.specs.declared.Told.{Told}
use Rattle.tell.specs.Answer.{tell_answer}
use Rattle.compare.specs.Compare.{compare_answer}
use Rattle.advice.specs.Advice.{advice_answer, turns_answer}
use Rattle.held.specs.Held.{plan_in, standing_in, of_standing}
use Rattle.held.specs.declared.Held.{Held}
use Rattle.held.specs.declared.Answered.{Answered}
use Rattle.held_questions.specs.declared.HeldComparison.{HeldComparison}

unfoldable pub held_words : Held → Answered (List ℤ)
held_words h = record { held = h; answer = words_answer (plan_in h) (standing_in h) (of_standing h) }

unfoldable pub held_word : Held → ℕ → Answered ℤ
held_word h j = record { held = h; answer = word_answer (plan_in h) (standing_in h) (of_standing h) j }

unfoldable pub held_row_sums : Held → Answered (List Sums)
held_row_sums h = record { held = h; answer = row_sums_answer (plan_in h) (standing_in h) (of_standing h) }

unfoldable pub held_strength : Held → Answered ℕ
held_strength h = record { held = h; answer = strength_answer (plan_in h) (standing_in h) (of_standing h) }

unfoldable pub held_tell : Held → ℕ → List ℕ → Answered Told
held_tell h a J = record { held = h; answer = tell_answer (plan_in h) (standing_in h) (of_standing h) a J }

unfoldable pub held_resolution : Held → Answered ℕ
held_resolution h = record { held = h; answer = resolution_answer (plan_in h) (standing_in h) (of_standing h) }

unfoldable pub held_generalized : Held → Answered GeneralizedResolution
held_generalized h = record { held = h; answer = generalized_answer (plan_in h) (standing_in h) (of_standing h) }

unfoldable pub held_chart : Held → Answered Chart
held_chart h = record { held = h; answer = chart_answer (plan_in h) (standing_in h) (of_standing h) }

unfoldable pub held_figure : Held → ℕ → Answered (Option Float)
held_figure h i = record { held = h; answer = figure_answer (plan_in h) (standing_in h) (of_standing h) i }

unfoldable pub held_set_word : Held → ℕ → List ℕ → Answered ℤ
held_set_word h f I = record { held = h; answer = set_word_answer (plan_in h) (standing_in h) (of_standing h) f I }

-- ---- the tables, and the three rooms afterwards

unfoldable pub held_table : Held → Bool → ℕ → Rooms → Answered ℕ
held_table h relative f rooms = record { held = h; answer = table_answer (plan_in h) (standing_in h) (of_standing h) relative f rooms }

abbrev pub held_rooms : Held → Bool → ℕ → Rooms → Rooms
held_rooms h relative f rooms = table_rooms (plan_in h) (standing_in h) (of_standing h) relative f rooms

-- ---- the comparison of two held plans

unfoldable pub held_comparison : Held → Held → HeldComparison
held_comparison h k = record {
  held = h;
  other = k;
  answer = compare_answer (of_standing h) (plan_in h) (standing_in h) (of_standing k) (plan_in k) (standing_in k);
}

-- ---- advice, and losing in turn

unfoldable pub held_advice : Held → Answered ℕ
held_advice h = record { held = h; answer = advice_answer (plan_in h) (standing_in h) (of_standing h) }

unfoldable pub held_turns : Held → ℕ → Answered (List ℕ)
held_turns h k = record { held = h; answer = turns_answer (plan_in h) (standing_in h) (of_standing h) k }
