-- What a question hands to the routine that compares.
use Rattle.std.specs.Prelude.{[], length, Result}
use Rattle.rules.specs.declared.Refusal.{Refusal}
use Rattle.rules.specs.Refusals.{refusal, answered}
use Rattle.compare.specs.declared.routines.Side.{Side}
use Rattle.held.specs.Held.{standing_in, of_standing}
use Rattle.held.specs.declared.Held.{Held}

-- the standing runs as one side of a comparison
unfoldable pub held_side : Held → Result Side Refusal
held_side h =
    answered (refusal (of_standing h [])) (record { words = h.words; runs = length (standing_in h); columns = h.columns })
