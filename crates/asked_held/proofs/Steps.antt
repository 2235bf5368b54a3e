-- A history taken one call at a time.
use Rattle.exact.proofs.Ground.{List, map, ◌≡◌, ℕ, ◌<◌, ◌+◌, add-one, length, get_or, drop, drop-cons}
use Rattle.rules.specs.Plan.{Plan}
use Rattle.held.specs.declared.Held.{Held}
use Rattle.held.specs.Held.{IsHeld, call_answer}
use Rattle.held.specs.History.{after}
use Rattle.held.proofs.Opened.{open-held}
use Rattle.held.proofs.History.{after-held}
use Rattle.asked_held.specs.Histories.{call_of, led}

-- what a history leaves is a held plan
pub led-held : (p : Plan) (history : List ℕ) → IsHeld (led p history)
unfolding led
led-held p history = after-held (open-held p) (map call_of history)

-- the calls from place k on: the one there, and then the others
pub next-call : (h : Held) (history : List ℕ) (k : ℕ) → k < length history →
    after h (map call_of (drop k history)) ≡ after (call_answer h (call_of (get_or history k 0))).held (map call_of (drop (k + 1) history))
next-call h history k l = rw (add-one, drop-cons history k 0 l)
