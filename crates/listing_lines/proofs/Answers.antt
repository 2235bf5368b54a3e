-- What the listing answers, and its room: by the length of the room.
use Rattle.exact.proofs.Ground.{List, ◌≡◌, refl, ℕ, ◌≤◌, ◌<◌, length, le-ltb, lt-ltb}
use Rattle.exact.specs.Lists.{into}
use Rattle.std.specs.Prelude.{Ok, Err}
use Rattle.rules.specs.Refusals.{plain}
use Rattle.listing_lines.specs.Listing.{listing, listing_answer, listing_room}

module _ (text room : List ℕ) where
  -- too small
  pub small-answer : length room < length (listing text) → listing_answer text room ≡ Err (plain 7)
  unfolding listing_answer
  small-answer h = rw (lt-ltb (length room) (length (listing text)) h) refl

  pub small-room : length room < length (listing text) → listing_room text room ≡ room
  unfolding listing_room
  small-room h = rw (lt-ltb (length room) (length (listing text)) h) refl

  -- large enough
  pub large-answer : length (listing text) ≤ length room → listing_answer text room ≡ Ok (length (listing text))
  unfolding listing_answer
  large-answer h = rw (le-ltb (length room) (length (listing text)) h) refl

  pub large-room : length (listing text) ≤ length room → listing_room text room ≡ into (listing text) room
  unfolding listing_room
  large-room h = rw (le-ltb (length room) (length (listing text)) h) refl

pub ruleset by_room = (small-answer, small-room, large-answer, large-room)
