-- A field of the listing.
use Rattle.exact.proofs.Ground.{List, ◌≡◌, ℕ, ◌≤◌, ◌<◌, ◌+◌, ◌^◌, arith, length, set}
use Rattle.text.specs.Bytes.{put_at, Put}
use Rattle.text.specs.Decimal.{decimal}
use Rattle.text.proofs.Digits.{decimal-length}
use Rattle.text.proofs.Puts.{put_byte, put-kept, put_both}
use Rattle.lines.specs.Lines.{field}

-- a number of 64 bits has 20 digits at most
pub few-digits : (n : ℕ) → n < 2 ^ 64 → length (decimal n) ≤ 20
few-digits n h = decimal-length 19 n (omega arith)

pub put-field : (n at next : ℕ) (room after : List ℕ) → n < 2 ^ 64 → at + 21 ≤ length room →
    next ≡ at + 1 + length (decimal n) → after ≡ put_at (at + 1) (decimal n) (set room at 32) → Put (field n) 21 at room next after
put-field n at next room after h l e q =
    let first = put_byte 32 at room (omega arith) in
    let few = few-digits n h in
    put_both first (record { fits = omega (arith, put-kept first); short = few; behind = e; stored = q })
