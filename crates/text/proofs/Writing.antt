-- Writing a number by its digits: those of a tenth of it, then the last.
use Rattle.exact.proofs.Ground.{List, [], ◌∷◌, ◌≡◌, ◌∙◌, sym, ap, ℕ, ◌≤◌, ◌<◌, ◌+◌, ◌/◌, ◌%◌, arith, length, set, length-append}
use Rattle.text.specs.Bytes.{put_at}
use Rattle.text.specs.Decimal.{decimal}
use Rattle.text.proofs.Digits.{decimal-one, decimal-more}
use Rattle.text.proofs.Places.{put_one, put-more, put-length}

-- one digit
pub one-long : (n : ℕ) → n < 10 → length (decimal n) ≡ 1
one-long n h = ap length (decimal-one n h)

pub one_written : (room : List ℕ) (at n : ℕ) → n < 10 → at < length room → set room at (48 + n) ≡ put_at at (decimal n) room
one_written room at n h l = put_one at room (48 + n) l ∙ ap (λ d. put_at at d room) (sym (decimal-one n h))

-- one digit more than a tenth of the number has
pub one-longer : (n : ℕ) → 10 ≤ n → length (decimal n) ≡ length (decimal (n / 10)) + 1
one-longer n h = ap length (decimal-more n h) ∙ length-append (decimal (n / 10)) ((48 + n % 10) ∷ [])

pub last_written : (room after : List ℕ) (at n end : ℕ) → 10 ≤ n → at + length (decimal n) ≤ length room →
    after ≡ put_at at (decimal (n / 10)) room → end ≡ at + length (decimal (n / 10)) → set after end (48 + n % 10) ≡ put_at at (decimal n) room
last_written room after at n end h l e q =
    let m = one-longer n h in
    let s : length after ≡ length room = ap length e ∙ put-length at room (decimal (n / 10)) (omega arith) in
    put_one end after (48 + n % 10) (omega arith)
    ∙ ap (put_at end ((48 + n % 10) ∷ [])) e ∙ put-more at room (decimal (n / 10)) (omega arith) ((48 + n % 10) ∷ []) end (sym q)
    ∙ ap (λ d. put_at at d room) (sym (decimal-more n h))
