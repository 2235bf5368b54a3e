-- Writing a line: its first number, then each later one behind a comma, then the line feed.
use Rattle.exact.proofs.Ground.{List, [], ◌∷◌, map, ◌++◌, append-nil, ◌≡◌, ◌∙◌, sym, ap, ℕ, ◌≤◌, ◌<◌, ◌-◌, ◌+◌, ◌*◌, add-one, arith, length, get_or, take}
use Rattle.exact.proofs.Ground.{drop, set, length-drop, length-take-le, take-suc, take_all, get_or-take, get_or-drop}
use Rattle.exact.specs.Lists.{each}
use Rattle.text.specs.Bytes.{put_at, Put}
use Rattle.text.specs.Decimal.{decimal}
use Rattle.text.specs.Text.{join, write_line}
use Rattle.text.proofs.Digits.{decimal-length}
use Rattle.text.proofs.Puts.{each_snoc, put_byte, put_as, put-kept, put_both}
use Rattle.writer.specs.Writer.{Short, ended_line}

-- the first k numbers behind the first one, each behind a comma
abbrev pub later_to : ℕ → List ℕ → List ℕ
later_to k xs = each (take k (drop 1 xs)) (λ x. 44 ∷ decimal x)

abbrev pub PutLater : List ℕ → ℕ → ℕ → List ℕ → ℕ → List ℕ → Type 0
PutLater xs k at room next after = Put (later_to k xs) (3 * k) at room next after

pub two_digits : (n : ℕ) → n < 100 → length (decimal n) ≤ 2
two_digits n h = decimal-length 1 n h

pub put-number : {n at next : ℕ} {room after : List ℕ} → n < 100 → at + 2 ≤ length room →
    next ≡ at + length (decimal n) → after ≡ put_at at (decimal n) room → Put (decimal n) 2 at room next after
put-number {n} h l e q = let few = two_digits n h in record { fits = omega arith; short = few; behind = e; stored = q }

-- the first number
pub put-first : {xs : List ℕ} → Short xs → {v at next : ℕ} {room after : List ℕ} → at + 3 * length xs ≤ length room → v ≡ get_or xs 0 0 →
    next ≡ at + length (decimal v) → after ≡ put_at at (decimal v) room → Put (decimal (get_or xs 0 0)) 2 at room next after
put-first S h v e q = let some = S.some in put-number (S.small 0 some) (omega arith) (rw v at e) (rw v at q)

-- how many stand behind it
pub later-size : (xs : List ℕ) → length (take (length xs - 1) (drop 1 xs)) ≡ length xs - 1
later-size xs = length-take-le (length xs - 1) (drop 1 xs) (omega (arith, length-drop 1 xs))

-- v is number k of those behind the first
module _ {xs : List ℕ} (S : Short xs) (k : ℕ) (h : k < length (take (length xs - 1) (drop 1 xs))) where
  pub later-few : k < length xs - 1
  later-few = omega (arith, later-size xs)

  module _ {v : ℕ} (e : v ≡ get_or (take (length xs - 1) (drop 1 xs)) k 0) where
    later-is : v ≡ get_or (drop 1 xs) k 0
    later-is = e ∙ get_or-take (length xs - 1) (drop 1 xs) k 0 later-few

    pub later-short : v < 100
    later-short = rw (later-is, get_or-drop 1 xs k 0) (S.small (1 + k) (omega (arith, later-few)))

    later-next : later_to k xs ++ 44 ∷ decimal v ≡ later_to (k + 1) xs
    later-next =
        let ys = drop 1 xs in
        rw (later-is, add-one k, take-suc ys k 0 (omega (arith, later-few, length-drop 1 xs)))
        (sym (each_snoc (take k ys) (get_or ys k 0) (λ x. 44 ∷ decimal x)))

    -- one more, behind its comma
    pub put-later : {at end next : ℕ} {room between after : List ℕ} → PutLater xs k at room end between → end + 3 ≤ length between →
        next ≡ end + 1 + length (decimal v) → after ≡ put_at (end + 1) (decimal v) (set between end 44) → PutLater xs (k + 1) at room next after
    put-later {end = end} {between = between} P fits e q =
        let comma = put_byte 44 end between (omega arith) in
        put_as later-next (omega arith) (put_both P (put_both comma (put-number later-short (omega (arith, put-kept comma)) e q)))

line-parts : (xs : List ℕ) → 0 < length xs → decimal (get_or xs 0 0) ++ later_to (length xs - 1) xs ≡ write_line xs
unfolding write_line
line-parts [] h = absurd (omega arith)
line-parts (x ∷ xs) h =
    ap (λ l. decimal x ++ each l (λ y. 44 ∷ decimal y)) (take_all (length (x ∷ xs) - 1) xs (omega arith)) ∙ go x xs
  where
    go : (x : ℕ) (xs : List ℕ) → decimal x ++ each xs (λ y. 44 ∷ decimal y) ≡ join 44 (map decimal (x ∷ xs))
    go x [] = append-nil (decimal x)
    go x (y ∷ xs) = ap (λ l. decimal x ++ 44 ∷ l) (go y xs)

-- the room that is left behind the first number and k later ones
pub line-left : (xs : List ℕ) (k : ℕ) {at mid end : ℕ} {room between last : List ℕ} → at + 3 * length xs ≤ length room → k + 1 ≤ length xs →
    Put (decimal (get_or xs 0 0)) 2 at room mid between → PutLater xs k mid between end last → end + 3 * (length xs - 1 - k) + 1 ≤ length last
line-left xs k h l P Q = omega (arith, P.behind, P.short, Q.behind, Q.short, put-kept P, put-kept Q)

-- the first number, the later ones, and the line feed
pub put-line : {xs : List ℕ} → Short xs → {at mid end : ℕ} {room between last : List ℕ} → Put (decimal (get_or xs 0 0)) 2 at room mid between →
    PutLater xs (length xs - 1) mid between end last → end < length last → Put (ended_line xs) (3 * length xs) at room (end + 1) (set last end 10)
put-line {xs} S {end = end} {last = last} P Q l =
    let some = S.some in
    put_as (ap (λ l. l ++ 10 ∷ []) (line-parts xs some)) (omega arith) (put_both (put_both P Q) (put_byte 10 end last l))
