-- Numbers put into a room one after another.
use Rattle.exact.proofs.Ground.{List, [], ◌∷◌, ◌++◌, append_assoc, append-nil, ◌≡◌, ◌∙◌, sym, ap, ap₂, ℕ, ◌≤◌, ◌<◌, ◌+◌, add-zero, add-one, arith}
use Rattle.exact.proofs.Ground.{length, take, drop, set, length-append, length-drop, take-append-drop, length-take-le, take_at, append_snoc}
use Rattle.exact.proofs.Ground.{drop-drop, drop_at}
use native.Mathlib.Nat.{add_assoc}
use lib.Seq.{set_split}
use Rattle.text.specs.Bytes.{put_at}

module _ (k : ℕ) (room : List ℕ) where
  pub put-nothing : room ≡ put_at k [] room
  put-nothing = rw (append-nil (take k room), add-zero k, take-append-drop k room)

  module _ (xs : List ℕ) (fits : k + length xs ≤ length room) where
    front_length : length (take k room ++ xs) ≡ k + length xs
    front_length = length-append (take k room) xs ∙ ap (λ n. n + length xs) (length-take-le k room (omega arith))

    -- more numbers behind the first
    pub put-more : (ys : List ℕ) (n : ℕ) → k + length xs ≡ n → put_at n ys (put_at k xs room) ≡ put_at k (xs ++ ys) room
    put-more ys n e =
        let rest = drop (k + length xs) room in
        let front = take k room ++ xs in
        let l : length front ≡ n = front_length ∙ e in
        let after : drop (n + length ys) (front ++ rest) ≡ drop (k + length (xs ++ ys)) room =
        sym (drop-drop (length ys) n (front ++ rest)) ∙ ap (drop (length ys)) (drop_at front rest n l)
        ∙ drop-drop (length ys) (k + length xs) room
        ∙ ap (λ j. drop j room) (add_assoc k (length xs) (length ys) ∙ ap (λ j. k + j) (sym (length-append xs ys))) in
        ap₂ (λ a b. a ++ ys ++ b) (take_at front rest n l) after
        ∙ ap (λ l. l ++ drop (k + length (xs ++ ys)) room) (append_assoc (take k room) xs ys)

    pub take_put : (n : ℕ) → k + length xs ≡ n → take n (put_at k xs room) ≡ take k room ++ xs
    take_put n e = take_at (take k room ++ xs) (drop (k + length xs) room) n (front_length ∙ e)

    pub put-length : length (put_at k xs room) ≡ length room
    put-length =
        simp (length-append, length-drop, length-take-le k room (omega arith)) (omega arith)

-- one number is stored
pub put_one : (i : ℕ) (room : List ℕ) (v : ℕ) → i < length room → set room i v ≡ put_at i (v ∷ []) room
put_one i room v h = rw (append_snoc, add-one) (set_split room i v h)
