-- A loop that fills a room from the front, one store a turn: with g 0, g 1, .. or with the members of a list.
use Rattle.exact.proofs.Ground.{List, [], ◌∷◌, map, ◌++◌, append_assoc, append-nil, ◌≡◌, ◌∙◌, sym, ap, refl, ℕ, ◌≤◌, ◌<◌, ◌-◌, ◌+◌, suc, zero}
use Rattle.exact.proofs.Ground.{zero-add, add-one, arith, length, get_or, take, drop, replicate, set, length-append, length-map, length-drop}
use Rattle.exact.proofs.Ground.{length-replicate, length-take-le, take_at, take-suc, drop-cons, take_all, drop-length, append_snoc}
use lib.Seq.{set_at, get_or_at}
use Rattle.exact.specs.Lists.{from, filled_to, into}
use Rattle.exact.proofs.Numbers.{length_from, from-snoc}

module _ {A B : Type 0} where
  pub map-++ : (g : A → B) (xs ys : List A) → map g (xs ++ ys) ≡ map g xs ++ map g ys
  map-++ g [] ys = refl
  map-++ g (x ∷ xs) ys = ap (λ l. g x ∷ l) (map-++ g xs ys)

module _ {A : Type 0} where
  -- the list xs, where it is as long as the loop has gone, and the rest of the room as it was
  pub store-next : (xs d : List A) (i : ℕ) (z v : A) → length xs ≡ i → i < length d → set (xs ++ drop i d) i v ≡ (xs ++ v ∷ []) ++ drop (i + 1) d
  store-next xs d i z v e h = rw (add-one, drop-cons d i z h, append_snoc) (set_at xs (get_or d i z) (drop (suc i) d) v i e)

module _ {A : Type 0} (g : ℕ → A) where
  -- the first i are written
  abbrev pub begun : List A → ℕ → List A
  begun d i = map g (from 0 i) ++ drop i d

  pub length-numbered : (i : ℕ) → length (map g (from 0 i)) ≡ i
  length-numbered i = length-map (from 0 i) g ∙ length_from 0 i

  pub numbered_next : (i : ℕ) → map g (from 0 (i + 1)) ≡ map g (from 0 i) ++ g i ∷ []
  numbered_next i = ap (map g) (from-snoc 0 i) ∙ map-++ g (from 0 i) ((0 + i) ∷ []) ∙ ap (λ k. map g (from 0 i) ++ g k ∷ []) (zero-add i)

  pub write-next : (d : List A) (i : ℕ) (z : A) → i < length d → set (begun d i) i (g i) ≡ begun d (i + 1)
  write-next d i z h =
      store-next (map g (from 0 i)) d i z (g i) (length-numbered i) h
      ∙ ap (λ l. l ++ drop (i + 1) d) (sym (numbered_next i))

  -- what the loop reads where it is about to write is the old value
  pub read_next : (d : List A) (i : ℕ) (z : A) → i < length d → get_or (begun d i) i z ≡ get_or d i z
  read_next d i z h = rw (drop-cons d i z h) (get_or_at (map g (from 0 i)) (get_or d i z) (drop (suc i) d) z i (length-numbered i))

  pub length-begun : (d : List A) (i : ℕ) → i ≤ length d → length (begun d i) ≡ length d
  length-begun d i h = simp (length-append, length-numbered, length-drop) (omega arith)

  pub all-written : (d : List A) (i : ℕ) → i ≡ length d → begun d i ≡ map g (from 0 i)
  all-written d i e = ap (λ l. map g (from 0 i) ++ l) (ap (λ k. drop k d) e ∙ drop-length d) ∙ append-nil (map g (from 0 i))

module _ {A : Type 0} (xs : List A) where
  -- the first i members of xs are copied
  abbrev pub copied : List A → ℕ → List A
  copied d i = take i xs ++ drop i d

  pub copy-next : (d : List A) (i : ℕ) (z : A) → i < length xs → i < length d → set (copied d i) i (get_or xs i z) ≡ copied d (i + 1)
  copy-next d i z h k =
      store-next (take i xs) d i z (get_or xs i z) (length-take-le i xs (omega arith)) k
      ∙ ap (λ l. l ++ drop (i + 1) d) (sym (ap (λ k. take k xs) (add-one i) ∙ take-suc xs i z h))

  pub copy-all : (d : List A) (i : ℕ) → i ≡ length xs → copied d i ≡ into xs d
  copy-all d i e = rw (e, take_all (length xs) xs (omega arith))

module _ {A : Type 0} where
  drop-replicate : (k n : ℕ) (d : A) → drop k (replicate n d) ≡ replicate (n - k) d
  drop-replicate zero n d = ap (λ j. replicate j d) (let e : n ≡ n - 0 = omega arith in e)
  drop-replicate (suc k) zero d = ap (λ j. replicate j d) (let e : 0 ≡ 0 - suc k = omega arith in e)
  drop-replicate (suc k) (suc n) d = drop-replicate k n d ∙ ap (λ j. replicate j d) (let e : n - k ≡ suc n - suc k = omega arith in e)

  -- a room that held only d
  pub into-blank : (xs : List A) (n : ℕ) (d : A) → into xs (replicate n d) ≡ filled_to n d xs
  into-blank xs n d = ap (λ l. xs ++ l) (drop-replicate (length xs) n d)

  -- one more in a room that holds d in the places left over
  pub filled_next : (n : ℕ) (d : A) (xs : List A) (v : A) → length xs < n → set (filled_to n d xs) (length xs) v ≡ filled_to n d (xs ++ v ∷ [])
  filled_next n d xs v h =
      let e : n - length xs ≡ suc (n - (length xs + 1)) = omega arith in
      rw (e, length-append xs (v ∷ []), append_assoc) (set_at xs d (replicate (n - (length xs + 1)) d) v (length xs) refl)

  pub filled-length : (n : ℕ) (d : A) (xs : List A) → length xs ≤ n → length (filled_to n d xs) ≡ n
  filled-length n d xs h = rw (length-append, length-replicate) (omega arith)

  pub filled-front : (n : ℕ) (d : A) (xs : List A) → take (length xs) (filled_to n d xs) ≡ xs
  filled-front n d xs = take_at xs (replicate (n - length xs) d) (length xs) refl

  -- the same room by its first m places
  pub filled-first : (n m : ℕ) (d : A) (xs : List A) {room : List A} → room ≡ filled_to n d xs → length xs ≡ m → room ≡ filled_to n d (take m room)
  filled-first n m d xs e l =
      e ∙ ap (filled_to n d) (sym (ap (take m) e ∙ ap (λ k. take k (filled_to n d xs)) (sym l) ∙ filled-front n d xs))

-- the numbers from 0 on, and zeros
pub number-written : (f n : ℕ) → f < n → set (from 0 f ++ replicate (n - f) 0) f f ≡ from 0 (f + 1) ++ replicate (n - (f + 1)) 0
number-written f n h =
    let e : n - f ≡ suc (n - (f + 1)) = omega arith in
    rw (e, from-snoc 0 f, zero-add, append_assoc) (set_at (from 0 f) 0 (replicate (n - (f + 1)) 0) f f (length_from 0 f))

pub numbers-front : (f n : ℕ) → take f (from 0 f ++ replicate n 0) ≡ from 0 f
numbers-front f n = take_at (from 0 f) (replicate n 0) f (length_from 0 f)
