-- Numbers taken one by one: what one turn more adds.
use Rattle.exact.proofs.Ground.{List, [], ◌∷◌, map, ◌++◌, ◌≡◌, ◌∙◌, ap, ℕ, ◌≤◌, ◌<◌, ◌+◌, arith, length, get_or, take, replicate, set}
use Rattle.exact.proofs.Ground.{length-replicate}
use Rattle.exact.proofs.Rooms.{map-++, copied, copy-next, copy-all, into-blank, filled-front}
use Rattle.std.proofs.lemmas.List.{take_more}

pub mapped_next : {A B : Type 0} (g : A → B) (xs : List A) (k : ℕ) (d : A) → k < length xs →
    map g (take (k + 1) xs) ≡ map g (take k xs) ++ g (get_or xs k d) ∷ []
mapped_next g xs k d h = ap (map g) (take_more xs k d h) ∙ map-++ g (take k xs) (get_or xs k d ∷ [])

module _ (xs : List ℕ) (n : ℕ) where
  -- a row of n places that holds the first k
  abbrev pub Begun : ℕ → List ℕ → Type 0
  Begun k row = row ≡ copied xs (replicate n 0) k

  pub begun-next : (k v : ℕ) {row : List ℕ} → k < length xs → length xs ≤ n → Begun k row → v ≡ get_or xs k 0 → Begun (k + 1) (set row k v)
  begun-next k v h l e d = rw (e, d) (copy-next xs (replicate n 0) k 0 h (rw (length-replicate {A = ℕ} n 0) (omega arith)))

  pub begun-front : (k : ℕ) {row : List ℕ} → k ≡ length xs → Begun k row → take (length xs) row ≡ xs
  begun-front k h e = ap (take (length xs)) (e ∙ copy-all xs (replicate n 0) k h ∙ into-blank xs n 0) ∙ filled-front n 0 xs
