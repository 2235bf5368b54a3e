-- A line by its fields: one more is one field behind the others.
use Rattle.exact.proofs.Ground.{List, [], ◌∷◌, ◌++◌, map, Memᴰ, mem-head, mem-tail, ◌≡◌, ◌∙◌, sym, ap, refl, ap₂, ℕ, ◌≤◌, ◌<◌, ◌-◌, ◌+◌}
use Rattle.exact.proofs.Ground.{◌*◌, zero-add, add-one, suc-mul, arith, length, get_or, take, set, take-suc, take_all}
use Rattle.exact.specs.Lists.{from, each}
use Rattle.exact.proofs.Numbers.{from-snoc}
use Rattle.rules.specs.declared.Refusal.{Refusal}
use Rattle.rules.specs.Refusals.{unless}
use Rattle.rules.proofs.Ranges.{unless-refused}
use Rattle.text.specs.Bytes.{Put}
use Rattle.text.proofs.Puts.{each_snoc, put_as, put-kept, put_both, put_byte}
use Rattle.lines.specs.Lines.{field, line_of, refusal_line}
use Rattle.lines.specs.Given.{most_of_line}

pub each-cong-in : {A : Type 0} (xs : List A) {g h : A → List ℕ} → ((x : A) → Memᴰ x xs → g x ≡ h x) → each xs g ≡ each xs h
each-cong-in [] e = refl
each-cong-in (x ∷ xs) e = ap₂ (λ a b. a ++ b) (e x (mem-head refl)) (each-cong-in xs (λ y m. e y (mem-tail m)))

pub each_map : {A B : Type 0} (n : A → B) (g : B → List ℕ) (xs : List A) → each (map n xs) g ≡ each xs (λ x. g (n x))
each_map n g [] = refl
each_map n g (x ∷ xs) = rw (each_map n g xs)

-- the first k fields
abbrev pub PutFields : List ℕ → ℕ → ℕ → List ℕ → ℕ → List ℕ → Type 0
PutFields xs k at room next after = Put (each (take k xs) field) (21 * k) at room next after

pub field_next : (xs : List ℕ) (k : ℕ) {room between after : List ℕ} {at mid next : ℕ} → k < length xs → PutFields xs k at room mid between →
    Put (field (get_or xs k 0)) 21 mid between next after → PutFields xs (k + 1) at room next after
field_next xs k h P Q =
    let e : each (take k xs) field ++ field (get_or xs k 0) ≡ each (take (k + 1) xs) field =
    sym (each_snoc (take k xs) (get_or xs k 0) field) ∙ ap (λ l. each l field) (sym (take-suc xs k 0 h) ∙ ap (λ n. take n xs) (sym (add-one k))) in
    put_as e (omega arith) (put_both P Q)

-- the room that is left behind the name and k fields, and the whole line
module _ (name xs : List ℕ) (k : ℕ) {room between after : List ℕ} {at mid end : ℕ} (h : at + most_of_line name xs ≤ length room)
    (P : Put name (length name) at room mid between) (Q : PutFields xs k mid between end after) where
  pub line-left : k ≤ length xs → end + 21 * (length xs - k) + 1 ≤ length after
  line-left l = omega (arith, P.behind, Q.behind, Q.short, put-kept P, put-kept Q)

  pub line-whole : k ≡ length xs → Put (line_of name xs) (most_of_line name xs) at room (end + 1) (set after end 10)
  line-whole e =
      let last = put_byte 10 end after (omega (arith, line-left (omega arith))) in
      put_as (ap (λ l. name ++ each l field ++ 10 ∷ []) (take_all k xs (omega arith))) (omega arith) (put_both (put_both P Q) last)

-- ---- a line for each number from 0 on

module _ (line : ℕ → List ℕ) (most : ℕ) where
  -- the lines of the first n
  abbrev pub PutEach : ℕ → ℕ → List ℕ → ℕ → List ℕ → Type 0
  PutEach n at room next after = Put (each (from 0 n) line) (n * most) at room next after

  pub each-put : (n : ℕ) {at mid next : ℕ} {room between after : List ℕ} → PutEach n at room mid between →
      Put (line n) most mid between next after → PutEach (n + 1) at room next after
  each-put n P Q =
      let e : from 0 n ++ n ∷ [] ≡ from 0 (n + 1) = sym (from-snoc 0 n ∙ ap (λ k. from 0 n ++ k ∷ []) (zero-add n)) in
      put_as (sym (each_snoc (from 0 n) n line) ∙ ap (λ l. each l line) e) (rw (add-one n, suc-mul n most) (omega arith)) (put_both P Q)

-- ---- a refused answer

-- the line of the refusal stands in place of the answer's lines
pub put_refused : (lines : List ℕ) {q r : Refusal} {most next : ℕ} {room after : List ℕ} → q ≡ r → ¬ (r.number ≡ 0) → 71 ≤ most →
    Put (refusal_line r) 71 0 room next after → Put (unless q (refusal_line q) lines) most 0 room next after
put_refused lines {q} {r} e n h P = put_as (rw e (sym (unless-refused r (refusal_line r) lines n))) h P
