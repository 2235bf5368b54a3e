-- Document 01, throughout: numbers in a row, sums, products, tests and searches. The other definitions are written in these words.
use Rattle.std.specs.Prelude.{Bool, true, false, cond, ◌&&◌, ◌||◌, List, [], ◌∷◌, ◌++◌, ℕ, zero, suc, ◌*◌, ◌-◌, min, eqb, ltb, length, drop, replicate, ℤ, pos, ◌+ℤ◌, ◌*ℤ◌}

-- the numbers from a on, n of them
abbrev pub from : ℕ → ℕ → List ℕ
from a zero = []
from a (suc n) = a ∷ from (suc a) n

module _ {A : Type 0} where
  -- the sum of f over the list
  abbrev pub sum : List A → (A → ℤ) → ℤ
  sum [] f = pos 0
  sum (x ∷ xs) f = f x +ℤ sum xs f

  -- the product of f over the list
  abbrev pub prod : List A → (A → ℤ) → ℤ
  prod [] f = pos 1
  prod (x ∷ xs) f = f x *ℤ prod xs f

  -- whether every member passes
  abbrev pub all : List A → (A → Bool) → Bool
  all [] test = true
  all (x ∷ xs) test = let others = all xs test in test x && others

  -- the members that pass, in their order
  abbrev pub keep : (A → Bool) → List A → List A
  keep test [] = []
  keep test (x ∷ xs) = cond (test x) (x ∷ keep test xs) (keep test xs)

  -- how many members pass
  abbrev pub count : (A → Bool) → List A → ℕ
  count test [] = 0
  count test (x ∷ xs) = cond (test x) (suc (count test xs)) (count test xs)

  -- a room of n places that holds xs, and d in the places left over
  abbrev pub filled_to : ℕ → A → List A → List A
  filled_to n d xs = xs ++ replicate (n - length xs) d

  -- a lent room after xs were put into it: entries past the last stay unchanged
  abbrev pub into : List A → List A → List A
  into xs room = xs ++ drop (length xs) room

module _ {A B : Type 0} where
  -- the lists that g gives for the members, one after the other
  abbrev pub each : List A → (A → List B) → List B
  each [] g = []
  each (x ∷ xs) g = g x ++ each xs g

-- the product of the numbers
abbrev pub product : List ℕ → ℕ
product [] = 1
product (x ∷ xs) = x * product xs

-- the smallest of the numbers
abbrev pub smallest : List ℕ → ℕ
smallest [] = 0
smallest (x ∷ []) = x
smallest (x ∷ y ∷ ys) = min x (smallest (y ∷ ys))

-- whether each number is greater than the one before it
abbrev pub rise : List ℕ → Bool
rise [] = true
rise (x ∷ []) = true
rise (x ∷ y ∷ ys) = ltb x y && rise (y ∷ ys)

-- whether the numbers are all equal
abbrev pub alike : List ℕ → Bool
alike [] = true
alike (x ∷ xs) = all xs (λ y. eqb x y)

-- whether x is among the numbers
abbrev pub holds : ℕ → List ℕ → Bool
holds x [] = false
holds x (y ∷ ys) = eqb x y || holds x ys

-- whether two lists hold the same numbers in the same order
abbrev pub same : List ℕ → List ℕ → Bool
same [] [] = true
same [] (y ∷ ys) = false
same (x ∷ xs) [] = false
same (x ∷ xs) (y ∷ ys) = eqb x y && same xs ys

-- whether k is below low or above high
abbrev pub outside : ℕ → ℕ → ℕ → Bool
outside low high k = ltb k low || ltb high k

-- of the n numbers from a on, the first that passes, and a + n where none does
abbrev pub first : (ℕ → Bool) → ℕ → ℕ → ℕ
first test a zero = a
first test a (suc n) = let later = first test (suc a) n in cond (test a) a later

-- the largest number from 1 to n that passes, and 0 where none does
abbrev pub largest : (ℕ → Bool) → ℕ → ℕ
largest test zero = 0
largest test (suc n) = let lower = largest test n in cond (test (suc n)) (suc n) lower
