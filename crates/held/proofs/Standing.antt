-- Marks, and the list of the runs that stand.
use Rattle.exact.proofs.Ground.{true, false, Bool, cond, List, [], ◌∷◌, ◌++◌, Memᴰ, mem-head, mem-tail, mem-not_nil}
use Rattle.exact.proofs.Ground.{mem-append_left, mem-append_right, mem-append_cases, ⊎_elim, ◌≡◌, ◌∙◌, sym, ap, refl, subst, ℕ, ◌≤◌, ◌<◌, ◌+◌}
use Rattle.exact.proofs.Ground.{suc, zero, zero-add, add-zero, add-one, arith, length, get_or, take, replicate, set, length-append, length-take-le}
use Rattle.exact.proofs.Ground.{take-suc}
use native.Mathlib.Nat.{suc-add, add-suc}
use lib.Seq.{set-get_or}
use Rattle.exact.specs.Lists.{from}
use Rattle.exact.proofs.Tests.{clash}
use Rattle.held.specs.Held.{standing_from, standing}

-- ---- the members are exactly the runs whose mark is set

pub marked_from : (a : ℕ) (marks : List Bool) (f : ℕ) → Memᴰ f (standing_from a marks) → (k : ℕ) × (f ≡ a + k) × (get_or marks k false ≡ true)
marked_from a [] f m = absurd (mem-not_nil m)
marked_from a (true ∷ marks) f (mem-head e) = (0, omega arith, refl)
marked_from a (true ∷ marks) f (mem-tail m) = let (k, e, d) = marked_from (suc a) marks f m in (suc k, omega arith, d)
marked_from a (false ∷ marks) f m = let (k, e, d) = marked_from (suc a) marks f m in (suc k, omega arith, d)

pub marked : (marks : List Bool) (f : ℕ) → Memᴰ f (standing marks) → get_or marks f false ≡ true
unfolding standing
marked marks f m =
    let (k, e, d) = marked_from 0 marks f m in
    subst (λ j. get_or marks j false ≡ true) (let q : k ≡ f = omega arith in q) d

mark-from : (a : ℕ) (marks : List Bool) (k : ℕ) → get_or marks k false ≡ true → Memᴰ (a + k) (standing_from a marks)
mark-from a [] k e = clash false e refl
mark-from a (true ∷ marks) zero e = mem-head (add-zero a)
mark-from a (false ∷ marks) zero e = clash false e refl
mark-from a (true ∷ marks) (suc k) e = mem-tail (rw (suc-add, ← add-suc) at (mark-from (suc a) marks k e))
mark-from a (false ∷ marks) (suc k) e = rw (suc-add, ← add-suc) at (mark-from (suc a) marks k e)

pub stands-marked : (marks : List Bool) (f : ℕ) → get_or marks f false ≡ true → Memᴰ f (standing marks)
unfolding standing
stands-marked marks f e = rw zero-add at (mark-from 0 marks f e)

-- a mark that is set is one of the marks
pub mark-there : (marks : List Bool) (f : ℕ) → get_or marks f false ≡ true → f < length marks
mark-there [] f e = clash false e refl
mark-there (b ∷ marks) zero e = omega arith
mark-there (b ∷ marks) (suc f) e = let h = mark-there marks f e in omega arith

pub stands-below : (marks : List Bool) (f : ℕ) → Memᴰ f (standing marks) → f < length marks
stands-below marks f m = mark-there marks f (marked marks f m)

-- ---- how many stand

within-from : (a : ℕ) (marks : List Bool) → length (standing_from a marks) ≤ length marks
within-from a [] = omega arith
within-from a (true ∷ marks) = let h = within-from (suc a) marks in omega arith
within-from a (false ∷ marks) = let h = within-from (suc a) marks in omega arith

pub standing-within : (marks : List Bool) → length (standing marks) ≤ length marks
unfolding standing
standing-within marks = within-from 0 marks

all_from : (a n : ℕ) → standing_from a (replicate n true) ≡ from a n
all_from a zero = refl
all_from a (suc n) = ap (λ l. a ∷ l) (all_from (suc a) n)

pub all-stand : (n : ℕ) → standing (replicate n true) ≡ from 0 n
unfolding standing
all-stand n = all_from 0 n

-- ---- a mark set or cleared

-- two lists of runs that differ by run f alone
pub record Around (with_it without : List ℕ) (f : ℕ) : Type 0 where
  pub before : List ℕ
  pub after : List ℕ
  pub with-is : with_it ≡ before ++ f ∷ after
  pub without_is : without ≡ before ++ after

around-from : (a : ℕ) (marks : List Bool) (k : ℕ) → k < length marks →
    Around (standing_from a (set marks k true)) (standing_from a (set marks k false)) (a + k)
around-from a [] k h = absurd (omega arith)
around-from a (b ∷ marks) zero h =
    record { before = []; after = standing_from (suc a) marks; with-is = rw (add-zero a); without_is = refl }
around-from a (b ∷ marks) (suc k) h =
    go b (rw (suc-add, ← add-suc) at (around-from (suc a) marks k (omega arith)))
  where
    go : (b : Bool) → Around (standing_from (suc a) (set marks k true)) (standing_from (suc a) (set marks k false)) (a + suc k) →
        Around (standing_from a (b ∷ set marks k true)) (standing_from a (b ∷ set marks k false)) (a + suc k)
    go true s = record {
      before = a ∷ s.before;
      after = s.after;
      with-is = ap (λ l. a ∷ l) s.with-is;
      without_is = ap (λ l. a ∷ l) s.without_is;
    }
    go false s = s

pub around : (marks : List Bool) (f : ℕ) → f < length marks → Around (standing (set marks f true)) (standing (set marks f false)) f
unfolding standing
around marks f h = rw zero-add at (around-from 0 marks f h)

-- a run less
pub fewer : (marks : List Bool) (f : ℕ) → f < length marks →
    length (standing (set marks f true)) ≡ length (standing (set marks f false)) + 1
fewer marks f h =
    let s = around marks f h in
    rw (s.with-is, s.without_is, length-append s.before (f ∷ s.after), length-append s.before s.after) (omega arith)

pub set_same : (marks : List Bool) (f : ℕ) (b : Bool) → get_or marks f false ≡ b → set marks f b ≡ marks
set_same marks f b e = ap (set marks f) (sym e) ∙ set-get_or marks f false

-- what stands without run f stands with it
pub fewer-stand : (marks : List Bool) (f : ℕ) → get_or marks f false ≡ true → (g : ℕ) → Memᴰ g (standing (set marks f false)) →
    Memᴰ g (standing marks)
fewer-stand marks f e g m =
    let s = around marks f (mark-there marks f e) in
    let d : standing marks ≡ s.before ++ f ∷ s.after = ap standing (sym (set_same marks f true e)) ∙ s.with-is in
    rw d (⊎_elim (λ n. mem-append_left (f ∷ s.after) n) (λ n. mem-append_right s.before (mem-tail n))
    (mem-append_cases s.before (rw s.without_is at m)))

-- ---- one mark more, as a loop walks the marks

snoc-from : (a : ℕ) (marks : List Bool) (b : Bool) →
    standing_from a (marks ++ b ∷ []) ≡ standing_from a marks ++ cond b ((a + length marks) ∷ []) []
snoc-from a [] true = rw (add-zero a)
snoc-from a [] false = refl
snoc-from a (true ∷ marks) b = ap (λ l. a ∷ l) (snoc-from (suc a) marks b ∙ rw (suc-add, ← add-suc))
snoc-from a (false ∷ marks) b = snoc-from (suc a) marks b ∙ rw (suc-add, ← add-suc)

pub one_more : (marks : List Bool) (f : ℕ) (b : Bool) → f < length marks → get_or marks f false ≡ b →
    standing (take (f + 1) marks) ≡ standing (take f marks) ++ cond b (f ∷ []) []
unfolding standing
one_more marks f b h e =
    rw (add-one, take-suc marks f false h, e, snoc-from 0 (take f marks) b, zero-add, length-take-le f marks (omega arith))
