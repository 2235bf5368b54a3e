-- The turns of the loops: two rows compared length by length, and runs kept one after the other.
use Rattle.exact.proofs.Ground.{not, List, [], ◌∷◌, ◌++◌, append-nil, ◌≡◌, ◌∙◌, sym, ap, ap₂, ℕ, ◌≤◌, ◌<◌, ◌+◌, add-one, arith, eqb, eqb→eq}
use Rattle.exact.proofs.Ground.{eqb_refl, pos, ℤ, length, get_or, take, drop, length-take-le, take-suc, drop-cons, drop-length, get_or-take}
use Rattle.exact.specs.Fractions.{then}
use Rattle.exact.specs.declared.fractions.Verdict.{Verdict}
use Rattle.exact.specs.declared.fractions.Verdict.TheVariants.{Equal}
use Rattle.exact.proofs.Tests.{is_true, is_false}
use Rattle.exact.proofs.Lists.{keep-++, keep-most}
use Rattle.advice.specs.Advice.{without}
use Rattle.advice.specs.Rows.{larger, larger_row}

-- ---- two rows

-- what the lengths after j, up to m, decide
abbrev pub later : ℕ → List ℤ → List ℤ → ℕ → Verdict
later m a b j = larger_row (drop j (take m a)) (drop j (take m b))

module _ (m : ℕ) (a b : List ℤ) (p : m ≤ length a) (q : m ≤ length b) where
  next : (xs : List ℤ) → m ≤ length xs → (j : ℕ) → j < m → drop j (take m xs) ≡ get_or xs j (pos 0) ∷ drop (j + 1) (take m xs)
  next xs h j l =
      drop-cons (take m xs) j (pos 0) (rw (length-take-le m xs h) l)
      ∙ ap₂ (λ x k. x ∷ drop k (take m xs)) (get_or-take m xs j (pos 0) l) (sym (add-one j))

  pub later-turn : (j : ℕ) → j < m → later m a b j ≡ then (larger (get_or a j (pos 0)) (get_or b j (pos 0))) (later m a b (j + 1))
  unfolding larger_row
  later-turn j l = rw (next a p j l, next b q j l)

  pub later-none : (j : ℕ) → j ≡ m → later m a b j ≡ Equal
  unfolding larger_row
  later-none j e = rw (e, drop_all)
    where
      drop_all : drop m (take m a) ≡ []
      drop_all = ap (λ k. drop k (take m a)) (sym (length-take-le m a p)) ∙ drop-length (take m a)

-- ---- the runs but one

module _ (f : ℕ) (runs : List ℕ) (i : ℕ) (h : i < length runs) where
  without-turn : without f (take (i + 1) runs) ≡ without f (take i runs) ++ without f (get_or runs i 0 ∷ [])
  without-turn = ap (without f) (ap (λ k. take k runs) (add-one i) ∙ take-suc runs i 0 h) ∙ keep-++ (λ g. not (eqb g f)) (take i runs) (get_or runs i 0 ∷ [])

  pub run-lost : get_or runs i 0 ≡ f → without f (take (i + 1) runs) ≡ without f (take i runs)
  run-lost e = without-turn ∙ rw (is_true (eqb (get_or runs i 0) f) (rw e (eqb_refl f))) (append-nil (without f (take i runs)))

  pub run-kept : ¬ (get_or runs i 0 ≡ f) → without f (take (i + 1) runs) ≡ without f (take i runs) ++ get_or runs i 0 ∷ []
  run-kept n = without-turn ∙ rw (is_false (eqb (get_or runs i 0) f) (λ t. n (eqb→eq (get_or runs i 0) f t)))

-- no more than were looked at
pub without-within : (f : ℕ) (runs : List ℕ) (i : ℕ) → i ≤ length runs → length (without f (take i runs)) ≤ i
without-within f runs i h = omega (arith, keep-most (λ g. not (eqb g f)) (take i runs), length-take-le i runs h)
