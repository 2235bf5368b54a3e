-- Passing the lines of a text byte by byte.
use mathlib.Core.Path.{◌≡◌, refl, ◌∙◌, ap}
use mathlib.Core.Bool.{cond}
use mathlib.Core.List.{List, [], ◌∷◌}
use Prim.Native.Nat.{ℕ, zero, suc, ◌+◌, ◌-◌, ◌≤◌, ◌<◌}
use native.Mathlib.Numerals.{add-one, unary_clauses}
use native.Mathlib.Omega.{arith}
use borrow.Author.Tests.{eq-eqb, ne_eqb}
use lib.Dec.{eqb}
use lib.ListN.{length, get_or, drop}
use lib.Seq.{drop-cons, drop-length}
use Rattle.console.specs.Lines.{lines_end}

-- the bytes before a place are passed, and so many lines are left to pass
pub record Passed (text : List ℕ) (count left at : ℕ) : Type 0 where
  pub within : at ≤ length text
  pub whole : lines_end text count ≡ at + lines_end (drop at text) left

pub none_passed : (text : List ℕ) (count : ℕ) → Passed text count count 0
none_passed text count = record { within = omega arith; whole = omega arith }

pub no_line : (text : List ℕ) → lines_end text 0 ≡ 0
unfolding lines_end
no_line [] = refl
no_line (b ∷ text) = refl

no_byte : (left : ℕ) → lines_end [] left ≡ 0
unfolding lines_end
no_byte left = refl

byte-first : (b : ℕ) (text : List ℕ) (left : ℕ) → ¬ (left ≡ 0) → lines_end (b ∷ text) left ≡ suc (lines_end text (cond (eqb b 10) (left - 1) left))
unfolding lines_end
byte-first b text zero h = absurd (h refl)
byte-first b text (suc k) h = simp unary_clauses

module _ {text : List ℕ} {count left at : ℕ} (P : Passed text count left at) where
  pub lines-passed : left ≡ 0 → at ≡ lines_end text count
  lines-passed z = let e = P.whole in let n = ap (lines_end (drop at text)) z ∙ no_line (drop at text) in omega arith

  pub all-passed : length text ≤ at → length text ≡ lines_end text count
  all-passed h =
      let w = P.within in
      let a : at ≡ length text = omega arith in
      let e = P.whole in
      let n = ap (λ n. lines_end (drop n text) left) a ∙ ap (λ s. lines_end s left) (drop-length text) ∙ no_byte left in
      omega arith

  module _ (h : at < length text) (n : ¬ (left ≡ 0)) where
    byte-passed : (after : ℕ) → after ≡ cond (eqb (get_or text at 0) 10) (left - 1) left → Passed text count after (at + 1)
    byte-passed after e =
        let d : drop at text ≡ get_or text at 0 ∷ drop (at + 1) text = rw (add-one, drop-cons text at 0) in
        let s = ap (λ s. lines_end s left) d ∙ byte-first (get_or text at 0) (drop (at + 1) text) left n in
        let t = ap (lines_end (drop (at + 1) text)) e in
        let w = P.whole in
        record { within = omega arith; whole = omega arith }

    pub line-passed : get_or text at 0 ≡ 10 → Passed text count (left - 1) (at + 1)
    line-passed e = byte-passed (left - 1) (rw (eq-eqb (get_or text at 0) 10 e))

    pub other-passed : ¬ (get_or text at 0 ≡ 10) → Passed text count left (at + 1)
    other-passed e = byte-passed left (rw (ne_eqb (get_or text at 0) 10 e))
