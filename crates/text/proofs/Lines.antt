-- A line and the lines of a text: which texts have no malformed line, and what they hold.
use Rattle.exact.proofs.Ground.{true, false, Bool, cond, ◌&&◌, List, [], ◌∷◌, map, ◌++◌, ◌≡◌, ◌∙◌, ap, refl, ap₂, ℕ, ◌<◌, ◌+◌, suc, arith, eqb}
use Rattle.exact.proofs.Ground.{length, length-map, ne_eqb, eq-eqb, eqb-true}
use Rattle.exact.specs.Lists.{all}
use Rattle.exact.proofs.Tests.{both, is_true, true-is}
use Rattle.text.specs.Decimal.{decimal, value}
use Rattle.text.specs.Text.{split, is_number, is_line, count, numbers, ended, first_malformed, join, write_line, write_lines}
use Rattle.text.proofs.Split.{All, Lacks, split-there, split-more, split-join, join-split, lacks-join}
use Rattle.text.proofs.Digits.{decimal-byte, number-decimal, decimal-number}

-- ---- a line

-- m numbers below 100, at least one
pub record Row (m : ℕ) (xs : List ℕ) : Type 0 where
  pub low : 0 < m
  pub size : length xs ≡ m
  pub small : All (λ x. x < 100) xs

-- a line that is well formed
pub record Formed (m : ℕ) (line : List ℕ) : Type 0 where
  pub right : is_line line ≡ true
  pub size : count line ≡ m

pub test-formed : (m : ℕ) (line : List ℕ) → (is_line line && eqb (count line) m) ≡ true → Formed m line
test-formed m line t =
    let (p, q) = both (is_line line) (eqb (count line) m) (true-is (is_line line && eqb (count line) m) t) in
    record { right = is_true (is_line line) p; size = eqb-true (count line) m (is_true (eqb (count line) m) q) }

pub formed-test : (m : ℕ) (line : List ℕ) → Formed m line → (is_line line && eqb (count line) m) ≡ true
formed-test m line F = rw (F.right, eq-eqb (count line) m F.size)

-- byte c, below the digits, is no digit
lacks-decimals : (c : ℕ) (xs : List ℕ) → c < 48 → All (λ x. x < 100) xs → All (Lacks c) (map decimal xs)
lacks-decimals c [] h k = tt
lacks-decimals c (x ∷ xs) h k = (decimal-byte (λ b. eqb b c ≡ false) x k.0 (λ b l. ne_eqb b c (λ e. omega arith)), lacks-decimals c xs h k.1)

decimals-read : (xs : List ℕ) → All (λ x. x < 100) xs → (all (map decimal xs) is_number ≡ true) × (map value (map decimal xs) ≡ xs)
decimals-read [] k = (refl, refl)
decimals-read (x ∷ xs) k =
    let (p, e) = number-decimal x k.0 in
    let (q, f) = decimals-read xs k.1 in
    (rw (p, q), ap₂ (λ a b. a ∷ b) e f)

decimals-back : (pieces : List (List ℕ)) → all pieces is_number ≡ true →
    (map decimal (map value pieces) ≡ pieces) × All (λ x. x < 100) (map value pieces)
decimals-back [] e = (refl, tt)
decimals-back (piece ∷ pieces) e =
    let (p, q) = both (is_number piece) (all pieces is_number) (true-is (all (piece ∷ pieces) is_number) e) in
    let w = decimal-number piece (is_true (is_number piece) p) in
    let (f, k) = decimals-back pieces (is_true (all pieces is_number) q) in
    (ap₂ (λ a b. a ∷ b) w.same f, (w.small, k))

-- the pieces of a written line are its numbers' digits
split-line : {m : ℕ} (xs : List ℕ) → Row m xs → split 44 (write_line xs) ≡ map decimal xs
unfolding write_line
split-line xs R =
    split-join 44 (map decimal xs) (rw (length-map xs decimal, R.size) R.low) (lacks-decimals 44 xs (omega arith) R.small)

pub line-formed : {m : ℕ} (xs : List ℕ) → Row m xs → Formed m (write_line xs)
line-formed xs R = record {
  right = rw (split-line xs R) (decimals-read xs R.small).0;
  size = rw (split-line xs R) (length-map xs decimal ∙ R.size);
}

pub line-numbers : {m : ℕ} (xs : List ℕ) → Row m xs → numbers (write_line xs) ≡ xs
line-numbers xs R = rw (split-line xs R) (decimals-read xs R.small).1

pub line-back : (line : List ℕ) → is_line line ≡ true → write_line (numbers line) ≡ line
unfolding write_line
line-back line e = ap (join 44) (decimals-back (split 44 line) e).0 ∙ join-split 44 line

pub line_row : {m : ℕ} (line : List ℕ) → Formed m line → Row m (numbers line)
line_row line F =
    let n = length-map (split 44 line) value in
    let t = split-there 44 line in
    let s = F.size in
    record { low = omega arith; size = n ∙ s; small = (decimals-back (split 44 line) F.right).1 }

-- ---- the lines

-- the pieces between the bytes 10 of a text whose every line is ended
abbrev pub whole : List (List ℕ) → List (List ℕ)
whole lines = lines ++ [] ∷ []

whole-there : (lines : List (List ℕ)) → 0 < length (whole lines)
whole-there [] = omega arith
whole-there (line ∷ lines) = omega arith

pub ended-cons : (line : List ℕ) (pieces : List (List ℕ)) → 0 < length pieces → ended (line ∷ pieces) ≡ line ∷ ended pieces
ended-cons line [] h = absurd (omega arith)
ended-cons line (next ∷ pieces) h = refl

pub malformed-cons : (m k : ℕ) (line : List ℕ) (pieces : List (List ℕ)) → 0 < length pieces →
    first_malformed m k (line ∷ pieces) ≡ cond (is_line line && eqb (count line) m) (first_malformed m (k + 1) pieces) k
malformed-cons m k line [] h = absurd (omega arith)
malformed-cons m k line (next ∷ pieces) h = refl

pub ended-whole : (lines : List (List ℕ)) → ended (whole lines) ≡ lines
ended-whole [] = refl
ended-whole (line ∷ lines) = ended-cons line (whole lines) (whole-there lines) ∙ ap (λ l. line ∷ l) (ended-whole lines)

pub whole-formed : (m k : ℕ) (lines : List (List ℕ)) → All (Formed m) lines → first_malformed m k (whole lines) ≡ 0
whole-formed m k [] h = refl
whole-formed m k (line ∷ lines) h =
    malformed-cons m k line (whole lines) (whole-there lines)
    ∙ rw (formed-test m line h.0) (whole-formed m (k + 1) lines h.1)

-- pieces of which none is malformed
pub record AllFormed (m : ℕ) (pieces : List (List ℕ)) : Type 0 where
  pub same : pieces ≡ whole (ended pieces)
  pub each : All (Formed m) (ended pieces)

formed-cons : (m k : ℕ) (line next : List ℕ) (pieces : List (List ℕ)) (t : Bool) → (is_line line && eqb (count line) m) ≡ t → 0 < k →
    (first_malformed m (k + 1) (next ∷ pieces) ≡ 0 → AllFormed m (next ∷ pieces)) →
    cond t (first_malformed m (k + 1) (next ∷ pieces)) k ≡ 0 → AllFormed m (line ∷ next ∷ pieces)
formed-cons m k line next pieces true t h ih e =
    let F = ih e in record { same = ap (λ l. line ∷ l) F.same; each = (test-formed m line t, F.each) }
formed-cons m k line next pieces false t h ih e = absurd (omega arith)

formed-last : (m k : ℕ) (rest : List ℕ) → 0 < k → first_malformed m k (rest ∷ []) ≡ 0 → AllFormed m (rest ∷ [])
formed-last m k [] h e = record { same = refl; each = tt }
formed-last m k (b ∷ rest) h e = absurd (let z = ne_eqb (suc (length rest)) 0 (λ d. omega arith) in let d : k ≡ 0 = rw z at e in omega arith)

pub none-malformed : (m k : ℕ) (pieces : List (List ℕ)) → 0 < k → 0 < length pieces → first_malformed m k pieces ≡ 0 → AllFormed m pieces
none-malformed m k [] h l e = absurd (omega arith)
none-malformed m k (rest ∷ []) h l e = formed-last m k rest h e
none-malformed m k (line ∷ next ∷ pieces) h l e =
    formed-cons m k line next pieces (is_line line && eqb (count line) m) refl h
    (λ d. none-malformed m (k + 1) (next ∷ pieces) (omega arith) (omega arith) d) e

-- ---- lines that were written

line-lacks : {m : ℕ} (xs : List ℕ) → Row m xs → Lacks 10 (write_line xs)
unfolding write_line
line-lacks xs R = lacks-join 10 44 refl (map decimal xs) (lacks-decimals 10 xs (omega arith) R.small)

pub split-lines : (m : ℕ) (rows : List (List ℕ)) → All (Row m) rows → split 10 (write_lines rows) ≡ whole (map write_line rows)
split-lines m [] h = refl
split-lines m (xs ∷ rows) h =
    split-more 10 (write_line xs) (write_lines rows) (line-lacks xs h.0) ∙ ap (λ l. write_line xs ∷ l) (split-lines m rows h.1)

pub lines-formed : (m : ℕ) (rows : List (List ℕ)) → All (Row m) rows → All (Formed m) (map write_line rows)
lines-formed m [] h = tt
lines-formed m (xs ∷ rows) h = (line-formed xs h.0, lines-formed m rows h.1)

pub lines_rows : (m : ℕ) (lines : List (List ℕ)) → All (Formed m) lines → All (Row m) (map numbers lines)
lines_rows m [] h = tt
lines_rows m (line ∷ lines) h = (line_row line h.0, lines_rows m lines h.1)

-- writing the numbers of well-formed lines gives the text again
pub lines-back : (m : ℕ) (lines : List (List ℕ)) → All (Formed m) lines → write_lines (map numbers lines) ≡ join 10 (whole lines)
lines-back m [] h = refl
lines-back m (line ∷ []) h = ap (λ l. l ++ 10 ∷ []) (line-back line h.0.right)
lines-back m (line ∷ next ∷ lines) h =
    ap₂ (λ a b. a ++ 10 ∷ b) (line-back line h.0.right) (lines-back m (next ∷ lines) h.1)
