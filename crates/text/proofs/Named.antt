-- Refusal 14 names the first malformed line: each line before it is well formed, and it is not, or no byte 10 ends it.
use Rattle.exact.proofs.Ground.{true, false, Bool, cond, ◌&&◌, List, [], ◌∷◌, ◌++◌, ◌≡◌, ap, refl, ℕ, ◌<◌, ◌+◌, suc, arith, eqb, length, ne_eqb}
use mathlib.Core.List.{cons-ne-nil}
use Rattle.exact.proofs.Tests.{true-is, false-is}
use Rattle.text.specs.Text.{split, is_line, count, first_malformed, width, malformed_line}
use Rattle.text.proofs.Split.{All, split-there}
use Rattle.text.proofs.Lines.{Formed, test-formed, formed-test}

-- of the pieces from line number k on, the well-formed ones in front, the malformed one, and those after it; n is its number
pub record FirstBad (m k : ℕ) (pieces : List (List ℕ)) (n : ℕ) : Type 0 where
  pub front : List (List ℕ)
  pub line : List ℕ
  pub rest : List (List ℕ)
  pub same : pieces ≡ front ++ line ∷ rest
  pub formed : All (Formed m) front
  pub named : n ≡ k + length front
  pub bad : Formed m line → rest ≡ []
  pub unended : rest ≡ [] → ¬ (line ≡ [])

here : (m k : ℕ) (line : List ℕ) (rest : List (List ℕ)) → (Formed m line → rest ≡ []) → (rest ≡ [] → ¬ (line ≡ [])) → FirstBad m k (line ∷ rest) k
here m k line rest b u =
    record { front = []; line = line; rest = rest; same = refl; formed = tt; named = omega arith; bad = b; unended = u }

bad_last : (m k : ℕ) (rest : List ℕ) → ¬ (first_malformed m k (rest ∷ []) ≡ 0) → FirstBad m k (rest ∷ []) (first_malformed m k (rest ∷ []))
bad_last m k [] h = absurd (h refl)
bad_last m k (b ∷ rest) h =
    rw (ne_eqb (suc (length rest)) 0 (λ z. omega arith)) (here m k (b ∷ rest) [] (λ f. refl) (λ z e. cons-ne-nil b rest e))

bad-line : (m k : ℕ) (line next : List ℕ) (pieces : List (List ℕ)) (t : Bool) → (is_line line && eqb (count line) m) ≡ t → (n : ℕ) →
    (¬ (n ≡ 0) → FirstBad m (k + 1) (next ∷ pieces) n) → ¬ (cond t n k ≡ 0) → FirstBad m k (line ∷ next ∷ pieces) (cond t n k)
bad-line m k line next pieces true t n ih h =
    let F = ih h in
    let e = F.named in
    record {
      front = line ∷ F.front;
      line = F.line;
      rest = F.rest;
      same = ap (λ l. line ∷ l) F.same;
      formed = (test-formed m line t, F.formed);
      named = omega arith;
      bad = F.bad;
      unended = F.unended;
    }
bad-line m k line next pieces false t n ih h =
    here m k line (next ∷ pieces) (λ F. absurd (false-is _ t (true-is _ (formed-test m line F)))) (λ e. absurd (cons-ne-nil next pieces e))

first-bad : (m k : ℕ) (pieces : List (List ℕ)) → 0 < length pieces → ¬ (first_malformed m k pieces ≡ 0) →
    FirstBad m k pieces (first_malformed m k pieces)
first-bad m k [] l h = absurd (omega arith)
first-bad m k (rest ∷ []) l h = bad_last m k rest h
first-bad m k (line ∷ next ∷ pieces) l h =
    bad-line m k line next pieces (is_line line && eqb (count line) m) refl (first_malformed m (k + 1) (next ∷ pieces))
    (λ d. first-bad m (k + 1) (next ∷ pieces) (omega arith) d) h

-- the line that 14 names in a text that is not empty. (An empty text is malformed in line 1 by definition.)
pub first-named : (text : List ℕ) → 0 < length text → ¬ (malformed_line text ≡ 0) →
    FirstBad (width (split 10 text)) 1 (split 10 text) (malformed_line text)
unfolding malformed_line
first-named text l h =
    let z = ne_eqb (length text) 0 (λ e. omega arith) in
    rw z (first-bad (width (split 10 text)) 1 (split 10 text) (split-there 10 text) (rw z at h))
