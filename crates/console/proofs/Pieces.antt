-- The lines that are found are the pieces that the reader cuts a text into: refusal 14 and what is shown speak of the same line.
use mathlib.Core.Path.{◌≡◌, refl, ◌∙◌, ap}
use mathlib.Core.Bool.{Bool, true, false, cond}
use mathlib.Core.List.{List, [], ◌∷◌, ◌++◌}
use Prim.Native.Nat.{ℕ, suc, ◌-◌, ◌<◌}
use native.Mathlib.Omega.{arith}
use borrow.Author.Tests.{eqb-true}
use lib.Dec.{eqb}
use lib.ListN.{length, take, drop, length-append}
use Rattle.text.specs.Text.{cut, split, malformed_line}
use Rattle.text.proofs.Split.{split-there}
use Rattle.text.proofs.Named.{first-named}
use Rattle.console.specs.Lines.{lines_end, first_line, line_after}
use Rattle.console.proofs.LinesEnd.{no_line}

-- the byte 10 behind a piece, unless it is the last
abbrev pub ending : List (List ℕ) → List ℕ
ending [] = []
ending (next ∷ pieces) = 10 ∷ []

some-piece : (text : List ℕ) → ¬ (split 10 text ≡ [])
some-piece text e = let n = ap length e in omega (arith, split-there 10 text)

-- the first line is the first piece
first_piece : (text piece : List ℕ) (pieces : List (List ℕ)) → split 10 text ≡ piece ∷ pieces → first_line text ≡ piece ++ ending pieces
unfolding lines_end
first_piece [] piece pieces e = let p : [] ≡ piece = cc in let q : [] ≡ pieces = cc in rw (← p, ← q)
first_piece (b ∷ text) piece pieces e = go (first_piece text) (eqb b 10) refl (split 10 text) refl e
  where
    go : ((next : List ℕ) (later : List (List ℕ)) → split 10 text ≡ next ∷ later → first_line text ≡ next ++ ending later) →
        (t : Bool) → eqb b 10 ≡ t → (later : List (List ℕ)) → split 10 text ≡ later → cut t b later ≡ piece ∷ pieces →
        b ∷ take (lines_end text (cond t 0 1)) text ≡ piece ++ ending pieces
    go ih t z [] s e = absurd (some-piece text s)
    go ih true z (next ∷ later) s e =
        let p : [] ≡ piece = cc in
        let q : next ∷ later ≡ pieces = cc in
        rw (← p, ← q, no_line text) (ap (λ x. x ∷ []) (eqb-true b 10 z))
    go ih false z (next ∷ later) s e =
        let p : b ∷ next ≡ piece = cc in
        let q : later ≡ pieces = cc in
        rw (← p, ← q) (ap (λ l. b ∷ l) (ih next later s))

-- behind the lines in front stand the other pieces
behind : (text : List ℕ) (front pieces : List (List ℕ)) → 0 < length pieces → split 10 text ≡ front ++ pieces →
    split 10 (drop (lines_end text (length front)) text) ≡ pieces
unfolding lines_end
behind [] [] pieces h e = e
behind [] (piece ∷ front) pieces h e =
    let q : [] ≡ front ++ pieces = cc in absurd (omega (arith, ap length q, length-append front pieces))
behind (b ∷ text) [] pieces h e = e
behind (b ∷ text) (piece ∷ front) pieces h e = go (λ before. behind text before pieces h) (eqb b 10) (split 10 text) refl e
  where
    go : ((before : List (List ℕ)) → split 10 text ≡ before ++ pieces → split 10 (drop (lines_end text (length before)) text) ≡ pieces) →
        (t : Bool) (later : List (List ℕ)) → split 10 text ≡ later → cut t b later ≡ piece ∷ (front ++ pieces) →
        split 10 (drop (lines_end text (cond t (length front) (suc (length front)))) text) ≡ pieces
    go ih t [] s e = absurd (some-piece text s)
    go ih true (next ∷ later) s e = let q : next ∷ later ≡ front ++ pieces = cc in ih front (s ∙ q)
    go ih false (next ∷ later) s e = let q : later ≡ front ++ pieces = cc in ih (next ∷ front) (s ∙ ap (λ l. next ∷ l) q)

pub piece-found : (text : List ℕ) (front : List (List ℕ)) (piece : List ℕ) (pieces : List (List ℕ)) → split 10 text ≡ front ++ piece ∷ pieces →
    line_after text (length front) ≡ piece ++ ending pieces
piece-found text front piece pieces e =
    first_piece (drop (lines_end text (length front)) text) piece pieces (behind text front (piece ∷ pieces) (omega arith) e)

-- the line shown for a run is that of the run: the first piece holds the levels
pub run-found : (text levels : List ℕ) (front : List (List ℕ)) (piece : List ℕ) (pieces : List (List ℕ)) →
    split 10 text ≡ levels ∷ (front ++ piece ∷ pieces) → line_after (drop (lines_end text 1) text) (length front) ≡ piece ++ ending pieces
run-found text levels front piece pieces e =
    let h : 0 < length (front ++ piece ∷ pieces) = omega (arith, length-append front (piece ∷ pieces)) in
    piece-found (drop (lines_end text 1) text) front piece pieces (behind text (levels ∷ []) (front ++ piece ∷ pieces) h e)

-- the line shown for refusal 14 is the malformed one
pub malformed-found : (text : List ℕ) (l : 0 < length text) (h : ¬ (malformed_line text ≡ 0)) →
    line_after text (malformed_line text - 1) ≡ (first-named text l h).line ++ ending (first-named text l h).rest
malformed-found text l h =
    let F = first-named text l h in
    let n : malformed_line text - 1 ≡ length F.front = omega (arith, F.named) in
    ap (line_after text) n ∙ piece-found text F.front F.line F.rest F.same
