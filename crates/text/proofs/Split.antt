-- Cutting a text at a byte and joining the pieces again undo one another.
use Rattle.exact.proofs.Ground.{true, false, Bool, List, [], ◌∷◌, ◌++◌, ◌≡◌, ◌∙◌, sym, ap, refl, ℕ, ◌<◌, suc, zero, arith, eqb, T, eqb→eq, length}
use Rattle.exact.proofs.Ground.{drop, eq-eqb}
use Rattle.text.specs.Text.{join, cut, split}

module _ {A : Type 0} where
  -- P holds of each member
  abbrev pub All : (A → Type 0) → List A → Type 0
  All P [] = Unit {0}
  All P (x ∷ xs) = P x × All P xs

  pub all-++ : (P : A → Type 0) (xs ys : List A) → All P xs → All P ys → All P (xs ++ ys)
  all-++ P [] ys p q = q
  all-++ P (x ∷ xs) ys p q = (p.0, all-++ P xs ys p.1 q)

-- the byte does not occur
abbrev pub Lacks : ℕ → List ℕ → Type 0
Lacks c text = All (λ b. eqb b c ≡ false) text

cut-there : (t : Bool) (b : ℕ) (pieces : List (List ℕ)) → 0 < length (cut t b pieces)
cut-there true b pieces = omega arith
cut-there false b [] = omega arith
cut-there false b (piece ∷ pieces) = omega arith

pub split-there : (c : ℕ) (text : List ℕ) → 0 < length (split c text)
split-there c [] = omega arith
split-there c (b ∷ bs) = cut-there (eqb b c) b (split c bs)

join-cut : (c b : ℕ) (t : Bool) → (T t → b ≡ c) → (pieces : List (List ℕ)) → 0 < length pieces → join c (cut t b pieces) ≡ b ∷ join c pieces
join-cut c b true e [] h = absurd (omega arith)
join-cut c b true e (piece ∷ pieces) h = ap (λ x. x ∷ join c (piece ∷ pieces)) (sym (e tt))
join-cut c b false e [] h = absurd (omega arith)
join-cut c b false e (piece ∷ []) h = refl
join-cut c b false e (piece ∷ next ∷ pieces) h = refl

pub join-split : (c : ℕ) (text : List ℕ) → join c (split c text) ≡ text
join-split c [] = refl
join-split c (b ∷ bs) = join-cut c b (eqb b c) (eqb→eq b c) (split c bs) (split-there c bs) ∙ ap (λ l. b ∷ l) (join-split c bs)

pub split_one : (c : ℕ) (piece : List ℕ) → Lacks c piece → split c piece ≡ piece ∷ []
split_one c [] h = refl
split_one c (b ∷ piece) h = rw (h.0, split_one c piece h.1)

pub split-more : (c : ℕ) (piece rest : List ℕ) → Lacks c piece → split c (piece ++ c ∷ rest) ≡ piece ∷ split c rest
split-more c [] rest h = rw (eq-eqb c c refl)
split-more c (b ∷ piece) rest h = rw (h.0, split-more c piece rest h.1)

pub split-join : (c : ℕ) (pieces : List (List ℕ)) → 0 < length pieces → All (Lacks c) pieces → split c (join c pieces) ≡ pieces
split-join c [] h k = absurd (omega arith)
split-join c (piece ∷ []) h k = split_one c piece k.0
split-join c (piece ∷ next ∷ pieces) h k =
    split-more c piece (join c (next ∷ pieces)) k.0 ∙ ap (λ l. piece ∷ l) (split-join c (next ∷ pieces) (omega arith) k.1)

pub lacks-join : (d c : ℕ) → eqb c d ≡ false → (pieces : List (List ℕ)) → All (Lacks d) pieces → Lacks d (join c pieces)
lacks-join d c e [] k = tt
lacks-join d c e (piece ∷ []) k = k.0
lacks-join d c e (piece ∷ next ∷ pieces) k =
    all-++ (λ b. eqb b d ≡ false) piece (c ∷ join c (next ∷ pieces)) k.0 (e, lacks-join d c e (next ∷ pieces) k.1)

-- bytes before a text that lack c belong to its first piece
abbrev pub before : List ℕ → List (List ℕ) → List (List ℕ)
before bytes [] = bytes ∷ []
before bytes (piece ∷ pieces) = (bytes ++ piece) ∷ pieces

pub split-before : (c : ℕ) (bytes rest : List ℕ) → Lacks c bytes → split c (bytes ++ rest) ≡ before bytes (split c rest)
split-before c [] rest h = nothing (split c rest) (split-there c rest)
  where
    nothing : (pieces : List (List ℕ)) → 0 < length pieces → pieces ≡ before [] pieces
    nothing [] h = absurd (omega arith)
    nothing (piece ∷ pieces) h = refl
split-before c (b ∷ bytes) rest h = rw (h.0, split-before c bytes rest h.1) (one (split c rest))
  where
    one : (pieces : List (List ℕ)) → cut false b (before bytes pieces) ≡ before (b ∷ bytes) pieces
    one [] = refl
    one (piece ∷ pieces) = refl

-- what stands behind the first piece and its byte c has the other pieces
pub split_rest : (c : ℕ) (text line : List ℕ) (later : List (List ℕ)) → split c text ≡ line ∷ later → 0 < length later →
    split c (drop (suc (length line)) text) ≡ later
split_rest c [] line later e h = absurd (let n : suc zero ≡ suc (length later) = ap length e in omega arith)
split_rest c (b ∷ bs) line later e h = go (eqb b c) (split c bs) refl e (λ piece d. split_rest c bs piece later d h)
  where
    go : (t : Bool) (pieces : List (List ℕ)) → split c bs ≡ pieces → cut t b pieces ≡ line ∷ later →
        ((piece : List ℕ) → split c bs ≡ piece ∷ later → split c (drop (suc (length piece)) bs) ≡ later) → split c (drop (length line) bs) ≡ later
    go true pieces p e ih = let l : [] ≡ line = cc in rw (← l) (cc)
    go false [] p e ih = absurd (let n : suc zero ≡ suc (length later) = ap length e in omega arith)
    go false (piece ∷ pieces) p e ih = let l : b ∷ piece ≡ line = cc in rw (← l) (ih piece (cc))
