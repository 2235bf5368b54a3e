-- The reader's turns: what the number in front of the bytes that are left says of the line in front of them.
use Rattle.exact.proofs.Ground.{true, false, Bool, cond, not, ◌&&◌, List, [], ◌∷◌, map, ◌++◌, append_assoc, ◌⊎◌, inl, inr, ◌≡◌, ◌∙◌, sym, ap, refl}
use Rattle.exact.proofs.Ground.{ap₂, subst, ℕ, ◌≤◌, ◌<◌, ◌-◌, ◌+◌, ◌*◌, suc, dec_lt, add-one, arith, eqb, length, get_or, drop, length-append}
use Rattle.exact.proofs.Ground.{length-drop, get_or-eq_default, drop-cons, append_snoc, drop-drop, ne_eqb, not-true}
use lib.Seq.{get_or_at}
use Rattle.std.specs.Prelude.{Option, Some, None}
use Rattle.exact.specs.Lists.{all}
use Rattle.exact.proofs.Tests.{both, is_true, true-is}
use Rattle.text.specs.declared.reading.Line.{Line}
use Rattle.text.specs.declared.reading.Number.{Number}
use Rattle.text.specs.Decimal.{value}
use Rattle.text.specs.Text.{split, join, is_digit, is_number, is_line, count}
use Rattle.text.specs.Reading.{number_at, line_from, front_numbers}
use Rattle.text.proofs.Split.{All, all-++, Lacks, before, split-there, split_one, split-more, split-before, join-split}
use Rattle.text.proofs.Digits.{digit-is}

-- ---- a number's bytes

-- a number is one or two digits, the first of two not 0
number-bytes : (P : ℕ → Type 0) (piece : List ℕ) → is_number piece ≡ true → ((b : ℕ) → is_digit b ≡ true → P b) → All P piece
number-bytes P [] e f = absurd (true-is false e)
number-bytes P (a ∷ []) e f = (f a e, tt)
number-bytes P (a ∷ b ∷ []) e f =
    let (d, db) = both (is_digit a && not (eqb a 48)) (is_digit b) (true-is (is_number (a ∷ b ∷ [])) e) in
    (f a (is_true (is_digit a) (both (is_digit a) (not (eqb a 48)) d).0), (f b (is_true (is_digit b) db), tt))
number-bytes P (a ∷ b ∷ c ∷ more) e f = absurd (true-is false e)

number-lacks : (c : ℕ) (piece : List ℕ) → c < 48 → is_number piece ≡ true → Lacks c piece
number-lacks c piece h e = number-bytes (λ b. eqb b c ≡ false) piece e (λ b d. let p = digit-is b d in ne_eqb b c (λ q. omega arith))

number-there : (piece : List ℕ) → is_number piece ≡ true → 0 < length piece
number-there [] e = absurd (true-is false e)
number-there (b ∷ piece) e = omega arith

-- ---- the number in front

pub some-is : {A : Type 0} {x y : A} → Some x ≡ Some y → x ≡ y
some-is h = cc

-- the number in front of the bytes is a piece of them
pub record Piece (bytes : List ℕ) (n : Number) : Type 0 where
  pub piece : List ℕ
  pub right : is_number piece ≡ true
  pub worth : value piece ≡ n.value
  pub size : length piece ≡ n.size
  pub same : bytes ≡ piece ++ drop n.size bytes

pub number-piece : (bytes : List ℕ) (n : Number) → Some n ≡ number_at bytes → Piece bytes n
unfolding number_at
number-piece [] n h = absurd (cc)
number-piece (a ∷ []) n h = go (is_digit a) refl h
  where
    go : (t : Bool) → is_digit a ≡ t → Some n ≡ cond t (Some (record { value = a - 48; size = 1 })) None → Piece (a ∷ []) n
    go true e h = subst (Piece (a ∷ [])) (sym (some-is h)) (record { piece = a ∷ []; right = e; worth = omega arith; size = refl; same = refl })
    go false e h = absurd (cc)
number-piece (a ∷ b ∷ bytes) n h = go (is_digit a) (is_digit b) (eqb a 48) refl refl refl h
  where
    found : Bool → Bool → Bool → Option Number
    found s t z =
        cond s (cond t (cond z None (Some (record { value = (a - 48) * 10 + (b - 48); size = 2 }))) (Some (record { value = a - 48; size = 1 }))) None

    go : (s t z : Bool) → is_digit a ≡ s → is_digit b ≡ t → eqb a 48 ≡ z → Some n ≡ found s t z → Piece (a ∷ b ∷ bytes) n
    go true true false p q r h =
        subst (Piece (a ∷ b ∷ bytes)) (sym (some-is h))
        (record { piece = a ∷ b ∷ []; right = rw (p, q, r); worth = omega arith; size = refl; same = refl })
    go true false z p q r h =
        subst (Piece (a ∷ b ∷ bytes)) (sym (some-is h)) (record { piece = a ∷ []; right = p; worth = omega arith; size = refl; same = refl })
    go true true true p q r h = absurd (cc)
    go false t z p q r h = absurd (cc)

-- a byte that is no digit ends the number
pub piece-number : (piece : List ℕ) (c : ℕ) (rest : List ℕ) → is_number piece ≡ true → is_digit c ≡ false →
    (n : Number) × (number_at (piece ++ c ∷ rest) ≡ Some n) × (n.size ≡ length piece)
unfolding number_at
piece-number [] c rest e d = absurd (true-is false e)
piece-number (a ∷ []) c rest e d = (record { value = a - 48; size = 1 }, rw (e, d), refl)
piece-number (a ∷ b ∷ []) c rest e d =
    let (p, q) = both (is_digit a && not (eqb a 48)) (is_digit b) (true-is (is_number (a ∷ b ∷ [])) e) in
    let (r, s) = both (is_digit a) (not (eqb a 48)) p in (
      record { value = (a - 48) * 10 + (b - 48); size = 2 },
      rw (is_true (is_digit a) r, is_true (is_digit b) q, not-true (eqb a 48) (is_true (not (eqb a 48)) s)),
      refl,
    )
piece-number (a ∷ b ∷ x ∷ more) c rest e d = absurd (true-is false e)

-- ---- the line in front

-- the bytes of a number and the comma after it
comma-lacks : (piece : List ℕ) → is_number piece ≡ true → Lacks 10 (piece ++ 44 ∷ [])
comma-lacks piece e = all-++ (λ b. eqb b 10 ≡ false) piece (44 ∷ []) (number-lacks 10 piece (omega arith) e) (refl, tt)

comma-pieces : (piece rest : List ℕ) → is_number piece ≡ true → split 10 (piece ++ 44 ∷ rest) ≡ before (piece ++ 44 ∷ []) (split 10 rest)
comma-pieces piece rest e = ap (split 10) (sym (append_snoc piece 44 rest)) ∙ split-before 10 (piece ++ 44 ∷ []) rest (comma-lacks piece e)

comma-split : (piece line : List ℕ) → is_number piece ≡ true → split 44 (piece ++ 44 ∷ [] ++ line) ≡ piece ∷ split 44 line
comma-split piece line e = ap (split 44) (append_snoc piece 44 line) ∙ split-more 44 piece line (number-lacks 44 piece (omega arith) e)

-- a comma after the number: the rest of the line follows
pub comma-line : (at k : ℕ) (piece rest : List ℕ) → is_number piece ≡ true →
    line_from at k (split 10 (piece ++ 44 ∷ rest)) ≡ line_from (at + length piece + 1) (k + 1) (split 10 rest)
comma-line at k piece rest e =
    rw (comma-pieces piece rest e) (go (split 10 rest) (split-there 10 rest))
  where
    go : (pieces : List (List ℕ)) → 0 < length pieces →
        line_from at k (before (piece ++ 44 ∷ []) pieces) ≡ line_from (at + length piece + 1) (k + 1) pieces
    go [] h = absurd (omega arith)
    go (line ∷ []) h = refl
    go (line ∷ next ∷ pieces) h =
        let l : at + length (piece ++ 44 ∷ [] ++ line) + 1 ≡ at + length piece + 1 + length line + 1 =
        simp length-append (omega arith) in
        let s : split 44 (piece ++ 44 ∷ [] ++ line) ≡ piece ∷ split 44 line = comma-split piece line e in
        let n : k + suc (count line) ≡ k + 1 + count line = omega arith in
        rw (l, s, e, n)

pub comma-numbers : (piece rest : List ℕ) → is_number piece ≡ true →
    front_numbers (split 10 (piece ++ 44 ∷ rest)) ≡ value piece ∷ front_numbers (split 10 rest)
comma-numbers piece rest e = rw (comma-pieces piece rest e) (go (split 10 rest) (split-there 10 rest))
  where
    go : (pieces : List (List ℕ)) → 0 < length pieces →
        front_numbers (before (piece ++ 44 ∷ []) pieces) ≡ value piece ∷ front_numbers pieces
    go [] h = absurd (omega arith)
    go (line ∷ pieces) h = ap (map value) (comma-split piece line e)

-- byte 10 after the number: it was the line's last
end-pieces : (piece rest : List ℕ) → is_number piece ≡ true → split 10 (piece ++ 10 ∷ rest) ≡ piece ∷ split 10 rest
end-pieces piece rest e = split-more 10 piece rest (number-lacks 10 piece (omega arith) e)

end-split : (piece : List ℕ) → is_number piece ≡ true → split 44 piece ≡ piece ∷ []
end-split piece e = split_one 44 piece (number-lacks 44 piece (omega arith) e)

pub end_line : (at k : ℕ) (piece rest : List ℕ) → is_number piece ≡ true →
    line_from at k (split 10 (piece ++ 10 ∷ rest)) ≡ Some (record { next = at + length piece + 1; count = k + 1 })
end_line at k piece rest e = rw (end-pieces piece rest e) (go (split 10 rest) (split-there 10 rest))
  where
    go : (pieces : List (List ℕ)) → 0 < length pieces →
        line_from at k (piece ∷ pieces) ≡ Some (record { next = at + length piece + 1; count = k + 1 })
    go [] h = absurd (omega arith)
    go (next ∷ pieces) h = rw (end-split piece e, e)

pub end-numbers : (piece rest : List ℕ) → is_number piece ≡ true → front_numbers (split 10 (piece ++ 10 ∷ rest)) ≡ value piece ∷ []
end-numbers piece rest e = rw (end-pieces piece rest e, end-split piece e)

-- ---- no line in front

-- a number in front, and a comma or byte 10 after it
pub record Separated (bytes : List ℕ) : Type 0 where
  pub number : Number
  pub there : number_at bytes ≡ Some number
  pub ended : (get_or bytes number.size 0 ≡ 44) ⊎ (get_or bytes number.size 0 ≡ 10)

separated : (piece : List ℕ) (c : ℕ) (rest : List ℕ) → is_number piece ≡ true → is_digit c ≡ false → (c ≡ 44) ⊎ (c ≡ 10) → Separated (piece ++ c ∷ rest)
separated piece c rest e d s =
    let (n, there, long) = piece-number piece c rest e d in
    record { number = n; there = there; ended = subst (λ b. (b ≡ 44) ⊎ (b ≡ 10)) (sym (get_or_at piece c rest 0 n.size (sym long))) s }

-- a well-formed line begins with a number, and a comma or byte 10 after it
line-separated : (pieces : List (List ℕ)) (rest : List ℕ) → 0 < length pieces → all pieces is_number ≡ true → Separated (join 44 pieces ++ 10 ∷ rest)
line-separated [] rest h e = absurd (omega arith)
line-separated (piece ∷ []) rest h e =
    separated piece 10 rest (is_true (is_number piece) (both (is_number piece) true (true-is (is_number piece && true) e)).0) refl (inr refl)
line-separated (piece ∷ next ∷ pieces) rest h e =
    let p = is_true (is_number piece) (both (is_number piece) (all (next ∷ pieces) is_number) (true-is (all (piece ∷ next ∷ pieces) is_number) e)).0 in
    subst Separated (sym (append_assoc piece (44 ∷ join 44 (next ∷ pieces)) (10 ∷ rest)))
    (separated piece 44 (join 44 (next ∷ pieces) ++ 10 ∷ rest) p refl (inl refl))

pub not-a-line : (at k : ℕ) (bytes : List ℕ) → ¬ (Separated bytes) → line_from at k (split 10 bytes) ≡ None
not-a-line at k bytes h = go (split 10 bytes) (join-split 10 bytes)
  where
    go : (pieces : List (List ℕ)) → join 10 pieces ≡ bytes → line_from at k pieces ≡ None
    go [] e = refl
    go (line ∷ []) e = refl
    go (line ∷ next ∷ pieces) e = test (is_line line) refl
      where
        test : (t : Bool) → is_line line ≡ t → cond {A = Option Line} t (Some (record { next = at + length line + 1; count = k + count line })) None ≡ None
        test true t =
            absurd (h (subst Separated (ap (λ l. l ++ 10 ∷ join 10 (next ∷ pieces)) (join-split 44 line) ∙ e)
            (line-separated (split 44 line) (join 10 (next ∷ pieces)) (split-there 44 line) t)))
        test false t = refl

-- ---- at a place of the text

pub number-inside : (text : List ℕ) (at : ℕ) (n : Number) → at ≤ length text → Some n ≡ number_at (drop at text) →
    (0 < n.size) × (at + n.size ≤ length text)
number-inside text at n h e =
    let P = number-piece (drop at text) n e in
    let l = ap length P.same ∙ length-append P.piece (drop n.size (drop at text)) in
    let d = length-drop at text in
    let s = P.size in
    let t = number-there P.piece P.right in
    (omega arith, omega arith)

-- the number at a place, worth v and `size` bytes long, and the byte c after it
pub record Token (text : List ℕ) (at size v c : ℕ) : Type 0 where
  pub some : 0 < size
  pub piece : List ℕ
  pub right : is_number piece ≡ true
  pub worth : value piece ≡ v
  pub long : length piece ≡ size
  pub within : at + size + 1 ≤ length text
  pub same : drop at text ≡ piece ++ c ∷ drop (at + size + 1) text

pub token : (text : List ℕ) (at size v c : ℕ) → Some (record { value = v; size = size }) ≡ number_at (drop at text) →
    get_or text (at + size) 0 ≡ c → 0 < c → Token text at size v c
token text at size v c q e p =
    let P = number-piece (drop at text) (record { value = v; size = size }) q in
    let inside : at + size < length text = present text (at + size) (rw e p) in
    let rest : drop size (drop at text) ≡ c ∷ drop (at + size + 1) text =
    drop-drop size at text ∙ drop-cons text (at + size) 0 inside ∙ ap₂ (λ a b. a ∷ drop b text) e (sym (add-one (at + size))) in
    record {
      some = omega (arith, number-there P.piece P.right, P.size);
      piece = P.piece;
      right = P.right;
      worth = P.worth;
      long = P.size;
      within = omega arith;
      same = P.same ∙ ap (λ l. P.piece ++ l) rest;
    }
  where
    present : (l : List ℕ) (i : ℕ) → 0 < get_or l i 0 → i < length l
    present l i h = go (dec_lt i (length l))
      where
        go : Dec (i < length l) → i < length l
        go (yes k) = k
        go (no k) = absurd (let d = get_or-eq_default l 0 {n = i} (omega arith) in omega arith)
