-- The reader's loop over the numbers of a line: what is left of the line, after the numbers stored, decides what the whole line is.
use Rattle.exact.proofs.Ground.{List, [], ◌∷◌, ◌++◌, ◌⊎◌, inl, inr, ◌≡◌, ◌∙◌, sym, ap, ℕ, ◌<◌, ◌+◌, arith, length, get_or, drop, set}
use Rattle.exact.proofs.Ground.{length-append, get_or-drop, append_snoc}
use Rattle.std.specs.Prelude.{Some, None}
use Rattle.text.specs.declared.reading.Number.{Number}
use Rattle.text.specs.Bytes.{put_at}
use Rattle.text.specs.Decimal.{value}
use Rattle.text.specs.Text.{split}
use Rattle.text.specs.Reading.{number_at, line_from, front_numbers, Roomy, LineRead}
use Rattle.text.proofs.Places.{put-more, put-length, put_one}
use Rattle.text.proofs.Front.{Separated, token, comma-line, comma-numbers, end_line, end-numbers, not-a-line}

-- the numbers xs of the line are stored, and the loop stands at place `at`
pub record SoFar (text : List ℕ) (from : ℕ) (room : List ℕ) (k at count : ℕ) (now : List ℕ) : Type 0 where
  pub xs : List ℕ
  pub many : k + length xs ≡ count
  pub roomy : Roomy text at room count
  pub line : line_from from k (split 10 (drop from text)) ≡ line_from at count (split 10 (drop at text))
  pub read : front_numbers (split 10 (drop from text)) ≡ xs ++ front_numbers (split 10 (drop at text))
  pub stored : now ≡ put_at k xs room

module _ {text : List ℕ} {from : ℕ} {room : List ℕ} {k at count : ℕ} {now : List ℕ} (S : SoFar text from room k at count now) where
  -- the room still has a place
  pub room-left : at < length text → count < length room
  room-left h = let a = S.roomy.ample in omega arith

  pub room-length : length now ≡ length room
  room-length =
      let a = S.roomy.ample in
      let i = S.roomy.inside in
      let m = S.many in
      ap length S.stored ∙ put-length k room S.xs (omega arith)

  -- one number more is stored
  store : (v : ℕ) → count < length room → set now count v ≡ put_at k (S.xs ++ v ∷ []) room
  store v h =
      let m = S.many in
      put_one count now v (rw room-length h)
      ∙ ap (put_at count (v ∷ [])) S.stored ∙ put-more k room S.xs (omega arith) (v ∷ []) count m

  module _ {size v : ℕ} (number : Some (record { value = v; size = size }) ≡ number_at (drop at text)) where
    -- a comma follows
    pub line-goes-on : get_or text (at + size) 0 ≡ 44 → SoFar text from room k (at + size + 1) (count + 1) (set now count v)
    line-goes-on e =
        let T = token text at size v 44 number e (omega arith) in
        let w = T.within in
        let f = T.some in
        let a = S.roomy.ample in
        let m = S.many in
        let l = length-append S.xs (v ∷ []) in
        let rest = drop (at + size + 1) text in
        record {
          xs = S.xs ++ v ∷ [];
          many = omega arith;
          roomy = record { inside = omega arith; ample = omega arith };
          line = S.line ∙ ap (λ s. line_from at count (split 10 s)) T.same ∙ comma-line at count T.piece rest T.right
              ∙ ap (λ n. line_from (at + n + 1) (count + 1) (split 10 rest)) T.long;
          read = S.read ∙ ap (λ s. S.xs ++ front_numbers (split 10 s)) T.same
              ∙ ap (λ l. S.xs ++ l) (comma-numbers T.piece rest T.right ∙ ap (λ n. n ∷ front_numbers (split 10 rest)) T.worth)
              ∙ sym (append_snoc S.xs v (front_numbers (split 10 rest)));
          stored = store v (room-left (omega arith));
        }

    -- byte 10 follows
    pub line-ends : get_or text (at + size) 0 ≡ 10 →
        LineRead text from room k (Some (record { next = at + size + 1; count = count + 1 })) (set now count v)
    line-ends e =
        let T = token text at size v 10 number e (omega arith) in
        let w = T.within in
        let f = T.some in
        let a = S.roomy.ample in
        let rest = drop (at + size + 1) text in
        let all : front_numbers (split 10 (drop from text)) ≡ S.xs ++ v ∷ [] =
        S.read ∙ ap (λ s. S.xs ++ front_numbers (split 10 s)) T.same
        ∙ ap (λ l. S.xs ++ l) (end-numbers T.piece rest T.right ∙ ap (λ n. n ∷ []) T.worth) in
        record {
          answer = sym (S.line ∙ ap (λ s. line_from at count (split 10 s)) T.same ∙ end_line at count T.piece rest T.right
              ∙ ap (λ n. Some (record { next = at + n + 1; count = count + 1 })) T.long);
          stored = store v (room-left (omega arith)) ∙ ap (λ l. put_at k l room) (sym all);
          left = record { inside = omega arith; ample = omega arith };
        }

  -- what is left is no line
  line-fails : (after : List ℕ) → ¬ (Separated (drop at text)) → LineRead text from room k None after
  line-fails after h = record { answer = sym (S.line ∙ not-a-line at count (drop at text) h); stored = tt; left = tt }

  pub no_number : None ≡ number_at (drop at text) → (after : List ℕ) → LineRead text from room k None after
  no_number e after = line-fails after (λ s. let h = s.there in cc)

  pub no-separator : (n : Number) → Some n ≡ number_at (drop at text) →
      ¬ (get_or text (at + n.size) 0 ≡ 44) → ¬ (get_or text (at + n.size) 0 ≡ 10) → (after : List ℕ) → LineRead text from room k None after
  no-separator n e p q after = line-fails after (λ s. either s (let h = s.there in cc) s.ended)
    where
      either : (s : Separated (drop at text)) → s.number ≡ n →
          (get_or (drop at text) s.number.size 0 ≡ 44) ⊎ (get_or (drop at text) s.number.size 0 ≡ 10) → ⊥
      either s same (inl h) = p (sym (get_or-drop at text n.size 0) ∙ ap (λ m. get_or (drop at text) m.size 0) (sym same) ∙ h)
      either s same (inr h) = q (sym (get_or-drop at text n.size 0) ∙ ap (λ m. get_or (drop at text) m.size 0) (sym same) ∙ h)
