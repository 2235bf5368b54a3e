-- The reader's loop over the lines: what is left of the text, after the lines stored, decides what the whole text is.
use Rattle.exact.proofs.Ground.{true, false, Bool, cond, ◌&&◌, List, [], ◌∷◌, ◌++◌, append_assoc, append-nil, ◌≡◌, ◌∙◌, sym, ap, refl, subst, ℕ, ◌≤◌}
use Rattle.exact.proofs.Ground.{◌<◌, ◌-◌, ◌+◌, suc, zero-add, arith, eqb, length, take, drop, length-append, length-map, length-drop}
use Rattle.exact.proofs.Ground.{length-take-le, take_at, drop-length, drop-drop, drop_at, ne_eqb, eq-eqb}
use Rattle.exact.specs.Lists.{each}
use Rattle.std.specs.Prelude.{Option, Some, None, Result, Ok, Err, IsErrAnd, ok_or}
use Rattle.std.proofs.lemmas.Result.{err_from_is_err_and}
use Rattle.rules.specs.declared.Refusal.{Refusal}
use Rattle.rules.specs.Plan.{columns}
use Rattle.rules.specs.Refusals.{refusal, placed, malformed}
use Rattle.rules.proofs.Answered.{ok-is}
use Rattle.text.specs.declared.reading.Line.{Line}
use Rattle.text.specs.declared.reading.Lines.{Lines}
use Rattle.text.specs.Bytes.{put_at}
use Rattle.text.specs.Decimal.{value}
use Rattle.text.specs.Text.{split, join, is_line, count, numbers, ended, first_malformed, width, malformed_line, plan_of}
use Rattle.text.specs.Reading.{line_from, front_numbers, Roomy, LineRead, counted, TextRead}
use Rattle.text.proofs.Split.{split-there, split_rest, join-split}
use Rattle.text.proofs.Front.{some-is}
use Rattle.text.proofs.Lines.{malformed-cons, ended-cons}
use Rattle.text.proofs.Places.{take_put, put-length}

-- ---- the line at a place

abbrev pieces_at : List ℕ → ℕ → List (List ℕ)
pieces_at text at = split 10 (drop at text)

-- the line is there, well formed and ended
pub record There (text : List ℕ) (at k : ℕ) (r : Line) : Type 0 where
  pub line : List ℕ
  pub right : is_line line ≡ true
  pub same : pieces_at text at ≡ line ∷ pieces_at text r.next
  pub many : r.count ≡ k + count line
  pub onward : at < r.next
  pub within : r.next ≤ length text

line-there : (text : List ℕ) (at k : ℕ) (line : List ℕ) (later : List (List ℕ)) → pieces_at text at ≡ line ∷ later → 0 < length later →
    is_line line ≡ true → There text at k (record { next = at + length line + 1; count = k + count line })
line-there text at k line later e h t =
    let next = at + length line + 1 in
    let rest : pieces_at text next ≡ later =
    ap (split 10) (ap (λ n. drop n text) (let q : next ≡ at + suc (length line) = omega arith in q) ∙ sym (drop-drop (suc (length line)) at text))
    ∙ split_rest 10 (drop at text) line later e h in
    record {
      line = line;
      right = t;
      same = e ∙ ap (λ l. line ∷ l) (sym rest);
      many = refl;
      onward = omega arith;
      within = inside later h e;
    }
  where
    inside : (later : List (List ℕ)) → 0 < length later → pieces_at text at ≡ line ∷ later → at + length line + 1 ≤ length text
    inside [] h e = absurd (omega arith)
    inside (next ∷ later) h e =
        let l : length (line ++ 10 ∷ join 10 (next ∷ later)) ≡ length (drop at text) = ap length (ap (join 10) (sym e) ∙ join-split 10 (drop at text)) in
        let a = length-append line (10 ∷ join 10 (next ∷ later)) in
        let d = length-drop at text in
        omega arith

pub line_read : (text : List ℕ) (at k : ℕ) (r : Line) → Some r ≡ line_from at k (pieces_at text at) → There text at k r
line_read text at k r e = go (pieces_at text at) refl e
  where
    go : (pieces : List (List ℕ)) → pieces_at text at ≡ pieces → Some r ≡ line_from at k pieces → There text at k r
    go [] p l = absurd (cc)
    go (rest ∷ []) p l = absurd (cc)
    go (line ∷ next ∷ pieces) p l = test (is_line line) refl l
      where
        test : (t : Bool) → is_line line ≡ t →
            Some r ≡ cond {A = Option Line} t (Some (record { next = at + length line + 1; count = k + count line })) None → There text at k r
        test true t l = subst (There text at k) (sym (some-is l)) (line-there text at k line (next ∷ pieces) p (omega arith) t)
        test false t l = absurd (cc)

-- no well-formed line is there
pub line-unread : (m n at k : ℕ) (text : List ℕ) → None ≡ line_from at k (pieces_at text at) → at < length text → first_malformed m n (pieces_at text at) ≡ n
line-unread m n at k text e l = go (pieces_at text at) (join-split 10 (drop at text)) (split-there 10 (drop at text)) e
  where
    go : (pieces : List (List ℕ)) → join 10 pieces ≡ drop at text → 0 < length pieces → None ≡ line_from at k pieces → first_malformed m n pieces ≡ n
    go [] p q z = absurd (omega arith)
    go (rest ∷ []) p q z =
        let d = length-drop at text in
        let s : length rest ≡ length (drop at text) = ap length p in
        rw (ne_eqb (length rest) 0 (λ o. omega arith))
    go (line ∷ next ∷ pieces) p q z = test (is_line line) z
      where
        later : ℕ
        later = first_malformed m (n + 1) (next ∷ pieces)

        test : (t : Bool) → None ≡ cond {A = Option Line} t (Some (record { next = at + length line + 1; count = k + count line })) None →
            cond (t && eqb (count line) m) later n ≡ n
        test true z = absurd (cc)
        test false z = refl

-- ---- the lines so far

-- all numbers of these pieces
abbrev all_numbers : List (List ℕ) → List ℕ
all_numbers pieces = each (ended pieces) numbers

all_cons : (line : List ℕ) (text : List ℕ) → all_numbers (line ∷ split 10 text) ≡ numbers line ++ all_numbers (split 10 text)
all_cons line text = rw (ended-cons line (split 10 text) (split-there 10 text))

-- the numbers of the lines before line n are stored, k in all and m in each, and the loop stands at place `at`
pub record LinesSoFar (text : List ℕ) (m at n k : ℕ) (now : List ℕ) : Type 0 where
  pub roomy : Roomy text at now k
  pub low : 0 < n
  pub few : n ≤ at + 1
  pub begun : m ≤ k
  pub width : columns (plan_of text) ≡ m
  pub malformed : malformed_line text ≡ first_malformed m n (pieces_at text at)
  pub read : (plan_of text).levels ++ (plan_of text).table ≡ take k now ++ all_numbers (pieces_at text at)

-- the room after a line: what it held, and the line's numbers
module _ {text : List ℕ} {at k : ℕ} {now : List ℕ} {r : Line} {after : List ℕ} (L : LineRead text at now k (Some r) after) where
  there : There text at k r
  there = line_read text at k r L.answer

  fits : k + length (numbers there.line) ≤ length now
  fits =
      let n = length-map (split 44 there.line) value in
      let a = L.left.ample in
      let i = L.left.inside in
      let c = there.many in
      omega arith

  stored-front : after ≡ put_at k (numbers there.line) now
  stored-front = L.stored ∙ ap (λ p. put_at k (front_numbers p) now) there.same

  after-length : length after ≡ length now
  after-length = ap length stored-front ∙ put-length k now (numbers there.line) fits

  after-roomy : Roomy text r.next after r.count
  after-roomy = record { inside = L.left.inside; ample = rw after-length L.left.ample }

  after_front : take r.count after ≡ take k now ++ numbers there.line
  after_front =
      let n = length-map (split 44 there.line) value in
      let c = there.many in
      ap (take r.count) stored-front ∙ take_put k now (numbers there.line) fits r.count (omega arith)

-- no line at all, or a malformed first one
pub first-unread : {text room now : List ℕ} → LineRead text 0 room 0 None now → malformed_line text ≡ 1
unfolding malformed_line
first-unread {text} L = go text (λ l. line-unread (width (split 10 text)) 1 0 0 text L.answer l)
  where
    go : (s : List ℕ) → (0 < length s → first_malformed (width (split 10 s)) 1 (split 10 s) ≡ 1) →
        cond (eqb (length s) 0) 1 (first_malformed (width (split 10 s)) 1 (split 10 s)) ≡ 1
    go [] f = refl
    go (b ∷ s) f = rw (ne_eqb (length (b ∷ s)) 0 (λ o. omega arith)) (f (omega arith))

-- the first line is there
pub first_read : {text room : List ℕ} {r : Line} {now : List ℕ} → LineRead text 0 room 0 (Some r) now → LinesSoFar text r.count r.next 2 r.count now
unfolding malformed_line plan_of
first_read {text} {r = r} L =
    let T = there L in
    let rest = drop r.next text in
    let c : r.count ≡ count T.line = T.many ∙ zero-add (count T.line) in
    let same : split 10 text ≡ T.line ∷ split 10 rest = T.same in
    let shape : ended (split 10 text) ≡ T.line ∷ ended (split 10 rest) = ap ended same ∙ ended-cons T.line (split 10 rest) (split-there 10 rest) in
    let o = T.onward in
    let w = T.within in
    record {
      roomy = after-roomy L;
      low = omega arith;
      few = omega arith;
      begun = omega arith;
      width = rw shape (length-map (split 44 T.line) value ∙ sym c);
      malformed =
          rw (ne_eqb (length text) 0 (λ z. omega arith), same)
          (malformed-cons (count T.line) 1 T.line (split 10 rest) (split-there 10 rest)
          ∙ rw (T.right, eq-eqb (count T.line) (count T.line) refl) (ap (λ j. first_malformed j 2 (split 10 rest)) (sym c)));
      read = rw (shape, after_front L);
    }

module _ {text : List ℕ} {m at n k : ℕ} {now : List ℕ} (S : LinesSoFar text m at n k now) where
  pub next-unread : {after : List ℕ} → LineRead text at now k None after → at < length text → malformed_line text ≡ n
  next-unread L l = S.malformed ∙ line-unread m n at k text L.answer l

  module _ {r : Line} {after : List ℕ} (L : LineRead text at now k (Some r) after) where
    test : malformed_line text ≡ cond (eqb (count (there L).line) m) (first_malformed m (n + 1) (pieces_at text r.next)) n
    test =
        let T = there L in
        S.malformed ∙ ap (first_malformed m n) T.same
        ∙ malformed-cons m n T.line (pieces_at text r.next) (split-there 10 (drop r.next text))
        ∙ ap (λ t. cond (t && eqb (count T.line) m) (first_malformed m (n + 1) (pieces_at text r.next)) n) T.right

    pub other-count : ¬ (r.count ≡ k + m) → malformed_line text ≡ n
    other-count d =
        let T = there L in
        let e = T.many in
        test ∙ rw (ne_eqb (count T.line) m (λ z. d (e ∙ ap (λ j. k + j) z)))

    pub next-read : r.count ≡ k + m → LinesSoFar text m r.next (n + 1) r.count after
    next-read d =
        let T = there L in
        let ys = numbers T.line in
        let rest = drop r.next text in
        let c = T.many in
        let o = T.onward in
        let f = S.few in
        record {
          roomy = after-roomy L;
          low = omega arith;
          few = omega arith;
          begun = omega (arith, S.begun);
          width = S.width;
          malformed = test ∙ rw (eq-eqb (count T.line) m (let q : count T.line ≡ m = omega arith in q));
          read = S.read ∙ ap (λ p. take k now ++ all_numbers p) T.same ∙ ap (λ l. take k now ++ l) (all_cons T.line rest)
              ∙ sym (append_assoc (take k now) ys (all_numbers (split 10 rest)))
              ∙ ap (λ l. l ++ all_numbers (split 10 rest)) (sym (after_front L));
        }

  -- the text's end
  pub all_read : at ≡ length text → TextRead text (Ok (record { columns = m; count = k })) now
  all_read e =
      let p = plan_of text in
      let a = S.roomy.ample in
      let i = S.roomy.inside in
      let nothing : drop at text ≡ [] = ap (λ j. drop j text) e ∙ drop-length text in
      let z : malformed_line text ≡ 0 = S.malformed ∙ rw nothing in
      let w : k ≤ length now = omega arith in
      let all : take k now ≡ p.levels ++ p.table = sym (S.read ∙ rw nothing (append-nil (take k now))) in
      let c : k ≡ m + length p.table = omega (arith, S.width, sym (length-take-le k now w) ∙ ap length all ∙ length-append p.levels p.table) in
      record { answer = rw (z, S.width, c); within = w; stored = all }

-- a malformed line
module _ {text : List ℕ} {n : ℕ} {r : Refusal} {now : List ℕ} (low : 0 < n) (first : malformed_line text ≡ n) (named : r ≡ placed 14 n 0) where
  pub none_read : TextRead text (Err r) now
  none_read = record { answer = rw (named, first, ne_eqb n 0 (λ z. omega arith)); within = tt; stored = tt }

  -- the exit of a `?` behind a line that is none
  pub unread : {o : Option Line} {e : Refusal} (result : Result Lines Refusal) → IsErrAnd result (λ y. y ≡ e) → Err e ≡ ok_or o r → o ≡ None →
      TextRead text result now
  unread {e = e} result h v q =
      let (y, is, same) = err_from_is_err_and result h in
      let w : Err e ≡ Err r = rw q at v in
      let t : y ≡ r = cc in
      rw (is, t) none_read

-- ---- the two parts of the room

pub record Parts (text : List ℕ) (r : Lines) (after : List ℕ) : Type 0 where
  pub levels : take r.columns (take r.count after) ≡ (plan_of text).levels
  pub table : drop r.columns (take r.count after) ≡ (plan_of text).table

pub parts : {text : List ℕ} {r : Lines} {after : List ℕ} → TextRead text (Ok r) after → Parts text r after
parts {text} {r} R =
    let p = plan_of text in
    let m : r.columns ≡ columns p = ap (λ x. x.columns) (ok-is (refusal (malformed (malformed_line text) ∷ [])) (counted p) R.answer) in
    record {
      levels = ap (take r.columns) R.stored ∙ take_at p.levels p.table r.columns (sym m);
      table = ap (drop r.columns) R.stored ∙ drop_at p.levels p.table r.columns (sym m);
    }
