-- One number more put into a room: a loop from the end down moves what stands after its place.
use Rattle.exact.proofs.Ground.{List, ◌∷◌, ◌++◌, append_assoc, ◌≡◌, ◌∙◌, sym, ap, ap₂, ℕ, ◌≤◌, ◌<◌, ◌-◌, ◌+◌, suc, add-one, arith, length, get_or, take}
use Rattle.exact.proofs.Ground.{drop, set, length-append, length-drop, get_or-append, take-append-drop, length-take-le, take-suc, get_or-take}
use Rattle.exact.proofs.Ground.{append_snoc}
use lib.ListN.{length-take}
use lib.Seq.{take-take, set_at, slice, slice_empty, slice-cons}
use Rattle.exact.specs.Lists.{into}
use Rattle.projection_tables.specs.Given.{put_before}

module _ {A : Type 0} where
  pub length-put : (k : ℕ) (x : A) (ys : List A) → length (put_before k x ys) ≡ length ys + 1
  length-put k x ys = length-append (take k ys) (x ∷ drop k ys) ∙ omega (arith, length-take k ys, length-drop k ys)

  -- the room r when, of its first `used`, those from place k on have moved up by one
  abbrev pub moved : List A → ℕ → ℕ → List A
  moved r used k = take (k + 1) r ++ (slice k used r ++ drop (used + 1) r)

module _ {A : Type 0} (d : A) (r : List A) (used : ℕ) (h : used < length r) where
  pub moved_none : r ≡ moved r used used
  moved_none = sym (ap (λ l. take (used + 1) r ++ (l ++ drop (used + 1) r)) (slice_empty used r) ∙ take-append-drop (used + 1) r)

  -- a store at place k
  moved-set : (k : ℕ) (v : A) → k ≤ used → set (moved r used k) k v ≡ take k r ++ v ∷ (slice k used r ++ drop (used + 1) r)
  moved-set k v l =
      rw (add-one k, take-suc r k d (omega arith), append_snoc)
      (set_at (take k r) (get_or r k d) (slice k used r ++ drop (used + 1) r) v k (length-take-le k r (omega arith)))

  pub moved-turn : (k : ℕ) → 0 < k → k ≤ used → set (moved r used k) k (get_or (moved r used k) (k - 1) d) ≡ moved r used (k - 1)
  moved-turn k p l =
      let e : k - 1 + 1 ≡ k = omega arith in
      let e' : suc (k - 1) ≡ k = omega arith in
      ap (set (moved r used k) k)
      (get_or-append (take (k + 1) r) (slice k used r ++ drop (used + 1) r) d (k - 1) (rw (length-take-le (k + 1) r (omega arith)) (omega arith))
      ∙ get_or-take (k + 1) r (k - 1) d (omega arith))
      ∙ moved-set k (get_or r (k - 1) d) l
      ∙ sym (ap₂ (λ j l. take j r ++ (l ++ drop (used + 1) r)) e
      (slice-cons (k - 1) used r d (omega arith) (omega arith) ∙ ap (λ j. get_or r (k - 1) d ∷ slice j used r) e'))

  pub moved-put : (k : ℕ) (x : A) → k ≤ used → set (moved r used k) k x ≡ into (put_before k x (take used r)) r
  moved-put k x l =
      moved-set k x l
      ∙ sym (append_assoc (take k r) (x ∷ slice k used r) (drop (used + 1) r))
      ∙ ap₂ (λ l n. (l ++ x ∷ slice k used r) ++ drop n r) (sym (take-take k used r l))
      (sym (length-put k x (take used r) ∙ ap (λ n. n + 1) (length-take-le used r (omega arith))))
