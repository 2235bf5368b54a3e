-- Where column a has no word with any set of columns of J, the empty one too, each of its levels occurs equally often in every cell.
use Rattle.exact.proofs.Ground.{◌≡◌, sym, ◌∙◌, ap, List, [], ◌∷◌, Memᴰ, mem-tail, ℕ, ◌*◌, ◌-◌, ◌<◌, mul-pos, arith, length, ℤ, pos, negsuc}
use Rattle.exact.proofs.Ground.{nat_abs, ◌+ℤ◌, ◌-ℤ◌, ◌*ℤ◌, +ℤ_idl}
use native.Mathlib.Nat.{mul-zero}
use Rattle.exact.specs.Lists.{sum}
use Rattle.exact.specs.Fractions.{zero_fraction, reduced}
use Rattle.exact.proofs.Ring.{ring}
use Rattle.exact.proofs.Order.{*-cancel}
use Rattle.exact.proofs.Sums.{sum-cong, sum-+, sum-*}
use Rattle.exact.proofs.Reduced.{reduced-zero}
use Rattle.sets.proofs.Parts.{Part, keep, part-nil, part-mem, parts-zero}
use Rattle.words.specs.Words.{word_of}
use Rattle.words.proofs.Squares.{agree, spread}
use Rattle.words.proofs.Positive.{word_of-weighed}
use Rattle.counts.specs.Counts.{combinations, tally}
use Rattle.counts.proofs.Shown.{has, has-cons, tally-has}
use Rattle.counts.proofs.Wordless.{scaled→counts, levels-pos}
use Rattle.words.specs.Entries.{AllBelow}
use Rattle.counts.proofs.Even.{Vanish, Vanish⁺, zero→vanish, vanish→scaled}
use Rattle.tell.specs.Tell.{Tells}
use Rattle.tell.specs.Words.{mixed_words, words_figure}
use Rattle.tell.proofs.Words.{words-tell}

expand : (S d g : ℤ) → (pos 1 *ℤ (S *ℤ d -ℤ pos 1)) *ℤ g ≡ S *ℤ (d *ℤ g) +ℤ negsuc 0 *ℤ g
expand S d g = simp ring

settle : (p b : ℤ) → p +ℤ negsuc 0 *ℤ b ≡ pos 0 → p ≡ b
settle p b e = back p b ∙ ap (λ z. z +ℤ b) e ∙ +ℤ_idl b
  where
    back : (p b : ℤ) → p ≡ (p +ℤ negsuc 0 *ℤ b) +ℤ b
    back p b = simp ring

module _ {R C : Type 0} (level : C → ℕ) (entry : R → C → ℕ) (runs : List R) where
  module _ (a : C) (J : List C) (v : AllBelow level entry runs (a ∷ J)) (h : (K : List C) → Part K J → word_of level entry runs (a ∷ K) ≡ pos 0) where
    weights : ℕ → R → ℤ
    weights x f = pos 1 *ℤ spread (level a) (entry f a) x

    vanish : (K : List C) → Part K J → (x : ℕ) → x < level a → Vanish level entry runs K (weights x)
    unfolding weights
    vanish K p =
        zero→vanish level entry runs (a ∷ K) (λ f. pos 1) (λ i m. v i (part-mem (keep p) i m)) (sym (word_of-weighed level entry runs (a ∷ K)) ∙ h K p)

    -- s times the runs in cell P that have level x are the runs in cell P
    pub level-even : (x : ℕ) → x < level a → (P : List ℕ) → Memᴰ P (combinations level J) →
        level a * tally entry runs (a ∷ J) (x ∷ P) ≡ tally entry runs J P
    unfolding weights
    level-even x l P m =
        let (p, k, e) = levels-pos level entry runs J (λ i n. v i (mem-tail n)) in
        let none : sum runs (weights x) ≡ pos 0 = vanish [] (part-nil J) x l in
        let zero : sum runs (λ f. weights x f *ℤ has entry f J P) ≡ pos 0
        = *-cancel {p = p} k (ap (λ z. z *ℤ sum runs (λ f. weights x f *ℤ has entry f J P)) e
        ∙ scaled→counts level entry runs J (weights x) (sum runs (weights x))
        (vanish→scaled level entry runs J (weights x) (λ I q. after I (vanish I q x l))) P m ∙ none) in
        let A = sum runs (λ f. has entry f (a ∷ J) (x ∷ P)) in
        let B = sum runs (λ f. has entry f J P) in
        let split : pos (level a) *ℤ A +ℤ negsuc 0 *ℤ B ≡ pos 0
        = sym (sum-cong runs (λ f. expand (pos (level a)) (agree (entry f a) x) (has entry f J P)
        ∙ ap (λ z. pos (level a) *ℤ z +ℤ negsuc 0 *ℤ has entry f J P) (sym (has-cons entry f a J x P)))
        ∙ sum-+ runs (λ f. pos (level a) *ℤ has entry f (a ∷ J) (x ∷ P)) (λ f. negsuc 0 *ℤ has entry f J P)
        ∙ rw (sum-* runs (pos (level a)) (λ f. has entry f (a ∷ J) (x ∷ P)), sum-* runs (negsuc 0) (λ f. has entry f J P))) ∙ zero in
        ap nat_abs (ap (λ z. pos (level a) *ℤ z) (tally-has entry runs (a ∷ J) (x ∷ P)) ∙ settle (pos (level a) *ℤ A) B split ∙ sym (tally-has entry runs J P))
      where
        after : (I : List C) → Vanish level entry runs I (weights x) → Vanish⁺ level entry runs I (weights x)
        after [] w = tt
        after (i ∷ I) w = w

    -- so the runs tell, where there is one
    pub wordless-tells : 0 < length runs → Tells entry runs a J
    unfolding mixed_words words_figure
    wordless-tells n =
        let pairs : 0 < length runs * length runs = mul-pos n n in
        let none : mixed_words level entry runs a J ≡ pos 0 = parts-zero J (λ K. word_of level entry runs (a ∷ K)) h in
        let zero : words_figure level entry runs a J ≡ zero_fraction
        = ap (λ z. reduced ((level a - 1) * nat_abs z) (length runs * length runs)) none
        ∙ ap (λ k. reduced k (length runs * length runs)) (mul-zero (level a - 1)) ∙ reduced-zero (length runs * length runs) pairs in
        words-tell level entry runs a J v (rw zero (omega arith))
