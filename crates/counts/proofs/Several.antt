-- Columns of one level may be left out of the search for the strength: only where all others pass do they count.
use Rattle.exact.proofs.Ground.{true, false, Bool, cond, List, Memᴰ, ◌≡◌, ◌∙◌, sym, ap, refl, subst, ℕ, ◌≤◌, ◌<◌, min, dec_le, arith, eqb, T, ltb}
use Rattle.exact.proofs.Ground.{pos, length, ne_eqb, eq-eqb, eqb-true, eqb-false}
use Rattle.exact.specs.Lists.{largest}
use Rattle.exact.proofs.Tests.{iff-eq}
use Rattle.exact.proofs.Lists.{keep-most}
use Rattle.exact.proofs.Members.{keep-mem}
use Rattle.exact.proofs.Numbers.{length_from, mem-from}
use Rattle.exact.proofs.Searches.{IsLargest, largest-is, largest-unique}
use Rattle.rules.specs.Plan.{Plan, columns, level, entry, every_column, several}
use Rattle.plan.specs.Good.{Sound}
use Rattle.words.specs.Words.{word}
use Rattle.words.proofs.Laws.{word-above}
use Rattle.words.proofs.OneLevel.{words-several}
use Rattle.counts.specs.Counts.{balanced, strength}
use Rattle.counts.specs.Numbered.{Columns}
use Rattle.counts.proofs.Balance.{passed}
use Rattle.words.specs.Entries.{AllBelow}
use Rattle.counts.proofs.Wordless.{NoWord, wordless-balanced}

module _ {R C : Type 0} (level : C → ℕ) (entry : R → C → ℕ) (runs : List R) (cols : List C) (v : AllBelow level entry runs cols) where
  -- how many columns have several levels
  abbrev many : ℕ
  many = length (several level cols)

  few : many ≤ length cols
  few = keep-most (λ i. ltb 1 (level i)) cols

  below : AllBelow level entry runs (several level cols)
  below i m = v i (keep-mem (λ i. ltb 1 (level i)) cols i m)

  -- no word of those columns is longer than they are many
  wordless-several : (t : ℕ) → NoWord level entry runs (several level cols) below (min t many) → NoWord level entry runs cols v t
  wordless-several t h j l k = words-several level entry runs cols v j ∙ go (dec_le j many)
    where
      go : Dec (j ≤ many) → word level entry runs (several level cols) j ≡ pos 0
      go (yes d) = h j l (omega arith)
      go (no d) = word-above level entry runs (several level cols) j (omega arith)

  -- every t columns are even exactly where every t of several levels are, or all of these where they are fewer
  pub balanced-several : (t : ℕ) → t ≤ length cols →
      balanced level entry runs cols t ≡ balanced level entry runs (several level cols) (min t many)
  balanced-several t b =
      let all = wordless-balanced level entry runs cols v t b in
      let some = wordless-balanced level entry runs (several level cols) below (min t many) (omega arith) in
      iff-eq (balanced level entry runs cols t) (balanced level entry runs (several level cols) (min t many))
      (λ h. some.0 (λ j l k. sym (words-several level entry runs cols v j) ∙ all.1 h j l (omega arith)))
      (λ h. all.0 (wordless-several t (some.1 h)))

  -- the strength of the columns of several levels; the number of all columns where that is the number of those
  pub strength-several :
      let s = strength level entry runs (several level cols) in strength level entry runs cols ≡ cond (eqb s many) (length cols) s
  unfolding strength
  strength-several =
      largest-unique (balanced level entry runs cols) (length cols) _ _ (largest-is (balanced level entry runs cols) (length cols)) (go (eqb s many) refl)
    where
      s : ℕ
      s = largest (balanced level entry runs (several level cols)) many

      S : IsLargest (balanced level entry runs (several level cols)) many s
      S = largest-is (balanced level entry runs (several level cols)) many

      -- t passes where it is the strength of the columns of several levels, but for columns of one level
      passes : (t : ℕ) → t ≤ length cols → min t many ≡ s → T (balanced level entry runs cols t)
      passes t b e =
          subst T (sym (balanced-several t b ∙ ap (balanced level entry runs (several level cols)) e))
          (passed level entry runs (several level cols) s S.passes)

      go : (b : Bool) → eqb s many ≡ b → IsLargest (balanced level entry runs cols) (length cols) (cond b (length cols) s)
      go true e = record {
        within = omega arith;
        passes = λ h. passes (length cols) (omega arith) (omega (arith, few, eqb-true s many e));
        most = λ k h t. h;
      }
      go false e = record {
        within = omega (arith, few, S.within);
        passes = λ h. passes s (omega (arith, few, S.within)) (omega (arith, S.within));
        most = λ k h t. omega (arith, S.within, eqb-false s many e, S.most (min k many) (omega arith) (subst T (balanced-several k h) t));
      }

-- ---- of a plan

module _ (p : Plan) (rs : List ℕ) (S : Sound p rs) where
  inside : (i : ℕ) → Memᴰ i (every_column p) → i < columns p
  inside i m = omega (arith, mem-from 0 (columns p) m)

  pub several-columns : Columns p.levels (several (level p) (every_column p))
  several-columns = record { inside = within; low = λ i m. S.level-low i (within i m) }
    where
      within : (i : ℕ) → Memᴰ i (several (level p) (every_column p)) → i < columns p
      within i m = inside i (keep-mem (λ i. ltb 1 (level p i)) (every_column p) i m)

  -- what a search among the columns of several levels found tells the strength
  module _ (t : ℕ) (e : t ≡ strength (level p) (entry p) rs (several (level p) (every_column p))) where
    told : strength (level p) (entry p) rs (every_column p) ≡ cond (eqb t (length (several (level p) (every_column p)))) (columns p) t
    told =
        rw e (strength-several (level p) (entry p) rs (every_column p) (λ i m. (S.level-low i (inside i m), λ f n. S.below f n i (inside i m)))
        ∙ rw (length_from 0 (columns p)))

    pub all_pass : t ≡ length (several (level p) (every_column p)) → columns p ≡ strength (level p) (entry p) rs (every_column p)
    all_pass d = sym (told ∙ rw (eq-eqb t (length (several (level p) (every_column p))) d))

    pub not-all-pass : ¬ (t ≡ length (several (level p) (every_column p))) → t ≡ strength (level p) (entry p) rs (every_column p)
    not-all-pass d = sym (told ∙ rw (ne_eqb t (length (several (level p) (every_column p))) d))
