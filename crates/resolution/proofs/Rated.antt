-- What the routine finds of the measures of some runs, and that these are small.
use Rattle.exact.proofs.Ground.{List, ◌≡◌, ◌∙◌, sym, ap, refl, ℕ, ◌≤◌, ◌<◌, ◌+◌, ◌*◌, ◌^◌, dec_le, arith, ℤ}
use Rattle.exact.proofs.Ground.{nat_abs, length, le-ltb, lt-ltb, le-leb, lt-leb}
use Rattle.exact.specs.Lists.{keep, holds}
use Rattle.exact.proofs.Numbers.{length_from, mul-below}
use Rattle.exact.proofs.Members.{keep-mem}
use Rattle.std.specs.Prelude.{Ok, Err}
use Rattle.rules.specs.Refusals.{refusal, answered, plain}
use Rattle.rules.specs.Plan.{Plan, columns, level, entry, every_column, most_columns, most_runs}
use Rattle.sets.specs.Sets.{sets_of}
use Rattle.sets.proofs.Parts.{part-all}
use Rattle.words.specs.Words.{word}
use Rattle.words.specs.Answers.{word_list}
use Rattle.words.proofs.OfPlan.{word_small, word_none}
use Rattle.words.proofs.Answered.{word_at}
use Rattle.set_words.specs.Given.{Tabled}
use Rattle.set_words.proofs.Products.{part-projection}
use Rattle.resolution.specs.Resolution.{resolution_in, ratio_in, resolution_checks, largest_ratio}
use Rattle.resolution.specs.Charts.{column_ratio}
use Rattle.ratios.specs.Ratios.{ratios_of}
use Rattle.resolution.specs.Given.{Measured, word_in, first_above, measures, Small}
use Rattle.resolution.proofs.Resolved.{resolution-is, resolution-words}
use Rattle.resolution.proofs.Walk.{ratios-small}
use Rattle.resolution.proofs.AtMostOne.{ratio-at-most-one}
use Rattle.ratios.specs.declared.Ratios.{Ratios}

-- ---- the words of a list, whatever the length

word_read : (p : Plan) (rs : List ℕ) → columns p ≤ most_columns → (j : ℕ) → 1 ≤ j →
    word_in (word_list p rs) j ≡ word (level p) (entry p) rs (every_column p) j
word_read p rs h j l = go (dec_le j most_columns)
  where
    go : Dec (j ≤ most_columns) → word_in (word_list p rs) j ≡ word (level p) (entry p) rs (every_column p) j
    go (yes k) = rw (le-leb j most_columns k) (word_at p rs j l k)
    go (no k) = rw (lt-leb j most_columns (omega arith)) (sym (word_none p rs j (omega arith)))

-- ---- the ratios of the sets of R columns

ratios-are : (p : Plan) (rs : List ℕ) (i : ℕ) →
    ratios_of p rs (sets_of (columns p) (resolution_in p rs)) i ≡ record { largest = ratio_in p rs; held = column_ratio p rs i }
unfolding ratios_of largest_ratio column_ratio
ratios-are p rs i = refl

-- ---- by the check 11

module _ (p : Plan) (rs : List ℕ) {A : Type 0} where
  pub rating-none : columns p < resolution_in p rs → (x : A) → Err (plain 11) ≡ answered (refusal (resolution_checks p rs)) x
  rating-none h x = rw (lt-ltb (columns p) (resolution_in p rs) h)

  pub rating-is : resolution_in p rs ≤ columns p → (x : A) → Ok x ≡ answered (refusal (resolution_checks p rs)) x
  rating-is h x = rw (le-ltb (columns p) (resolution_in p rs) h)

-- ---- what the routine finds: r, the ratios q, the words w and v

module _ (p : Plan) (rs : List ℕ) (words : List ℤ) (M : Measured p rs words) where
  high : columns p ≤ most_columns
  high = M.tabled.sound.columns-high

  pub found : (r : ℕ) → r ≡ first_above words (columns p) → r ≡ resolution_in p rs
  found r e = e ∙ ap (λ l. first_above l (columns p)) M.of-runs ∙ resolution-words p rs high

  pub from_one : (r : ℕ) → r ≡ first_above words (columns p) → 1 ≤ r
  from_one r e = rw (found r e) (resolution-is (level p) (entry p) rs (every_column p)).low

  pub read : (j : ℕ) (w : ℤ) → 1 ≤ j → w ≡ word_in words j → w ≡ word (level p) (entry p) rs (every_column p) j
  read j w h e = e ∙ ap (λ l. word_in l j) M.of-runs ∙ word_read p rs high j h

module _ (p : Plan) (rs : List ℕ) (i r : ℕ) (q : Ratios) (e : r ≡ resolution_in p rs) (d : q ≡ ratios_of p rs (sets_of (columns p) r) i) where
  ratios : q ≡ record { largest = ratio_in p rs; held = column_ratio p rs i }
  ratios = d ∙ ap (λ r. ratios_of p rs (sets_of (columns p) r) i) e ∙ ratios-are p rs i

  pub found-is : (w v : ℤ) →
      w ≡ word (level p) (entry p) rs (every_column p) r → v ≡ word (level p) (entry p) rs (every_column p) (r + 1) →
      record {
        columns = columns p;
        pairs = length rs * length rs;
        resolution = r;
        word = w;
        next = v;
        largest = q.largest;
        held = q.held;
      } ≡ measures p rs i
  unfolding measures
  found-is w v f g = rw (f, g, ratios, e) refl

-- ---- its numbers are small

module _ (p : Plan) (rs : List ℕ) (i : ℕ) (G : Tabled p rs) where
  low : 1 ≤ resolution_in p rs
  low = (resolution-is (level p) (entry p) rs (every_column p)).low

  word-exact : (j : ℕ) → nat_abs (word (level p) (entry p) rs (every_column p) j) ≤ 2 ^ 53
  word-exact j = omega (arith, word_small p rs G.sound j)

  pub measures-small : Small (measures p rs i)
  unfolding measures largest_ratio column_ratio
  measures-small =
      let K = part-projection p G.sound.level-low G.sound.small (every_column p) (part-all (every_column p)) in
      let small = ratios-small p rs (every_column p) G K (resolution_in p rs) low in
      let L = small (sets_of (columns p) (resolution_in p rs)) (λ I m. m) in
      let H = small (keep (holds i) (sets_of (columns p) (resolution_in p rs))) (λ I m. keep-mem (holds i) _ I m) in
      record {
        length = omega (arith, G.sound.columns-high, (resolution-is (level p) (entry p) rs (every_column p)).high, length_from 0 (columns p));
        at_most_one = ratio-at-most-one p rs G.sound;
        short = L.0.short;
        held-num = H.1;
        held-den = omega (arith, H.0.short);
        word = word-exact (resolution_in p rs);
        next = word-exact (resolution_in p rs + 1);
        pairs = omega (arith, mul-below (length rs) (length rs) most_runs most_runs G.sound.few G.sound.few);
      }
