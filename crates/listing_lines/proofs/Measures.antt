-- The lines that show the words and the strength of every run are those of the plan.
use Rattle.exact.proofs.Ground.{List, [], ◌∷◌, ◌++◌, ◌≡◌, ap, refl, ℕ, ◌≤◌, ◌*◌, mul-pos, arith, ℤ, nat_abs, length}
use Rattle.exact.specs.Fractions.{reduced}
use Rattle.exact.specs.Lists.{from}
use Rattle.exact.proofs.Numbers.{mem-from}
use Rattle.rules.specs.Plan.{Plan, columns, runs, level, entry, every_run, every_column, most_columns}
use Rattle.words.specs.Answers.{word_list}
use Rattle.words.proofs.Answered.{word_at}
use Rattle.words.proofs.OfPlan.{word-not-negative}
use Rattle.plan.proofs.Sound.{good-sound}
use Rattle.counts.specs.Counts.{strength}
use Rattle.text.specs.Bytes.{bytes}
use Rattle.lines.specs.Lines.{line_of}
use Rattle.listing_lines.specs.Listing.{word_line, word_fraction, word_lines, count_lines}
use Rattle.listing_lines.specs.Parts.{Shown, Worded, word_lines_of}
use Rattle.lines.proofs.Lines.{each-cong-in}
use Rattle.listing_lines.proofs.Every.{every-many}

word-lines : (p : Plan) → columns p ≤ most_columns → word_lines_of (word_list p (every_run p)) (runs p * runs p) (columns p) ≡ word_lines p
unfolding word_fraction
word-lines p h = each-cong-in (from 1 (columns p)) (λ j m.
    let q = mem-from 1 (columns p) m in ap (λ z. word_line j (reduced (nat_abs z) (runs p * runs p))) (word_at p (every_run p) j q.0 (omega arith)))

module _ {p : Plan} {rs : List ℕ} {words : List ℤ} (W : Worded p rs words) where
  pub words-shown : Shown words (columns p) (length rs * length rs)
  words-shown =
      let n = every-many W.every in
      let G = W.every.good in
      record {
        few = G.columns-high;
        some = rw n (mul-pos G.runs-low G.runs-low);
        not_negative = λ j l h.
            rw (W.of-runs, word_at p (every_run p) j l (omega (arith, G.columns-high))) (word-not-negative p (every_run p) (good-sound p G) j);
      }

  -- the lines as they are written, t being the strength
  pub counts_whole : (t : ℕ) → t ≡ strength (level p) (entry p) rs (every_column p) →
      line_of (bytes "plan") (length rs ∷ columns p ∷ []) ++ word_lines_of words (length rs * length rs) (columns p) ++ line_of (bytes "strength") (t ∷ [])
      ≡ count_lines p
  unfolding count_lines
  counts_whole t e =
      rw (every-many W.every, W.of-runs, word-lines p W.every.good.columns-high, e, W.every.all) refl
