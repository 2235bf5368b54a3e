-- The plan that some runs of a plan make, numbered anew: it is good, and its words are those of these runs.
use Rattle.exact.proofs.Ground.{List, [], map, ◌≡◌, ◌∙◌, sym, ap, ℕ, ◌<◌, ◌*◌, zero-add, arith, length, get_or, length-map}
use Rattle.exact.specs.Lists.{from}
use Rattle.exact.proofs.Lists.{get_d_map}
use Rattle.exact.proofs.Members.{get_or-mem}
use Rattle.exact.proofs.Numbers.{length-map-from, map-from-at, map-places, mem-from}
use Rattle.exact.proofs.Sums.{sum-cong, sum-map}
use Rattle.rules.specs.Plan.{Plan, columns, runs, level, entry, every_column, every_run}
use Rattle.sets.specs.Sets.{choose}
use Rattle.plan.specs.Good.{Good}
use Rattle.words.specs.Words.{word_of, word}
use Rattle.words.specs.Answers.{word_list}
use Rattle.words.proofs.Laws.{word-local}
use Rattle.writer.specs.Writer.{row, text_of, write_text, plan_of_runs, Runs}
use Rattle.writer.proofs.Rows.{each-flat, flat-size, rows-flat, runs-rows}

-- ---- runs by other names

module _ {R S C : Type 0} (level : C → ℕ) (entry : R → C → ℕ) (g : S → R) where
  pub word-map : (xs : List S) (cols : List C) (j : ℕ) → word level entry (map g xs) cols j ≡ word level (λ x. entry (g x)) xs cols j
  unfolding word word_of
  word-map xs cols j = sum-cong (choose j cols) (λ I. sum-map g xs _ ∙ sum-cong xs (λ f. sum-map g xs _))

module _ (p : Plan) (rs : List ℕ) (R : Runs p rs) where
  abbrev made : Plan
  made = plan_of_runs p rs

  -- ---- its runs are these, in their order

  made-rows : map (row made) (every_run made) ≡ map (row p) rs
  made-rows = let A = runs-rows p rs R in rw (each-flat rs (row p)) (rows-flat p.levels (map (row p) rs) A.0 A.1)

  pub made-runs : runs made ≡ length rs
  made-runs = sym (length-map-from (row made) 0 (runs made)) ∙ ap length made-rows ∙ length-map rs (row p)

  made-size : length made.table ≡ length rs * columns p
  made-size = ap length (each-flat rs (row p)) ∙ flat-size (columns p) (map (row p) rs) (runs-rows p rs R).1 ∙ rw (length-map rs (row p))

  pub made-text : write_text made ≡ text_of p rs
  unfolding text_of
  made-text = rw made-rows

  made-entry : (k i : ℕ) → k < length rs → i < columns p → entry made k i ≡ entry p (get_or rs k 0) i
  made-entry k i h l =
      let n = made-runs in
      let own : get_or (map (row made) (every_run made)) k [] ≡ row made k
      = map-from-at (row made) 0 (runs made) k [] (omega arith) ∙ ap (row made) (zero-add k) in
      let at : (q : Plan) (f : ℕ) → i < columns q → get_or (row q f) i 0 ≡ entry q f i
      = λ q f m. map-from-at (entry q f) 0 (columns q) i 0 m ∙ ap (entry q f) (zero-add i) in
      sym (at made k l)
      ∙ ap (λ xs. get_or xs i 0) (sym own ∙ ap (λ rows. get_or rows k []) made-rows ∙ get_d_map (row p) rs k 0 [] h)
      ∙ at p (get_or rs k 0) l

  -- ---- so that it is good

  pub made-good : 0 < length rs → Good made
  made-good some =
      let n = made-runs in
      let S = R.sound in
      record {
        columns-low = R.some-columns;
        columns-high = S.columns-high;
        level-low = S.level-low;
        level-high = S.level-high;
        small = S.small;
        size = rw n made-size;
        runs-low = omega arith;
        runs-high = omega (arith, S.few);
        below = λ f i h l.
            let k : f < length rs = omega arith in
            rw (made-entry f i k l) (S.below (get_or rs f 0) (get_or-mem rs f 0 k) i l);
      }

  -- ---- and has their words

  made_word : (j : ℕ) → word (level p) (entry made) (every_run made) (every_column p) j ≡ word (level p) (entry p) rs (every_column p) j
  made_word j =
      let named : ℕ → ℕ = λ k. get_or rs k 0 in
      rw made-runs
      (word-local (level p) (entry made) (λ k. entry p (named k)) (from 0 (length rs)) (every_column p) j (λ k mk i mi.
      let h = mem-from 0 (length rs) mk in
      let l = mem-from 0 (columns p) mi in
      made-entry k i (omega arith) (omega arith))
      ∙ sym (word-map (level p) (entry p) named (from 0 (length rs)) (every_column p) j)
      ∙ ap (λ ss. word (level p) (entry p) ss (every_column p) j) (map-places rs 0))

  pub made-words : word_list made (every_run made) ≡ word_list p rs
  unfolding word_list
  made-words = simp made_word
