-- Two held plans that differ only in entries of struck runs give the same answers, the plan handed back apart (demand 3).
use Rattle.exact.proofs.Ground.{true, false, Bool, cond, not, ◌&&◌, List, [], ◌∷◌, map, Memᴰ, mem-head, mem-tail, ◌≡◌, ◌∙◌, sym, ap}
use Rattle.exact.proofs.Ground.{refl, zero-le, ap₂, subst, fun_ext, ℕ, ◌<◌, ◌+◌, ◌*◌, suc, zero, arith, eqb, T, length, get_or, eqb-true}
use Rattle.std.specs.Prelude.{Result, Ok, Err, ℤ}
use Rattle.exact.specs.Lists.{from, keep, holds}
use Rattle.exact.proofs.Numbers.{mem-from, from-mem}
use Rattle.exact.proofs.Tests.{not-true, true-is, both, clash}
use Rattle.exact.proofs.Members.{holds-mem, keep-mem}
use Rattle.best.specs.Best.{lowest, best}
use Rattle.rules.specs.Plan.{Plan, plan, columns, level, entry, every_column, most_runs}
use Rattle.rules.specs.declared.Refusal.{Refusal}
use Rattle.rules.proofs.Order.{passed_none}
use Rattle.rules.specs.Refusals.{Check, refusal, refuses, of_held, bad_size, bad_set, is_set}
use Rattle.sets.specs.Sets.{choose}
use Rattle.sets.proofs.Rising.{set-part}
use Rattle.sets.proofs.Parts.{part-mem}
use Rattle.words.specs.Words.{word_of, word}
use Rattle.words.specs.Answers.{by_length, zeros, word_list, row_list, rows_by_run, words_answer, word_answer, row_sums_answer}
use Rattle.counts.specs.Counts.{strength, strength_answer}
use Rattle.set_words.specs.SetWords.{relative_of, set_word_answer}
use Rattle.projection_tables.specs.Tables.{Rooms, table_in, table_answer, table_rooms}
use Rattle.resolution.specs.Resolution.{greatest, resolution, largest_ratio, resolution_answer, generalized_answer}
use Rattle.resolution.specs.Charts.{chart_of, chart_answer, column_ratio, figure_answer}
use Rattle.tell.specs.declared.Told.{Told}
use Rattle.tell.specs.Evidence.{most_groups}
use Rattle.tell.specs.Answer.{tell_checks, told, tell_answer}
use Rattle.tell.proofs.Shown.{SameEntries, tells-shown, evidence-shown}
use Rattle.tell.proofs.Asking.{asked-passed}
use Rattle.compare.specs.Compare.{compare_patterns, pattern_of, compare_answer}
use Rattle.advice.specs.Advice.{without, advice, in_turn, advice_answer, turns_answer}
use Rattle.held.specs.declared.Held.{Held}
use Rattle.held.specs.Held.{standing, plan_in, standing_in}
use Rattle.held_questions.specs.Alike.{Alike, SameAnswers}
use Rattle.held_questions.specs.Answers.{
  held_words,
  held_word,
  held_row_sums,
  held_strength,
  held_resolution,
  held_generalized,
  held_chart,
  held_figure,
  held_set_word,
  held_tell,
  held_table,
  held_rooms,
  held_comparison,
  held_advice,
  held_turns,
}
use Rattle.held_questions.proofs.Seen.{Agree, word-seen, row_seen, set-seen, strength-seen, absolute-seen, relative-seen}
use Rattle.held_questions.proofs.Seen.{resolution-seen, ratio-seen, pattern-seen, column-seen}

-- two tables with the same entries in these runs
abbrev pub SameShown : List ℕ → List ℕ → List ℕ → List ℕ → Type 0
SameShown levels t u rs = Agree (entry (plan levels t)) (entry (plan levels u)) rs (from 0 (length levels))

-- what depends only on what the runs show
abbrev pub OfShown : {X : Type 0} → (Plan → List ℕ → X) → Type 0
OfShown F = (levels t u rs : List ℕ) → SameShown levels t u rs → F (plan levels t) rs ≡ F (plan levels u) rs

-- the one law: whatever depends only on that is the same of both
module _ {h k : Held} (A : Alike h k) where
  agree : SameShown (plan_in h).levels (plan_in h).table (plan_in k).table (standing_in h)
  agree f m i mi =
      A.entries f m i (let l = mem-from 0 (columns (plan_in h)) mi in omega arith)
      ∙ ap (λ l. get_or (plan_in k).table (f * length l + i) 0) (sym A.levels)

  pub alike-answer : {X : Type 0} (F : Plan → List ℕ → X) → OfShown F → F (plan_in h) (standing_in h) ≡ F (plan_in k) (standing_in k)
  alike-answer F shown =
      shown (plan_in h).levels (plan_in h).table (plan_in k).table (standing_in h) agree
      ∙ ap₂ (λ l rs. F (plan l (plan_in k).table) rs) A.levels (ap standing A.marks)

-- ---- each answer depends only on that

module _ (levels t u rs : List ℕ) (a : SameShown levels t u rs) where
  abbrev p : Plan
  p = plan levels t

  abbrev q : Plan
  q = plan levels u

  words-shown : word_list p rs ≡ word_list q rs
  unfolding word_list
  words-shown = ap by_length (word-seen (level p) (entry p) (entry q) rs (every_column p) a)

  rows-shown : rows_by_run p rs ≡ rows_by_run q rs
  unfolding rows_by_run row_list
  rows-shown = ap (λ s. map (λ f. record { sums = s f }) (from 0 most_runs)) (fun_ext (λ f. go f (holds f rs) refl))
    where
      go : (f : ℕ) (b : Bool) → holds f rs ≡ b → cond b (row_list p rs f) zeros ≡ cond b (row_list q rs f) zeros
      go f true e = ap by_length (fun_ext (λ j. row_seen (level p) (entry p) (entry q) rs (every_column p) a j f (holds-mem f rs e)))
      go f false e = refl

  word-shown : (j : ℕ) → word (level p) (entry p) rs (every_column p) j ≡ word (level q) (entry q) rs (every_column q) j
  word-shown j = ap (λ w. w j) (word-seen (level p) (entry p) (entry q) rs (every_column p) a)

  strength-shown : strength (level p) (entry p) rs (every_column p) ≡ strength (level q) (entry q) rs (every_column q)
  strength-shown = strength-seen (level p) (entry p) (entry q) rs (every_column p) a

  resolution-shown : resolution (level p) (entry p) rs (every_column p) ≡ resolution (level q) (entry q) rs (every_column q)
  resolution-shown = resolution-seen (level p) (entry p) (entry q) rs (every_column p) a

  ratio-shown : largest_ratio (level p) (entry p) rs (every_column p) ≡ largest_ratio (level q) (entry q) rs (every_column q)
  ratio-shown = ratio-seen (level p) (entry p) (entry q) rs (every_column p) a

  table-shown : (relative : Bool) (f : ℕ) → table_in relative p rs f ≡ table_in relative q rs f
  table-shown true f = relative-seen (level p) (entry p) (entry q) rs (every_column p) a f
  table-shown false f = absolute-seen (level p) (entry p) (entry q) rs (every_column p) a f

  column-shown : (i : ℕ) → column_ratio p rs i ≡ column_ratio q rs i
  unfolding column_ratio
  column-shown i =
      ap (λ R. greatest (map (relative_of (level p) (entry p) rs) (keep (holds i) (choose R (every_column p))))) resolution-shown
      ∙ ap greatest (column-seen (level p) (entry p) (entry q) rs (every_column p) a i (resolution (level q) (entry q) rs (every_column q)))

  pattern-shown : pattern_of p rs ≡ pattern_of q rs
  pattern-shown = pattern-seen (level p) (entry p) (entry q) rs (every_column p) a

  -- fewer runs
  without-same : (f : ℕ) → SameShown levels t u (without f rs)
  without-same f g m = a g (keep-mem (λ g. not (eqb g f)) rs g m)

  advice-shown : advice p rs ≡ advice q rs
  unfolding advice
  advice-shown =
      ap (λ w. best lowest (λ f g. compare_patterns (w f) (w g)) 0 rs)
      (fun_ext (λ f. pattern-seen (level p) (entry p) (entry q) (without f rs) (every_column p) (without-same f)))

  -- a set of columns that is refused has no word to show
  set-shown : (f : ℕ) (I : List ℕ) → set_word_answer p rs (of_held rs) f I ≡ set_word_answer q rs (of_held rs) f I
  unfolding set_word_answer
  set-shown f I = go (refuses r) refl (eqb (length rs) 0) refl
    where
      checks : List Check
      checks = bad_size (columns p) f ∷ bad_set (columns p) f I ∷ []

      r : Refusal
      r = refusal (of_held rs checks)

      is-set : refuses r ≡ false → eqb (length rs) 0 ≡ false → T (is_set (columns p) I)
      is-set e n =
          let z : (refusal checks).number ≡ 0 = eqb-true (refusal checks).number 0 (not-true (eqb (refusal checks).number 0) (rw n at e)) in
          let b = passed_none checks tt refl z (bad_set (columns p) f I) (mem-tail (mem-head refl)) in
          let fine = eqb (length I) f && is_set (columns p) I in
          (both (eqb (length I) f) (is_set (columns p) I) (true-is fine (not-true fine b))).1

      go : (b : Bool) → refuses r ≡ b → (c : Bool) → eqb (length rs) 0 ≡ c →
          ◌≡◌ {A = Result ℤ Refusal} (cond b (Err r) (Ok (word_of (level p) (entry p) rs I))) (cond b (Err r) (Ok (word_of (level q) (entry q) rs I)))
      go true e c n = refl
      go false e true n = clash (refuses r) (rw n) e
      go false e false n =
          ap Ok
          (set-seen (level p) (entry p) (entry q) rs (every_column p) a I (part-mem (set-part (columns p) I (is-set e n))))

  -- a column or others that are refused have no answer to show
  tell-shown : (i : ℕ) (J : List ℕ) → tell_answer p rs (of_held rs) i J ≡ tell_answer q rs (of_held rs) i J
  unfolding tell_answer
  tell-shown i J = go (refuses r) refl (eqb (length rs) 0) refl
    where
      r : Refusal
      r = refusal (of_held rs (tell_checks p i J))

      same : refuses r ≡ false → eqb (length rs) 0 ≡ false → SameEntries (entry p) (entry q) i J rs
      same e n f m k h =
          let z : (refusal (tell_checks p i J)).number ≡ 0 = eqb-true _ 0 (not-true (eqb (refusal (tell_checks p i J)).number 0) (rw n at e)) in
          let (l, s) = asked-passed (columns p) i J refl z in
          a f m k (inside k h l (part-mem (set-part (columns p) J s)))
        where
          inside : (k : ℕ) → Memᴰ k (i ∷ J) → i < columns p → ((j : ℕ) → Memᴰ j J → Memᴰ j (every_column p)) → Memᴰ k (every_column p)
          inside k (mem-head d) l h = subst (λ k. Memᴰ k (every_column p)) (sym d) (from-mem i 0 (columns p) zero-le (omega arith))
          inside k (mem-tail n) l h = h k n

      go : (b : Bool) → refuses r ≡ b → (c : Bool) → eqb (length rs) 0 ≡ c →
          ◌≡◌ {A = Result Told Refusal} (cond b (Err r) (Ok (told p rs i J))) (cond b (Err r) (Ok (told q rs i J)))
      go true e c n = refl
      go false e true n = clash (refuses r) (rw n) e
      go false e false n =
          ap₂ (λ t j. Ok (record { tells = t; joins = j }))
          (tells-shown (entry p) (entry q) i J most_groups rs (same e n)) (evidence-shown p q rs i J (same e n))

turns-shown : (k : ℕ) (levels t u rs : List ℕ) → SameShown levels t u rs → in_turn (plan levels t) k rs ≡ in_turn (plan levels u) k rs
unfolding in_turn
turns-shown zero levels t u rs a = refl
turns-shown (suc k) levels t u rs a =
    let f = advice (plan levels u) rs in
    ap (λ g. g ∷ in_turn (plan levels t) k (without g rs)) (advice-shown levels t u rs a)
    ∙ ap (λ l. f ∷ l) (turns-shown k levels t u (without f rs) (without-same levels t u rs a f))

-- ---- so the answers are the same

module _ {h k : Held} (A : Alike h k) where
  pub alike-words : (held_words h).answer ≡ (held_words k).answer
  unfolding held_words words_answer
  alike-words = alike-answer A (λ p rs. words_answer p rs (of_held rs)) (λ levels t u rs a. rw (words-shown levels t u rs a))

  pub alike-word : (j : ℕ) → (held_word h j).answer ≡ (held_word k j).answer
  unfolding held_word word_answer
  alike-word j = alike-answer A (λ p rs. word_answer p rs (of_held rs) j) (λ levels t u rs a. rw (word-shown levels t u rs a j))

  pub alike-row-sums : (held_row_sums h).answer ≡ (held_row_sums k).answer
  unfolding held_row_sums row_sums_answer
  alike-row-sums = alike-answer A (λ p rs. row_sums_answer p rs (of_held rs)) (λ levels t u rs a. rw (rows-shown levels t u rs a))

  pub alike-strength : (held_strength h).answer ≡ (held_strength k).answer
  unfolding held_strength strength_answer
  alike-strength = alike-answer A (λ p rs. strength_answer p rs (of_held rs)) (λ levels t u rs a. rw (strength-shown levels t u rs a))

  pub alike-resolution : (held_resolution h).answer ≡ (held_resolution k).answer
  unfolding held_resolution resolution_answer
  alike-resolution =
      alike-answer A (λ p rs. resolution_answer p rs (of_held rs)) (λ levels t u rs a. rw (resolution-shown levels t u rs a))

  pub alike-generalized : (held_generalized h).answer ≡ (held_generalized k).answer
  unfolding held_generalized generalized_answer
  alike-generalized =
      alike-answer A (λ p rs. generalized_answer p rs (of_held rs))
      (λ levels t u rs a. rw (resolution-shown levels t u rs a, ratio-shown levels t u rs a))

  pub alike-chart : (held_chart h).answer ≡ (held_chart k).answer
  unfolding held_chart chart_answer chart_of
  alike-chart =
      alike-answer A (λ p rs. chart_answer p rs (of_held rs)) (λ levels t u rs a. rw (
        resolution-shown levels t u rs a,
        ratio-shown levels t u rs a,
        word-seen (level (plan levels t)) (entry (plan levels t)) (entry (plan levels u)) rs (from 0 (length levels)) a,
      ))

  pub alike-figure : (i : ℕ) → (held_figure h i).answer ≡ (held_figure k i).answer
  unfolding held_figure figure_answer
  alike-figure i =
      alike-answer A (λ p rs. figure_answer p rs (of_held rs) i)
      (λ levels t u rs a. rw (resolution-shown levels t u rs a, column-shown levels t u rs a i))

  pub alike-set-word : (f : ℕ) (I : List ℕ) → (held_set_word h f I).answer ≡ (held_set_word k f I).answer
  unfolding held_set_word
  alike-set-word f I = alike-answer A (λ p rs. set_word_answer p rs (of_held rs) f I) (λ levels t u rs a. set-shown levels t u rs a f I)

  pub alike-tell : (i : ℕ) (J : List ℕ) → (held_tell h i J).answer ≡ (held_tell k i J).answer
  unfolding held_tell
  alike-tell i J = alike-answer A (λ p rs. tell_answer p rs (of_held rs) i J) (λ levels t u rs a. tell-shown levels t u rs a i J)

  pub alike-advice : (held_advice h).answer ≡ (held_advice k).answer
  unfolding held_advice advice_answer
  alike-advice = alike-answer A (λ p rs. advice_answer p rs (of_held rs)) (λ levels t u rs a. rw (advice-shown levels t u rs a))

  pub alike-turns : (n : ℕ) → (held_turns h n).answer ≡ (held_turns k n).answer
  unfolding held_turns turns_answer
  alike-turns n = alike-answer A (λ p rs. turns_answer p rs (of_held rs) n) (λ levels t u rs a. rw (turns-shown n levels t u rs a))

  -- the tables and their rooms
  pub alike-table : (relative : Bool) (f : ℕ) (R : Rooms) →
      ((held_table h relative f R).answer ≡ (held_table k relative f R).answer) × (held_rooms h relative f R ≡ held_rooms k relative f R)
  unfolding held_table table_answer table_rooms
  alike-table relative f R = (
    alike-answer A (λ p rs. table_answer p rs (of_held rs) relative f R)
        (λ levels t u rs a. rw (resolution-shown levels t u rs a, table-shown levels t u rs a relative f)),
    alike-answer A (λ p rs. table_rooms p rs (of_held rs) relative f R)
        (λ levels t u rs a. rw (resolution-shown levels t u rs a, table-shown levels t u rs a relative f)),
  )

-- the comparison with a third, on either side
module _ {h k : Held} (A : Alike h k) (o : Held) where
  pub alike-comparison : (held_comparison h o).answer ≡ (held_comparison k o).answer
  unfolding held_comparison compare_answer
  alike-comparison =
      alike-answer A (λ p rs. compare_answer (of_held rs) p rs (of_held (standing_in o)) (plan_in o) (standing_in o))
      (λ levels t u rs a. rw (pattern-shown levels t u rs a))

  pub alike-other : (held_comparison o h).answer ≡ (held_comparison o k).answer
  unfolding held_comparison compare_answer
  alike-other =
      alike-answer A (λ p rs. compare_answer (of_held (standing_in o)) (plan_in o) (standing_in o) (of_held rs) p rs)
      (λ levels t u rs a. rw (pattern-shown levels t u rs a))

-- ---- all of them

pub same-answers : {h k : Held} → Alike h k → SameAnswers h k
same-answers A = record {
  words = alike-words A;
  word = alike-word A;
  row-sums = alike-row-sums A;
  strength = alike-strength A;
  resolution = alike-resolution A;
  generalized = alike-generalized A;
  chart = alike-chart A;
  figure = alike-figure A;
  set_word = alike-set-word A;
  tell = alike-tell A;
  table = alike-table A;
  comparison = alike-comparison A;
  other = alike-other A;
  advice = alike-advice A;
  turns = alike-turns A;
}
