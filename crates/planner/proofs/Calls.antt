-- The refusal of every call is the first that applies of its checks, in their one order; no call is refused by 12.
use Rattle.exact.proofs.Ground.{true, false, Bool, cond, List, [], ◌∷◌, ◌++◌, Memᴰ, mem-head, mem-tail, mem-not_nil, ◌≡◌, ◌∙◌, sym, ap, refl, subst, subst⁻¹}
use Rattle.exact.proofs.Ground.{ℕ, ◌≤◌, ℕ_discrete, eqb, T, pos, ℤ, nat_abs, neg_ℤ, length, ◌≤ℤ◌, eqb-true}
use Rattle.std.specs.Prelude.{Result, Ok, Err}
use lib.Signed.{lt_z_yes, clash_ℤ}
use Rattle.exact.proofs.Order.{nat_abs-neg}
use Rattle.exact.proofs.Tests.{not-true}
use Rattle.rules.specs.declared.Refusal.{Refusal}
use Rattle.rules.specs.Order.{FirstThatApplies}
use Rattle.rules.specs.Plan.{Plan, columns, runs, level, every_run, most_columns, most_entries}
use Rattle.rules.specs.Refusals.{Check, check, refusal, refuses, refusal_in, answered, accepted, or_else, number_or, order, largest_number}
use Rattle.rules.specs.Refusals.{level_checks, plan_checks, of_plan, bad_place, bad_room, too_few}
use Rattle.rules.proofs.Ranges.{or_assoc}
use Rattle.rules.proofs.Answered.{answered-ok, answered-err}
use Rattle.rules.proofs.Order.{each-cons, known, refusal-first, passed_none, none_passed, number-most, never-twelve}
use Rattle.sets.specs.Sets.{place_checks, place_answer, set_checks, set_answer}
use Rattle.survey.specs.Survey.{occurs_answer, alike_answer}
use Rattle.words.specs.Answers.{words_answer, word_answer, row_sums_answer, diagonal_answer}
use Rattle.counts.specs.Counts.{strength_answer}
use Rattle.set_words.specs.SetWords.{set_word_answer}
use Rattle.projection_tables.specs.Tables.{table_checks, table_answer}
use Rattle.resolution.specs.Resolution.{resolution_answer, generalized_answer}
use Rattle.resolution.specs.Charts.{chart_answer, figure_answer}
use Rattle.tell.specs.Answer.{bad_asked, tell_answer}
use Rattle.marked.specs.Marked.{marked_runs, miscounted, of_marked}
use Rattle.tell_marked.specs.TellMarked.{marked_lines, marked_checks, marked_written}
use Rattle.compare.specs.Compare.{Says}
use Rattle.compare.proofs.Cases.{comparison-says}
use Rattle.advice.specs.Advice.{advice_answer, turns_answer}
use Rattle.held.specs.declared.Held.{Held}
use Rattle.held.specs.declared.Answered.{Answered}
use Rattle.held.specs.Held.{marks_in, standing_in, open_answer, strikes, reinstates, call_checks, call_answer}
use Rattle.held.specs.Held as held
use Rattle.text.specs.Text.{plan_of}
use Rattle.text.specs.Reader.{read_refusal}
use Rattle.writer.specs.Writer.{bad_text_room, write_answer}
use Rattle.standing_text.specs.StandingText.{strikes_answer, left_of, text_refusal, text_answer, held_text, rewrite_refusal, rewrite_answer}
use Rattle.listing_lines.specs.Listing.{listing, listing_answer}
use Rattle.planner.specs.Calls.{
  Source,
  of-plan,
  of-held,
  plan_asked,
  runs_asked,
  begins,
  Question,
  words,
  row-sums,
  strength,
  resolution,
  generalized,
  charted,
  advice,
  word,
  figure,
  turns,
  set_word,
  tell,
  table,
  own,
  Call,
  asked,
  compared,
  levels-checked,
  plan-checked,
  diagonal,
  opened,
  written,
  level-occurs,
  first_alike,
  struck-or-reinstated,
  held-written,
  read,
  listed,
  refusal-listed,
  rewritten,
  tell-marked,
  table-marked,
  placed,
  set-at,
  read_checks,
  strike_checks,
  rooms_of,
  text_checks,
  checks_of,
  refused_by,
  in_turn,
}

-- ---- every check of a call has a number of the order

abbrev Known : List (List Check) → Type 0
Known lists = (checks : List Check) → Memᴰ checks lists → T (known checks)

one : (checks : List Check) → T (known checks) → Known (checks ∷ [])
one checks k = each-cons (λ c. T (known c)) k (λ c m. absurd (mem-not_nil m))

begins-known : (s : Source) (checks : List Check) → T (known checks) → T (known (begins s checks))
begins-known (of-plan p) checks k = k
begins-known (of-held h) checks k = go (eqb (length (standing_in h)) 0)
  where
    go : (b : Bool) → T (known (cond b (too_few 1 0 ∷ []) checks))
    go true = tt
    go false = k

own-known : (p : Plan) (rs : List ℕ) (q : Question) → T (known (own p rs q))
own-known p rs words = tt
own-known p rs row-sums = tt
own-known p rs strength = tt
own-known p rs resolution = tt
own-known p rs generalized = tt
own-known p rs charted = tt
own-known p rs advice = tt
own-known p rs (word j) = tt
own-known p rs (figure i) = tt
own-known p rs (turns k) = tt
own-known p rs (set_word f I) = tt
own-known p rs (tell i J) = tt
own-known p rs (table relative f rooms) = tt

marked-known : (p : Plan) (marks : List ℕ) (checks : List Check) → T (known checks) → T (known (of_marked p marks checks))
marked-known p marks checks k = go (miscounted p marks) (eqb (length (marked_runs p marks)) 0)
  where
    go : (b c : Bool) → T (known (of_plan p (cond b (check 8 true ∷ []) (cond c (too_few 1 0 ∷ []) checks))))
    go true c = tt
    go false true = tt
    go false false = k

call-checks-known : (marks : List Bool) (c : held.Call) → T (known (call_checks marks c))
unfolding call_checks
call-checks-known marks (strikes f) = tt
call-checks-known marks (reinstates f) = tt

strikes-known : (last : List Check) → T (known last) → (h : Held) (lost : List ℕ) → Known (strike_checks h lost ++ last ∷ [])
strikes-known last k h [] = one last k
strikes-known last k h (f ∷ fs) =
    each-cons (λ c. T (known c)) (call-checks-known (marks_in h) (strikes f)) (strikes-known last k (call_answer h (strikes f)).held fs)

tell-marked-known : (p : Plan) (marks : List ℕ) (a : ℕ) (J room : List ℕ) → T (known (marked_checks p marks a J room))
tell-marked-known p marks a J room =
    marked-known p marks (bad_asked (columns p) a J ∷ bad_room (length (marked_lines p marks a J)) (length room) ∷ []) tt

call_known : (c : Call) → Known (checks_of c)
call_known (asked s q) = let p = plan_asked s in let rs = runs_asked s in one (begins s (own p rs q)) (begins-known s (own p rs q) (own-known p rs q))
call_known (compared s t) = each-cons (λ c. T (known c)) (begins-known s [] tt) (one (begins t []) (begins-known t [] tt))
call_known (levels-checked p) = one _ tt
call_known (plan-checked p) = one _ tt
call_known (diagonal p) = one _ tt
call_known (opened p) = one _ tt
call_known (written p bytes) = one _ tt
call_known (level-occurs p i e) = one _ tt
call_known (first_alike p f) = one _ tt
call_known (struck-or-reinstated h c) = one _ (call-checks-known (marks_in h) c)
call_known (held-written h a b) = one _ (begins-known (of-held h) (rooms_of h a b) tt)
call_known (read text room other) = one _ tt
call_known (listed text room) = one _ tt
call_known (refusal-listed text) = one _ tt
call_known (rewritten text lost a b) =
    let left = (left_of text lost).held in
    each-cons (λ c. T (known c)) tt
    (strikes-known (text_checks left a b) (begins-known (of-held left) (rooms_of left a b) tt) (open_answer (plan_of text)).held lost)
call_known (tell-marked p marks a J room) = one _ (tell-marked-known p marks a J room)
call_known (table-marked p marks relative f rooms) = one _ (marked-known p marks (table_checks p (marked_runs p marks) relative f rooms) tt)
call_known (placed m f I) = one _ tt
call_known (set-at m f k) = one _ tt

-- ---- its refusal is that of the first list that refuses

asked-known : (s : Source) (q : Question) → T (known (begins s (own (plan_asked s) (runs_asked s) q)))
asked-known s q = begins-known s (own (plan_asked s) (runs_asked s) q) (own-known (plan_asked s) (runs_asked s) q)

passed-accepted : (checks : List Check) → T (known checks) → refuses (refusal checks) ≡ false → accepted ≡ refusal checks
passed-accepted checks k e =
    sym (none_passed checks k (passed_none checks k refl (eqb-true (refusal checks).number 0 (not-true (eqb (refusal checks).number 0) e))))

-- the refusal in an answer is that of its checks
in-answer : {A : Type 0} (r : Refusal) (value : A) → (refuses r ≡ false → accepted ≡ r) → refusal_in (answered r value) ≡ r
in-answer {A} r value = go (refuses r)
  where
    go : (b : Bool) → (b ≡ false → accepted ≡ r) → refusal_in (cond b (Err r) (Ok value)) ≡ r
    go true h = refl
    go false h = h refl

of-checks : {A : Type 0} (checks : List Check) (value : A) → T (known checks) → refusal_in (answered (refusal checks) value) ≡ refusal checks
of-checks checks value k = in-answer (refusal checks) value (passed-accepted checks k)

-- to a question
to-question : {A : Type 0} (s : Source) (q : Question) (value : A) →
    let checks = begins s (own (plan_asked s) (runs_asked s) q) in refusal_in (answered (refusal checks) value) ≡ refusal checks
to-question s q value = of-checks (begins s (own (plan_asked s) (runs_asked s) q)) value (asked-known s q)

sides-in-turn : (r s : Refusal) → (refuses s ≡ false → accepted ≡ s) → cond (refuses r) r (cond (refuses s) s accepted) ≡ or_else r s
sides-in-turn r s = go (refuses r) (refuses s)
  where
    go : (a b : Bool) → (b ≡ false → accepted ≡ s) → cond a r (cond b s accepted) ≡ cond a r s
    go true b h = refl
    go false true h = refl
    go false false h = h refl

module _ (last : List Check) where
  first-in-turn : (checks : List Check) (lists : List (List Check)) →
      in_turn (checks ∷ lists ++ last ∷ []) ≡ or_else (refusal checks) (in_turn (lists ++ last ∷ []))
  first-in-turn checks [] = refl
  first-in-turn checks (more ∷ lists) = refl

  strikes-in-turn : (h : Held) (lost : List ℕ) →
      in_turn (strike_checks h lost ++ last ∷ []) ≡ or_else (refusal_in (strikes_answer h lost).answer) (refusal last)
  unfolding call_answer
  strikes-in-turn h [] = refl
  strikes-in-turn h (f ∷ fs) =
      let checks = call_checks (marks_in h) (strikes f) in
      let a = call_answer h (strikes f) in
      let later = strikes_answer a.held fs in
      let own : refusal_in a.answer ≡ refusal checks = of-checks checks tt (call-checks-known (marks_in h) (strikes f)) in
      first-in-turn checks (strike_checks a.held fs)
      ∙ ap (or_else (refusal checks)) (strikes-in-turn a.held fs)
      ∙ ap (λ r. or_else r (or_else (refusal_in later.answer) (refusal last))) (sym own)
      ∙ sym (or_assoc (refusal_in a.answer) (refusal_in later.answer) (refusal last))
      ∙ ap (λ r. or_else r (refusal last)) (sym (answer-refused (refuses (refusal_in a.answer)) a later))
    where
      answer-refused : (b : Bool) (x y : Answered (Unit {0})) → refusal_in (cond b x y).answer ≡ cond b (refusal_in x.answer) (refusal_in y.answer)
      answer-refused true x y = refl
      answer-refused false x y = refl

rewrite-in-turn : (text lost : List ℕ) (a b : ℕ) → rewrite_refusal text lost a b ≡ in_turn (checks_of (rewritten text lost a b))
unfolding rewrite_refusal read_refusal text_refusal left_of
rewrite-in-turn text lost a b =
    let last = text_checks (left_of text lost).held a b in
    let h = (open_answer (plan_of text)).held in
    sym (first-in-turn last (read_checks text most_columns most_entries) (strike_checks h lost)
    ∙ ap (or_else (read_refusal text most_columns most_entries)) (strikes-in-turn last h lost))

-- no list refuses: nothing is refused
in-turn-accepted : (lists : List (List Check)) → Known lists → refuses (in_turn lists) ≡ false → accepted ≡ in_turn lists
in-turn-accepted [] k e = refl
in-turn-accepted (checks ∷ []) k e = passed-accepted checks (k checks (mem-head refl)) e
in-turn-accepted (checks ∷ more ∷ others) k e =
    go (refuses (refusal checks)) (in-turn-accepted (more ∷ others) (λ c m. k c (mem-tail m))) e
  where
    go : (b : Bool) → (refuses (in_turn (more ∷ others)) ≡ false → accepted ≡ in_turn (more ∷ others)) →
        refuses (cond b (refusal checks) (in_turn (more ∷ others))) ≡ false →
        accepted ≡ cond b (refusal checks) (in_turn (more ∷ others))
    go true later q = passed-accepted checks (k checks (mem-head refl)) q
    go false later q = later q

pub call-refusal : (c : Call) → refused_by c ≡ in_turn (checks_of c)
unfolding words_answer row_sums_answer strength_answer resolution_answer generalized_answer chart_answer advice_answer word_answer figure_answer turns_answer
    set_word_answer tell_answer table_answer diagonal_answer open_answer write_answer call_answer held_text text_answer text_refusal read_refusal listing_answer
    rewrite_answer rewrite_refusal left_of marked_written place_answer set_answer occurs_answer alike_answer
call-refusal (asked s words) = to-question s words _
call-refusal (asked s row-sums) = to-question s row-sums _
call-refusal (asked s strength) = to-question s strength _
call-refusal (asked s resolution) = to-question s resolution _
call-refusal (asked s generalized) = to-question s generalized _
call-refusal (asked s charted) = to-question s charted _
call-refusal (asked s advice) = to-question s advice _
call-refusal (asked s (word j)) = to-question s (word j) _
call-refusal (asked s (figure i)) = to-question s (figure i) _
call-refusal (asked s (turns k)) = to-question s (turns k) _
call-refusal (asked s (set_word f I)) = to-question s (set_word f I) _
call-refusal (asked s (tell i J)) = to-question s (tell i J) _
call-refusal (asked s (table relative f rooms)) = to-question s (table relative f rooms) _
call-refusal (compared s t) =
    ap (λ (x : Says). x.refused) (comparison-says (begins s) (plan_asked s) (runs_asked s) (begins t) (plan_asked t) (runs_asked t))
    ∙ sides-in-turn (refusal (begins s [])) (refusal (begins t [])) (passed-accepted (begins t []) (begins-known t [] tt))
call-refusal (levels-checked p) = refl
call-refusal (plan-checked p) = refl
call-refusal (diagonal p) = of-checks (level_checks p) _ tt
call-refusal (opened p) = of-checks (plan_checks p) _ tt
call-refusal (written p bytes) = of-checks (of_plan p (bad_text_room p (every_run p) bytes ∷ [])) _ tt
call-refusal (level-occurs p i e) = of-checks (of_plan p (bad_place (columns p) i ∷ bad_place (level p i) e ∷ [])) _ tt
call-refusal (first_alike p f) = of-checks (of_plan p (bad_place (runs p) f ∷ [])) _ tt
call-refusal (struck-or-reinstated h c) = of-checks (call_checks (marks_in h) c) _ (call-checks-known (marks_in h) c)
call-refusal (held-written h a b) = of-checks (text_checks h a b) _ (begins-known (of-held h) (rooms_of h a b) tt)
call-refusal (read text room other) = of-checks (read_checks text (length room) (length other)) _ tt
call-refusal (listed text room) = of-checks (bad_room (length (listing text)) (length room) ∷ []) _ tt
call-refusal (refusal-listed text) = refl
call-refusal (rewritten text lost a b) =
    let lists = checks_of (rewritten text lost a b) in
    let r = rewrite_refusal text lost a b in
    let whole = rewrite-in-turn text lost a b in
    in-answer r _ (λ e. in-turn-accepted lists (call_known (rewritten text lost a b)) (ap refuses (sym whole) ∙ e) ∙ sym whole) ∙ whole
call-refusal (tell-marked p marks a J room) = of-checks (marked_checks p marks a J room) _ (tell-marked-known p marks a J room)
call-refusal (table-marked p marks relative f rooms) =
    let own = table_checks p (marked_runs p marks) relative f rooms in of-checks (of_marked p marks own) _ (marked-known p marks own tt)
call-refusal (placed m f I) = of-checks (place_checks m f I) _ tt
call-refusal (set-at m f k) = of-checks (set_checks m f k) _ tt

-- and each list's refusal is the first that applies in it
pub call-first : (c : Call) (checks : List Check) → Memᴰ checks (checks_of c) → FirstThatApplies order checks (refusal checks)
call-first c checks m = refusal-first checks (call_known c checks m)

-- ---- what holds of the refusal of any checks holds of that of any call

module _ (P : Refusal → Type 0) (each : (checks : List Check) → P (refusal checks)) where
  in-turn-has : (lists : List (List Check)) → P (in_turn lists)
  in-turn-has [] = each []
  in-turn-has (checks ∷ []) = each checks
  in-turn-has (checks ∷ more ∷ others) = go (refuses (refusal checks)) (in-turn-has (more ∷ others))
    where
      go : (b : Bool) → P (in_turn (more ∷ others)) → P (cond b (refusal checks) (in_turn (more ∷ others)))
      go true later = each checks
      go false later = later

  call-has : (c : Call) → P (refused_by c)
  call-has c = subst⁻¹ P (call-refusal c) (in-turn-has (checks_of c))

pub call-number : (c : Call) → (refused_by c).number ≤ largest_number
call-number = call-has (λ r. r.number ≤ largest_number) number-most

pub call-never-twelve : (c : Call) → ¬ ((refused_by c).number ≡ 12)
call-never-twelve = call-has (λ r. ¬ (r.number ≡ 12)) never-twelve

-- so no C program gets -12, where it gets a number that is not below zero or the refusal's negated
pub export-never-twelve : (c : Call) (value : ℤ) → pos 0 ≤ℤ value → ¬ (number_or (answered (refused_by c) value) ≡ neg_ℤ (pos 12))
export-never-twelve c value at_least_lem e = go (ℕ_discrete r.number 0)
  where
    r : Refusal
    r = refused_by c

    go : Dec (r.number ≡ 0) → ⊥
    go (yes z) = clash_ℤ (lt_z_yes tt) (subst (λ x. pos 0 ≤ℤ x) (ap number_or (sym (answered-ok r value z)) ∙ e) at_least_lem)
    go (no n) =
        call-never-twelve c (sym (nat_abs-neg (pos r.number)) ∙ ap nat_abs (ap number_or (sym (answered-err r value n)) ∙ e))
