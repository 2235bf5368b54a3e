-- The word is read from those held, where the length is one of theirs.
use Rattle.exact.proofs.Ground.{List, [], ◌∷◌, ◌∙◌, sym, ap, refl, ℕ, arith, ℤ}
use Rattle.std.specs.Prelude.{Ok}
use Rattle.rules.specs.Plan.{Plan, columns, level, entry, every_column}
use Rattle.rules.specs.Refusals.{Check, bad_length}
use Rattle.rules.proofs.Answered.{left-early, err-again, ok-again, ok-accepted}
use Rattle.words.specs.Words.{word}
use Rattle.words.specs.Answers.{word_answer}
use Rattle.words.proofs.Answered.{length-passed}
use Rattle.held.specs.Held.{plan_in, standing_in}
use Rattle.held.proofs.Sizes.{sized}
use Rattle.held.proofs.Lent.{columns-in, stops, goes-on, word_read}
use Rattle.held_questions.proofs.questions.word_of.Goals as goal

abbrev own : Plan → ℕ → List Check
own p j = bad_length (columns p) j ∷ []

abbrev W : Plan → List ℕ → ℕ → ℤ
W p rs j = word (level p) (entry p) rs (every_column p) j

pub returns-in_err-standing_runs : goal.returns-in_err-standing_runs
unfolding word_answer
returns-in_err-standing_runs c =
    let h = c.args.held.now in
    let p = plan_in h in
    left-early _ c.from_residual.ensures.1 (stops h c.in_err-standing_runs.ensures (own p c.args.length) (W p (standing_in h) c.args.length))

pub returns-in_err-check_length : goal.returns-in_err-check_length
unfolding word_answer
returns-in_err-check_length c =
    let h = c.args.held.now in
    let p = plan_in h in
    let j = c.args.length in
    let r = c.from_residual-in_err-check_length in
    left-early r.result r.ensures.1
    (err-again _ tt (rw (sym (columns-in c.requires)) at c.in_err-check_length.ensures) (W p (standing_in h) j)
    ∙ sym (goes-on h c.in_ok-standing_runs.ensures (own p j) (W p (standing_in h) j)))

pub overflow_sub-result : goal.overflow_sub-result
overflow_sub-result c =
    let h = c.args.held.now in
    omega (arith, (length-passed h.columns c.args.length refl (ok-accepted _ tt c.in_ok-check_length.ensures)).0)

pub offset_bounds-held-length : goal.offset_bounds-held-length
offset_bounds-held-length c =
    let h = c.args.held.now in
    let inside = length-passed h.columns c.args.length refl (ok-accepted _ tt c.in_ok-check_length.ensures) in
    omega (arith, inside, (sized c.requires).columns-high)

pub bounds-held-length : goal.bounds-held-length
bounds-held-length c =
    let h = c.args.held.now in
    let inside = length-passed h.columns c.args.length refl (ok-accepted _ tt c.in_ok-check_length.ensures) in
    omega (arith, inside, (sized c.requires).columns-high)

pub returns : goal.returns
unfolding word_answer
returns c =
    let h = c.args.held.now in
    let p = plan_in h in
    let j = c.args.length in
    let w = c.in_ok-check_length.ensures in
    let inside = length-passed h.columns j refl (ok-accepted _ tt w) in
    ap Ok (word_read c.requires j inside.0 inside.1)
    ∙ ok-again _ tt (rw (sym (columns-in c.requires)) at w) (W p (standing_in h) j)
    ∙ sym (goes-on h c.in_ok-standing_runs.ensures (own p j) (W p (standing_in h) j))
