-- `words::word` meets its contract: what is refused is what the plan's checks refuse, or else the length's, and what is answered the word.
use Rattle.exact.proofs.Ground.{List, [], ◌∷◌, ◌≡◌, ◌∙◌, sym, ap, refl, ℕ, ◌≤◌, ◌-◌, arith, pos, ℤ, get_or, w64, to_z, of_z}
use Rattle.std.specs.Prelude.{Ok}
use Rattle.exact.proofs.Bits.{fits, back}
use Rattle.rules.specs.Plan.{Plan, plan, columns, level, entry, every_run, every_column}
use Rattle.rules.specs.Refusals.{Check, refusal, bad_length}
use Rattle.rules.proofs.Answered.{err-again, ok-again, ok-accepted, left-early}
use Rattle.plan.specs.Good.{Good}
use Rattle.plan.proofs.Sound.{good-sound}
use Rattle.plan.proofs.Answers.{begun-good, plan-err, plan-ok}
use Rattle.pairs.specs.Words.{word}
use Rattle.pairs.proofs.OfPlan.{word_small}
use Rattle.words.specs.Answers.{word_answer, word_list}
use Rattle.words.proofs.Answered.{word_at, length-passed}
use Rattle.words.proofs.word.Goals as goal

-- what the length is asked, and its word
module _ (p : Plan) (j : ℕ) where
  abbrev own : List Check
  own = bad_length (columns p) j ∷ []

  abbrev W : ℤ
  W = word (level p) (entry p) (every_run p) (every_column p) j

  -- the word, as it is read in the row of all
  read : Good p → (1 ≤ j) × (j ≤ columns p) → (row : List ℤ) → row ≡ word_list p (every_run p) → to_z w64 (of_z w64 (get_or row (j - 1) (pos 0))) ≡ W
  read G h row e =
      rw (e, word_at p (every_run p) j h.0 (omega (arith, h.1, G.columns-high)))
      (back (fits W (omega (arith, word_small p (every_run p) (good-sound p G) j))))

pub returns-in_err-check : goal.returns-in_err-check
unfolding word_answer
returns-in_err-check c =
    let p = plan c.args.levels.now c.args.table.now in let j = c.args.length in
    left-early c.from_residual.result c.from_residual.ensures.1 (plan-err p (own p j) tt tt (W p j) c.in_err-check.ensures)

pub returns-in_err-check_length : goal.returns-in_err-check_length
unfolding word_answer
returns-in_err-check_length c =
    let p = plan c.args.levels.now c.args.table.now in let j = c.args.length in let r = c.from_residual-in_err-check_length in
    left-early r.result r.ensures.1
    (err-again (refusal (own p j)) tt c.in_err-check_length.ensures (W p j) ∙ sym (plan-ok p (own p j) tt tt (W p j) c.in_ok-check.ensures))

pub words_with-words-requires : goal.words_with-words-requires
words_with-words-requires c = (begun-good (plan c.args.levels.now c.args.table.now) tt c.in_ok-check.ensures, omega arith)

pub returns : goal.returns
unfolding word_answer
returns c =
    let p = plan c.args.levels.now c.args.table.now in let j = c.args.length in
    let z = ok-accepted (refusal (own p j)) tt c.in_ok-check_length.ensures in
    let G = begun-good p tt c.in_ok-check.ensures in
    ap Ok (read p j G (length-passed (columns p) j refl z) c.words_with-words.result c.words_with-words.ensures)
    ∙ ok-again (refusal (own p j)) tt c.in_ok-check_length.ensures (W p j)
    ∙ sym (plan-ok p (own p j) tt tt (W p j) c.in_ok-check.ensures)
