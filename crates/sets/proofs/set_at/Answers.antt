-- The checks of m and f, then that of the place; past them the set.
use Rattle.exact.proofs.Ground.{[], ◌∷◌, ◌∙◌, ap, length}
use Rattle.std.specs.Prelude.{Ok, Err}
use Rattle.rules.specs.Refusals.{bad_place}
use Rattle.rules.proofs.Answered.{left-early, err-first}
use Rattle.sets.specs.Sets.{sets_of, size_checks, set_answer}
use Rattle.sets.proofs.Questions.{set_past, set_found}
use Rattle.sets.proofs.set_at.Goals as goal

pub returns-in_err-check_sizes : goal.returns-in_err-check_sizes
unfolding set_answer
returns-in_err-check_sizes c =
    let a = c.args in
    left-early _ c.from_residual.ensures.1
    (err-first (size_checks a.m a.f) (bad_place (length (sets_of a.m a.f)) a.k ∷ []) tt tt _ c.in_err-check_sizes.ensures)

pub returns-then-binomial-k : goal.returns-then-binomial-k
returns-then-binomial-k c =
    let a = c.args in
    ap Err c.plain.ensures ∙ set_past a.m a.f tt c.in_ok-check_sizes.ensures a.k (rw c.binomial.ensures at c.if-binomial-k.true)

pub returns : goal.returns
returns c =
    let a = c.args in
    ap Ok c.set_at.ensures ∙ set_found a.m a.f tt c.in_ok-check_sizes.ensures a.k (rw c.binomial.ensures at c.if-binomial-k.false)
