-- The checks of m and f, then those of f and the columns; past them the place.
use Rattle.exact.proofs.Ground.{[], ◌∷◌, refl}
use Rattle.rules.specs.Refusals.{bad_set}
use Rattle.rules.proofs.Answered.{left-early, err-first, err-again, ok-again, ok-accepted}
use Rattle.sets.specs.Sets.{size_checks, place_answer}
use Rattle.sets.proofs.Questions.{sizes-within, set-passed, place-rest}
use Rattle.sets.proofs.place.Goals as goal

pub returns-in_err-check_sizes : goal.returns-in_err-check_sizes
unfolding place_answer
returns-in_err-check_sizes c =
    let a = c.args in
    left-early _ c.from_residual.ensures.1 (err-first (size_checks a.m a.f) (bad_set a.m a.f a.columns.now ∷ []) tt tt _ c.in_err-check_sizes.ensures)

pub returns-in_err-check_set : goal.returns-in_err-check_set
unfolding place_answer
returns-in_err-check_set c =
    let a = c.args in
    left-early _ c.from_residual-in_err-check_set.ensures.1
    (rw (place-rest a.m a.f tt c.in_ok-check_sizes.ensures a.columns.now) (err-again _ tt c.in_err-check_set.ensures _))

pub place-requires : goal.place-requires
place-requires c =
    let a = c.args in (
      (sizes-within a.m a.f tt c.in_ok-check_sizes.ensures).0,
      (set-passed a.m a.f a.columns.now refl (ok-accepted _ tt c.in_ok-check_set.ensures)).1,
    )

pub returns : goal.returns
unfolding place_answer
returns c =
    let a = c.args in
    rw (place-rest a.m a.f tt c.in_ok-check_sizes.ensures a.columns.now, c.place.ensures) (ok-again _ tt c.in_ok-check_set.ensures _)
