-- The part filled is the n marks, and the others are as they were.
use Rattle.exact.proofs.Ground.{true, false, ◌++◌, ◌≡◌, ◌∙◌, sym, ap, ℕ, arith, drop, replicate, length-replicate, length-take-le}
use Rattle.exact.specs.Lists.{filled_to}
use Rattle.exact.proofs.Rooms.{into-blank}
use Rattle.rules.specs.Plan.{most_runs}
use Rattle.held.proofs.calls.all_marked.Goals as goal

front-marked : (n : ℕ) → replicate n true ++ drop n (replicate most_runs false) ≡ filled_to most_runs false (replicate n true)
front-marked n =
    ap (λ k. replicate n true ++ drop k (replicate most_runs false)) (sym (length-replicate n true))
    ∙ into-blank (replicate n true) most_runs false

pub returns : goal.returns
returns c =
    let n = c.args.n in
    let e : c.fill.new.self ≡ replicate n true
    = c.fill.ensures.after (λ y e. e) ∙ ap (λ k. replicate k true) (length-take-le n (replicate most_runs false) (omega arith)) in
    rw e (front-marked n)
