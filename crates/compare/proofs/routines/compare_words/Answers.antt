-- Each turn looks at the words of one length.
use Rattle.exact.proofs.Ground.{⊎_elim, ◌≡◌, ◌∙◌, sym, refl, take, rules}
use Rattle.exact.specs.declared.fractions.Verdict.TheVariants.{Equal}
use Rattle.compare.proofs.Turns.{present-word, later-words, present-turn, first-none, second-none, first-words}
use Rattle.compare.proofs.routines.compare_words.Goals as goal

pub compare_word-verdict-requires : goal.compare_word-verdict-requires
compare_word-verdict-requires c =
    let I = c.loop-x.invariant in
    let s = c.in-Some.ensures.steps in
    (present-word s.0 I.1, present-word s.1 I.2)

pub loop-x-init : goal.loop-x-init
loop-x-init c =
    let a = c.args in
    let f : c.into_iter-x-iterator.result.a.rest.now ≡ take a.m a.a.now = search rules in
    let g : c.into_iter-x-iterator.result.b.rest.now ≡ take a.m a.b.now = search rules in
    rw (f, g) (refl, first-words a.n a.m a.a.now c.requires.1.1 c.requires.0, first-words a.k a.m a.b.now c.requires.1.1 c.requires.1.0)

pub loop-x-preserved : goal.loop-x-preserved
loop-x-preserved c =
    let I = c.loop-x.invariant in
    let s = c.in-Some.ensures.steps in
    let equal : c.compare_word-verdict.result ≡ Equal = search rules in (
      present-turn c.args.n c.args.k s.0 s.1 (sym equal ∙ c.compare_word-verdict.ensures) I.0,
      later-words s.0 I.1,
      later-words s.1 I.2,
    )

pub returns : goal.returns
returns c =
    let n = c.args.n in
    let k = c.args.k in
    sym (⊎_elim (λ u. first-none n k _ _ u.1.0) (λ u. second-none n k _ _ u.1.0) c.in-None.ensures.steps) ∙ c.loop-x.invariant.0
