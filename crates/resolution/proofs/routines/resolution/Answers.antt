-- Each test says whether the word of one length is above zero.
use Rattle.exact.proofs.Ground.{◌≡◌, ◌∙◌, sym, ap, ◌-◌, ◌+◌, arith, rules, pos, get_or, take, length-take-le, lt_z, get_or-take, w64}
use mir.Val.{SFits}
use Rattle.exact.proofs.Bits.{back}
use Rattle.resolution.specs.Given.{first_above, is_above}
use Rattle.resolution.proofs.Searching.{left-found, left-later, left-last}
use Rattle.resolution.proofs.routines.resolution.Goals as goal

pub loop-k-init : goal.loop-k-init
loop-k-init c = let e : c.args.m + 1 - 1 ≡ c.args.m = omega arith in rw e

pub returns-then-word-gt0 : goal.returns-then-word-gt0
returns-then-word-gt0 c =
    let a = c.args in
    let k = c.loop-k.k in
    let n = length-take-le a.m a.words.now (omega arith) in
    let f : SFits w64 (get_or (take a.m a.words.now) k (pos 0)) = search rules in
    let e : k + 1 - 1 ≡ k = omega arith in
    left-found (is_above a.words.now) (a.m + 1) (first_above a.words.now a.m) (k + 1) c.loop-k.invariant (omega arith)
    (rw e (ap (lt_z (pos 0)) (sym (back f ∙ get_or-take a.m a.words.now k (pos 0) (omega arith))) ∙ c.if-word-gt0.true))

pub loop-k-preserved : goal.loop-k-preserved
loop-k-preserved c =
    let a = c.args in
    let k = c.loop-k.k in
    let n = length-take-le a.m a.words.now (omega arith) in
    let f : SFits w64 (get_or (take a.m a.words.now) k (pos 0)) = search rules in
    let e : k + 1 - 1 ≡ k = omega arith in
    left-later (is_above a.words.now) (a.m + 1) (first_above a.words.now a.m) (k + 1) c.loop-k.invariant (omega arith)
    (rw e (ap (lt_z (pos 0)) (sym (back f ∙ get_or-take a.m a.words.now k (pos 0) (omega arith))) ∙ c.if-word-gt0.false))

pub returns : goal.returns
returns c =
    let a = c.args in
    let n = length-take-le a.m a.words.now (omega arith) in
    let z : c.loop-k.k ≡ a.m = omega arith in
    rw z at (left-last (is_above a.words.now) (a.m + 1) (first_above a.words.now a.m) (c.loop-k.k + 1) c.loop-k.invariant (omega arith))
