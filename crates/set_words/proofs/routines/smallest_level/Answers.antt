-- The smallest level of the columns passed.
use Rattle.exact.proofs.Ground.{List, ◌≡◌, ◌∙◌, ap, ℕ, ◌<◌, ◌≤◌, ◌+◌, ◌-◌, arith, length, get_or, drop, take, get_or-drop, take_all, length-drop}
use lib.ListN.{length-take}
use Rattle.exact.proofs.Members.{get_or-mem}
use Rattle.set_words.proofs.Values.{smallest-first, smallest-turn}
use Rattle.set_words.proofs.routines.smallest_level.Goals.{In-loop-i}
use Rattle.set_words.proofs.routines.smallest_level.Goals as goal

pub bounds-levels-first : goal.bounds-levels-first
bounds-levels-first c = c.requires.inside _ (get_or-mem c.args.columns.now 0 0 (omega arith))

-- the columns after the first
others : (I : List ℕ) → take (length I - 1) (drop 1 I) ≡ drop 1 I
others I = take_all (length I - 1) (drop 1 I) (omega (arith, length-drop 1 I))

others_at : (I : List ℕ) (k : ℕ) → get_or (take (length I - 1) (drop 1 I)) k 0 ≡ get_or I (k + 1) 0
others_at I k = rw (others I) (get_or-drop 1 I k 0 ∙ ap (λ n. get_or I n 0) (let e : 1 + k ≡ k + 1 = omega arith in e))

-- the column of a turn
inside : (c : In-loop-i) → c.loop-i.i-index + 1 < length c.args.columns.now
inside c = omega (arith, simp (others c.args.columns.now, length-drop) at c.loop-i-test.true)

pub bounds-levels-i : goal.bounds-levels-i
bounds-levels-i c =
    let I = c.args.columns.now in
    let k = c.loop-i.i-index in
    rw (others_at I k) (c.requires.inside _ (get_or-mem I (k + 1) 0 (inside (goal.at.bounds-levels-i c).In-loop-i)))

pub loop-i-init : goal.loop-i-init
loop-i-init c = smallest-first (λ i. get_or c.args.levels.now i 0) c.args.columns.now c.requires.some

pub loop-i-preserved : goal.loop-i-preserved
loop-i-preserved c =
    let I = c.args.columns.now in
    let k = c.loop-i.i-index in
    let h = inside (goal.at.loop-i-preserved c).In-loop-i in
    let e = others_at I k in
    let t = smallest-turn (λ i. get_or c.args.levels.now i 0) I (k + 1) (omega arith) h in
    cc

pub returns : goal.returns
returns c =
    let I = c.args.columns.now in
    let e : length (take (length I - 1) (drop 1 I)) ≡ length I - 1 = simp (length-take, length-drop) (omega arith) in
    let l : length I ≤ c.loop-i.i-index + 1 = omega arith in
    rw (take_all (c.loop-i.i-index + 1) I l) at c.loop-i.invariant
