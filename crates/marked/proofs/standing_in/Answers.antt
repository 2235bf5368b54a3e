-- A run is taken down where its mark is not 0.
use Rattle.exact.proofs.Ground.{false, Bool, not, List, [], ◌∷◌, ◌++◌, map, ◌≡◌, ◌∙◌, ap, ℕ, ◌<◌, ◌+◌, arith, eqb, length, get_or, take}
use Rattle.exact.proofs.Ground.{length-map, ne_eqb, eq-eqb}
use Rattle.exact.proofs.Lists.{get_d_map}
use Rattle.held.specs.Held.{standing}
use Rattle.held.proofs.Walk.{walk-room, walk-stands, walk-struck}
use Rattle.marked.proofs.standing_in.Goals as goal

abbrev stand : List ℕ → List Bool
stand marks = map (λ b. not (eqb b 0)) marks

long : (marks : List ℕ) → length (stand marks) ≡ length marks
long marks = length-map marks (λ b. not (eqb b 0))

read : (marks : List ℕ) (f : ℕ) → f < length marks → get_or (stand marks) f false ≡ not (eqb (get_or marks f 0) 0)
read marks f h = get_d_map (λ b. not (eqb b 0)) marks f 0 false h

pub loop-f-init : goal.loop-f-init
unfolding standing
loop-f-init c = c.new-standing.ensures

pub push-requires : goal.push-requires
push-requires c =
    let marks = c.args.marks.now in
    let e = ap length c.loop-f.invariant in
    (omega arith, omega (arith, e, walk-room (stand marks) c.loop-f.f (omega (arith, long marks))))

pub loop-f-preserved : goal.loop-f-preserved
loop-f-preserved c =
    let marks = c.args.marks.now in
    let f = c.loop-f.f in
    let h : f < length (stand marks) = omega (arith, long marks) in
    let mark = read marks f (omega arith) in
    let taken : ¬ (get_or marks f 0 ≡ 0) → c.loop-f.standing ++ f ∷ [] ≡ standing (take (f + 1) (stand marks))
    = λ n. rw c.loop-f.invariant (walk-stands (stand marks) f h (mark ∙ ap not (ne_eqb (get_or marks f 0) 0 n))) in
    let passed : get_or marks f 0 ≡ 0 → c.loop-f.standing ≡ standing (take (f + 1) (stand marks))
    = λ e. rw c.loop-f.invariant (walk-struck (stand marks) f h (mark ∙ ap not (eq-eqb (get_or marks f 0) 0 e))) in
    grind (arith, taken, passed)
