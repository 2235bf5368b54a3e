-- The numbers passed have their digit in the room.
use Rattle.exact.proofs.Ground.{◌++◌, ◌≡◌, ◌∙◌, sym, ap, ℕ, ◌+◌, ◌*◌, arith, length, get_or, drop, replicate}
use Rattle.exact.proofs.Rooms.{write-next, into-blank, length-numbered}
use Rattle.parts.specs.Parts.{longer}
use Rattle.parts.proofs.longer.Goals as goal

pub loop-k-preserved : goal.loop-k-preserved
loop-k-preserved c =
    let a = c.args in
    let number : ℕ → ℕ = λ k. get_or a.numbers.now k 0 * a.level + get_or a.digits.now k 0 in
    rw (c.from.ensures, c.from-in-loop-k.ensures, c.loop-k.invariant)
    (write-next number (replicate 256 0) c.loop-k.k 0 (omega (arith, c.requires.numbers_len_bound.0)))

pub returns : goal.returns
returns c =
    let a = c.args in
    let number : ℕ → ℕ = λ k. get_or a.numbers.now k 0 * a.level + get_or a.digits.now k 0 in
    let xs = longer a.level a.numbers.now a.digits.now in
    let e : c.loop-k.k ≡ length a.numbers.now = omega arith in
    c.loop-k.invariant
    ∙ rw e (ap (λ j. xs ++ drop j (replicate 256 0)) (sym (length-numbered number (length a.numbers.now))))
    ∙ into-blank xs 256 0
