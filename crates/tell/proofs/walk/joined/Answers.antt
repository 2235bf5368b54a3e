-- A turn reads the old name, and writes the new one.
use Rattle.exact.proofs.Ground.{◌≡◌, ◌∙◌, sym, ap, map, ℕ, ◌<◌, arith, length, get_or}
use Rattle.exact.specs.Lists.{from}
use Rattle.exact.proofs.Rooms.{write-next, read_next, all-written}
use Rattle.exact.proofs.Numbers.{map-places}
use Rattle.exact.proofs.Lists.{map-map}
use Rattle.tell.specs.Evidence.{renamed}
use Rattle.tell.proofs.walk.joined.Goals as goal

pub loop-name-preserved : goal.loop-name-preserved
loop-name-preserved c =
    let a = c.args in
    let x = c.loop-name.name-index in
    let g : ℕ → ℕ = λ k. renamed a.p a.q (get_or a.groups k 0) in
    let h : x < length a.groups = omega arith in
    let e : c.renamed.result ≡ g x
    = c.renamed.ensures ∙ ap (renamed a.p a.q) (ap (λ r. get_or r x 0) c.loop-name.invariant ∙ read_next g a.groups x 0 h) in
    rw (e, c.loop-name.invariant) (write-next g a.groups x 0 h)

pub returns : goal.returns
returns c =
    let a = c.args in
    let x = c.loop-name.name-index in
    let g : ℕ → ℕ = λ k. renamed a.p a.q (get_or a.groups k 0) in
    let n : x ≡ length a.groups = omega arith in
    c.loop-name.invariant ∙ all-written g a.groups x n
    ∙ sym (map-map (renamed a.p a.q) (λ k. get_or a.groups k 0) (from 0 x))
    ∙ ap (map (renamed a.p a.q)) (ap (λ n. map (λ k. get_or a.groups k 0) (from 0 n)) n ∙ map-places a.groups 0)
