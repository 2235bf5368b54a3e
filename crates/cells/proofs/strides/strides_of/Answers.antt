-- A turn gives one column its stride.
use Rattle.exact.proofs.Ground.{[], map, ◌≡◌, ◌∙◌, ap, ap₂, ℕ, ◌-◌, ◌<◌, zero-add, arith, get_or, set, drop, replicate, get_or-append}
use Rattle.exact.specs.Lists.{from}
use Rattle.exact.proofs.Numbers.{length-map-from, map-from-at}
use Rattle.exact.proofs.Rooms.{begun, write-next}
use Rattle.rules.specs.Plan.{Plan, plan}
use Rattle.cells.specs.Cells.{stride_of}
use Rattle.cells.proofs.strides.strides_of.Goals as goal

at : (p : Plan) (i x : ℕ) → x < i → get_or (begun (stride_of p) (replicate 24 0) i) x 0 ≡ stride_of p x
at p i x h =
    get_or-append (map (stride_of p) (from 0 i)) (drop i (replicate 24 0)) 0 x (rw (length-map-from (stride_of p) 0 i) h)
    ∙ map-from-at (stride_of p) 0 i x 0 h ∙ ap (stride_of p) (zero-add x)

pub stride_at-t-requires : goal.stride_at-t-requires
stride_at-t-requires c =
    let p = plan c.args.levels.now [] in let i = c.loop-i.i in
    (c.requires, omega arith, λ h. ap (λ out. get_or out (i - 1) 0) c.loop-i.invariant ∙ at p i (i - 1) (omega arith))

pub loop-i-preserved : goal.loop-i-preserved
loop-i-preserved c =
    let p = plan c.args.levels.now [] in let i = c.loop-i.i in
    ap₂ (λ out v. set out i v) c.loop-i.invariant c.stride_at-t.ensures ∙ write-next (stride_of p) (replicate 24 0) i 0 (omega (arith, c.requires))

pub returns : goal.returns
returns c =
    let p = plan c.args.levels.now [] in
    record { at = λ x h. ap (λ out. get_or out x 0) c.loop-i.invariant ∙ at p c.loop-i.i x (omega arith) }
