-- `met` meets its contract: there is room for one link more while there is a group.
use Rattle.exact.proofs.Ground.{rules}
use Rattle.tell.proofs.Joining.{kept-room, pair_same, pair-joins}
use Rattle.tell.proofs.walk.met.Statement.{statement}
use Rattle.tell.proofs.walk.met.Tie as tie

returns : tie.Need-returns-then-p-q
returns c =
    let a = c.args in pair_same a.joins a.f a.g a.x a.y c.if-p-q.true

array-write-left : tie.Need-bounds-left-many
array-write-left c = let s = c in kept-room s.args.joins s.requires.0

array-write-right : tie.Need-bounds-right-many
array-write-right c = let s = c in kept-room s.args.joins s.requires.0

returns-2 : tie.Need-returns
returns-2 c =
    let a = c.args in
    let k = c in
    pair-joins a.joins a.f a.g a.x a.y k.joined-names.result k.if-p-q.false k.joined-names.ensures

pub met_spec : {M : Type 1} → statement M
met_spec =
    tie.close
    (tie.spec
    (λ c. search rules)
    (λ c. search rules)
    returns
    (λ c κs. search rules)
    (λ c. search rules)
    array-write-left
    (λ c. search rules)
    array-write-right
    (λ c. search rules)
    returns-2)
