-- `renamed` meets its contract, by which of the two names is the lower.
use Rattle.exact.proofs.Ground.{◌≡◌, refl, arith}
use Rattle.tell.proofs.Grouping.{renamed-ind}
use Rattle.tell.proofs.walk.renamed.Statement.{statement}
use Rattle.tell.proofs.walk.renamed.Tie as tie

returns : tie.Need-returns-then-k-q
returns c = let a = c.args in renamed-ind a.p a.q a.k (λ z. a.p ≡ z) (λ e. omega arith) (λ e. absurd (omega arith))

returns-2 : tie.Need-returns-then-p-q
returns-2 c = let a = c.args in renamed-ind a.p a.q a.k (λ z. a.k ≡ z) (λ e. absurd (c.if-k-q.false (omega arith))) (λ e. refl)

returns-3 : tie.Need-returns-then-k-p
returns-3 c = let a = c.args in renamed-ind a.p a.q a.k (λ z. a.q ≡ z) (λ e. omega arith) (λ e. absurd (omega arith))

returns-4 : tie.Need-returns
returns-4 c = let a = c.args in renamed-ind a.p a.q a.k (λ z. a.k ≡ z) (λ e. absurd (c.if-k-p.false (omega arith))) (λ e. refl)

pub renamed_spec : {M : Type 1} → statement M
renamed_spec = tie.close (tie.spec returns returns-2 returns-3 returns-4)
