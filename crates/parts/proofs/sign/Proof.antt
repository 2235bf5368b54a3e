-- `parts::sign` meets its contract, for each number of columns.
use Rattle.exact.proofs.Ground.{◌≡◌, refl, ℕ, ◌≤◌, suc, zero, ◌%◌, arith, pos, negsuc}
use Rattle.parts.specs.Parts.{sign}
use Rattle.parts.proofs.sign.Statement.{statement}
use Rattle.parts.proofs.sign.Tie as tie

even : (f : ℕ) → f ≤ 4 → f % 2 ≡ 0 → pos 1 ≡ sign f
even zero h e = refl
even (suc zero) h e = absurd (omega arith)
even (suc (suc zero)) h e = refl
even (suc (suc (suc zero))) h e = absurd (omega arith)
even (suc (suc (suc (suc zero)))) h e = refl
even (suc (suc (suc (suc (suc f))))) h e = absurd (omega arith)

odd : (f : ℕ) → f ≤ 4 → ¬ (f % 2 ≡ 0) → negsuc 0 ≡ sign f
odd zero h e = absurd (e refl)
odd (suc zero) h e = refl
odd (suc (suc zero)) h e = absurd (e refl)
odd (suc (suc (suc zero))) h e = refl
odd (suc (suc (suc (suc zero)))) h e = absurd (e refl)
odd (suc (suc (suc (suc (suc f))))) h e = absurd (omega arith)

returns : tie.Need-returns-then-f-eq0
returns c = even c.args.f c.requires c.if-f-eq0.true

returns-2 : tie.Need-returns-else-f-eq0
returns-2 c = odd c.args.f c.requires c.if-f-eq0.false

pub sign_spec : {M : Type 1} → statement M
sign_spec = tie.close (tie.spec returns returns-2)
