-- Document 01, "Refusal numbers": the check that is given is the first that applies, in the one order; one that stands earlier in a list comes
-- first among those of one number.
use Rattle.std.specs.Prelude.{◌≡◌, cond, ℕ, suc, ◌≤◌, ◌<◌, T, eqb}
use mathlib.Core.List.{List, [], ◌∷◌, ◌++◌, Memᴰ}
use Rattle.rules.specs.declared.Refusal.{Refusal}
use Rattle.rules.specs.Refusals.{Check, accepted}

abbrev pub number : Check → ℕ
number c = c.gives.number

-- the place of a number in the order ks
abbrev pub rank : List ℕ → ℕ → ℕ
rank [] n = 0
rank (k ∷ ks) n = cond (eqb n k) 0 (suc (rank ks n))

-- of the checks listed before and after c none that fails stands earlier in the order, and none before it has its number
pub record Leads (ks : List ℕ) (c : Check) (before after : List Check) : Type 0 where
  pub sooner : (d : Check) → Memᴰ d before → T d.fails → rank ks (number c) < rank ks (number d)
  pub later : (d : Check) → Memᴰ d after → T d.fails → rank ks (number c) ≤ rank ks (number d)

-- the check c of the list fails, and leads
pub record First (ks : List ℕ) (checks : List Check) (c : Check) : Type 0 where
  pub before : List Check
  pub after : List Check
  pub listed : checks ≡ before ++ c ∷ after
  pub fails : T c.fails
  pub leads : Leads ks c before after

-- what a call with these checks answers
pub data FirstThatApplies (ks : List ℕ) (checks : List Check) : Refusal → Type 0 where
  none-fails : ((c : Check) → Memᴰ c checks → ¬ (T c.fails)) → FirstThatApplies ks checks accepted
  fails-first : (c : Check) → First ks checks c → FirstThatApplies ks checks c.gives
