-- Document 01, "Refusal numbers": a call is refused by the check that fails and stands first in the order, and by nothing else.
use Rattle.exact.proofs.Ground.{true, false, Bool, ◌&&◌, List, [], ◌∷◌, ◌++◌, Memᴰ, mem-head, mem-tail, mem-not_nil}
use Rattle.exact.proofs.Ground.{append_assoc, mem-append_left, mem-append_right, mem-append_cases, ⊎_elim, ◌≡◌, ◌∙◌, sym, ap, refl, subst}
use Rattle.exact.proofs.Ground.{subst⁻¹, ℕ, ◌≤◌, suc, arith, eqb, T, ltb, leb, ltb→lt, leb→le, ne_eqb, eq-eqb, eqb-true, eqb-false}
use mathlib.Core.List.{}
use Rattle.exact.specs.Lists.{all, keep, each, holds}
use Rattle.exact.proofs.Tests.{is_false, false-is, both, all-mem}
use Rattle.rules.specs.declared.Refusal.{Refusal}
use Rattle.rules.specs.Order.{number, rank, Leads, First, FirstThatApplies, none-fails, fails-first}
use Rattle.rules.specs.Refusals.{Check, order, first_failing, refusal, accepted, largest_number, or_else}
use Rattle.rules.proofs.Ranges.{or-refused, or-accepted}

-- ---- two such answers are equal

-- what holds of the first and of each other member
module _ {A : Type 0} (P : A → Type 0) where
  pub each-cons : {x : A} {xs : List A} → P x → ((y : A) → Memᴰ y xs → P y) → (y : A) → Memᴰ y (x ∷ xs) → P y
  each-cons p h y (mem-head e) = subst P (sym e) p
  each-cons p h y (mem-tail m) = h y m

there : {ks : List ℕ} {checks : List Check} {c : Check} → First ks checks c → Memᴰ c checks
there F = rw F.listed (mem-append_right F.before (mem-head refl))

module _ (ks : List ℕ) where
  onward : {c x : Check} {before after : List Check} → Leads ks c (x ∷ before) after → Leads ks c before after
  onward L = record { sooner = λ d m. L.sooner d (mem-tail m); later = L.later }

  -- of two that lead, neither is listed before the other
  crossed : (c d x : Check) (xs cs ys : List Check) → c ∷ xs ≡ x ∷ (cs ++ d ∷ ys) → T c.fails → T d.fails → Leads ks c [] xs →
      Leads ks d (x ∷ cs) ys → ⊥
  crossed c d x xs cs ys e t u L M =
      let q : xs ≡ cs ++ d ∷ ys = cc in
      let r : c ≡ x = cc in
      let a = L.later d (rw q (mem-append_right cs (mem-head refl))) u in
      let b = M.sooner c (mem-head r) t in
      omega arith

  same : (c d : Check) (bs xs cs ys : List Check) → bs ++ c ∷ xs ≡ cs ++ d ∷ ys → T c.fails → T d.fails → Leads ks c bs xs →
      Leads ks d cs ys → c ≡ d
  same c d [] xs [] ys e t u L M = cc
  same c d [] xs (x ∷ cs) ys e t u L M = absurd (crossed c d x xs cs ys e t u L M)
  same c d (x ∷ bs) xs [] ys e t u L M = absurd (crossed d c x ys bs xs (sym e) u t M L)
  same c d (x ∷ bs) xs (y ∷ cs) ys e t u L M = same c d bs xs cs ys (cc) t u (onward L) (onward M)

  pub applies-unique : {checks : List Check} {r s : Refusal} → FirstThatApplies ks checks r → FirstThatApplies ks checks s → r ≡ s
  applies-unique (none-fails p) (none-fails q) = refl
  applies-unique (none-fails p) (fails-first d G) = absurd (p d (there G) G.fails)
  applies-unique (fails-first c F) (none-fails q) = absurd (q c (there F) F.fails)
  applies-unique (fails-first c F) (fails-first d G) =
      ap (λ x. x.gives) (same c d F.before F.after G.before G.after (sym F.listed ∙ G.listed) F.fails G.fails F.leads G.leads)

-- ---- the refusal of a call is one

abbrev of_number : ℕ → List Check → List Check
of_number k checks = keep (λ c. eqb c.gives.number k) checks

-- none that fails has the number k
abbrev Others : ℕ → List Check → Type 0
Others k checks = (d : Check) → Memᴰ d checks → T d.fails → ¬ (number d ≡ k)

-- what the checks of number k come to, with `rest` after them
data Kept (k : ℕ) (checks rest : List Check) : Type 0 where
  found : (c : Check) (before after : List Check) → checks ≡ before ++ c ∷ after → number c ≡ k → T c.fails → Others k before →
      first_failing (of_number k checks ++ rest) ≡ c.gives → Kept k checks rest
  missing : Others k checks → first_failing (of_number k checks ++ rest) ≡ first_failing rest → Kept k checks rest

skip : (k : ℕ) (c : Check) (cs rest : List Check) → (T c.fails → ¬ (number c ≡ k)) →
    first_failing (of_number k (c ∷ cs) ++ rest) ≡ first_failing (of_number k cs ++ rest) → Kept k cs rest → Kept k (c ∷ cs) rest
skip k c cs rest n q (found d before after l e t o r) =
    found d (c ∷ before) after (ap (λ l. c ∷ l) l) e t (each-cons (λ d. T d.fails → ¬ (number d ≡ k)) n o) (q ∙ r)
skip k c cs rest n q (missing o r) = missing (each-cons (λ d. T d.fails → ¬ (number d ≡ k)) n o) (q ∙ r)

kept : (k : ℕ) (checks rest : List Check) → Kept k checks rest
kept k [] rest = missing (λ d m. absurd (mem-not_nil m)) refl
kept k (c ∷ cs) rest = go (eqb (number c) k) c.fails refl refl (kept k cs rest)
  where
    go : (a b : Bool) → eqb (number c) k ≡ a → c.fails ≡ b → Kept k cs rest → Kept k (c ∷ cs) rest
    go true true e t K = found c [] cs refl (eqb-true (number c) k e) (rw t tt) (λ d m. absurd (mem-not_nil m)) (rw (e, t))
    go true false e t K = skip k c cs rest (λ u. absurd (false-is c.fails t u)) (rw (e, t)) K
    go false b e t K = skip k c cs rest (λ u. eqb-false (number c) k e) (rw e) K

module _ (k : ℕ) (ks : List ℕ) where
  beyond : (n : ℕ) → ¬ (n ≡ k) → rank (k ∷ ks) n ≡ suc (rank ks n)
  beyond n h = rw (ne_eqb n k h)

  deeper : (checks : List Check) {r : Refusal} → Others k checks → FirstThatApplies ks checks r → FirstThatApplies (k ∷ ks) checks r
  deeper checks o (none-fails p) = none-fails p
  deeper checks o (fails-first c F) =
      let b = beyond (number c) (o c (there F) F.fails) in
      fails-first c (record {
        before = F.before;
        after = F.after;
        listed = F.listed;
        fails = F.fails;
        leads = record {
          sooner = λ d m t. omega (arith, b, F.leads.sooner d m t, beyond (number d) (o d (rw F.listed (mem-append_left (c ∷ F.after) m)) t));
          later = λ d m t.
              omega (
                arith,
                b,
                F.leads.later d m t,
                beyond (number d) (o d (rw F.listed (mem-append_right F.before (mem-tail m))) t),
              );
        };
      })

-- the numbers of those that fail stand in the order
abbrev Known : List ℕ → List Check → Type 0
Known ks checks = (c : Check) → Memᴰ c checks → T c.fails → T (holds (number c) ks)

abbrev in_order : List ℕ → List Check → List Check
in_order ks checks = each ks (λ k. of_number k checks)

applies : (ks : List ℕ) (checks : List Check) → Known ks checks → FirstThatApplies ks checks (first_failing (in_order ks checks))
applies [] checks h = none-fails h
applies (k ∷ ks) checks h = go (kept k checks (in_order ks checks)) (applies ks checks)
  where
    go : Kept k checks (in_order ks checks) → (Known ks checks → FirstThatApplies ks checks (first_failing (in_order ks checks))) →
        FirstThatApplies (k ∷ ks) checks (first_failing (in_order (k ∷ ks) checks))
    go (found c before after l e t o r) ih =
        let z : rank (k ∷ ks) (number c) ≡ 0 = rw (eq-eqb (number c) k e) in
        subst (FirstThatApplies (k ∷ ks) checks) (sym r) (fails-first c (record {
          before = before;
          after = after;
          listed = l;
          fails = t;
          leads = record {
            sooner = λ d m u. omega (arith, z, beyond k ks (number d) (o d m u));
            later = λ d m u. omega (arith, z);
          };
        }))
    go (missing o r) ih =
        subst (FirstThatApplies (k ∷ ks) checks) (sym r)
        (deeper k ks checks o (ih (λ c m u. rw (ne_eqb (number c) k (o c m u)) at (h c m u))))

-- every number stands in the order
abbrev pub known : List Check → Bool
known checks = all checks (λ c. holds (number c) order)

known-mem : (checks : List Check) → T (known checks) → (c : Check) → Memᴰ c checks → T (holds (number c) order)
known-mem checks k = all-mem (λ c. holds (number c) order) checks k

-- the theorem on the order of the checks
pub refusal-first : (checks : List Check) → T (known checks) → FirstThatApplies order checks (refusal checks)
refusal-first checks k = applies order checks (λ c m t. known-mem checks k c m)

-- ---- what a caller needs of it

-- the number is 0 exactly where none fails
pub passed_none : (checks : List Check) → T (known checks) → {r : Refusal} → r ≡ refusal checks → r.number ≡ 0 →
    (c : Check) → Memᴰ c checks → c.fails ≡ false
passed_none checks k {r} e z c m = go r (subst⁻¹ (FirstThatApplies order checks) e (refusal-first checks k)) z
  where
    go : (r : Refusal) → FirstThatApplies order checks r → r.number ≡ 0 → c.fails ≡ false
    go r (none-fails p) z = is_false c.fails (p c m)
    go r (fails-first d F) z = absurd (subst (λ n. T (holds n order)) z (known-mem checks k d (there F)))

pub none_passed : (checks : List Check) → T (known checks) → ((c : Check) → Memᴰ c checks → c.fails ≡ false) → refusal checks ≡ accepted
none_passed checks k h = applies-unique order (refusal-first checks k) (none-fails (λ c m. false-is c.fails (h c m)))

-- what 0 and the numbers ks pass, the number of the refusal passes
tested : (test : ℕ → Bool) (ks : List ℕ) (checks : List Check) → T (test 0) → T (all ks test) → T (test (first_failing (in_order ks checks)).number)
tested test [] checks z a = z
tested test (k ∷ ks) checks z a = go (kept k checks (in_order ks checks)) (both (test k) (all ks test) a).0
    (tested test ks checks z (both (test k) (all ks test) a).1)
  where
    go : Kept k checks (in_order ks checks) → T (test k) → T (test (first_failing (in_order ks checks)).number) →
        T (test (first_failing (in_order (k ∷ ks) checks)).number)
    go (found c before after l e t o r) h later = rw (r, e) h
    go (missing o r) h later = rw r later

-- whatever the checks, the number is 0 or one of the order
pub number-ordered : (checks : List Check) → T (holds (refusal checks).number (0 ∷ order))
number-ordered checks = tested (λ n. holds n (0 ∷ order)) order checks tt tt

pub number-most : (checks : List Check) → (refusal checks).number ≤ largest_number
number-most checks = leb→le (refusal checks).number largest_number (tested (λ n. leb n largest_number) order checks tt tt)

pub never-twelve : (checks : List Check) → ¬ ((refusal checks).number ≡ 12)
never-twelve checks e = subst (λ n. T (holds n (0 ∷ order))) e (number-ordered checks)

-- each of the first checks stands earlier in the order than each of the others
abbrev before : Check → List Check → Bool
before c others = all others (λ d. ltb (rank order (number c)) (rank order (number d)))

abbrev pub in_turn : List Check → List Check → Bool
in_turn ones others = known ones && (known others && all ones (λ c. before c others))

-- so a call asks the others only where the first pass: r is their refusal, whose number the code tests
module _ (ones others : List Check) (turn : T (in_turn ones others)) where
  known-ones : T (known ones)
  known-ones = (both (known ones) (known others && all ones (λ c. before c others)) turn).0

  rest : T (known others) × T (all ones (λ c. before c others))
  rest = both (known others) (all ones (λ c. before c others)) (both (known ones) (known others && all ones (λ c. before c others)) turn).1

  whole : FirstThatApplies order (ones ++ others) (refusal (ones ++ others))
  whole = applies order (ones ++ others) (λ c m t. ⊎_elim (λ w. known-mem ones known-ones c w) (λ w. known-mem others rest.0 c w)
      (mem-append_cases ones m))

  pub refused-by-first : {r : Refusal} → r ≡ refusal ones → ¬ (r.number ≡ 0) → refusal (ones ++ others) ≡ r
  refused-by-first {r} e n = applies-unique order whole (go r (subst⁻¹ (FirstThatApplies order ones) e (refusal-first ones known-ones)) n)
    where
      go : (r : Refusal) → FirstThatApplies order ones r → ¬ (r.number ≡ 0) → FirstThatApplies order (ones ++ others) r
      go r (none-fails p) n = absurd (n refl)
      go r (fails-first c F) n = fails-first c (record {
        before = F.before;
        after = F.after ++ others;
        listed = rw F.listed (append_assoc F.before (c ∷ F.after) others);
        fails = F.fails;
        leads = record {
          sooner = F.leads.sooner;
          later = λ d m t. ⊎_elim (λ w. F.leads.later d w t) (λ w. behind d w) (mem-append_cases F.after m);
        };
      })
        where
          behind : (d : Check) → Memᴰ d others → rank order (number c) ≤ rank order (number d)
          behind d w =
              let h = all-mem (λ d. ltb (rank order (number c)) (rank order (number d))) others
              (all-mem (λ c. before c others) ones rest.1 c (there F)) d w in
              omega (arith, ltb→lt (rank order (number c)) (rank order (number d)) h)

  pub passed-by-first : {r : Refusal} → r ≡ refusal ones → r.number ≡ 0 → refusal (ones ++ others) ≡ refusal others
  passed-by-first e z = applies-unique order whole (go (refusal others) (refusal-first others rest.0))
    where
      passes : (c : Check) → Memᴰ c ones → ¬ (T c.fails)
      passes c m = false-is c.fails (passed_none ones known-ones e z c m)

      go : (r : Refusal) → FirstThatApplies order others r → FirstThatApplies order (ones ++ others) r
      go r (none-fails p) = none-fails (λ c m. ⊎_elim (λ w. passes c w) (λ w. p c w) (mem-append_cases ones m))
      go r (fails-first c F) = fails-first c (record {
        before = ones ++ F.before;
        after = F.after;
        listed = rw F.listed (sym (append_assoc ones F.before (c ∷ F.after)));
        fails = F.fails;
        leads = record {
          sooner = λ d m t. ⊎_elim (λ w. absurd (passes d w t)) (λ w. F.leads.sooner d w t) (mem-append_cases ones m);
          later = F.leads.later;
        };
      })

  -- what a call answers that asks the first, and the others after them
  pub or-in-turn : or_else (refusal ones) (refusal others) ≡ refusal (ones ++ others)
  or-in-turn = go (eqb (refusal ones).number 0) refl
    where
      go : (b : Bool) → eqb (refusal ones).number 0 ≡ b → or_else (refusal ones) (refusal others) ≡ refusal (ones ++ others)
      go true e = let z = eqb-true (refusal ones).number 0 e in or-accepted (refusal ones) (refusal others) z ∙ sym (passed-by-first refl z)
      go false e = let n = eqb-false (refusal ones).number 0 e in or-refused (refusal ones) (refusal others) n ∙ sym (refused-by-first refl n)
