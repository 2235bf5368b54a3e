-- The runs but one: rising runs stay rising, lose that run and no other.
use Rattle.exact.proofs.Ground.{true, false, Bool, cond, List, [], ◌∷◌, ◌++◌, Memᴰ, mem-head, mem-tail, mem-not_nil}
use Rattle.exact.proofs.Ground.{mem-cases_cons, ◌⊎◌, inl, inr, ◌≡◌, ◌∙◌, sym, ap, refl, ℕ, ◌<◌, suc, zero, arith, eqb, eqb→eq, eqb_refl, length}
use Rattle.exact.proofs.Ground.{get_or, take, length-append}
use Rattle.exact.specs.Lists.{keep}
use Rattle.exact.proofs.Tests.{is_true, is_false}
use Rattle.exact.proofs.Members.{keep-mem}
use Rattle.advice.specs.Advice.{without}
use Rattle.advice.specs.Given.{Rising}

-- ---- what is kept of a list

module _ (test : ℕ → Bool) where
  pub keep-rising : (rs : List ℕ) → Rising rs → Rising (keep test rs)
  keep-rising [] r = r
  keep-rising (f ∷ fs) r = go (test f) (keep-rising fs r.1)
    where
      go : (t : Bool) → Rising (keep test fs) → Rising (cond t (f ∷ keep test fs) (keep test fs))
      go true k = (λ g m. r.0 g (keep-mem test fs g m), k)
      go false k = k

-- ---- without one run

-- a run that is not there is not lost
pub without-none : (f : ℕ) (rs : List ℕ) → ((g : ℕ) → Memᴰ g rs → ¬ (g ≡ f)) → without f rs ≡ rs
without-none f [] h = refl
without-none f (g ∷ rs) h =
    rw (is_false (eqb g f) (λ t. h g (mem-head refl) (eqb→eq g f t)), without-none f rs (λ k m. h k (mem-tail m)))

-- the runs before f and after it
pub record Parted (f : ℕ) (rs : List ℕ) : Type 0 where
  pub front : List ℕ
  pub back : List ℕ
  pub whole : rs ≡ front ++ f ∷ back
  pub left : without f rs ≡ front ++ back

pub parted : (f : ℕ) (rs : List ℕ) → Rising rs → Memᴰ f rs → Parted f rs
parted f [] r m = absurd (mem-not_nil m)
parted f (g ∷ rs) r m = go (mem-cases_cons m) (parted f rs r.1)
  where
    go : (f ≡ g) ⊎ Memᴰ f rs → (Memᴰ f rs → Parted f rs) → Parted f (g ∷ rs)
    go (inl e) later = record {
      front = [];
      back = rs;
      whole = ap (λ k. k ∷ rs) (sym e);
      left = rw (is_true (eqb g f) (rw e (eqb_refl g))) (without-none f rs (λ k n d. let l = r.0 k n in absurd (omega arith)));
    }
    go (inr n) later =
        let P = later n in
        record {
          front = g ∷ P.front;
          back = P.back;
          whole = ap (λ l. g ∷ l) P.whole;
          left = rw (is_false (eqb g f) (λ t. let e = eqb→eq g f t in let l = r.0 f n in omega arith), P.left);
        }

-- one run fewer
pub without-length : (f : ℕ) (rs : List ℕ) → Rising rs → Memᴰ f rs → length rs ≡ suc (length (without f rs))
without-length f rs r m =
    let P = parted f rs r m in
    let a = ap length P.whole ∙ length-append P.front (f ∷ P.back) in
    let b = ap length P.left ∙ length-append P.front P.back in
    omega arith

-- of rising runs the lower numbers stand before
pub rising-before : (rs : List ℕ) (k a g : ℕ) → Rising rs → k < length rs → get_or rs k a ≡ a → Memᴰ g rs → g < a → Memᴰ g (take k rs)
rising-before [] k a g r h e m l = absurd (omega arith)
rising-before (f ∷ fs) zero a g r h e (mem-head d) l = absurd (omega arith)
rising-before (f ∷ fs) zero a g r h e (mem-tail m) l = absurd (omega (arith, r.0 g m))
rising-before (f ∷ fs) (suc k) a g r h e (mem-head d) l = mem-head d
rising-before (f ∷ fs) (suc k) a g r h e (mem-tail m) l = mem-tail (rising-before fs k a g r.1 (omega arith) e m l)
