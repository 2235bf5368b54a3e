-- A level occurs exactly where some run has it; the first run with the entries of run f is found by a search upward, at the latest at f itself.
use Rattle.exact.proofs.Ground.{true, false, Bool, cond, ◌||◌, List, [], ◌∷◌, map, Memᴰ, mem-head, mem-tail, mem-map, ◌≡◌, sym}
use Rattle.exact.proofs.Ground.{refl, subst, ℕ, ◌≤◌, ◌<◌, ◌+◌, suc, zero, dec_lt, arith, eqb, get_or, eq-eqb, eqb-true}
use Rattle.exact.specs.Lists.{from, keep, first}
use Rattle.exact.proofs.Tests.{is_true, true-is, mem-all, clash}
use Rattle.exact.proofs.Members.{mem-holds}
use Rattle.exact.proofs.Searches.{IsFirst, first-is}
use Rattle.rules.specs.Plan.{Plan, runs, entry, every_run, every_column}
use Rattle.survey.specs.Survey.{occurs, alike, first_alike}

-- ---- levels

module _ (p : Plan) (i e : ℕ) where
  -- the run that has the level
  pub occurs-some : (rs : List ℕ) → occurs p rs i e ≡ true → (f : ℕ) × Memᴰ f rs × (entry p f i ≡ e)
  unfolding occurs
  occurs-some [] q = clash false q refl
  occurs-some (f ∷ rs) q = go (eqb e (entry p f i)) refl q (occurs-some rs)
    where
      go : (b : Bool) → eqb e (entry p f i) ≡ b → (b || occurs p rs i e) ≡ true →
          (occurs p rs i e ≡ true → (g : ℕ) × Memᴰ g rs × (entry p g i ≡ e)) → (g : ℕ) × Memᴰ g (f ∷ rs) × (entry p g i ≡ e)
      go true h t later = (f, mem-head refl, sym (eqb-true e (entry p f i) h))
      go false h t later = let (g, m, r) = later t in (g, mem-tail m, r)

  pub some-occurs : (rs : List ℕ) (f : ℕ) → Memᴰ f rs → entry p f i ≡ e → occurs p rs i e ≡ true
  unfolding occurs
  some-occurs rs f m r =
      mem-holds e (map (λ g. entry p g i) rs) (subst (λ x. Memᴰ x (map (λ g. entry p g i) rs)) r (mem-map (λ g. entry p g i) m))

-- ---- runs

-- the first that is kept is the first that passes
kept-first : (test : ℕ → Bool) (a n d : ℕ) → first test a n < a + n → get_or (keep test (from a n)) 0 d ≡ first test a n
kept-first test a zero d h = absurd (omega arith)
kept-first test a (suc n) d h = go (test a) (kept-first test (suc a) n d) h
  where
    go : (b : Bool) → (first test (suc a) n < suc a + n → get_or (keep test (from (suc a) n)) 0 d ≡ first test (suc a) n) →
        cond b a (first test (suc a) n) < a + suc n →
        get_or (cond b (a ∷ keep test (from (suc a) n)) (keep test (from (suc a) n))) 0 d ≡ cond b a (first test (suc a) n)
    go true later h = refl
    go false later h = later (omega arith)

-- every run is alike to itself
pub alike_self : (p : Plan) (f : ℕ) → alike p f f ≡ true
unfolding alike
alike_self p f =
    is_true _ (mem-all (λ i. eqb (entry p f i) (entry p f i)) (every_column p) (λ i m. true-is _ (eq-eqb (entry p f i) (entry p f i) refl)))

module _ (p : Plan) (f : ℕ) (h : f < runs p) where
  -- so the search ends at f or earlier
  early : first (alike p f) 0 (runs p) ≤ f
  early = go (dec_lt f (first (alike p f) 0 (runs p)))
    where
      go : Dec (f < first (alike p f) 0 (runs p)) → first (alike p f) 0 (runs p) ≤ f
      go (yes l) = absurd ((first-is (alike p f) 0 (runs p)).none_before f (omega arith) l (true-is (alike p f f) (alike_self p f)))
      go (no l) = omega arith

  pub first-alike-search : first_alike p (every_run p) f ≡ first (alike p f) 0 (runs p)
  unfolding first_alike
  first-alike-search = kept-first (alike p f) 0 (runs p) f (omega (arith, early))

  -- the first run with the entries of f: none before it has them, and it is f or earlier
  pub first-alike-is : IsFirst (alike p f) 0 (runs p) (first_alike p (every_run p) f)
  first-alike-is = rw first-alike-search (first-is (alike p f) 0 (runs p))

  pub first-alike-early : first_alike p (every_run p) f ≤ f
  first-alike-early = rw first-alike-search early
