-- The best of a list of candidates is what its record says, there is only one, and a loop that keeps the best so far finds it: by either rule.
use Rattle.exact.proofs.Ground.{true, false, Bool, cond, List, [], ◌∷◌, Memᴰ, mem-head, mem-tail, mem-not_nil, ◌⊎◌, inl, inr}
use Rattle.exact.proofs.Ground.{◌≡◌, ◌∙◌, sym, ap, refl, subst, ℕ, ◌<◌, ◌+◌, suc, zero, add-one, arith, length, get_or, drop, drop-cons, drop-length}
use Rattle.exact.specs.Lawful.{Lawful}
use Rattle.exact.specs.Lists.{keep}
use Rattle.exact.specs.Fractions.{is_better}
use Rattle.exact.specs.declared.fractions.Verdict.{Verdict}
use Rattle.exact.specs.declared.fractions.Verdict.TheVariants.{Better}
use Rattle.exact.proofs.Tests.{is_true, is_false, all-mem, mem-all}
use Rattle.exact.proofs.Members.{get_or-mem}
use Rattle.best.specs.Best.{Tie, lowest, highest, unbeaten, last_of, pick, preferred, best, IsBest}
use Rattle.best.specs.Kept.{winner, kept}
use Rattle.best.proofs.Ranking.{not-better, better-tests, not-better-tests, ranking, over}

-- ---- only one candidate is what the record says

module _ {A : Type 0} (test : A → Bool) where
  keep-nothing : (xs : List A) → ((x : A) → Memᴰ x xs → test x ≡ false) → keep test xs ≡ []
  keep-nothing [] h = refl
  keep-nothing (x ∷ xs) h = rw (h x (mem-head refl)) (keep-nothing xs (λ y m. h y (mem-tail m)))

  -- of those that pass, the rule picks the one that passes where none does that it prefers
  picked : (t : Tie) (d a : A) (xs : List A) (k : ℕ) → k < length xs → get_or xs k a ≡ a → test a ≡ true →
      ((x : A) → Memᴰ x (preferred t k xs) → test x ≡ false) → pick t d (keep test xs) ≡ a
  picked t d a [] k l e p n = absurd (omega arith)
  picked lowest d a (x ∷ xs) zero l e p n = rw (ap test e ∙ p) e
  picked lowest d a (x ∷ xs) (suc k) l e p n =
      rw (n x (mem-head refl)) (picked lowest d a xs k (omega arith) e p (λ y m. n y (mem-tail m)))
  picked highest d a (x ∷ xs) zero l e p n = rw (ap test e ∙ p, keep-nothing xs n) e
  picked highest d a (x ∷ xs) (suc k) l e p n = go (test x) (λ d. picked highest d a xs k (omega arith) e p n)
    where
      go : (b : Bool) → ((d : A) → last_of d (keep test xs) ≡ a) → last_of d (cond b (x ∷ keep test xs) (keep test xs)) ≡ a
      go true later = later x
      go false later = later d

module _ {A : Type 0} {t : Tie} {c : A → A → Verdict} {xs : List A} {a : A} (B : IsBest t c xs a) where
  pub best-mem : Memᴰ a xs
  best-mem = subst (λ x. Memᴰ x xs) B.there (get_or-mem xs B.place a B.within)

  pub best-unique : (d : A) → best t c d xs ≡ a
  unfolding best
  best-unique d =
      picked (unbeaten c xs) t d a xs B.place B.within B.there
      (is_true (unbeaten c xs a) (mem-all _ xs (λ y m. rw (not-better-tests (B.none-better y m)) tt)))
      (λ x m. is_false (unbeaten c xs x) (λ u. rw (B.beaten x m) at (all-mem _ xs u a best-mem)))

-- ---- a loop keeps the best so far

-- in a list turned round the rules change places
abbrev mirror : Tie → Tie
mirror lowest = highest
mirror highest = lowest

module _ {A : Type 0} (c : A → A → Verdict) where
  -- x wins against y, which stands behind it
  abbrev Before : Tie → A → A → Type 0
  Before lowest x y = ¬ (c y x ≡ Better)
  Before highest x y = c x y ≡ Better

  -- x wins against y, which stands before it
  abbrev Behind : Tie → A → A → Type 0
  Behind t = Before (mirror t)

  -- a wins against all others of the list
  abbrev Wins : Tie → List A → A → Type 0
  Wins t [] a = ⊥
  Wins t (x ∷ xs) a = ((x ≡ a) × ((y : A) → Memᴰ y xs → Before t a y)) ⊎ (Behind t a x × Wins t xs a)

  winner-ind : (t : Tie) (b x : A) (P : A → Type 0) → (Before t b x → P b) → (Behind t x b → P x) → P (winner t c b x)
  winner-ind lowest b x P f g = go (is_better (c x b)) refl
    where
      go : (u : Bool) → is_better (c x b) ≡ u → P (cond u x b)
      go true e = g (better-tests e)
      go false e = f (not-better e)
  winner-ind highest b x P f g = go (is_better (c b x)) refl
    where
      go : (u : Bool) → is_better (c b x) ≡ u → P (cond u b x)
      go true e = f (better-tests e)
      go false e = g (not-better e)

-- of the first of a list, and of the others
cons-all : {A : Type 0} {P : A → Type 0} {x : A} {xs : List A} → P x → ((y : A) → Memᴰ y xs → P y) → (y : A) → Memᴰ y (x ∷ xs) → P y
cons-all {P = P} p h y (mem-head e) = subst P (sym e) p
cons-all {P = P} p h y (mem-tail m) = h y m

module _ {A : Type 0} {Good : A → Type 0} {c : A → A → Verdict} (L : Lawful Good c) where
  before-not : (t : Tie) (a y : A) → Good a → Good y → Before c t a y → ¬ (c y a ≡ Better)
  before-not lowest a y p q h = h
  before-not highest a y p q h = (ranking L).not-both-better a y p q h

  -- a stands behind x and y, and y behind x
  behind-before : (t : Tie) (a x y : A) → Good a → Good x → Good y → Behind c t a x → Before c t x y → Behind c t a y
  behind-before lowest a x y p q r h k = over L a x y p q r h k
  behind-before highest a x y p q r h k = λ e. h (L.trans x y a q r p k e)

  behind-behind : (t : Tie) (a x y : A) → Good a → Good x → Good y → Behind c t a y → Behind c t y x → Behind c t a x
  behind-behind lowest a x y p q r h k = L.trans a y x p r q h k
  behind-behind highest a x y p q r h k = λ e. k (over L x a y q p r e h)

  -- who wins against the winner of two wins against both
  wins-two : (t : Tie) (a b x : A) (xs : List A) → Good a → Good b → Good x → Wins c t (winner t c b x ∷ xs) a → Wins c t (b ∷ x ∷ xs) a
  wins-two t a b x xs p q r = winner-ind c t b x (λ w. Wins c t (w ∷ xs) a → Wins c t (b ∷ x ∷ xs) a) stays goes
    where
      stays : Before c t b x → Wins c t (b ∷ xs) a → Wins c t (b ∷ x ∷ xs) a
      stays h (inl (e, k)) = inl (e, cons-all (subst (λ z. Before c t z x) e h) k)
      stays h (inr (k, W)) = inr (k, inr (behind-before t a b x p q r k h, W))

      goes : Behind c t x b → Wins c t (x ∷ xs) a → Wins c t (b ∷ x ∷ xs) a
      goes h (inl (e, k)) = inr (subst (λ z. Behind c t z b) e h, inl (e, k))
      goes h (inr (k, W)) = inr (behind-behind t a b x p q r k h, inr (k, W))

  kept-wins : (t : Tie) (b : A) (xs : List A) → Good b → ((x : A) → Memᴰ x xs → Good x) → Good (kept t c b xs) × Wins c t (b ∷ xs) (kept t c b xs)
  kept-wins t b [] p g = (p, inl (refl, λ y m. absurd (mem-not_nil m)))
  kept-wins t b (x ∷ xs) p g =
      let q = g x (mem-head refl) in
      let (r, W) = kept-wins t (winner t c b x) xs (winner-ind c t b x Good (λ h. p) (λ h. q)) (λ y m. g y (mem-tail m)) in
      (r, wins-two t (kept t c b (x ∷ xs)) b x xs r p q W)

  wins-best : (t : Tie) (xs : List A) (a : A) → Good a → ((x : A) → Memᴰ x xs → Good x) → Wins c t xs a → IsBest t c xs a
  wins-best t [] a p g W = absurd W
  wins-best t (x ∷ xs) a p g (inl (e, h)) = record {
    place = 0;
    within = omega arith;
    there = e;
    none-better = cons-all (subst (λ z. ¬ (c z a ≡ Better)) (sym e) (λ q. not-better refl (sym (L.same a p) ∙ q)))
        (λ y m. before-not t a y p (g y (mem-tail m)) (h y m));
    beaten = behind-it t h;
  }
    where
      behind-it : (t : Tie) → ((y : A) → Memᴰ y xs → Before c t a y) → (y : A) → Memᴰ y (preferred t 0 (x ∷ xs)) → c a y ≡ Better
      behind-it lowest h y m = absurd (mem-not_nil m)
      behind-it highest h y m = h y m
  wins-best t (x ∷ xs) a p g (inr (h, W)) =
      let B = wins-best t xs a p (λ y m. g y (mem-tail m)) W in
      record {
        place = suc B.place;
        within = omega (arith, B.within);
        there = B.there;
        none-better = cons-all (before-not (mirror t) a x p (g x (mem-head refl)) h) B.none-better;
        beaten = before-it t h B.place B.beaten;
      }
    where
      before-it : (t : Tie) → Behind c t a x → (k : ℕ) → ((y : A) → Memᴰ y (preferred t k xs) → c a y ≡ Better) →
          (y : A) → Memᴰ y (preferred t (suc k) (x ∷ xs)) → c a y ≡ Better
      before-it lowest h k b = cons-all h b
      before-it highest h k b = b

  kept-is : (t : Tie) (d : A) (xs : List A) → ((x : A) → Memᴰ x xs → Good x) → 0 < length xs → IsBest t c xs (kept t c (get_or xs 0 d) (drop 1 xs))
  kept-is t d [] good some = absurd (omega arith)
  kept-is t d (x ∷ xs) good some =
      let (p, W) = kept-wins t x xs (good x (mem-head refl)) (λ y m. good y (mem-tail m)) in
      wins-best t (x ∷ xs) (kept t c x xs) p good W

  module _ (t : Tie) (d : A) (xs : List A) (good : (x : A) → Memᴰ x xs → Good x) (some : 0 < length xs) where
    -- the loop from the first candidate on finds the best
    pub kept-best : best t c d xs ≡ kept t c (get_or xs 0 d) (drop 1 xs)
    kept-best = best-unique (kept-is t d xs good some) d

    pub best-is : IsBest t c xs (best t c d xs)
    best-is = subst (IsBest t c xs) (sym kept-best) (kept-is t d xs good some)

-- ---- the turns of that loop: b is the best of the first i candidates

pub record BestSoFar {A : Type 0} (t : Tie) (c : A → A → Verdict) (d : A) (xs : List A) (b : A) (i : ℕ) : Type 0 where
  pub there : Memᴰ b xs
  pub rest : kept t c b (drop i xs) ≡ best t c d xs

pub so-far-first : {A : Type 0} {Good : A → Type 0} {c : A → A → Verdict} → Lawful Good c → (t : Tie) (d : A) (xs : List A) →
    ((x : A) → Memᴰ x xs → Good x) → 0 < length xs → BestSoFar t c d xs (get_or xs 0 d) 1
so-far-first L t d xs good some = record { there = get_or-mem xs 0 d some; rest = sym (kept-best L t d xs good some) }

module _ {A : Type 0} {t : Tie} {c : A → A → Verdict} {d : A} {xs : List A} {b : A} {i : ℕ} (B : BestSoFar t c d xs b i) where
  pub so-far-next : i < length xs → BestSoFar t c d xs (winner t c b (get_or xs i d)) (i + 1)
  so-far-next h = record {
    there = winner-ind c t b (get_or xs i d) (λ w. Memᴰ w xs) (λ l. B.there) (λ l. get_or-mem xs i d h);
    rest = ap (λ k. kept t c (winner t c b (get_or xs i d)) (drop k xs)) (add-one i) ∙ sym (ap (kept t c b) (drop-cons xs i d h)) ∙ B.rest;
  }

  pub so-far-all : i ≡ length xs → b ≡ best t c d xs
  so-far-all e = sym (ap (kept t c b) (ap (λ k. drop k xs) e ∙ drop-length xs)) ∙ B.rest
