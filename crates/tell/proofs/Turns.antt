-- What the routines ask of one another, and a turn of the last loop.
use Rattle.exact.proofs.Ground.{◌≡◌, sym, ◌∙◌, ap, ap₂, Bool, true, false, ◌&&◌, List, [], ◌∷◌, map, Memᴰ, mem-head, mem-tail}
use Rattle.exact.proofs.Ground.{mem-of_singleton, mem-not_nil, ℕ, ◌+◌, ◌≤◌, ◌<◌, arith, eq-eqb, ne_eqb, eqb, length, get_or, drop}
use Rattle.exact.proofs.Ground.{length-map, refl}
use Rattle.exact.specs.Lists.{all, alike}
use Rattle.exact.proofs.Members.{get_or-mem}
use Rattle.exact.proofs.Lists.{get_d_map}
use Rattle.rules.specs.Plan.{Plan, entry}
use Rattle.plan.specs.Good.{Sound}
use Rattle.words.proofs.OfPlan.{sound-run, sound-some}
use Rattle.counts.proofs.Turns.{all-next, all-passed}
use Rattle.tell.specs.Evidence.{group_of, agree, tells, evidence, most_groups}
use Rattle.tell.specs.declared.Joins.{Joins}
use Rattle.tell.specs.Given.{Asked, joins_groups}

module _ (p : Plan) (rs : List ℕ) (a : ℕ) (J : List ℕ) (A : Asked p rs a J) where
  -- for one of the runs
  pub asked-run : (k : ℕ) → k < length rs → Asked p (get_or rs k 0 ∷ []) a []
  asked-run k h = record {
    sound = sound-run p rs A.sound (get_or rs k 0) (get_or-mem rs k 0 h);
    column = A.column;
    others = λ i m. absurd (mem-not_nil m);
  }

  sound-two : (k j : ℕ) → k < length rs → j < length rs → Sound p (get_or rs k 0 ∷ get_or rs j 0 ∷ [])
  sound-two k j h l = sound-some p rs A.sound (get_or rs k 0 ∷ get_or rs j 0 ∷ []) (omega arith) (λ g m. two g m)
    where
      two : (g : ℕ) → Memᴰ g (get_or rs k 0 ∷ get_or rs j 0 ∷ []) → Memᴰ g rs
      two g (mem-head e) = rw e (get_or-mem rs k 0 h)
      two g (mem-tail m) = rw (mem-of_singleton m) (get_or-mem rs j 0 l)

  -- for two of them, with the others
  pub asked-two : (k j : ℕ) → k < length rs → j < length rs → Asked p (get_or rs k 0 ∷ get_or rs j 0 ∷ []) a J
  asked-two k j h l = record { sound = sound-two k j h l; column = A.column; others = A.others }

-- ---- whether two runs are linked

module _ (p : Plan) (a : ℕ) (J : List ℕ) (f g : ℕ) (names : List ℕ) (x y : ℕ) (d : x ≡ entry p f a) (c : y ≡ entry p g a) where
  pub same-group : group_of names x ≡ group_of names y → false ≡ joins_groups p a J names f g
  same-group e = rw (← d, ← c, eq-eqb (group_of names x) (group_of names y) e) (go (agree (entry p) J f g))
    where
      go : (b : Bool) → false ≡ (b && false)
      go true = refl
      go false = refl

  pub other-group : ¬ (group_of names x ≡ group_of names y) → agree (entry p) J f g ≡ joins_groups p a J names f g
  other-group n = rw (← d, ← c, ne_eqb (group_of names x) (group_of names y) n) (go (agree (entry p) J f g))
    where
      go : (b : Bool) → b ≡ (b && true)
      go true = refl
      go false = refl

-- ---- whether they are in one group

-- the others are compared with the first
alike-rest : (xs : List ℕ) → all (drop 1 xs) (λ y. eqb (get_or xs 0 0) y) ≡ alike xs
alike-rest [] = refl
alike-rest (x ∷ xs) = refl

module _ (p : Plan) (a : ℕ) (rs : List ℕ) (names : List ℕ) where
  -- the groups of the levels that the runs have
  abbrev pub found : List ℕ
  found = map (λ f. group_of names (entry p f a)) rs

  -- what is left to compare with the first
  abbrev pub alike_from : ℕ → Bool
  alike_from k = all (drop k found) (λ y. eqb (get_or found 0 0) y)

  length_found : length found ≡ length rs
  length_found = length-map rs (λ f. group_of names (entry p f a))

  pub alike_all : alike_from 1 ≡ alike found
  alike_all = alike-rest found

  pub alike-none : (k : ℕ) → length rs ≤ k → alike_from k ≡ true
  alike-none k h = all-passed (λ y. eqb (get_or found 0 0) y) found k (rw length_found h)

  found_at : (k : ℕ) → k < length rs → get_or found k 0 ≡ group_of names (entry p (get_or rs k 0) a)
  found_at k h = get_d_map (λ f. group_of names (entry p f a)) rs k 0 0 h

  module _ (x y k : ℕ) (d : x ≡ entry p (get_or rs 0 0) a) (c : y ≡ entry p (get_or rs k 0) a) (h : k < length rs) where
    next : alike_from k ≡ (eqb (get_or names x 0) (get_or names y 0) && alike_from (k + 1))
    next =
        all-next (λ y. eqb (get_or found 0 0) y) found k 0 (rw length_found h)
        ∙ ap₂ (λ u v. eqb u v && alike_from (k + 1)) (found_at 0 (omega arith) ∙ sym (ap (group_of names) d)) (found_at k h ∙ sym (ap (group_of names) c))

    pub alike_same : get_or names y 0 ≡ get_or names x 0 → alike_from k ≡ alike_from (k + 1)
    alike_same q = next ∙ ap (λ b. b && alike_from (k + 1)) (eq-eqb (get_or names x 0) (get_or names y 0) (sym q))

    pub alike-differs : ¬ (get_or names y 0 ≡ get_or names x 0) → alike_from k ≡ false
    alike-differs q = next ∙ ap (λ b. b && alike_from (k + 1)) (ne_eqb (get_or names x 0) (get_or names y 0) (λ z. q (sym z)))

module _ (p : Plan) (a : ℕ) (J : List ℕ) (rs : List ℕ) where
  -- the answer, from the groups that the walk found
  pub evidence-tells : (j : Joins) → j ≡ evidence p rs a J → alike (map (λ f. group_of j.groups (entry p f a)) rs) ≡ tells (entry p) a J most_groups rs
  unfolding evidence tells
  evidence-tells j e = ap (λ j. alike (map (λ f. group_of j.groups (entry p f a)) rs)) e
