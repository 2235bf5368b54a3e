-- The groups, the links and the answer see only the entries of the runs in column a and in the columns J.
use Rattle.exact.proofs.Ground.{Bool, cond, ◌&&◌, List, [], ◌∷◌, ◌++◌, map, Memᴰ, mem-head, mem-tail, ◌≡◌, ◌∙◌, ap, ap₂, refl, ℕ}
use Rattle.exact.proofs.Ground.{eqb}
use Rattle.exact.specs.Lists.{from, keep, alike}
use Rattle.exact.proofs.Lists.{map-cong-in}
use Rattle.rules.specs.Plan.{Plan, entry}
use Rattle.tell.specs.Evidence.{group_of, renamed, joined, grouped, linked, agree, pairs, left_level, right_level, groups, links, tells}
use Rattle.tell.specs.Evidence.{most_groups, joins_of, evidence}
use Rattle.tell.proofs.Cells.{pairs-in}

module _ {A : Type 0} {p q : A → Bool} where
  keep-cong-in : (xs : List A) → ((x : A) → Memᴰ x xs → p x ≡ q x) → keep p xs ≡ keep q xs
  keep-cong-in [] h = refl
  keep-cong-in (x ∷ xs) h =
      ap₂ (λ b ys. cond b (x ∷ ys) ys) (h x (mem-head refl)) (keep-cong-in xs (λ y m. h y (mem-tail m)))

module _ {E : Type 0} (l r l' r' : E → ℕ) where
  -- the same ends
  abbrev Ends : List E → Type 0
  Ends es = (e : E) → Memᴰ e es → (l e ≡ l' e) × (r e ≡ r' e)

  joined_same : (e : E) (gs : List ℕ) → l e ≡ l' e → r e ≡ r' e → joined l r e gs ≡ joined l' r' e gs
  joined_same e gs c d = ap₂ (λ x y. map (renamed (group_of gs x) (group_of gs y)) gs) c d

  grouped-same : (es : List E) (gs : List ℕ) → Ends es → grouped l r es gs ≡ grouped l' r' es gs
  grouped-same [] gs h = refl
  grouped-same (e ∷ es) gs h =
      let (c, d) = h e (mem-head refl) in
      ap (grouped l r es) (joined_same e gs c d) ∙ grouped-same es (joined l' r' e gs) (λ b m. h b (mem-tail m))

  linked-same : (es : List E) (gs : List ℕ) → Ends es → linked l r es gs ≡ linked l' r' es gs
  linked-same [] gs h = refl
  linked-same (e ∷ es) gs h =
      let (c, d) = h e (mem-head refl) in
      ap₂ (λ b later. cond b later (e ∷ later)) (ap₂ (λ x y. eqb (group_of gs x) (group_of gs y)) c d)
      (ap (linked l r es) (joined_same e gs c d) ∙ linked-same es (joined l' r' e gs) (λ b m. h b (mem-tail m)))

module _ {R C : Type 0} (entry other : R → C → ℕ) (a : C) (J : List C) where
  -- the same entries in column a and in J
  abbrev pub SameEntries : List R → Type 0
  SameEntries rs = (f : R) → Memᴰ f rs → (i : C) → Memᴰ i (a ∷ J) → entry f i ≡ other f i

  agree_same : (K : List C) (f g : R) → ((i : C) → Memᴰ i K → (entry f i ≡ other f i) × (entry g i ≡ other g i)) →
      agree entry K f g ≡ agree other K f g
  agree_same [] f g h = refl
  agree_same (i ∷ K) f g h =
      let (c, d) = h i (mem-head refl) in
      ap₂ (λ x y. x && y) (ap₂ eqb c d) (agree_same K f g (λ k m. h k (mem-tail m)))

  pairs-same : (rs : List R) → SameEntries rs → pairs entry a J rs ≡ pairs other a J rs
  pairs-same [] S = refl
  pairs-same (f ∷ rs) S =
      ap₂ (λ x y. x ++ y)
      (ap (map (λ g. (f, g))) (keep-cong-in rs (λ g m. agree_same J f g (λ i n.
      (S f (mem-head refl) i (mem-tail n), S g (mem-tail m) i (mem-tail n))))))
      (pairs-same rs (λ g m. S g (mem-tail m)))

  module _ (s : ℕ) (rs : List R) (S : SameEntries rs) where
    same_ends : Ends (left_level entry a J) (right_level entry a J) (left_level other a J) (right_level other a J) (pairs other a J rs)
    same_ends e m =
        let I = pairs-in other a J rs e m in
        (S e.0 I.left_in a (mem-head refl), S e.1 I.right-in a (mem-head refl))

    pub groups-shown : groups entry a J s rs ≡ groups other a J s rs
    unfolding groups
    groups-shown =
        ap (λ es. grouped (left_level entry a J) (right_level entry a J) es (from 0 s)) (pairs-same rs S)
        ∙ grouped-same (left_level entry a J) (right_level entry a J) (left_level other a J) (right_level other a J) (pairs other a J rs) (from 0 s) same_ends

    pub links-shown : links entry a J s rs ≡ links other a J s rs
    unfolding links
    links-shown =
        ap (λ es. linked (left_level entry a J) (right_level entry a J) es (from 0 s)) (pairs-same rs S)
        ∙ linked-same (left_level entry a J) (right_level entry a J) (left_level other a J) (right_level other a J) (pairs other a J rs) (from 0 s) same_ends

    pub tells-shown : tells entry a J s rs ≡ tells other a J s rs
    unfolding tells
    tells-shown =
        ap (λ gs. alike (map (λ f. group_of gs (entry f a)) rs)) groups-shown
        ∙ ap alike (map-cong-in rs (λ f m. ap (group_of (groups other a J s rs)) (S f m a (mem-head refl))))

module _ (p q : Plan) (rs : List ℕ) (a : ℕ) (J : List ℕ) (S : SameEntries (entry p) (entry q) a J rs) where
  pub evidence-shown : evidence p rs a J ≡ evidence q rs a J
  unfolding evidence
  evidence-shown = ap₂ joins_of (groups-shown (entry p) (entry q) a J most_groups rs S) (links-shown (entry p) (entry q) a J most_groups rs S)
