-- Groups of levels, joined by any list of pairs: two levels are in one group exactly where the pairs make them the same.
use Rattle.exact.proofs.Ground.{◌≡◌, refl, sym, ◌∙◌, ap, Bool, true, false, cond, ◌⊎◌, inl, inr, List, [], ◌∷◌, Memᴰ, mem-head}
use Rattle.exact.proofs.Ground.{mem-tail, mem-not_nil, ℕ, ◌≤◌, ◌<◌, min, le_refl, zero-add, dec_le, arith, eqb-true, eqb-false, eqb}
use Rattle.exact.proofs.Ground.{length, length-map}
use Prim.Native.Nat.{max}
use Rattle.exact.specs.Lists.{from}
use Rattle.exact.proofs.Lists.{get_d_map}
use Rattle.exact.proofs.Numbers.{length_from, from_at}
use Rattle.tell.specs.Evidence.{group_of, renamed, joined, grouped}

-- ---- the new name of group k where p and q become one

pub renamed-ind : (p q k : ℕ) (P : ℕ → Type 0) → (k ≡ max p q → P (min p q)) → (¬ (k ≡ max p q) → P k) → P (renamed p q k)
renamed-ind p q k P f g = go (eqb k (max p q)) refl
  where
    go : (b : Bool) → eqb k (max p q) ≡ b → P (cond b (min p q) k)
    go true e = f (eqb-true k (max p q) e)
    go false e = g (eqb-false k (max p q) e)

renamed-one : (p q : ℕ) → renamed p q p ≡ renamed p q q
renamed-one p q =
    renamed-ind p q p (λ z. z ≡ renamed p q q)
    (λ d. renamed-ind p q q (λ z. min p q ≡ z) (λ e. refl) (λ e. omega arith))
    (λ d. renamed-ind p q q (λ z. p ≡ z) (λ e. omega arith) (λ e. absurd (omega arith)))

-- only p and q get one name
renamed-split : (p q k m : ℕ) → renamed p q k ≡ renamed p q m → (k ≡ m) ⊎ (((k ≡ p) × (m ≡ q)) ⊎ ((k ≡ q) × (m ≡ p)))
renamed-split p q k m =
    renamed-ind p q k (λ z. z ≡ renamed p q m → (k ≡ m) ⊎ (((k ≡ p) × (m ≡ q)) ⊎ ((k ≡ q) × (m ≡ p))))
    (λ d. renamed-ind p q m (λ z. min p q ≡ z → (k ≡ m) ⊎ (((k ≡ p) × (m ≡ q)) ⊎ ((k ≡ q) × (m ≡ p))))
    (λ e h. inl (omega arith)) (λ e h. by (dec_le p q) (λ l. (omega arith, omega arith)) (λ l. (omega arith, omega arith))))
    (λ d. renamed-ind p q m (λ z. k ≡ z → (k ≡ m) ⊎ (((k ≡ p) × (m ≡ q)) ⊎ ((k ≡ q) × (m ≡ p))))
    (λ e h. by (dec_le q p) (λ l. (omega arith, omega arith)) (λ l. (omega arith, omega arith))) (λ e h. inl h))
  where
    by : {X : Type 0} → Dec X → (X → ((k ≡ q) × (m ≡ p))) → (¬ X → ((k ≡ p) × (m ≡ q))) → (k ≡ m) ⊎ (((k ≡ p) × (m ≡ q)) ⊎ ((k ≡ q) × (m ≡ p)))
    by (yes l) f g = inr (inr (f l))
    by (no l) f g = inr (inl (g l))

renamed_low : (p q k : ℕ) → renamed p q k ≤ k
renamed_low p q k = renamed-ind p q k (λ z. z ≤ k) (λ d. omega arith) (λ d. omega arith)

-- ---- a name that is a level of its own group, at most each of them

pub record Named (s : ℕ) (gs : List ℕ) : Type 0 where
  pub size : length gs ≡ s
  pub low : (x : ℕ) → x < s → group_of gs x ≤ x
  pub own : (x : ℕ) → x < s → group_of gs (group_of gs x) ≡ group_of gs x

pub record Equivalence (Same : ℕ → ℕ → Type 0) : Type 0 where
  pub start : {x : ℕ} → Same x x
  pub turn : {x y : ℕ} → Same x y → Same y x
  pub via : {x y z : ℕ} → Same x y → Same y z → Same x z

-- at first every level is a group of its own
pub own-group : (s x : ℕ) → x < s → group_of (from 0 s) x ≡ x
own-group s x h = from_at 0 s x 0 h ∙ zero-add x

pub own-groups : (s : ℕ) → Named s (from 0 s)
own-groups s = record {
  size = length_from 0 s;
  low = λ x h. rw (own-group s x h) (le_refl x);
  own = λ x h. ap (group_of (from 0 s)) (own-group s x h);
}

module _ {E : Type 0} (left right : E → ℕ) (s : ℕ) where
  -- both ends of e are among the s levels
  abbrev pub Inside : List E → Type 0
  Inside es = (e : E) → Memᴰ e es → (left e < s) × (right e < s)

  module _ (e : E) (gs : List ℕ) (N : Named s gs) (l : left e < s) (r : right e < s) where
    abbrev pub p : ℕ
    p = group_of gs (left e)

    abbrev pub q : ℕ
    q = group_of gs (right e)

    pub joined_at : (x : ℕ) → x < s → group_of (joined left right e gs) x ≡ renamed p q (group_of gs x)
    joined_at x h = get_d_map (renamed p q) gs x 0 0 (rw N.size h)

    joined-ends : group_of (joined left right e gs) (left e) ≡ group_of (joined left right e gs) (right e)
    joined-ends = joined_at (left e) l ∙ renamed-one p q ∙ sym (joined_at (right e) r)

    joined_keeps : (x y : ℕ) → x < s → y < s → group_of gs x ≡ group_of gs y →
        group_of (joined left right e gs) x ≡ group_of (joined left right e gs) y
    joined_keeps x y h k d = joined_at x h ∙ ap (renamed p q) d ∙ sym (joined_at y k)

    pub lower-own : group_of gs (min p q) ≡ min p q
    lower-own = go (dec_le p q)
      where
        go : Dec (p ≤ q) → group_of gs (min p q) ≡ min p q
        go (yes h) = let d : min p q ≡ p = omega arith in rw d (N.own (left e) l)
        go (no h) = let d : min p q ≡ q = omega arith in rw d (N.own (right e) r)

    joined-own : (k : ℕ) → k < s → group_of gs k ≡ k → group_of (joined left right e gs) (renamed p q k) ≡ renamed p q k
    joined-own k h d =
        renamed-ind p q k (λ z. group_of (joined left right e gs) z ≡ z)
        (λ c. joined_at (min p q) (omega arith) ∙ ap (renamed p q) lower-own
        ∙ renamed-ind p q (min p q) (λ z. z ≡ min p q) (λ b. refl) (λ b. refl))
        (λ c. joined_at k h ∙ ap (renamed p q) d ∙ renamed-ind p q k (λ z. z ≡ k) (λ b. absurd (c b)) (λ b. refl))

    pub joined-named : Named s (joined left right e gs)
    joined-named = record {
      size = length-map gs (renamed p q) ∙ N.size;
      low = λ x h. rw (joined_at x h) (omega (arith, renamed_low p q (group_of gs x), N.low x h));
      own = λ x h. rw (joined_at x h) (joined-own (group_of gs x) (omega (arith, N.low x h)) (N.own x h));
    }

  -- ---- one after the other

  pub grouped-named : (es : List E) (gs : List ℕ) → Inside es → Named s gs → Named s (grouped left right es gs)
  grouped-named [] gs i N = N
  grouped-named (e ∷ es) gs i N =
      let (l, r) = i e (mem-head refl) in
      grouped-named es (joined left right e gs) (λ d m. i d (mem-tail m)) (joined-named e gs N l r)

  -- what was in one group stays in one
  pub grouped-keeps : (es : List E) (gs : List ℕ) → Inside es → Named s gs → (x y : ℕ) → x < s → y < s → group_of gs x ≡ group_of gs y →
      group_of (grouped left right es gs) x ≡ group_of (grouped left right es gs) y
  grouped-keeps [] gs i N x y h k d = d
  grouped-keeps (e ∷ es) gs i N x y h k d =
      let (l, r) = i e (mem-head refl) in
      grouped-keeps es (joined left right e gs) (λ d m. i d (mem-tail m)) (joined-named e gs N l r) x y h k
      (joined_keeps e gs N l r x y h k d)

  -- every pair is joined
  pub grouped-joins : (es : List E) (gs : List ℕ) → Inside es → Named s gs → (e : E) → Memᴰ e es →
      group_of (grouped left right es gs) (left e) ≡ group_of (grouped left right es gs) (right e)
  grouped-joins [] gs i N e m = absurd (mem-not_nil m)
  grouped-joins (d ∷ es) gs i N e (mem-head c) =
      let (l, r) = i d (mem-head refl) in
      rw c (grouped-keeps es (joined left right d gs) (λ b m. i b (mem-tail m)) (joined-named d gs N l r) (left d) (right d) l r
      (joined-ends d gs N l r))
  grouped-joins (d ∷ es) gs i N e (mem-tail m) =
      let (l, r) = i d (mem-head refl) in
      grouped-joins es (joined left right d gs) (λ b m. i b (mem-tail m)) (joined-named d gs N l r) e m

  -- and nothing else: what the pairs and the groups before them have in common, the groups after them have
  module _ (Same : ℕ → ℕ → Type 0) (Q : Equivalence Same) where
    abbrev Alike : List ℕ → Type 0
    Alike gs = (x y : ℕ) → x < s → y < s → group_of gs x ≡ group_of gs y → Same x y

    joined-alike : (e : E) (gs : List ℕ) → Named s gs → left e < s → right e < s → Same (left e) (right e) → Alike gs → Alike (joined left right e gs)
    joined-alike e gs N l r c A x y h k d =
        go (renamed-split (group_of gs (left e)) (group_of gs (right e)) (group_of gs x) (group_of gs y)
        (sym (joined_at e gs N l r x h) ∙ d ∙ joined_at e gs N l r y k))
      where
        go : (group_of gs x ≡ group_of gs y) ⊎ (((group_of gs x ≡ group_of gs (left e)) × (group_of gs y ≡ group_of gs (right e)))
            ⊎ ((group_of gs x ≡ group_of gs (right e)) × (group_of gs y ≡ group_of gs (left e)))) → Same x y
        go (inl b) = A x y h k b
        go (inr (inl b)) = Q.via (A x (left e) h l b.0) (Q.via c (A (right e) y r k (sym b.1)))
        go (inr (inr b)) = Q.via (A x (right e) h r b.0) (Q.via (Q.turn c) (A (left e) y l k (sym b.1)))

    pub grouped-alike : (es : List E) (gs : List ℕ) → Inside es → Named s gs → ((e : E) → Memᴰ e es → Same (left e) (right e)) →
        Alike gs → Alike (grouped left right es gs)
    grouped-alike [] gs i N c A = A
    grouped-alike (e ∷ es) gs i N c A =
        let (l, r) = i e (mem-head refl) in
        grouped-alike es (joined left right e gs) (λ d m. i d (mem-tail m)) (joined-named e gs N l r) (λ d m. c d (mem-tail m))
        (joined-alike e gs N l r (c e (mem-head refl)) A)
