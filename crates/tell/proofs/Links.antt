-- The evidence for yes: the pairs that joined two groups are enough to find the groups, and there is one less for each group than levels.
use Prim.Native.Nat.{max}
use Rattle.exact.proofs.Ground.{true, false, Bool, cond, List, [], ◌∷◌, map, ◌++◌, Memᴰ, mem-head, mem-tail, ◌⊎◌, inl, inr, ◌≡◌, ◌∙◌}
use Rattle.exact.proofs.Ground.{sym, ap, refl, ap₂, ℕ, ◌≤◌, ◌<◌, ◌-◌, ◌+◌, suc, zero, zero-le, min, dec_le, zero-add, eq-or-lt_of_le, arith, eqb}
use Rattle.exact.proofs.Ground.{eqb→eq, length, ne_eqb, eq-eqb, eqb-true, eqb-false}
use Rattle.exact.specs.Lists.{from, count}
use Rattle.exact.proofs.Tests.{iff-eq, true-is}
use Rattle.exact.proofs.Numbers.{from-mem, from-add}
use Rattle.tell.specs.Evidence.{group_of, group_count, renamed, joined, grouped, linked, pairs, left_level, right_level, groups, links}
use Rattle.tell.proofs.Grouping.{renamed-ind, Named, Inside, own-group, own-groups, joined_at, joined-named, lower-own}
use Rattle.tell.proofs.Cells.{counted, PairIn, pairs-in}
use Rattle.tell.proofs.Telling.{groups-named}

-- ---- counts over numbers in a row

count_same : (test test' : ℕ → Bool) (a n : ℕ) → ((x : ℕ) → a ≤ x → x < a + n → test x ≡ test' x) → count test (from a n) ≡ count test' (from a n)
count_same test test' a zero h = refl
count_same test test' a (suc n) h =
    ap₂ (λ b k. cond b (suc k) k) (h a (omega arith) (omega arith)) (count_same test test' (suc a) n (λ x l k. h x (omega arith) (omega arith)))

-- one number passes the one test and not the other
count_less : (test test' : ℕ → Bool) (m : ℕ) → test m ≡ true → test' m ≡ false → (a n : ℕ) → a ≤ m → m < a + n →
    ((x : ℕ) → a ≤ x → x < a + n → ¬ (x ≡ m) → test x ≡ test' x) → count test (from a n) ≡ suc (count test' (from a n))
count_less test test' m e d a zero l h s = absurd (omega arith)
count_less test test' m e d a (suc n) l h s =
    go (eq-or-lt_of_le l) (λ k. count_less test test' m e d (suc a) n k (omega arith) (λ x b k c. s x (omega arith) (omega arith) c))
  where
    under : (b : Bool) (j k : ℕ) → j ≡ suc k → cond b (suc j) j ≡ suc (cond b (suc k) k)
    under true j k q = ap suc q
    under false j k q = q

    go : (a ≡ m) ⊎ (a < m) → (suc a ≤ m → count test (from (suc a) n) ≡ suc (count test' (from (suc a) n))) →
        count test (from a (suc n)) ≡ suc (count test' (from a (suc n)))
    go (inl q) later =
        rw (ap test q ∙ e, ap test' q ∙ d) (ap suc (count_same test test' (suc a) n (λ x b k. s x (omega arith) (omega arith) (omega arith))))
    go (inr k) later =
        rw (s a (omega arith) (omega arith) (omega arith)) (under (test' a) (count test (from (suc a) n)) (count test' (from (suc a) n)) (later k))

count-every : (test : ℕ → Bool) (a n : ℕ) → ((x : ℕ) → a ≤ x → x < a + n → test x ≡ true) → count test (from a n) ≡ n
count-every test a zero h = refl
count-every test a (suc n) h = rw (h a (omega arith) (omega arith)) (ap suc (count-every test (suc a) n (λ x l k. h x (omega arith) (omega arith))))

count-++ : (test : ℕ → Bool) (xs ys : List ℕ) → count test (xs ++ ys) ≡ count test xs + count test ys
count-++ test [] ys = sym (zero-add (count test ys))
count-++ test (x ∷ xs) ys = go (test x) (count-++ test xs ys)
  where
    go : (b : Bool) → count test (xs ++ ys) ≡ count test xs + count test ys →
        cond b (suc (count test (xs ++ ys))) (count test (xs ++ ys)) ≡ cond b (suc (count test xs)) (count test xs) + count test ys
    go true e = omega arith
    go false e = e

-- ---- the groups, by their lowest levels

same_test : (m n x : ℕ) → (m ≡ x → n ≡ x) → (n ≡ x → m ≡ x) → eqb m x ≡ eqb n x
same_test m n x f g =
    iff-eq (eqb m x) (eqb n x) (λ t. true-is _ (eq-eqb n x (f (eqb→eq m x t)))) (λ t. true-is _ (eq-eqb m x (g (eqb→eq n x t))))

renamed-same : (p k : ℕ) → renamed p p k ≡ k
renamed-same p k = renamed-ind p p k (λ z. z ≡ k) (λ e. omega arith) (λ e. refl)

pub map_same : (p q : ℕ) (gs : List ℕ) → p ≡ q → map (renamed p q) gs ≡ gs
map_same p q [] e = refl
map_same p q (k ∷ gs) e = ap₂ (λ x xs. x ∷ xs) (ap (λ z. renamed p z k) (sym e) ∙ renamed-same p k) (map_same p q gs e)

module _ {E : Type 0} (left right : E → ℕ) (s : ℕ) where
  module _ (e : E) (gs : List ℕ) (N : Named s gs) (l : left e < s) (r : right e < s)
      (n : ¬ (group_of gs (left e) ≡ group_of gs (right e))) where
    abbrev pub p : ℕ
    p = group_of gs (left e)

    abbrev pub q : ℕ
    q = group_of gs (right e)

    upper-own : group_of gs (max p q) ≡ max p q
    upper-own = go (dec_le p q)
      where
        go : Dec (p ≤ q) → group_of gs (max p q) ≡ max p q
        go (yes h) = let d : max p q ≡ q = omega arith in rw d (N.own (right e) r)
        go (no h) = let d : max p q ≡ p = omega arith in rw d (N.own (left e) l)

    upper-below : max p q < s
    upper-below = omega (arith, N.low (left e) l, N.low (right e) r)

    new : (x : ℕ) → x < s → group_of (joined left right e gs) x ≡ renamed p q (group_of gs x)
    new = joined_at left right s e gs N l r

    -- the upper of the two names a group no longer, and every other name stays
    upper-lost : ¬ (group_of (joined left right e gs) (max p q) ≡ max p q)
    upper-lost c =
        let d : renamed p q (max p q) ≡ max p q = sym (new (max p q) upper-below ∙ ap (renamed p q) upper-own) ∙ c in
        renamed-ind p q (max p q) (λ z. z ≡ max p q → ⊥) (λ b h. n (omega arith)) (λ b h. b refl) d

    others-stay : (x : ℕ) → x < s → ¬ (x ≡ max p q) → eqb (group_of gs x) x ≡ eqb (group_of (joined left right e gs) x) x
    others-stay x h o =
        same_test (group_of gs x) (group_of (joined left right e gs) x) x
        (λ c. new x h ∙ renamed-ind p q (group_of gs x) (λ z. z ≡ x) (λ b. absurd (o (sym c ∙ b))) (λ b. c))
        (λ c. renamed-ind p q (group_of gs x) (λ z. z ≡ x → group_of gs x ≡ x)
        (λ b d. absurd (n (let k : min p q ≡ max p q = sym (lower-own left right s e gs N l r) ∙ ap (group_of gs) d ∙ b in omega arith)))
        (λ b d. d) (sym (new x h) ∙ c))

    pub joined-count : group_count s gs ≡ suc (group_count s (joined left right e gs))
    unfolding group_count
    joined-count =
        count_less (λ x. eqb (group_of gs x) x) (λ x. eqb (group_of (joined left right e gs) x) x) (max p q)
        (eq-eqb (group_of gs (max p q)) (max p q) upper-own) (ne_eqb (group_of (joined left right e gs) (max p q)) (max p q) upper-lost)
        0 s zero-le (let h = upper-below in omega arith) (λ x a h o. others-stay x (omega arith) o)

  -- a pair that joins is a pair
  pub linked-in : (es : List E) (gs : List ℕ) (e : E) → Memᴰ e (linked left right es gs) → Memᴰ e es
  linked-in [] gs e m = m
  linked-in (d ∷ es) gs e m = go (eqb (group_of gs (left d)) (group_of gs (right d))) (linked-in es (joined left right d gs) e) m
    where
      later : List E
      later = linked left right es (joined left right d gs)

      go : (b : Bool) → (Memᴰ e later → Memᴰ e es) → Memᴰ e (cond b later (d ∷ later)) → Memᴰ e (d ∷ es)
      go true h n = mem-tail (h n)
      go false h (mem-head c) = mem-head c
      go false h (mem-tail n) = mem-tail (h n)

  -- the pairs that join give the groups that all pairs give
  pub linked-enough : (es : List E) (gs : List ℕ) → grouped left right (linked left right es gs) gs ≡ grouped left right es gs
  linked-enough [] gs = refl
  linked-enough (e ∷ es) gs = go (eqb (group_of gs (left e)) (group_of gs (right e))) refl (linked-enough es (joined left right e gs))
    where
      next : List ℕ
      next = joined left right e gs

      later : List E
      later = linked left right es next

      go : (b : Bool) → eqb (group_of gs (left e)) (group_of gs (right e)) ≡ b → grouped left right later next ≡ grouped left right es next →
          grouped left right (cond b later (e ∷ later)) gs ≡ grouped left right es next
      go true c h = ap (grouped left right later) (sym (map_same (group_of gs (left e)) (group_of gs (right e)) gs (eqb-true _ _ c))) ∙ h
      go false c h = h

  -- each makes one group less
  pub linked-count : (es : List E) (gs : List ℕ) → Inside left right s es → Named s gs →
      length (linked left right es gs) + group_count s (grouped left right es gs) ≡ group_count s gs
  linked-count [] gs i N = omega arith
  linked-count (e ∷ es) gs i N =
      let (l, r) = i e (mem-head refl) in
      go (eqb (group_of gs (left e)) (group_of gs (right e))) refl l r
      (linked-count es (joined left right e gs) (λ d m. i d (mem-tail m)) (joined-named left right s e gs N l r))
    where
      next : List ℕ
      next = joined left right e gs

      later : List E
      later = linked left right es next

      go : (b : Bool) → eqb (group_of gs (left e)) (group_of gs (right e)) ≡ b → left e < s → right e < s →
          length later + group_count s (grouped left right es next) ≡ group_count s next →
          length (cond b later (e ∷ later)) + group_count s (grouped left right es next) ≡ group_count s gs
      go true c l r h = h ∙ ap (group_count s) (map_same (group_of gs (left e)) (group_of gs (right e)) gs (eqb-true _ _ c))
      go false c l r h = omega (arith, joined-count e gs N l r (eqb-false _ _ c))

-- at first every level is a group
pub count-own : (s : ℕ) → group_count s (from 0 s) ≡ s
unfolding group_count
count-own s = count-every (λ x. eqb (group_of (from 0 s) x) x) 0 s (λ x l h. eq-eqb (group_of (from 0 s) x) x (own-group s x (omega arith)))

-- level 0 always names a group
pub some-group : (s : ℕ) (gs : List ℕ) → 0 < s → group_of gs 0 ≤ 0 → 0 < group_count s gs
unfolding group_count
some-group s gs h l =
    counted (λ x. eqb (group_of gs x) x) 0 (from 0 s) (from-mem 0 0 s zero-le (omega arith)) (eq-eqb (group_of gs 0) 0 (omega arith))

-- level 0 names a group; where another level below s names one too, and each from s on, there are more than n - s + 1
pub two-groups : (n s : ℕ) (gs : List ℕ) → s ≤ n → group_of gs 0 ≤ 0 → (y : ℕ) → 0 < y → y < s → group_of gs y ≡ y →
    ((x : ℕ) → s ≤ x → x < n → group_of gs x ≡ x) → 2 + (n - s) ≤ group_count n gs
unfolding group_count
two-groups n zero gs h l y a b e u = absurd (omega arith)
two-groups n (suc r) gs h l y a b e u =
    let test : ℕ → Bool = λ x. eqb (group_of gs x) x in
    let parts : count test (from 0 n) ≡ count test (0 ∷ from 1 r) + count test (from (suc r) (n - suc r))
    = ap (λ k. count test (from 0 k)) (let q : n ≡ suc r + (n - suc r) = omega arith in q)
    ∙ ap (count test) (from-add 0 (suc r) (n - suc r)) ∙ count-++ test (0 ∷ from 1 r) (from (0 + suc r) (n - suc r))
    ∙ ap (λ k. count test (0 ∷ from 1 r) + count test (from k (n - suc r))) (zero-add (suc r)) in
    let first : count test (0 ∷ from 1 r) ≡ suc (count test (from 1 r)) = rw (eq-eqb (group_of gs 0) 0 (omega arith)) in
    let more = counted test y (from 1 r) (from-mem y 1 r (omega arith) (omega arith)) (eq-eqb (group_of gs y) y e) in
    let all = count-every test (suc r) (n - suc r) (λ x c d. eq-eqb (group_of gs x) x (u x c (omega arith))) in
    omega arith

-- ---- of the runs

module _ {R C : Type 0} (entry : R → C → ℕ) (rs : List R) (a : C) (J : List C) (s : ℕ)
    (below : (f : R) → Memᴰ f rs → entry f a < s) where
  -- each link is a pair of the runs, in one cell
  pub links-in : (e : R × R) → Memᴰ e (links entry a J s rs) → PairIn entry a J rs e
  unfolding links
  links-in e m = pairs-in entry a J rs e (linked-in (left_level entry a J) (right_level entry a J) s (pairs entry a J rs) (from 0 s) e m)

  -- whoever joins the levels of the links finds the groups
  pub links-enough : grouped (left_level entry a J) (right_level entry a J) (links entry a J s rs) (from 0 s) ≡ groups entry a J s rs
  unfolding links groups
  links-enough = linked-enough (left_level entry a J) (right_level entry a J) s (pairs entry a J rs) (from 0 s)

  -- links and groups are as many as levels
  pub links-count : length (links entry a J s rs) + group_count s (groups entry a J s rs) ≡ s
  unfolding links groups
  links-count =
      linked-count (left_level entry a J) (right_level entry a J) s (pairs entry a J rs) (from 0 s)
      (λ e m. let I = pairs-in entry a J rs e m in (below e.0 I.left_in, below e.1 I.right-in)) (own-groups s) ∙ count-own s

  -- so there are fewer links than levels
  pub links-few : 0 < s → length (links entry a J s rs) < s
  links-few h = omega (arith, links-count, some-group s (groups entry a J s rs) h ((groups-named entry rs a J s below).low 0 h))
