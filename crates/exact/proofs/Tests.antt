-- What a test tells, for `&&`, `||` and `all`. (borrow.Author.Tests has the tests on numbers.)
use Rattle.exact.proofs.Ground.{true, false, Bool, not, ◌&&◌, ◌||◌, List, [], ◌∷◌, Memᴰ, mem-head, mem-tail}
use Rattle.exact.proofs.Ground.{mem-not_nil, ◌≡◌, sym, refl, subst, ℕ, T, eqb, eqb→eq, eqb_refl}
use Rattle.exact.specs.Lists.{all}

pub is_true : (b : Bool) → T b → b ≡ true
is_true true h = refl
is_true false h = absurd h

pub is_false : (b : Bool) → ¬ (T b) → b ≡ false
is_false true h = absurd (h tt)
is_false false h = refl

pub true-is : (b : Bool) → b ≡ true → T b
true-is b e = rw e tt

pub false-is : (b : Bool) → b ≡ false → ¬ (T b)
false-is b e t = subst T e t

-- two tests that tell the same are equal
pub iff-eq : (b c : Bool) → (T b → T c) → (T c → T b) → b ≡ c
iff-eq true true f g = refl
iff-eq true false f g = absurd (f tt)
iff-eq false true f g = absurd (g tt)
iff-eq false false f g = refl

pub eqb-sym : (a b : ℕ) → eqb a b ≡ eqb b a
eqb-sym a b = iff-eq (eqb a b) (eqb b a) (λ t. rw (eqb→eq a b t) (eqb_refl b)) (λ t. rw (eqb→eq b a t) (eqb_refl a))

-- ---- and, or

pub both : (a b : Bool) → T (a && b) → T a × T b
both true b t = (tt, t)
both false b t = absurd t

pub join : (a b : Bool) → T a → T b → T (a && b)
join true b p q = q
join false b p q = p

pub neither : (a b : Bool) → (a || b) ≡ false → (a ≡ false) × (b ≡ false)
neither true b e = absurd (subst T e tt)
neither false b e = (refl, e)

pub not-true : (b : Bool) → not b ≡ false → b ≡ true
not-true true e = refl
not-true false e = absurd (subst T e tt)

-- ---- every member passes

module _ {A : Type 0} (test : A → Bool) where
  pub all-mem : (xs : List A) → T (all xs test) → (x : A) → Memᴰ x xs → T (test x)
  all-mem [] t x m = absurd (mem-not_nil m)
  all-mem (y ∷ ys) t x (mem-head e) = subst (λ z. T (test z)) (sym e) (both (test y) (all ys test) t).0
  all-mem (y ∷ ys) t x (mem-tail m) = all-mem ys (both (test y) (all ys test) t).1 x m

  pub mem-all : (xs : List A) → ((x : A) → Memᴰ x xs → T (test x)) → T (all xs test)
  mem-all [] h = tt
  mem-all (y ∷ ys) h = join (test y) (all ys test) (h y (mem-head refl)) (mem-all ys (λ x m. h x (mem-tail m)))

-- a test is not both
pub clash : {X : Type 0} (b : Bool) → b ≡ true → b ≡ false → X
clash b p q = absurd (false-is b q (true-is b p))
