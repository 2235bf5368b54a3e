-- What follows of a lawful comparison, and that any chain of lawful comparisons is one.
use Rattle.exact.proofs.Ground.{true, false, List, [], ◌∷◌, Memᴰ, mem-head, mem-tail, ◌⊎◌, inl, inr, ◌≡◌, ◌∙◌, sym, ap, refl}
use Rattle.exact.specs.Lawful.{opposite, Lawful}
use Rattle.exact.specs.Fractions.{then, is_better, is_equal}
use Rattle.exact.specs.declared.fractions.Verdict.{Verdict}
use Rattle.exact.specs.declared.fractions.Verdict.TheVariants.{Better, Worse, Equal}
use Rattle.exact.proofs.Tests.{clash}
use Rattle.best.specs.Ranking.{Ranking, chain}

-- ---- what a test of a verdict tells

pub not-better : {X : Type 0} {v : Verdict} → is_better v ≡ false → v ≡ Better → X
not-better {v = v} q e = clash (is_better v) (ap is_better e) q

not_equal : {X : Type 0} {v : Verdict} → is_equal v ≡ false → v ≡ Equal → X
not_equal {v = v} q e = clash (is_equal v) (ap is_equal e) q

pub better-tests : {v : Verdict} → is_better v ≡ true → v ≡ Better
better-tests {v = Better} e = refl
better-tests {v = Worse} e = clash false e refl
better-tests {v = Equal} e = clash false e refl

pub not-better-tests : {v : Verdict} → ¬ (v ≡ Better) → is_better v ≡ false
not-better-tests {v = Better} n = absurd (n refl)
not-better-tests {v = Worse} n = refl
not-better-tests {v = Equal} n = refl

-- ---- a lawful comparison

module _ {A : Type 0} {Good : A → Type 0} {c : A → A → Verdict} (L : Lawful Good c) where
  one_of : (x y : A) → Good x → Good y → (u : Verdict) → c x y ≡ u → (c x y ≡ Better) ⊎ ((c y x ≡ Better) ⊎ (c x y ≡ Equal))
  one_of x y p q Better e = inl e
  one_of x y p q Worse e = inr (inl (L.turn x y p q ∙ ap opposite e))
  one_of x y p q Equal e = inr (inr e)

  pub ranking : Ranking Good c
  ranking = record {
    better-trans = L.trans;
    one_holds = λ x y p q. one_of x y p q (c x y) refl;
    not-both-better = λ x y p q e f. not-better refl (sym (L.turn x y p q ∙ ap opposite e) ∙ f);
    not-better-equal = λ x y p q e f. not-better refl (sym f ∙ e);
    equal-refl = L.same;
    equal-sym = λ x y p q e. L.turn x y p q ∙ ap opposite e;
    equal-trans = λ x y z p q r e f. L.alike x y z p q r e ∙ f;
  }

  alike_right : (x y z : A) → Good x → Good y → Good z → c y z ≡ Equal → c x z ≡ c x y
  alike_right x y z p q r e = L.turn z x r p ∙ ap opposite (sym (L.alike y z x q r p e)) ∙ sym (L.turn y x q p)

  -- what is better than y is better than what is not better than y
  pub over : (x y z : A) → Good x → Good y → Good z → c x y ≡ Better → ¬ (c z y ≡ Better) → c x z ≡ Better
  over x y z p q r e n = go (c z y) refl
    where
      go : (u : Verdict) → c z y ≡ u → c x z ≡ Better
      go Better d = absurd (n d)
      go Worse d = L.trans x y z p q r e (L.turn z y r q ∙ ap opposite d)
      go Equal d = sym (alike_right x z y p r q d) ∙ e

-- ---- a comparison that looks at a part of each value, and is lawful on the parts

module _ {A B : Type 0} {Fine : B → Type 0} {c : B → B → Verdict} (L : Lawful Fine c) (part : A → B) where
  pub by_part : {Good : A → Type 0} {d : A → A → Verdict} → ((x : A) → Good x → Fine (part x)) →
      ((x y : A) → Good x → Good y → d x y ≡ c (part x) (part y)) → Lawful Good d
  by_part fine agree = record {
    same = λ x p. agree x x p p ∙ L.same (part x) (fine x p);
    turn = λ x y p q. rw (agree y x q p, agree x y p q) (L.turn (part x) (part y) (fine x p) (fine y q));
    trans = λ x y z p q r h k.
        agree x z p r
        ∙ L.trans (part x) (part y) (part z) (fine x p) (fine y q) (fine z r) (sym (agree x y p q) ∙ h) (sym (agree y z q r) ∙ k);
    alike = λ x y z p q r h.
        agree x z p r
        ∙ L.alike (part x) (part y) (part z) (fine x p) (fine y q) (fine z r) (sym (agree x y p q) ∙ h)
        ∙ sym (agree y z q r);
  }

-- ---- one comparison after another

opposite-then : (u v : Verdict) → then (opposite u) (opposite v) ≡ opposite (then u v)
opposite-then Better v = refl
opposite-then Worse v = refl
opposite-then Equal v = refl

both_equal : (u v : Verdict) → then u v ≡ Equal → (u ≡ Equal) × (v ≡ Equal)
both_equal Better v e = not_equal refl e
both_equal Worse v e = not_equal refl e
both_equal Equal v e = (refl, e)

module _ {A : Type 0} {Good : A → Type 0} {c d : A → A → Verdict} (L : Lawful Good c) (M : Lawful Good d) where
  -- by what the first comparison answers
  trans-after : (x y z : A) → Good x → Good y → Good z → (u v : Verdict) → c x y ≡ u → c y z ≡ v →
      then u (d x y) ≡ Better → then v (d y z) ≡ Better → then (c x z) (d x z) ≡ Better
  trans-after x y z p q r Better Better e f h k = rw (L.trans x y z p q r e f)
  trans-after x y z p q r Better Worse e f h k = not-better refl k
  trans-after x y z p q r Better Equal e f h k = rw (alike_right L x y z p q r f, e)
  trans-after x y z p q r Worse v e f h k = not-better refl h
  trans-after x y z p q r Equal Better e f h k = rw (L.alike x y z p q r e, f)
  trans-after x y z p q r Equal Worse e f h k = not-better refl k
  trans-after x y z p q r Equal Equal e f h k = rw (L.alike x y z p q r e, f) (M.trans x y z p q r h k)

  pub after : Lawful Good (λ x y. then (c x y) (d x y))
  after = record {
    same = λ x p. rw (L.same x p) (M.same x p);
    turn = λ x y p q. rw (L.turn x y p q, M.turn x y p q) (opposite-then (c x y) (d x y));
    trans = λ x y z p q r h k. trans-after x y z p q r (c x y) (c y z) refl refl h k;
    alike = λ x y z p q r h. let (e, f) = both_equal (c x y) (d x y) h in rw (L.alike x y z p q r e, M.alike x y z p q r f);
  }

module _ {A : Type 0} where
  pub chain-lawful : {Good : A → Type 0} (cs : List (A → A → Verdict)) → ((c : A → A → Verdict) → Memᴰ c cs → Lawful Good c) → Lawful Good (chain cs)
  chain-lawful [] h = record {
    same = λ x p. refl;
    turn = λ x y p q. refl;
    trans = λ x y z p q r e f. e;
    alike = λ x y z p q r e. refl;
  }
  chain-lawful (c ∷ cs) h = after (h c (mem-head refl)) (chain-lawful cs (λ d m. h d (mem-tail m)))
