-- The advice taken in turn: what has been lost, and what is left.
use Rattle.exact.proofs.Ground.{not, List, [], ◌∷◌, ◌++◌, ◌≡◌, ◌∙◌, sym, ap, refl, ℕ, ◌≤◌, ◌+◌, suc, zero, add-one, arith, eqb, length, length-append}
use Rattle.best.proofs.Best.{best-mem}
use Rattle.rules.specs.Plan.{Plan}
use Rattle.advice.specs.Advice.{without, advice, in_turn}
use Rattle.advice.specs.Given.{Standing}
use Rattle.advice.proofs.Without.{keep-rising, without-length}
use Rattle.advice.proofs.Largest.{sound-without}
use Rattle.advice.proofs.Optimal.{advice-chosen}

module _ (p : Plan) where
  -- what is left when the advice was taken t times
  abbrev pub left_after : ℕ → List ℕ → List ℕ
  left_after zero rs = rs
  left_after (suc t) rs = left_after t (without (advice p rs) rs)

  left-next : (t : ℕ) (rs : List ℕ) → left_after (suc t) rs ≡ without (advice p (left_after t rs)) (left_after t rs)
  left-next zero rs = refl
  left-next (suc t) rs = left-next t (without (advice p rs) rs)

  lost-next : (t : ℕ) (rs : List ℕ) → in_turn p (suc t) rs ≡ in_turn p t rs ++ advice p (left_after t rs) ∷ []
  unfolding in_turn
  lost-next zero rs = refl
  lost-next (suc t) rs = ap (λ l. advice p rs ∷ l) (lost-next t (without (advice p rs) rs))

  -- the runs but the one advised stand, one fewer
  module _ (rs : List ℕ) (S : Standing p rs) (two : 2 ≤ length rs) where
    one_fewer : length rs ≡ suc (length (without (advice p rs) rs))
    one_fewer = without-length (advice p rs) rs S.rising (best-mem (advice-chosen p rs S.rising two))

    others-stand : Standing p (without (advice p rs) rs)
    others-stand = record {
      sound = sound-without p rs S.sound S.rising (advice p rs) (best-mem (advice-chosen p rs S.rising two));
      rising = keep-rising (λ g. not (eqb g (advice p rs))) rs S.rising;
    }

-- after so many turns as runs are lost, the others are left
pub record Turned (p : Plan) (rs lost left : List ℕ) : Type 0 where
  pub those-lost : lost ≡ in_turn p (length lost) rs
  pub those-left : left ≡ left_after p (length lost) rs
  pub stand : Standing p left
  pub many : length left + length lost ≡ length rs

pub turned-first : {p : Plan} {rs lost left : List ℕ} → Standing p rs → lost ≡ [] → left ≡ rs → Turned p rs lost left
unfolding in_turn
turned-first {p} {rs} {lost} {left} S l e =
    let n : length lost ≡ 0 = ap length l in
    record {
      those-lost = rw l;
      those-left = rw (n, e);
      stand = rw e S;
      many = omega (arith, ap length e);
    }

module _ {p : Plan} {rs lost left : List ℕ} (P : Turned p rs lost left) where
  pub turned-next : {f : ℕ} {lost' left' : List ℕ} → 2 ≤ length left → f ≡ advice p left → lost' ≡ lost ++ f ∷ [] → left' ≡ without f left →
      Turned p rs lost' left'
  turned-next {f} {lost'} {left'} two e l d =
      let t = length lost in
      let a : advice p (left_after p t rs) ≡ f = ap (advice p) (sym P.those-left) ∙ sym e in
      let n : length lost' ≡ suc t = ap length l ∙ length-append lost (f ∷ []) ∙ add-one t in
      let w : left' ≡ without (advice p left) left = d ∙ ap (λ g. without g left) e in
      record {
        those-lost =
            l ∙ ap (λ xs. xs ++ f ∷ []) P.those-lost ∙ ap (λ g. in_turn p t rs ++ g ∷ []) (sym a)
            ∙ sym (ap (λ i. in_turn p i rs) n ∙ lost-next p t rs);
        those-left =
            w ∙ ap (λ ss. without (advice p ss) ss) P.those-left ∙ sym (ap (λ i. left_after p i rs) n ∙ left-next p t rs);
        stand = rw w (others-stand p left P.stand two);
        many = omega (arith, P.many, n, one_fewer p left P.stand two, ap length w);
      }

  pub turned-all : {k : ℕ} → length lost ≡ k → lost ≡ in_turn p k rs
  turned-all e = P.those-lost ∙ ap (λ i. in_turn p i rs) e
