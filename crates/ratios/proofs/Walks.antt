-- The walk by the recursion of `choose`: the sets with the first column come first, then those without it.
use Rattle.exact.proofs.Ground.{true, false, Bool, cond, List, [], ◌∷◌, map, ◌++◌, Memᴰ, mem-head, mem-tail, mem-not_nil}
use Rattle.exact.proofs.Ground.{append_assoc, mem-of_map, append-nil, mem-append_left, mem-append_right, mem-map, ◌≡◌, ◌∙◌, sym, ap, refl, subst}
use Rattle.exact.proofs.Ground.{ℕ, ◌≤◌, ◌<◌, ◌-◌, ◌+◌, suc, zero, add-one, arith, length, get_or, take, drop, take_at, take-suc}
use mathlib.Core.List.{map-append}
use Rattle.exact.specs.Lists.{holds, keep}
use Rattle.exact.specs.Fractions.{ShortDenominator, zero_fraction}
use Rattle.exact.specs.declared.fractions.Fraction.{Fraction}
use Rattle.exact.proofs.Lists.{keep-++}
use Rattle.exact.proofs.Members.{get_or-mem}
use Rattle.exact.proofs.Rooms.{map-++}
use Rattle.rules.specs.Plan.{Plan, level, entry}
use Rattle.sets.specs.Sets.{binom, choose}
use Rattle.sets.proofs.Parts.{choose-part}
use Rattle.sets.proofs.Pascal.{length-choose, binom-above}
use Rattle.counts.specs.Numbered.{most_numbers, number_of}
use Rattle.parts.specs.Parts.{NoneShorter, OnlyWord}
use Rattle.counts.proofs.Turns.{number_small}
use Rattle.parts.proofs.OnlyWord.{few-combinations, chosen-only}
use Rattle.set_words.specs.Given.{Projection, Tabled}
use Rattle.set_words.specs.SetWords.{relative_of}
use Rattle.set_words.proofs.SetWords.{counted-columns}
use Rattle.set_words.proofs.Values.{value-short}
use Rattle.ratios.specs.Ratios.{greater, greatest, ratios_of}
use Rattle.ratios.specs.declared.Ratios.{Ratios}
use Rattle.ratios.proofs.Greatest.{greatest-none, greatest-snoc, greater-of}
use Rattle.ratios.specs.Given.{with_ratio, further, ShortRatios, Walking}
use Rattle.set_words.proofs.Products.{within-projection}

-- ---- the sets, by the first column

module _ (p : Plan) (rs : List ℕ) (c : ℕ) where
  pub further-++ : (x : Ratios) (Is Js : List (List ℕ)) → further p rs c x (Is ++ Js) ≡ further p rs c (further p rs c x Is) Js
  further-++ x [] Js = refl
  further-++ x (I ∷ Is) Js = further-++ (with_ratio x (relative_of (level p) (entry p) rs I) (holds c I)) Is Js

  module _ (P : List ℕ) (x : Ratios) where
    pub further-none : (rest : List ℕ) (left : ℕ) → length rest < left → further p rs c x (map (λ I. P ++ I) (choose left rest)) ≡ x
    further-none rest left h = go (choose left rest) (length-choose left rest ∙ binom-above (length rest) left h)
      where
        go : (Js : List (List ℕ)) → length Js ≡ 0 → further p rs c x (map (λ I. P ++ I) Js) ≡ x
        go [] e = refl
        go (J ∷ Js) e = absurd (omega arith)

    pub further-step : (i : ℕ) (rest : List ℕ) (j : ℕ) →
        further p rs c x (map (λ I. P ++ I) (choose (suc j) (i ∷ rest)))
        ≡ further p rs c (further p rs c x (map (λ I. (P ++ i ∷ []) ++ I) (choose j rest))) (map (λ I. P ++ I) (choose (suc j) rest))
    further-step i rest j =
        ap (further p rs c x)
        (map-++ (λ I. P ++ I) (map (λ I. i ∷ I) (choose j rest)) (choose (suc j) rest)
        ∙ ap (λ l. l ++ map (λ I. P ++ I) (choose (suc j) rest)) (with (choose j rest)))
        ∙ further-++ x (map (λ I. (P ++ i ∷ []) ++ I) (choose j rest)) (map (λ I. P ++ I) (choose (suc j) rest))
      where
        with : (Js : List (List ℕ)) → map (λ I. P ++ I) (map (λ I. i ∷ I) Js) ≡ map (λ I. (P ++ i ∷ []) ++ I) Js
        with [] = refl
        with (J ∷ Js) = rw (append_assoc P (i ∷ []) J, with Js)

-- ---- what the walk is given, with the first column and without it

module _ (p : Plan) (rs P : List ℕ) (i : ℕ) (rest : List ℕ) (j : ℕ) (W : Walking p rs P (i ∷ rest) (suc j)) where
  first-mem : (I : List ℕ) → Memᴰ I (choose j rest) → Memᴰ (i ∷ I) (choose (suc j) (i ∷ rest))
  first-mem I m = mem-append_left (choose (suc j) rest) (mem-map (λ I. i ∷ I) m)

  pub walking-with : Walking p rs (P ++ i ∷ []) rest j
  walking-with = record {
    tabled = W.tabled;
    inside = λ k m. W.inside k (mem-tail m);
    each = λ I m. rw (append_assoc P (i ∷ []) I) (W.each (i ∷ I) (first-mem I m));
  }

  pub walking-without : Walking p rs P rest (suc j)
  walking-without = record {
    tabled = W.tabled;
    inside = λ k m. W.inside k (mem-tail m);
    each = λ I m. W.each I (mem-append_right (map (λ I. i ∷ I) (choose j rest)) m);
  }

  -- no number with the digit is past the combinations: some set begins with these columns
  pub digit-small : j ≤ length rest → (k : ℕ) → k < length rs → number_of (level p) (entry p) (get_or rs k 0) (P ++ i ∷ []) < most_numbers
  digit-small h k l =
      let I = get_or (choose j rest) 0 [] in
      let J = (P ++ i ∷ []) ++ I in
      let (K, O) = walking-with.each I (get_or-mem (choose j rest) 0 [] (rw (length-choose j rest) (some (length rest) j h))) in
      let f = get_or rs k 0 in
      let S = W.tabled.sound in
      let e : take (length (P ++ i ∷ [])) J ≡ P ++ i ∷ [] = take_at (P ++ i ∷ []) I (length (P ++ i ∷ [])) refl in
      omega (
        arith,
        rw e at (number_small (level p) (entry p) f J (length (P ++ i ∷ [])) (λ q m. S.below f (get_or-mem rs k 0 l) q (K.inside q m))),
        few-combinations p rs J S (counted-columns p rs J S K) O,
        S.few,
      )
    where
      some : (n j : ℕ) → j ≤ n → 0 < binom n j
      some n zero h = omega arith
      some zero (suc j) h = absurd (omega arith)
      some (suc n) (suc j) h = omega (arith, some n j (omega arith))

-- ---- the ratios stay short

pub with-short : (x : Ratios) (r : Fraction) (b : Bool) → ShortRatios x → ShortDenominator r → ShortRatios (with_ratio x r b)
with-short x r b S s = record { largest = greater-of ShortDenominator x.largest r S.largest s; held = go b }
  where
    go : (b : Bool) → ShortDenominator (cond b (greater x.held r) x.held)
    go true = greater-of ShortDenominator x.held r S.held s
    go false = S.held

module _ (p : Plan) (rs : List ℕ) (c : ℕ) (G : Tabled p rs) where
  more-short : (x : Ratios) (Js : List (List ℕ)) → ShortRatios x → ((I : List ℕ) → Memᴰ I Js → Projection p I × (1 ≤ length I)) →
      ShortRatios (further p rs c x Js)
  more-short x [] S h = S
  more-short x (J ∷ Js) S h =
      let (K, l) = h J (mem-head refl) in
      let r = relative_of (level p) (entry p) rs J in
      more-short (with_ratio x r (holds c J)) Js (with-short x r (holds c J) S (value-short p rs J G K l true)) (λ I m. h I (mem-tail m))

pub further-short : (p : Plan) (rs P rest : List ℕ) (left c : ℕ) (x : Ratios) → Walking p rs P rest left → ShortRatios x →
    ShortRatios (further p rs c x (map (λ I. P ++ I) (choose left rest)))
further-short p rs P rest left c x W S =
    more-short p rs c W.tabled x (map (λ I. P ++ I) (choose left rest)) S
    (λ J m.
    let (I, n, e) = mem-of_map (λ I. P ++ I) (choose left rest) m in
    subst (λ J. Projection p J × (1 ≤ length J)) e ((W.each I n).0, (W.each I n).1.columns))

-- ---- the whole walk

module _ (p : Plan) (rs : List ℕ) (i : ℕ) where
  abbrev value : List ℕ → Fraction
  value I = relative_of (level p) (entry p) rs I

  value-snoc : (Js : List (List ℕ)) (I : List ℕ) → greatest (map value (Js ++ I ∷ [])) ≡ greater (greatest (map value Js)) (value I)
  value-snoc Js I = ap greatest (map-append value Js (I ∷ [])) ∙ greatest-snoc (map value Js) (value I)

  ratios-snoc : (Js : List (List ℕ)) (I : List ℕ) → with_ratio (ratios_of p rs Js i) (relative_of (level p) (entry p) rs I) (holds i I) ≡ ratios_of p rs (Js ++ I ∷ []) i
  unfolding ratios_of
  ratios-snoc Js I = rw (value-snoc Js I, keep-++ (holds i) Js (I ∷ [])) (go (holds i I))
    where
      K : List (List ℕ)
      K = keep (holds i) Js

      x : Fraction
      x = greater (greatest (map value Js)) (value I)

      go : (b : Bool) → ◌≡◌ {A = Ratios}
          (record { largest = x; held = cond b (greater (greatest (map value K)) (value I)) (greatest (map value K)) })
          (record { largest = x; held = greatest (map value (K ++ cond b (I ∷ []) [])) })
      go true = rw (value-snoc K I)
      go false = rw (append-nil K)

  ratios-++ : (Js Ks : List (List ℕ)) → further p rs i (ratios_of p rs Js i) Ks ≡ ratios_of p rs (Js ++ Ks) i
  ratios-++ Js [] = rw (append-nil Js)
  ratios-++ Js (I ∷ Ks) = rw (ratios-snoc Js I) (ratios-++ (Js ++ I ∷ []) Ks ∙ ap (λ l. ratios_of p rs l i) (append_assoc Js (I ∷ []) Ks))

  -- from nothing taken and nothing seen
  pub further-all : (x : Ratios) (Js : List (List ℕ)) → x ≡ ratios_of p rs [] i → further p rs i x (map (λ I. [] ++ I) Js) ≡ ratios_of p rs Js i
  further-all x Js e = rw (e, same Js) (ratios-++ [] Js)
    where
      same : (Js : List (List ℕ)) → map (λ I. [] ++ I) Js ≡ Js
      same [] = refl
      same (J ∷ Js) = ap (λ l. J ∷ l) (same Js)

-- before any set the ratios are 0/1
pub none-taken : (p : Plan) (rs : List ℕ) (i : ℕ) → ◌≡◌ {A = Ratios} (record { largest = zero_fraction; held = zero_fraction }) (ratios_of p rs [] i)
unfolding ratios_of
none-taken p rs i = rw (sym greatest-none)

module _ (p : Plan) (rs cols : List ℕ) (G : Tabled p rs) (K : Projection p cols) (f : ℕ) (some : 1 ≤ f) where
  pub set-projection : (I : List ℕ) → Memᴰ I (choose f cols) → Projection p I × (1 ≤ length I)
  set-projection I m = let (part, e) = choose-part f cols I m in (within-projection p G.sound.level-low part K, rw e some)

  -- where no word is shorter, a set has no other word
  pub set-only : NoneShorter (level p) (entry p) rs cols f → (I : List ℕ) → Memᴰ I (choose f cols) → OnlyWord p rs I
  set-only none I m = record {
    runs = G.some;
    columns = (set-projection I m).1;
    none-shorter = chosen-only (level p) (entry p) rs cols
        (λ i n. (G.sound.level-low i (K.inside i n), λ f m. G.sound.below f m i (K.inside i n))) f none I m;
  }

pub walking_start : (p : Plan) (rs cols : List ℕ) → Tabled p rs → Projection p cols → (f : ℕ) → 1 ≤ f →
    NoneShorter (level p) (entry p) rs cols f → Walking p rs [] cols f
walking_start p rs cols G K f some none = record {
  tabled = G;
  inside = K.inside;
  each = λ I m. ((set-projection p rs cols G K f some I m).0, set-only p rs cols G K f some none I m);
}

-- ---- in the words of the code: the first of the columns left, and those behind it

module _ (p : Plan) (rs P : List ℕ) where
  pub step-with : (rest : List ℕ) (left : ℕ) → 0 < left → left ≤ length rest → Walking p rs P rest left →
      Walking p rs (P ++ get_or rest 0 0 ∷ []) (drop 1 rest) (left - 1)
  step-with rest zero some h W = absurd (omega arith)
  step-with [] (suc j) some h W = absurd (omega arith)
  step-with (i ∷ rest) (suc j) some h W = let e : suc j - 1 ≡ j = omega arith in rw e (walking-with p rs P i rest j W)

  pub step-without : (rest : List ℕ) (left : ℕ) → 0 < left → left ≤ length rest → Walking p rs P rest left → Walking p rs P (drop 1 rest) left
  step-without rest zero some h W = absurd (omega arith)
  step-without [] (suc j) some h W = absurd (omega arith)
  step-without (i ∷ rest) (suc j) some h W = walking-without p rs P i rest j W

  pub step_small : (rest : List ℕ) (left : ℕ) → 0 < left → left ≤ length rest → Walking p rs P rest left → (k : ℕ) → k < length rs →
      number_of (level p) (entry p) (get_or rs k 0) (P ++ get_or rest 0 0 ∷ []) < most_numbers
  step_small rest zero some h W = absurd (omega arith)
  step_small [] (suc j) some h W = absurd (omega arith)
  step_small (i ∷ rest) (suc j) some h W = digit-small p rs P i rest j W (omega arith)

  pub step-further : (c : ℕ) (x : Ratios) (rest : List ℕ) (left : ℕ) → 0 < left → left ≤ length rest →
      further p rs c (further p rs c x (map (λ I. (P ++ get_or rest 0 0 ∷ []) ++ I) (choose (left - 1) (drop 1 rest))))
      (map (λ I. P ++ I) (choose left (drop 1 rest)))
      ≡ further p rs c x (map (λ I. P ++ I) (choose left rest))
  step-further c x rest zero some h = absurd (omega arith)
  step-further c x [] (suc j) some h = absurd (omega arith)
  step-further c x (i ∷ rest) (suc j) some h = let e : suc j - 1 ≡ j = omega arith in rw e (sym (further-step p rs c P x i rest j))

-- the same walk, of the same columns
pub walking-as : (p : Plan) (rs : List ℕ) {P P' rest rest' : List ℕ} (left : ℕ) → P ≡ P' → rest ≡ rest' → Walking p rs P' rest' left → Walking p rs P rest left
walking-as p rs left a b W = rw (a, b) W

pub further-as : (p : Plan) (rs : List ℕ) (c : ℕ) (x : Ratios) {P P' rest rest' : List ℕ} (left : ℕ) → P ≡ P' → rest ≡ rest' →
    further p rs c x (map (λ I. P ++ I) (choose left rest)) ≡ further p rs c x (map (λ I. P' ++ I) (choose left rest'))
further-as p rs c x left a b = rw (a, b)

-- ---- one column is left to take

module _ (p : Plan) (rs P : List ℕ) where
  -- the sets that have one column more, of those before place k
  abbrev pub ending : List ℕ → List (List ℕ)
  ending rest = map (λ i. P ++ i ∷ []) rest

  pub ending-all : (rest : List ℕ) → ending rest ≡ map (λ I. P ++ I) (choose 1 rest)
  ending-all [] = refl
  ending-all (i ∷ rest) = ap (λ l. (P ++ i ∷ []) ∷ l) (ending-all rest)

  module _ (rest : List ℕ) (k : ℕ) (h : k < length rest) where
    abbrev pub ended : List ℕ
    ended = P ++ get_or rest k 0 ∷ []

    pub ending-next : (c : ℕ) (x : Ratios) →
        further p rs c x (ending (take (k + 1) rest))
        ≡ with_ratio (further p rs c x (ending (take k rest))) (relative_of (level p) (entry p) rs ended) (holds c ended)
    ending-next c x =
        ap (λ l. further p rs c x (ending l)) (ap (λ j. take j rest) (add-one k) ∙ take-suc rest k 0 h)
        ∙ ap (further p rs c x) (map-++ (λ i. P ++ i ∷ []) (take k rest) (get_or rest k 0 ∷ []))
        ∙ further-++ p rs c x (ending (take k rest)) (ended ∷ [])

    one-mem : (rest : List ℕ) (i : ℕ) → Memᴰ i rest → Memᴰ (i ∷ []) (choose 1 rest)
    one-mem [] i m = absurd (mem-not_nil m)
    one-mem (j ∷ rest) i (mem-head e) = mem-head (ap (λ i. i ∷ []) e)
    one-mem (j ∷ rest) i (mem-tail m) = mem-tail (one-mem rest i m)

    pub ending-each : Walking p rs P rest 1 → Projection p ended × OnlyWord p rs ended
    ending-each W = W.each (get_or rest k 0 ∷ []) (one-mem rest (get_or rest k 0) (get_or-mem rest k 0 h))

    pub ending-short : Walking p rs P rest 1 → ShortDenominator (relative_of (level p) (entry p) rs ended)
    ending-short W = let (K, O) = ending-each W in value-short p rs ended W.tabled K O.columns true
