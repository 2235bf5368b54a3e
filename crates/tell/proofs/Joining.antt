-- The walk that keeps the links beside the groups: it has room for each, and ends with the groups and the links of the definition.
use Rattle.exact.proofs.Ground.{true, false, Bool, cond, not, List, [], ◌∷◌, map, ◌++◌, Memᴰ, mem-head, mem-tail, append_assoc}
use Rattle.exact.proofs.Ground.{mem-of_map, append-nil, ◌≡◌, ◌∙◌, sym, ap, refl, subst, ℕ, ◌≤◌, ◌<◌, ◌+◌, suc, ℕ_discrete, add-one, arith, eqb}
use Rattle.exact.proofs.Ground.{drop_of_length-le, length, get_or, drop, set, length-append, length-map, length-set, drop-cons, ne_eqb, eq-eqb}
use Rattle.exact.proofs.Ground.{eqb-true, eqb-false}
use Rattle.exact.specs.Lists.{from, keep, filled_to}
use Rattle.exact.proofs.Members.{get_or-mem, keep-mem}
use Rattle.exact.proofs.Lists.{mem-drop}
use Rattle.exact.proofs.Rooms.{map-++, filled_next}
use Rattle.exact.proofs.Tests.{is_true, true-is, both, not-true}
use Rattle.rules.specs.Plan.{Plan, level, entry}
use Rattle.tell.specs.declared.Joins.{Joins}
use Rattle.tell.specs.Evidence.{agree, group_of, group_count, renamed, joined, grouped, linked, pairs, left_level, right_level, groups, links}
use Rattle.tell.specs.Evidence.{most_groups, joins_of, evidence}
use Rattle.tell.specs.Given.{Asked, Kept, Unjoined, after_pair, joins_groups, after_pairs, after_run}
use Rattle.tell.proofs.Grouping.{renamed-ind, Named, Inside, own-group, own-groups, joined_at, joined-named}
use Rattle.tell.proofs.Links.{map_same, joined-count, count-own, some-group, two-groups}
use Rattle.tell.proofs.Cells.{pairs-in}
use Rattle.tell.proofs.OfPlan.{below-16}

abbrev first : ℕ × ℕ → ℕ
first e = e.0

abbrev second : ℕ × ℕ → ℕ
second e = e.1

kept-named : {j : Joins} → Kept j → Named most_groups j.groups
kept-named k = record { size = k.size; low = k.low; own = k.own }

pub kept-room : (j : Joins) → Kept j → j.many < most_groups
kept-room j k = omega (arith, some-group most_groups j.groups (omega arith) (k.low 0 (omega arith)), k.room)

-- ---- one pair

pub kept-after : (j : Joins) (f g x y : ℕ) → Kept j → x < most_groups → y < most_groups → Kept (after_pair j f g x y)
kept-after j f g x y k hx hy = go (eqb (group_of j.groups x) (group_of j.groups y)) refl
  where
    go : (b : Bool) → eqb (group_of j.groups x) (group_of j.groups y) ≡ b → Kept (cond b j (record {
      groups = map (renamed (group_of j.groups x) (group_of j.groups y)) j.groups;
      left = set j.left j.many f;
      right = set j.right j.many g;
      many = j.many + 1;
    }))
    go true e = k
    go false e =
        let N = joined-named first second most_groups (x, y) j.groups (kept-named k) hx hy in
        record {
          size = N.size;
          left-size = simp length-set k.left-size;
          right-size = simp length-set k.right-size;
          low = N.low;
          own = N.own;
          room = omega (arith, joined-count first second most_groups (x, y) j.groups (kept-named k) hx hy (eqb-false _ _ e), k.room);
        }

pub pair_same : (j : Joins) (f g x y : ℕ) → group_of j.groups x ≡ group_of j.groups y → j ≡ after_pair j f g x y
pair_same j f g x y e = rw (eq-eqb (group_of j.groups x) (group_of j.groups y) e)

pub pair-joins : (j : Joins) (f g x y : ℕ) (names : List ℕ) → ¬ (group_of j.groups x ≡ group_of j.groups y) →
    names ≡ map (renamed (group_of j.groups x) (group_of j.groups y)) j.groups →
    ◌≡◌ {A = Joins} (record { groups = names; left = set j.left j.many f; right = set j.right j.many g; many = j.many + 1 })
    (after_pair j f g x y)
pair-joins j f g x y names n e = rw (ne_eqb (group_of j.groups x) (group_of j.groups y) n, e)

-- a place that no level has stays unjoined
pub unjoined-after : (s : ℕ) (j : Joins) (f g x y : ℕ) → Kept j → s ≤ most_groups → x < s → y < s → Unjoined s j → Unjoined s (after_pair j f g x y)
unjoined-after s j f g x y k h hx hy u z l b = go (eqb (group_of j.groups x) (group_of j.groups y))
  where
    go : (c : Bool) → group_of (cond c j (record {
      groups = map (renamed (group_of j.groups x) (group_of j.groups y)) j.groups;
      left = set j.left j.many f;
      right = set j.right j.many g;
      many = j.many + 1;
    })).groups z ≡ z
    go true = u z l b
    go false =
        joined_at first second most_groups (x, y) j.groups (kept-named k) (omega arith) (omega arith) z b
        ∙ ap (renamed (group_of j.groups x) (group_of j.groups y)) (u z l b)
        ∙ renamed-ind (group_of j.groups x) (group_of j.groups y) z (λ w. w ≡ z)
        (λ e. let p = k.low x (omega arith) in let q = k.low y (omega arith) in absurd (omega arith)) (λ e. refl)

-- ---- a turn: the runs f and g, in one cell or not

-- the groups of levels below s, and the places from s on as they were
abbrev pub Walked : ℕ → Joins → Type 0
Walked s j = Kept j × Unjoined s j

module _ (p : Plan) (a : ℕ) (J : List ℕ) where
  -- after the runs f and g, in one cell or not
  abbrev pub after_turn : ℕ → ℕ → Joins → Joins
  after_turn f g j = cond (agree (entry p) J f g) (after_pair j f g (entry p f a) (entry p g a)) j

module _ (p : Plan) (a : ℕ) (J : List ℕ) (f g : ℕ) where
  walked-turn : (j : Joins) → level p a ≤ most_groups → entry p f a < level p a → entry p g a < level p a → Walked (level p a) j →
      Walked (level p a) (after_turn p a J f g j)
  walked-turn j h l r (K, U) = go (agree (entry p) J f g)
    where
      go : (b : Bool) → Walked (level p a) (cond b (after_pair j f g (entry p f a) (entry p g a)) j)
      go true = (
        kept-after j f g (entry p f a) (entry p g a) K (omega arith) (omega arith),
        unjoined-after (level p a) j f g (entry p f a) (entry p g a) K h l r U,
      )
      go false = (K, U)

  -- runs in one cell with levels of different groups are linked, and others change nothing
  pub turn-links : (j : Joins) (x y : ℕ) → x ≡ entry p f a → y ≡ entry p g a → joins_groups p a J j.groups f g ≡ true →
      after_pair j f g x y ≡ after_turn p a J f g j
  turn-links j x y d c e =
      let differ = not (eqb (group_of j.groups (entry p f a)) (group_of j.groups (entry p g a))) in
      rw (is_true (agree (entry p) J f g) (both (agree (entry p) J f g) differ (true-is _ e)).0, d, c)

  pub turn-passes : (j : Joins) → joins_groups p a J j.groups f g ≡ false → j ≡ after_turn p a J f g j
  turn-passes j e = go (agree (entry p) J f g) refl
    where
      go : (b : Bool) → agree (entry p) J f g ≡ b → j ≡ cond b (after_pair j f g (entry p f a) (entry p g a)) j
      go true d =
          let same = eqb (group_of j.groups (entry p f a)) (group_of j.groups (entry p g a)) in
          pair_same j f g (entry p f a) (entry p g a) (eqb-true _ _ (not-true same (rw d at e)))
      go false d = refl

-- ---- the run f with each later run

module _ (p : Plan) (a : ℕ) (J : List ℕ) (f : ℕ) (rs : List ℕ) where
  pub run_none : (k : ℕ) (j : Joins) → length rs ≤ k → after_run p a J f (drop k rs) j ≡ j
  run_none k j h = rw (drop_of_length-le rs h)

  run-go : (b : Bool) (k g : ℕ) (j : Joins) → after_pairs p a J
      (map (λ g. (f, g)) (cond b (g ∷ keep (agree (entry p) J f) (drop (suc k) rs)) (keep (agree (entry p) J f) (drop (suc k) rs)))) j
      ≡ after_run p a J f (drop (suc k) rs) (cond b (after_pair j f g (entry p f a) (entry p g a)) j)
  run-go true k g j = refl
  run-go false k g j = refl

  pub run-next : (k : ℕ) (j : Joins) → k < length rs →
      after_run p a J f (drop k rs) j ≡ after_run p a J f (drop (k + 1) rs) (after_turn p a J f (get_or rs k 0) j)
  run-next k j h = rw (add-one, drop-cons rs k 0 h) (run-go (agree (entry p) J f (get_or rs k 0)) k (get_or rs k 0) j)

-- ---- once all levels are joined no pair joins any more

module _ (s : ℕ) (j : Joins) (K : Kept j) (U : Unjoined s j) (fits : s ≤ most_groups) (full : suc j.many ≡ s) where
  one-group : (x : ℕ) → x < s → group_of j.groups x ≡ 0
  one-group x h = go (ℕ_discrete (group_of j.groups x) 0)
    where
      go : Dec (group_of j.groups x ≡ 0) → group_of j.groups x ≡ 0
      go (yes e) = e
      go (no n) =
          let low = K.low x (omega arith) in
          absurd (omega (
            arith,
            K.room,
            two-groups most_groups s j.groups fits (K.low 0 (omega arith)) (group_of j.groups x)
                (omega arith) (omega arith) (K.own x (omega arith)) U,
          ))

  pairs-full : (p : Plan) (a : ℕ) (J : List ℕ) (es : List (ℕ × ℕ)) → Inside (left_level (entry p) a J) (right_level (entry p) a J) s es →
      after_pairs p a J es j ≡ j
  pairs-full p a J [] i = refl
  pairs-full p a J (e ∷ es) i =
      let (l, r) = i e (mem-head refl) in
      ap (after_pairs p a J es) (sym (pair_same j e.0 e.1 (entry p e.0 a) (entry p e.1 a)
      (one-group (entry p e.0 a) l ∙ sym (one-group (entry p e.1 a) r))))
      ∙ pairs-full p a J es (λ b m. i b (mem-tail m))

-- ---- each run

module _ (p : Plan) (a : ℕ) (J : List ℕ) where
  after-++ : (xs ys : List (ℕ × ℕ)) (j : Joins) → after_pairs p a J (xs ++ ys) j ≡ after_pairs p a J ys (after_pairs p a J xs j)
  after-++ [] ys j = refl
  after-++ (x ∷ xs) ys j = after-++ xs ys (after_pair j x.0 x.1 (left_level (entry p) a J x) (right_level (entry p) a J x))

  -- the rooms after one link more
  room_next : (gs : List ℕ) (ls : List (ℕ × ℕ)) (f g : ℕ) → length ls < most_groups →
      ◌≡◌ {A = Joins} (record {
        groups = gs;
        left = set (filled_to most_groups 0 (map first ls)) (length ls) f;
        right = set (filled_to most_groups 0 (map second ls)) (length ls) g;
        many = length ls + 1;
      }) (joins_of gs (ls ++ (f, g) ∷ []))
  room_next gs ls f g h = λ i. record { groups = gs; left = one first i; right = one second i; many = sym (length-append ls ((f, g) ∷ [])) i }
    where
      one : (t : ℕ × ℕ → ℕ) → set (filled_to most_groups 0 (map t ls)) (length ls) (t (f, g)) ≡ filled_to most_groups 0 (map t (ls ++ (f, g) ∷ []))
      one t =
          ap (λ k. set (filled_to most_groups 0 (map t ls)) k (t (f, g))) (sym (length-map ls t))
          ∙ filled_next most_groups 0 (map t ls) (t (f, g)) (rw (length-map ls t) h)
          ∙ ap (filled_to most_groups 0) (sym (map-++ t ls ((f, g) ∷ [])))

  -- the walk ends with the groups and the links
  joins-of : (es : List (ℕ × ℕ)) (gs : List ℕ) (ls : List (ℕ × ℕ)) →
      Inside (left_level (entry p) a J) (right_level (entry p) a J) most_groups es → Named most_groups gs → length ls + group_count most_groups gs ≡ most_groups →
      after_pairs p a J es (joins_of gs ls)
      ≡ joins_of (grouped (left_level (entry p) a J) (right_level (entry p) a J) es gs) (ls ++ linked (left_level (entry p) a J) (right_level (entry p) a J) es gs)
  joins-of [] gs ls i N c = ap (joins_of gs) (sym (append-nil ls))
  joins-of (e ∷ es) gs ls i N c =
      let (l, r) = i e (mem-head refl) in
      go (eqb (group_of gs (x e)) (group_of gs (y e))) refl l r
      (λ ks d. joins-of es (next e gs) ks (λ b m. i b (mem-tail m)) (joined-named x y most_groups e gs N l r) d)
    where
      x : ℕ × ℕ → ℕ
      x = left_level (entry p) a J

      y : ℕ × ℕ → ℕ
      y = right_level (entry p) a J

      next : ℕ × ℕ → List ℕ → List ℕ
      next e gs = joined x y e gs

      later : List (ℕ × ℕ)
      later = linked x y es (next e gs)

      go : (b : Bool) → eqb (group_of gs (x e)) (group_of gs (y e)) ≡ b → x e < most_groups → y e < most_groups →
          ((ks : List (ℕ × ℕ)) → length ks + group_count most_groups (next e gs) ≡ most_groups →
          after_pairs p a J es (joins_of (next e gs) ks) ≡ joins_of (grouped x y es (next e gs)) (ks ++ linked x y es (next e gs))) →
          after_pairs p a J es (cond b (joins_of gs ls) (record {
            groups = next e gs;
            left = set (filled_to most_groups 0 (map first ls)) (length ls) e.0;
            right = set (filled_to most_groups 0 (map second ls)) (length ls) e.1;
            many = length ls + 1;
          })) ≡ joins_of (grouped x y es (next e gs)) (ls ++ cond b later (e ∷ later))
      go true q l r ih =
          let same : next e gs ≡ gs = map_same (group_of gs (x e)) (group_of gs (y e)) gs (eqb-true _ _ q) in
          ap (λ z. after_pairs p a J es (joins_of z ls)) (sym same) ∙ ih ls (ap (λ z. length ls + group_count most_groups z) same ∙ c)
      go false q l r ih =
          let fewer = joined-count x y most_groups e gs N l r (eqb-false _ _ q) in
          ap (after_pairs p a J es) (room_next (next e gs) ls e.0 e.1 (omega (arith, fewer)))
          ∙ ih (ls ++ e ∷ []) (simp length-append (omega (arith, fewer)))
          ∙ ap (joins_of (grouped x y es (next e gs))) (append_assoc ls (e ∷ []) later)

-- at first every level is a group, and there is no link
abbrev pub no_joins : Joins
no_joins = joins_of (from 0 most_groups) []

kept-none : Kept no_joins
kept-none = let N = own-groups most_groups in record {
  size = N.size;
  left-size = refl;
  right-size = refl;
  low = N.low;
  own = N.own;
  room = omega (arith, count-own most_groups);
}

pub walked_none : (s : ℕ) → Walked s no_joins
walked_none s = (kept-none, λ x l h. own-group most_groups x h)

module _ (p : Plan) (a : ℕ) (J : List ℕ) (rs : List ℕ) where
  -- what is left to do from run k on
  abbrev pub joins_from : ℕ → Joins → Joins
  joins_from k j = after_pairs p a J (pairs (entry p) a J (drop k rs)) j

  pub joins-all : Asked p rs a J → joins_from 0 no_joins ≡ evidence p rs a J
  unfolding evidence groups links
  joins-all A =
      joins-of p a J (pairs (entry p) a J rs) (from 0 most_groups) []
      (λ e m. let I = pairs-in (entry p) a J rs e m in (below-16 p rs a J A e.0 I.left_in, below-16 p rs a J A e.1 I.right-in))
      (own-groups most_groups) (omega (arith, count-own most_groups))

  pub joins-none : (k : ℕ) (j : Joins) → length rs ≤ k → joins_from k j ≡ j
  joins-none k j h = rw (drop_of_length-le rs h)

  pub joins-turn : (k : ℕ) (j : Joins) → k < length rs → joins_from k j ≡ joins_from (k + 1) (after_run p a J (get_or rs k 0) (drop (k + 1) rs) j)
  joins-turn k j h =
      rw (add-one, drop-cons rs k 0 h)
      (after-++ p a J (map (λ g. (get_or rs k 0, g)) (keep (agree (entry p) J (get_or rs k 0)) (drop (suc k) rs))) (pairs (entry p) a J (drop (suc k) rs)) j)

  module _ (A : Asked p rs a J) where
    level-fits : level p a ≤ most_groups
    level-fits = A.sound.level-high a A.column

    below : (f : ℕ) → Memᴰ f rs → entry p f a < level p a
    below f m = A.sound.below f m a A.column

    -- the pairs of run k with the runs from i on
    own-pairs : (k i : ℕ) → k < length rs → Inside (left_level (entry p) a J) (right_level (entry p) a J) (level p a)
        (map (λ g. (get_or rs k 0, g)) (keep (agree (entry p) J (get_or rs k 0)) (drop i rs)))
    own-pairs k i h e m =
        let (g, n, d) = mem-of_map (λ g. (get_or rs k 0, g)) (keep (agree (entry p) J (get_or rs k 0)) (drop i rs)) m in
        subst (λ e. (entry p e.0 a < level p a) × (entry p e.1 a < level p a)) d (
          below (get_or rs k 0) (get_or-mem rs k 0 h),
          below g (mem-drop i rs g (keep-mem (agree (entry p) J (get_or rs k 0)) (drop i rs) g n)),
        )

    -- a run's turn keeps the rooms
    walked_all : (es : List (ℕ × ℕ)) (j : Joins) → Inside (left_level (entry p) a J) (right_level (entry p) a J) (level p a) es →
        Walked (level p a) j → Walked (level p a) (after_pairs p a J es j)
    walked_all [] j i W = W
    walked_all (e ∷ es) j i (K, U) =
        let (l, r) = i e (mem-head refl) in
        let fits = level-fits in
        walked_all es (after_pair j e.0 e.1 (entry p e.0 a) (entry p e.1 a)) (λ b m. i b (mem-tail m)) (
          kept-after j e.0 e.1 (entry p e.0 a) (entry p e.1 a) K (omega arith) (omega arith),
          unjoined-after (level p a) j e.0 e.1 (entry p e.0 a) (entry p e.1 a) K fits l r U,
        )

    pub walked-run : (k : ℕ) (j : Joins) → k < length rs → Walked (level p a) j →
        Walked (level p a) (after_run p a J (get_or rs k 0) (drop (k + 1) rs) j)
    walked-run k j h W =
        walked_all (map (λ g. (get_or rs k 0, g)) (keep (agree (entry p) J (get_or rs k 0)) (drop (k + 1) rs))) j (own-pairs k (k + 1) h) W

    pub walked-two : (i k : ℕ) (j : Joins) → i < length rs → k < length rs → Walked (level p a) j →
        Walked (level p a) (after_turn p a J (get_or rs i 0) (get_or rs k 0) j)
    walked-two i k j h l =
        walked-turn p a J (get_or rs i 0) (get_or rs k 0) j level-fits (below (get_or rs i 0) (get_or-mem rs i 0 h)) (below (get_or rs k 0) (get_or-mem rs k 0 l))

    -- where all levels are joined the rest changes nothing: of a run's turn, and of all runs
    pub run-full : (i k : ℕ) (j : Joins) → i < length rs → Walked (level p a) j → suc j.many ≡ level p a →
        after_run p a J (get_or rs i 0) (drop k rs) j ≡ j
    run-full i k j h (K, U) full =
        pairs-full (level p a) j K U level-fits full p a J (map (λ g. (get_or rs i 0, g)) (keep (agree (entry p) J (get_or rs i 0)) (drop k rs)))
        (own-pairs i k h)

    pub joins-full : (k : ℕ) (j : Joins) → Walked (level p a) j → suc j.many ≡ level p a → joins_from k j ≡ j
    joins-full k j (K, U) full =
        pairs-full (level p a) j K U level-fits full p a J (pairs (entry p) a J (drop k rs)) (λ e m.
        let I = pairs-in (entry p) a J (drop k rs) e m in
        (below e.0 (mem-drop k rs e.0 I.left_in), below e.1 (mem-drop k rs e.1 I.right-in)))
