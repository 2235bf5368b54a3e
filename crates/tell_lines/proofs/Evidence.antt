-- The groups and links that the routine answers: its pairs lie in the plan, and its lines are those of the definition.
use Rattle.exact.proofs.Ground.{List, [], ◌∷◌, map, Memᴰ, mem-not_nil, ◌≡◌, ◌∙◌, sym, ap, ap₂, ℕ, ◌≤◌, ◌<◌, arith, length, get_or}
use Rattle.exact.proofs.Ground.{length-map, get_or-take}
use Rattle.exact.specs.Lists.{from, each, filled_to}
use Rattle.exact.proofs.Lists.{get_d_map}
use Rattle.exact.proofs.Members.{get_or-mem}
use Rattle.exact.proofs.Numbers.{map-places, mem-from}
use Rattle.exact.proofs.Rooms.{filled-length, filled-front}
use Rattle.rules.specs.Plan.{Plan, entry}
use Rattle.words.proofs.OfPlan.{sound-run}
use Rattle.lines.proofs.Lines.{each-cong-in, each_map}
use Rattle.tell.specs.declared.Joins.{Joins}
use Rattle.tell.specs.Given.{Asked}
use Rattle.tell.specs.Evidence.{links, most_groups, evidence}
use Rattle.tell.proofs.Cells.{PairIn}
use Rattle.tell.proofs.Links.{links-in, links-few}
use Rattle.tell_lines.specs.TellLines.{pair_line, pair_lines}
use Rattle.tell_lines.specs.Parts.{pair_line_at, pair_lines_of, Linked}

-- what stands in front of a row that is filled up
filled_at : (n : ℕ) (xs : List ℕ) (k : ℕ) → k < length xs → get_or (filled_to n 0 xs) k 0 ≡ get_or xs k 0
filled_at n xs k h = sym (get_or-take (length xs) (filled_to n 0 xs) k 0 h) ∙ ap (λ l. get_or l k 0) (filled-front n 0 xs)

module _ (p : Plan) (rs : List ℕ) (a : ℕ) (J : List ℕ) (A : Asked p rs a J) where
  abbrev pairs : List (ℕ × ℕ)
  pairs = links (entry p) a J most_groups rs

  below-groups : (f : ℕ) → Memᴰ f rs → entry p f a < most_groups
  below-groups f n = omega (arith, A.sound.below f n a A.column, A.sound.level-high a A.column)

  few-pairs : length pairs ≤ most_groups
  few-pairs = let h = links-few (entry p) rs a J most_groups below-groups (omega arith) in omega arith

  -- both runs of a pair are among those asked about
  pair-in : (k : ℕ) → k < length pairs → PairIn (entry p) a J rs (get_or pairs k (0, 0))
  pair-in k l = links-in (entry p) rs a J most_groups below-groups (get_or pairs k (0, 0)) (get_or-mem pairs k (0, 0) l)

  one-asked : (f : ℕ) → Memᴰ f rs → Asked p (f ∷ []) a []
  one-asked f m = record { sound = sound-run p rs A.sound f m; column = A.column; others = λ i n. absurd (mem-not_nil n) }

  module _ {j : Joins} (e : j ≡ evidence p rs a J) where
    left_at : (k : ℕ) → k < length pairs → get_or j.left k 0 ≡ (get_or pairs k (0, 0)).0
    unfolding evidence
    left_at k h =
        rw e (filled_at most_groups (map (λ e. e.0) pairs) k (rw (length-map pairs (λ e. e.0)) h) ∙ get_d_map (λ e. e.0) pairs k (0, 0) 0 h)

    right-at : (k : ℕ) → k < length pairs → get_or j.right k 0 ≡ (get_or pairs k (0, 0)).1
    unfolding evidence
    right-at k h =
        rw e (filled_at most_groups (map (λ e. e.1) pairs) k (rw (length-map pairs (λ e. e.1)) h) ∙ get_d_map (λ e. e.1) pairs k (0, 0) 0 h)

    many_is : j.many ≡ length pairs
    unfolding evidence
    many_is = rw e

    left-long : length j.left ≡ most_groups
    unfolding evidence
    left-long = rw e (filled-length most_groups 0 (map (λ e. e.0) pairs) (rw (length-map pairs (λ e. e.0)) few-pairs))

    right-long : length j.right ≡ most_groups
    unfolding evidence
    right-long = rw e (filled-length most_groups 0 (map (λ e. e.1) pairs) (rw (length-map pairs (λ e. e.1)) few-pairs))

    pub linked : Linked p a j
    linked = record {
      few = rw many_is few-pairs;
      left-size = left-long;
      right-size = right-long;
      left-run = λ k h.
          let l : k < length pairs = omega (arith, many_is) in
          rw (left_at k l) (one-asked (get_or pairs k (0, 0)).0 (pair-in k l).left_in);
      right-run = λ k h.
          let l : k < length pairs = omega (arith, many_is) in
          rw (right-at k l) (one-asked (get_or pairs k (0, 0)).1 (pair-in k l).right-in);
    }

    pub pair-lines : pair_lines_of p a j ≡ pair_lines p rs a J
    pair-lines =
        ap (λ n. each (from 0 n) (pair_line_at p a j.left j.right)) many_is
        ∙ each-cong-in (from 0 (length pairs)) (λ k m.
        let h : k < length pairs = let q = mem-from 0 (length pairs) m in omega arith in
        ap₂ (λ f g. pair_line p rs a J (f, g)) (left_at k h) (right-at k h))
        ∙ sym (each_map (λ k. get_or pairs k (0, 0)) (pair_line p rs a J) (from 0 (length pairs)))
        ∙ ap (λ l. each l (pair_line p rs a J)) (map-places pairs (0, 0))
