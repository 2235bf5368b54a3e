-- `part_sums::counters::tally` meets its contract: from the last number down, four in a turn.
use Rattle.exact.proofs.Ground.{List, ◌≡◌, ◌∙◌, sym, ap, refl, ℕ, ◌≤◌, ◌<◌, ◌-◌, ◌+◌, arith, length, drop, drop-length}
use Rattle.part_sums.specs.Counters.{counters_of, Numbers}
use Rattle.part_sums.proofs.Counting.{counters-as, counted-long, numbers_as}
use Rattle.part_sums.proofs.counters.tally.Statement.{statement}
use Rattle.part_sums.proofs.counters.tally.Tie as tie

abbrev invariant-loop-k : tie.invariant-loop-k
invariant-loop-k numbers counters₀ k₀ counters k = (k ≤ length numbers) × (counters ≡ counters_of (length counters₀) (drop k numbers))

abbrev decreases-loop-k : tie.decreases-loop-k
decreases-loop-k numbers counters₀ k₀ counters k = k

loop-holds : tie.Need-loop-k-init invariant-loop-k decreases-loop-k
loop-holds c =
    let s = c in
    (omega arith, s.requires.1 ∙ ap (counters_of (length s.args.counters.now)) (sym (drop-length s.args.numbers.now)))

module _ (l : tie.At-loop-k invariant-loop-k decreases-loop-k) where
  abbrev s : tie.Start invariant-loop-k decreases-loop-k
  s = l.before.before.before

  abbrev xs : List ℕ
  xs = s.args.numbers.now

  abbrev n : ℕ
  n = length s.args.counters.now

  -- what counting the number at place k - i rules, of counters C of the numbers behind it
  ready : (C : List ℕ) (j i : ℕ) → j ≡ i + 1 → j ≤ length xs → C ≡ counters_of n (drop j xs) →
      (Numbers (length C) xs × (i < length xs)) × (C ≡ counters_of (length C) (drop (i + 1) xs))
  ready C j i a h e =
      let long = counted-long C (drop j xs) n e in
      ((numbers_as (length C) n xs long s.requires.0, omega arith), counters-as C xs j (i + 1) n a long e)

  -- and what it gives
  counted : (C D : List ℕ) (j i : ℕ) → C ≡ counters_of n (drop j xs) → D ≡ counters_of (length C) (drop i xs) → D ≡ counters_of n (drop i xs)
  counted C D j i e d = d ∙ ap (λ n. counters_of n (drop i xs)) (counted-long C (drop j xs) n e)

sub-count-one : tie.Need-overflow_sub-k invariant-loop-k decreases-loop-k
sub-count-one c = omega arith

count-one-requires : tie.Need-count_one-requires invariant-loop-k decreases-loop-k
count-one-requires c κs =
    let l = c.before.before in
    ready l l.loop-k.counters l.loop-k.k (l.loop-k.k - 1) (omega arith) l.loop-k.invariant.0 l.loop-k.invariant.1

counted-1 : (c : tie.After-count_one invariant-loop-k decreases-loop-k) → let l = c.before.before.before in c.count_one.new.counters ≡ counters_of (n l) (drop (l.loop-k.k - 1) (xs l))
counted-1 c = let l = c.before.before.before in counted l l.loop-k.counters c.count_one.new.counters l.loop-k.k (l.loop-k.k - 1) l.loop-k.invariant.1 c.count_one.ensures

sub-count-one-2 : tie.Need-overflow_sub-k-in-loop-k invariant-loop-k decreases-loop-k
sub-count-one-2 c = omega arith

count-one-requires-2 : tie.Need-count_one-requires-in-loop-k invariant-loop-k decreases-loop-k
count-one-requires-2 c κs =
    let d = c.before.before.before in
    let l = d.before.before.before in
    ready l d.count_one.new.counters (l.loop-k.k - 1) (l.loop-k.k - 2) (omega arith) (omega (arith, l.loop-k.invariant.0)) (counted-1 d)

counted-2 : (c : tie.After-count_one-in-loop-k invariant-loop-k decreases-loop-k) → let l = c.before.before.before.before.before.before.before in c.count_one-in-loop-k.new.counters ≡ counters_of (n l) (drop (l.loop-k.k - 2) (xs l))
counted-2 c = let l = c.before.before.before.before.before.before.before in counted l c.count_one.new.counters c.count_one-in-loop-k.new.counters (l.loop-k.k - 1) (l.loop-k.k - 2) (counted-1 c.before.before.before.before) c.count_one-in-loop-k.ensures

sub-count-one-3 : tie.Need-overflow_sub-k-in-loop-k-2 invariant-loop-k decreases-loop-k
sub-count-one-3 c = omega arith

count-one-requires-3 : tie.Need-count_one-requires-in-loop-k-2 invariant-loop-k decreases-loop-k
count-one-requires-3 c κs =
    let d = c.before.before.before in
    let l = d.before.before.before.before.before.before.before in
    ready l d.count_one-in-loop-k.new.counters (l.loop-k.k - 2) (l.loop-k.k - 3) (omega arith) (omega (arith, l.loop-k.invariant.0)) (counted-2 d)

counted-3 : (c : tie.After-count_one-in-loop-k-2 invariant-loop-k decreases-loop-k) → let l = c.before.before.before.before.before.before.before.before.before.before.before in c.count_one-in-loop-k-2.new.counters ≡ counters_of (n l) (drop (l.loop-k.k - 3) (xs l))
counted-3 c = let l = c.before.before.before.before.before.before.before.before.before.before.before in counted l c.count_one-in-loop-k.new.counters c.count_one-in-loop-k-2.new.counters (l.loop-k.k - 2) (l.loop-k.k - 3) (counted-2 c.before.before.before.before) c.count_one-in-loop-k-2.ensures

sub-count-one-4 : tie.Need-overflow_sub-k-in-loop-k-3 invariant-loop-k decreases-loop-k
sub-count-one-4 c = omega arith

count-one-requires-4 : tie.Need-count_one-requires-in-loop-k-3 invariant-loop-k decreases-loop-k
count-one-requires-4 c κs =
    let d = c.before.before.before in
    let l = d.before.before.before.before.before.before.before.before.before.before.before in
    ready l d.count_one-in-loop-k-2.new.counters (l.loop-k.k - 3) (l.loop-k.k - 4) (omega arith) (omega (arith, l.loop-k.invariant.0)) (counted-3 d)

counted-4 : (c : tie.After-count_one-in-loop-k-3 invariant-loop-k decreases-loop-k) → let l = c.before.before.before.before.before.before.before.before.before.before.before.before.before.before.before in c.count_one-in-loop-k-3.new.counters ≡ counters_of (n l) (drop (l.loop-k.k - 4) (xs l))
counted-4 c = let l = c.before.before.before.before.before.before.before.before.before.before.before.before.before.before.before in counted l c.count_one-in-loop-k-2.new.counters c.count_one-in-loop-k-3.new.counters (l.loop-k.k - 3) (l.loop-k.k - 4) (counted-3 c.before.before.before.before) c.count_one-in-loop-k-3.ensures

sub-k : tie.Need-overflow_sub-k-in-loop-k-4 invariant-loop-k decreases-loop-k
sub-k c = omega arith

loop-less : tie.Need-loop-k-smaller invariant-loop-k decreases-loop-k
loop-less c = omega arith

loop-again : tie.Need-loop-k-preserved invariant-loop-k decreases-loop-k
loop-again c = let d = c.before.before in (omega (arith, d.loop-k.invariant.0), counted-4 d)

tally-rest-requires : tie.Need-tally_rest-requires invariant-loop-k decreases-loop-k
tally-rest-requires c κs =
    let l = c.before.before in
    let C = l.loop-k.counters in
    let long = counted-long C (drop l.loop-k.k (xs l)) (n l) l.loop-k.invariant.1 in
    ((numbers_as (length C) (n l) (xs l) long (s l).requires.0, l.loop-k.invariant.0), counters-as C (xs l) l.loop-k.k l.loop-k.k (n l) refl long l.loop-k.invariant.1)

whole : (c : tie.After-tally_rest invariant-loop-k decreases-loop-k) → let l = c.before.before.before in c.tally_rest.new.counters ≡ counters_of (n l) (xs l)
whole c =
    let l = c.before.before.before in
    c.tally_rest.ensures ∙ ap (λ n. counters_of n (xs l)) (counted-long l.loop-k.counters (drop l.loop-k.k (xs l)) (n l) l.loop-k.invariant.1)

same_length : tie.Need-shape_of-counters invariant-loop-k decreases-loop-k
same_length c = let d = c.before.before in let l = d.before.before.before in counted-long d.tally_rest.new.counters (xs l) (n l) (whole d)

returns : tie.Need-returns invariant-loop-k decreases-loop-k
returns c = whole c.before.before

pub tally_spec : {M : Type 1} → statement M
tally_spec =
    tie.close
    (tie.spec
    invariant-loop-k
    decreases-loop-k
    loop-holds
    sub-count-one
    count-one-requires
    sub-count-one-2
    count-one-requires-2
    sub-count-one-3
    count-one-requires-3
    sub-count-one-4
    count-one-requires-4
    sub-k
    loop-less
    loop-again
    tally-rest-requires
    same_length
    returns)
