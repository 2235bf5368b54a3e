-- Searches in a list of numbers: the least from a bound on, and the first place that holds one.
use Rattle.exact.proofs.Ground.{true, List, [], ◌∷◌, Memᴰ, mem-not_nil, mem-cases_cons, ◌⊎◌, inl, inr, ◌≡◌, sym, ℕ, ◌≤◌, ◌<◌, ◌-◌}
use Rattle.exact.proofs.Ground.{◌+◌, suc, ℕ_discrete, dec_lt, arith, eqb, eqb→eq, eqb_refl, length, get_or}
use Rattle.exact.specs.Lists.{holds, first}
use Rattle.exact.proofs.Members.{get_or-mem, mem-holds, holds-mem}
use Rattle.exact.proofs.Searches.{first-is, first-unique}
use Rattle.exact.proofs.Tests.{is_true, true-is}
use Rattle.std.specs.Prelude.{Option, None, Some, MatchOption, unwrap_or}
use Rattle.std.specs.List.{AllWithin, HoldsAt}
use Rattle.tell_lines.specs.Parts.{place_of}

-- a number that is held has a place
held_place : (k : ℕ) (xs : List ℕ) → Memᴰ k xs → (i : ℕ) × (i < length xs) × (get_or xs i 0 ≡ k)
held_place k [] m = absurd (mem-not_nil m)
held_place k (x ∷ xs) m = go (mem-cases_cons m) (held_place k xs)
  where
    go : (k ≡ x) ⊎ Memᴰ k xs → (Memᴰ k xs → (i : ℕ) × (i < length xs) × (get_or xs i 0 ≡ k)) →
        (i : ℕ) × (i < length (x ∷ xs)) × (get_or (x ∷ xs) i 0 ≡ k)
    go (inl e) f = (0, omega arith, sym e)
    go (inr n) f = let (i, h, e) = f n in (suc i, omega arith, e)

-- ---- the least number from `low` on

module _ (xs : List ℕ) (low end : ℕ) where
  -- of the first k
  pub record LeastTo (k next : ℕ) : Type 0 where
    pub not_lower : low ≤ next
    pub within : next ≤ end
    pub there : next < end → Memᴰ next xs
    pub least : (i : ℕ) → i < k → low ≤ get_or xs i 0 → next ≤ get_or xs i 0

  pub least-none : low ≤ end → LeastTo 0 end
  least-none h = record { not_lower = h; within = omega arith; there = λ l. absurd (omega arith); least = λ i l. absurd (omega arith) }

  module _ (k : ℕ) {next : ℕ} (L : LeastTo k next) (h : k < length xs) where
    pub least-lower : low ≤ get_or xs k 0 → get_or xs k 0 < next → LeastTo (k + 1) (get_or xs k 0)
    least-lower l m = record {
      not_lower = l;
      within = omega (arith, L.within);
      there = λ q. get_or-mem xs k 0 h;
      least = λ i q b. go i q b (ℕ_discrete i k);
    }
      where
        go : (i : ℕ) → i < k + 1 → low ≤ get_or xs i 0 → Dec (i ≡ k) → get_or xs k 0 ≤ get_or xs i 0
        go i q b (yes e) = rw e (omega arith)
        go i q b (no n) = omega (arith, L.least i (omega arith) b)

    pub least-same : ¬ (low ≤ get_or xs k 0 × get_or xs k 0 < next) → LeastTo (k + 1) next
    least-same n = record { not_lower = L.not_lower; within = L.within; there = L.there; least = λ i q b. go i q b (ℕ_discrete i k) }
      where
        other : low ≤ get_or xs k 0 → Dec (get_or xs k 0 < next) → next ≤ get_or xs k 0
        other b (yes m) = absurd (n (b, m))
        other b (no m) = omega arith

        go : (i : ℕ) → i < k + 1 → low ≤ get_or xs i 0 → Dec (i ≡ k) → next ≤ get_or xs i 0
        go i q b (yes e) = rw e (other (rw e at b) (dec_lt (get_or xs k 0) next))
        go i q b (no m) = L.least i (omega arith) b

  pub least-all : (k next : ℕ) → k ≡ length xs → LeastTo k next → next ≡ first (λ j. holds j xs) low (end - low)
  least-all k next e L =
      first-unique (λ j. holds j xs) low (end - low) next (first (λ j. holds j xs) low (end - low)) (record {
        from-a = L.not_lower;
        within = omega (arith, L.within, L.not_lower);
        passes = λ l. true-is (holds next xs) (mem-holds next xs (L.there (omega (arith, L.within, L.not_lower))));
        none_before = λ j l h t.
            let (i, b, q) = held_place j xs (holds-mem j xs (is_true (holds j xs) t)) in omega (arith, q, L.least i (omega arith) (omega arith));
      }) (first-is (λ j. holds j xs) low (end - low))

-- ---- the first place of a number

module _ (xs : List ℕ) (number : ℕ) where
  -- none of the first k places holds it
  abbrev NoneTo : ℕ → Type 0
  NoneTo k = (i : ℕ) → i < k → ¬ (get_or xs i 0 ≡ number)

  place_is : (k : ℕ) → k ≤ length xs → NoneTo k → (k < length xs → get_or xs k 0 ≡ number) → k ≡ place_of xs number
  place_is k h N p =
      first-unique (λ i. eqb (get_or xs i 0) number) 0 (length xs) k (place_of xs number) (record {
        from-a = omega arith;
        within = omega arith;
        passes = λ l. rw (p (omega arith)) (eqb_refl number);
        none_before = λ i l b t. N i b (eqb→eq (get_or xs i 0) number t);
      }) (first-is (λ i. eqb (get_or xs i 0) number) 0 (length xs))

  -- what a search for it finds
  pub place-found-by : (r : Option ℕ) →
      MatchOption r (AllWithin (λ x. ¬ (x ≡ number)) xs 0 (length xs))
      (λ i. (i < length xs) × HoldsAt (λ x. x ≡ number) xs i × AllWithin (λ x. ¬ (x ≡ number)) xs 0 i) →
      unwrap_or r (length xs) ≡ place_of xs number
  place-found-by None none = place_is (length xs) (omega arith) (λ i h. none i 0 (omega arith) h) (λ h. absurd (omega arith))
  place-found-by (Some k) found = place_is k (omega (arith, found.0)) (λ i h. found.2 i 0 (omega arith) h) (λ h. found.1 0)

  -- a number that is held stands there
  pub place_found : holds number xs ≡ true → (place_of xs number < length xs) × (get_or xs (place_of xs number) 0 ≡ number)
  place_found h =
      let (i, l, e) = held_place number xs (holds-mem number xs h) in
      let F = first-is (λ i. eqb (get_or xs i 0) number) 0 (length xs) in
      let inside : place_of xs number < length xs = go (dec_lt (place_of xs number) (length xs)) i l e in
      (inside, eqb→eq (get_or xs (place_of xs number) 0) number (F.passes (omega arith)))
    where
      go : Dec (place_of xs number < length xs) → (i : ℕ) → i < length xs → get_or xs i 0 ≡ number → place_of xs number < length xs
      go (yes q) i l e = q
      go (no q) i l e =
          let F = first-is (λ i. eqb (get_or xs i 0) number) 0 (length xs) in
          absurd (F.none_before i (omega arith) (omega (arith, F.within)) (rw e (eqb_refl number)))
