-- The answers of a call for a table, by what the rooms hold and by the checks in front.
use Rattle.exact.proofs.Ground.{Bool, true, false, List, [], ◌∷◌, map, ◌≡◌, ◌∙◌, sym, ap, refl, ℕ, ℤ, ◌≤◌, ◌<◌, arith, length, take, drop}
use Rattle.exact.proofs.Ground.{length-append, length-map, mem-head, mem-tail, ne_eqb, ltb-false, take_at, le-ltb, lt-ltb}
use Rattle.std.specs.Prelude.{Ok, Err}
use Rattle.exact.specs.Lists.{into}
use Rattle.rules.specs.Plan.{Plan, columns, most_columns}
use Rattle.rules.specs.declared.Refusal.{Refusal}
use Rattle.rules.specs.Refusals.{Check, refusal, answered, plain, or_else, plan_checks, of_plan, past_resolution}
use Rattle.rules.proofs.Order.{passed_none}
use Rattle.rules.proofs.Ranges.{or-neither}
use Rattle.rules.proofs.Answered.{err-refused, ok-accepted, ok-is}
use Rattle.plan.proofs.Checks.{plan-handed}
use Rattle.words.specs.Answers.{word_list}
use Rattle.resolution.specs.Resolution.{resolution_in}
use Rattle.resolution.specs.Given.{first_above}
use Rattle.resolution.proofs.Resolved.{resolution-words}
use Rattle.projection_tables.specs.Tables.{Line, Rooms, rooms, shortest, rooms_filled, bad_rooms, table_in, table_checks, rooms_beside, table_answer}

module _ (ls : List Line) (R : Rooms) where
  abbrev pub room_refusal : Refusal
  room_refusal = refusal (bad_rooms ls R ∷ [])

  pub too_short : shortest R < length ls → (Err (plain 7) ≡ answered room_refusal (length ls)) × (R ≡ rooms_beside ls R room_refusal)
  too_short h = rw (lt-ltb (shortest R) (length ls) h) (refl, refl)

  pub long-enough : length ls ≤ shortest R → (Ok (length ls) ≡ answered room_refusal (length ls)) × (rooms_filled ls R ≡ rooms_beside ls R room_refusal)
  long-enough h = rw (le-ltb (shortest R) (length ls) h) (refl, refl)

-- a call that is refused leaves the rooms as they were
pub left-alone : {A : Type 0} (ls : List Line) (R : Rooms) (r : Refusal) (x : A) {e : Refusal} → Err e ≡ answered r x → R ≡ rooms_beside ls R r
left-alone ls R r x w = rw (ne_eqb r.number 0 (err-refused r x w))

-- ---- lines that were put into other rooms, copied

module _ (ls : List Line) (Z R : Rooms) (n : ℕ) (e : n ≡ length ls) (q : R ≡ rooms_filled ls Z) where
  front_of : (g : Line → ℕ) (room held : List ℕ) → held ≡ into (map g ls) room → (take n held ≡ map g ls) × (n ≤ length held)
  front_of g room held d =
      let l : length (map g ls) ≡ n = length-map ls g ∙ sym e in
      rw d (take_at (map g ls) (drop (length (map g ls)) room) n l, omega (arith, l, length-append (map g ls) (drop (length (map g ls)) room)))

  nums-front : (take n R.nums ≡ map (λ l. l.value.num) ls) × (n ≤ length R.nums)
  nums-front = front_of (λ l. l.value.num) Z.nums R.nums (ap (λ R. R.nums) q)

  dens-front : (take n R.dens ≡ map (λ l. l.value.den) ls) × (n ≤ length R.dens)
  dens-front = front_of (λ l. l.value.den) Z.dens R.dens (ap (λ R. R.dens) q)

  counts-front : (take n R.counts ≡ map (λ l. l.sets) ls) × (n ≤ length R.counts)
  counts-front = front_of (λ l. l.sets) Z.counts R.counts (ap (λ R. R.counts) q)

  pub lines-held : (n ≤ length R.nums) × (n ≤ length R.dens) × (n ≤ length R.counts)
  lines-held = (nums-front.1, dens-front.1, counts-front.1)

  pub lines_copied : (Q : Rooms) →
      rooms (into (take n R.nums) Q.nums) (into (take n R.dens) Q.dens) (into (take n R.counts) Q.counts) ≡ rooms_filled ls Q
  lines_copied Q = rw (nums-front.0, dens-front.0, counts-front.0)

-- the check of a relative table looks at the words
pub past_words : (p : Plan) (rs : List ℕ) (words : List ℤ) (relative : Bool) (f : ℕ) → columns p ≤ most_columns → (relative ≡ true → words ≡ word_list p rs) →
    refusal (past_resolution relative (first_above words (columns p)) f ∷ []) ≡ refusal (past_resolution relative (resolution_in p rs) f ∷ [])
past_words p rs words true f h g =
    ap (λ R. refusal (past_resolution true R f ∷ [])) (ap (λ ws. first_above ws (columns p)) (g refl) ∙ resolution-words p rs h)
past_words p rs words false f h g = refl

-- ---- a table that is answered has no more lines than the shortest room has places

module _ (p : Plan) (rs : List ℕ) (relative : Bool) (f : ℕ) (R : Rooms) where
  -- r is what the call begins with
  pub lines_fit : (start : List Check → List Check) (r : Refusal) →
      refusal (start (table_checks p rs relative f R)) ≡ or_else r (refusal (table_checks p rs relative f R)) →
      {n : ℕ} → Ok n ≡ table_answer p rs start relative f R → n ≤ shortest R
  unfolding table_answer
  lines_fit start r h {n} w =
      let checks = table_checks p rs relative f R in
      let ls = table_in relative p rs f in
      let z = ap (λ r. r.number) (sym h) ∙ ok-accepted (refusal (start checks)) (length ls) w in
      let passed = (or-neither r (refusal checks) z).1 in
      let fits = ltb-false (shortest R) (length ls) (passed_none checks tt refl passed (bad_rooms ls R) (mem-tail (mem-tail (mem-head refl)))) in
      omega (arith, fits, ok-is (refusal (start checks)) (length ls) w)

  pub plan-lines-fit : {n : ℕ} → Ok n ≡ table_answer p rs (of_plan p) relative f R → n ≤ shortest R
  plan-lines-fit = lines_fit (of_plan p) (refusal (plan_checks p)) (sym (plan-handed p (table_checks p rs relative f R) tt refl))
