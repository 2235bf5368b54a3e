-- The loop over the cells: the lines of the numbers below the next that occurs are put in.
use Rattle.exact.proofs.Ground.{true, Bool, List, [], ◌∷◌, ◌++◌, ◌≡◌, ◌∙◌, sym, ap, ℕ, ◌≤◌, ◌<◌, ◌-◌, ◌+◌, ◌*◌, arith, length, length-append}
use Rattle.exact.proofs.Ground.{length-map}
use Rattle.exact.specs.Lists.{from, keep, each, holds, first}
use Rattle.exact.proofs.Searches.{first-is}
use Rattle.exact.proofs.Tests.{is_true}
use Rattle.rules.specs.Plan.{Plan, level, entry}
use Rattle.counts.specs.Numbered.{number_of}
use Rattle.text.specs.Bytes.{Put}
use Rattle.text.proofs.Puts.{each_snoc, put_as, put-none, put_both, put-kept}
use Rattle.tell_lines.specs.Parts.{numbers_of, Numbered, cell_line_at, cell_lines_to}
use Rattle.tell_lines.proofs.Sifted.{kept_next, kept-to-first, kept-few}

-- a search goes on from where it begins
pub found-later : (numbers : List ℕ) (low end number : ℕ) → number ≡ first (λ k. holds k numbers) low (end - low) → low ≤ number
found-later numbers low end number e = omega (arith, e, (first-is (λ k. holds k numbers) low (end - low)).from-a)

module _ (p : Plan) (rs : List ℕ) (a : ℕ) (J gs : List ℕ) {numbers : List ℕ} (N : Numbered p rs a J numbers) (end : ℕ) where
  abbrev occurs : ℕ → Bool
  occurs k = holds k (numbers_of p rs J)

  -- how many cells have a number below n
  abbrev cells_to : ℕ → ℕ
  cells_to n = length (keep occurs (from 0 n))

  few-cells : (n : ℕ) → cells_to n ≤ length rs
  few-cells n = omega (arith, kept-few (numbers_of p rs J) n, length-map rs (λ f. number_of (level p) (entry p) f J))

  one_more : (n : ℕ) → occurs n ≡ true → cells_to (n + 1) ≡ cells_to n + 1
  one_more n e = ap length (kept_next occurs n e) ∙ length-append (keep occurs (from 0 n)) (n ∷ [])

  -- the lines of the cells before this number, the next that occurs
  pub record WrittenTo (at : ℕ) (room : List ℕ) (number after : ℕ) (now : List ℕ) : Type 0 where
    pub within : number ≤ end
    pub there : number < end → holds number numbers ≡ true
    pub put : Put (cell_lines_to p rs a J gs number) (cells_to number * 530) at room after now

  -- the next number that is found is one that occurs, or the end
  found_within : (low number : ℕ) → low ≤ end → number ≡ first (λ k. holds k numbers) low (end - low) → number ≤ end
  found_within low number h e = omega (arith, e, (first-is (λ k. holds k numbers) low (end - low)).within)

  found-there : (low number : ℕ) → low ≤ end → number ≡ first (λ k. holds k numbers) low (end - low) → number < end → holds number numbers ≡ true
  found-there low number h e l =
      let F = first-is (λ k. holds k numbers) low (end - low) in
      ap (λ k. holds k numbers) e ∙ is_true (holds (first (λ k. holds k numbers) low (end - low)) numbers) (F.passes (omega (arith, e)))

  found-kept : (low number : ℕ) → number ≡ first (λ k. holds k numbers) low (end - low) → keep occurs (from 0 number) ≡ keep occurs (from 0 low)
  found-kept low number e =
      ap (λ k. keep occurs (from 0 k)) (e ∙ ap (λ ns. first (λ k. holds k ns) low (end - low)) N.are) ∙ kept-to-first occurs low (end - low)

  pub written_none : (at : ℕ) (room : List ℕ) (number : ℕ) → at ≤ length room → number ≡ first (λ k. holds k numbers) 0 (end - 0) →
      WrittenTo at room number at room
  written_none at room number h e =
      let none : keep occurs (from 0 number) ≡ [] = found-kept 0 number e in
      record {
        within = found_within 0 number (omega arith) e;
        there = found-there 0 number (omega arith) e;
        put = put_as (ap (λ l. each l (cell_line_at p rs a J gs)) (sym none)) (omega arith) (put-none at room h);
      }

  module _ {at number after : ℕ} {room now : List ℕ} (W : WrittenTo at room number after now) where
    module _ (l : number < end) where
      here : occurs number ≡ true
      here = ap (λ ns. holds number ns) (sym N.are) ∙ W.there l

      pub written-room : at + length rs * 530 ≤ length room → after + 530 ≤ length now
      written-room h = omega (arith, W.put.behind, W.put.short, put-kept W.put, one_more number here, few-cells (number + 1))

      pub written_next : {next : ℕ} {then : List ℕ} (later : ℕ) → Put (cell_line_at p rs a J gs number) 530 after now next then →
          later ≡ first (λ k. holds k numbers) (number + 1) (end - (number + 1)) → WrittenTo at room later next then
      written_next later Q e =
          let k : keep occurs (from 0 later) ≡ keep occurs (from 0 number) ++ number ∷ [] =
          found-kept (number + 1) later e ∙ kept_next occurs number here in
          let c : cells_to later ≡ cells_to number + 1 = ap length k ∙ length-append (keep occurs (from 0 number)) (number ∷ []) in
          record {
            within = found_within (number + 1) later (omega arith) e;
            there = found-there (number + 1) later (omega arith) e;
            put =
                put_as
                (sym (each_snoc (keep occurs (from 0 number)) number (cell_line_at p rs a J gs)) ∙ ap (λ l. each l (cell_line_at p rs a J gs)) (sym k))
                (omega (arith, c)) (put_both W.put Q);
          }

    pub written_all : end ≤ number → Put (cell_lines_to p rs a J gs end) (length rs * 530) at room after now
    written_all h =
        let e : number ≡ end = omega (arith, W.within) in put_as (ap (cell_lines_to p rs a J gs) e) (omega (arith, few-cells number)) W.put
