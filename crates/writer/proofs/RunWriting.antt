-- Writing a text: the line of the levels, then that of each run.
use Rattle.exact.proofs.Ground.{List, [], ◌∷◌, map, ◌++◌, append_assoc, ◌≡◌, ◌∙◌, sym, ap, refl, ℕ, ◌≤◌, ◌<◌, ◌-◌, ◌+◌, ◌*◌, suc, ◌^◌, suc-mul}
use Rattle.exact.proofs.Ground.{add-one, arith, length, get_or, take, drop, take-suc, take_all}
use Rattle.exact.specs.Lists.{each}
use Rattle.exact.proofs.Numbers.{mul-below}
use Rattle.exact.proofs.Members.{get_or-mem}
use Rattle.rules.specs.Plan.{Plan, columns}
use Rattle.text.specs.Bytes.{Put}
use Rattle.text.specs.Text.{write_line, write_lines}
use Rattle.text.proofs.Puts.{each_snoc, put_as, put-kept, put_both}
use Rattle.writer.specs.Writer.{row, text_of, Short, ended_line, most_of_text, Runs}
use Rattle.writer.proofs.Rows.{row-size, row-stretch, short-run}

module _ (p : Plan) (rs : List ℕ) where
  -- the lines of the first k runs
  abbrev pub lines_to : ℕ → List ℕ
  lines_to k = each (take k rs) (λ f. ended_line (row p f))

  abbrev pub PutRuns : ℕ → ℕ → List ℕ → ℕ → List ℕ → Type 0
  PutRuns k at room next after = Put (lines_to k) (3 * (k * columns p)) at room next after

  pub run-next : (k : ℕ) {at mid next : ℕ} {room between after : List ℕ} → k < length rs → PutRuns k at room mid between →
      let xs = row p (get_or rs k 0) in Put (ended_line xs) (3 * length xs) mid between next after → PutRuns (k + 1) at room next after
  run-next k h P Q =
      let f = get_or rs k 0 in
      let t : lines_to k ++ ended_line (row p f) ≡ lines_to (k + 1) =
      sym (each_snoc (take k rs) f (λ g. ended_line (row p g)))
      ∙ ap (λ l. each l (λ g. ended_line (row p g))) (sym (take-suc rs k 0 h) ∙ ap (λ n. take n rs) (sym (add-one k))) in
      put_as t (omega (arith, row-size p f, suc-mul k (columns p))) (put_both P Q)

  text-lines : ended_line p.levels ++ each rs (λ f. ended_line (row p f)) ≡ text_of p rs
  unfolding text_of
  text-lines = append_assoc (write_line p.levels) (10 ∷ []) (each rs (λ f. ended_line (row p f))) ∙ ap (λ l. write_line p.levels ++ 10 ∷ l) (go rs)
    where
      go : (ss : List ℕ) → each ss (λ f. ended_line (row p f)) ≡ write_lines (map (row p) ss)
      go [] = refl
      go (f ∷ ss) =
          append_assoc (write_line (row p f)) (10 ∷ []) (each ss (λ g. ended_line (row p g))) ∙ ap (λ l. write_line (row p f) ++ 10 ∷ l) (go ss)

  module _ (R : Runs p rs) where
    -- run k of the list: where it lies, and what it shows
    abbrev run_at : ℕ → ℕ
    run_at k = get_or rs k 0

    pub run_inside : (k : ℕ) → k < length rs → run_at k * columns p + columns p ≤ length p.table
    run_inside k h = R.sound.inside (run_at k) (get_or-mem rs k 0 h)

    pub run_fits : (k : ℕ) → k < length rs → run_at k * columns p + columns p < 2 ^ 64
    run_fits k h =
        let n = R.sound.numbered (run_at k) (get_or-mem rs k 0 h) in
        let m = R.sound.columns-high in
        omega (arith, mul-below (run_at k) (columns p) 256 24 (omega arith) m)

    pub run-slice : (k : ℕ) → k < length rs →
        let b = run_at k * columns p in take (b + columns p - b) (drop b p.table) ≡ row p (run_at k)
    run-slice k h =
        let b = run_at k * columns p in
        ap (λ n. take n (drop b p.table)) (let q : b + columns p - b ≡ columns p = omega arith in q) ∙ sym (row-stretch p (run_at k) (run_inside k h))

    pub run_short : (k : ℕ) → k < length rs → Short (row p (run_at k))
    run_short k h = short-run p rs R (run_at k) (get_or-mem rs k 0 h)

    module _ (k : ℕ) {room between after : List ℕ} {mid end : ℕ} (h : most_of_text ≤ length room)
        (P : Put (ended_line p.levels) (3 * columns p) 0 room mid between) (Q : PutRuns k mid between end after) where
      -- the room that is left behind the levels and k runs, and the whole text
      pub text-left : k < length rs → end + 3 * columns p ≤ length after
      text-left l =
          let few = R.sound.few in
          let m = R.sound.columns-high in
          let whole = mul-below (suc k) (columns p) 256 24 (omega arith) m in
          omega (arith, P.behind, P.short, Q.behind, Q.short, put-kept P, put-kept Q, suc-mul k (columns p), whole)

      pub text-whole : k ≡ length rs → Put (text_of p rs) most_of_text 0 room end after
      text-whole e =
          let few = R.sound.few in
          let m = R.sound.columns-high in
          put_as (ap (λ l. ended_line p.levels ++ each l (λ f. ended_line (row p f))) (take_all k rs (omega arith)) ∙ text-lines)
          (omega (arith, mul-below k (columns p) 256 24 (omega arith) m)) (put_both P Q)
