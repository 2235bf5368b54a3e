-- A text is refused by what its reader refuses it by, whose rooms hold every accepted plan.
use Rattle.exact.proofs.Ground.{List, [], ◌≡◌, ◌∙◌, sym, ap, refl, ℕ, ◌≤◌, ℕ_discrete, dec_le, arith, length, ne_eqb, le-ltb, eq-eqb, lt-ltb}
use Rattle.rules.specs.Plan.{Plan, most_columns, longest_text, most_entries}
use Rattle.std.specs.Prelude.{Ok, Err}
use Rattle.rules.specs.declared.Refusal.{Refusal}
use Rattle.rules.specs.Refusals.{refusal, answered, plan_checks}
use Rattle.rules.proofs.Answered.{err-refused, err-is, ok-accepted}
use Rattle.rules.proofs.Ranges.{unless-refused, unless-accepted}
use Rattle.plan.proofs.Checks.{passed-good, plan-passed}
use Rattle.text.specs.declared.Sizes.{Sizes}
use Rattle.text.specs.Text.{malformed_line, plan_of}
use Rattle.text.specs.Reader.{read_refusal, sizes}
use Rattle.text.proofs.Answers.{refused-plan, own-checks, room-enough, long-text, malformed-text, formed-text}
use Rattle.text.proofs.InFront.{entries-few}
use Rattle.lines.specs.Lines.{refusal_line}
use Rattle.listing_lines.specs.Listing.{plan_listing, listing_checks, listing}

-- ---- the refusals of the reader and of the listing

same-refusal : (text : List ℕ) → read_refusal text most_columns most_entries ≡ refusal (listing_checks text)
same-refusal text = go (dec_le (length text) longest_text) (ℕ_discrete (malformed_line text) 0) (ℕ_discrete (refusal (plan_checks p)).number 0)
  where
    p : Plan
    p = plan_of text

    by-plan : length text ≤ longest_text → malformed_line text ≡ 0 → refusal (plan_checks p) ≡ refusal (listing_checks text)
    by-plan h z = rw (le-ltb longest_text (length text) h, eq-eqb (malformed_line text) 0 z)

    go : Dec (length text ≤ longest_text) → Dec (malformed_line text ≡ 0) → Dec ((refusal (plan_checks p)).number ≡ 0) →
        read_refusal text most_columns most_entries ≡ refusal (listing_checks text)
    go (no h) d e = rw (long-text text most_columns most_entries (omega arith), lt-ltb longest_text (length text) (omega arith))
    go (yes h) (no d) e =
        rw (malformed-text text most_columns most_entries h d, le-ltb longest_text (length text) h, ne_eqb (malformed_line text) 0 d)
    go (yes h) (yes d) (no e) = formed-text text most_columns most_entries h d ∙ refused-plan p most_columns most_entries refl e ∙ by-plan h d
    go (yes h) (yes d) (yes e) =
        let G = passed-good p refl e in
        formed-text text most_columns most_entries h d ∙ own-checks p most_columns most_entries refl e
        ∙ room-enough p most_columns most_entries G.columns-high (entries-few p G) ∙ sym (plan-passed p [] tt refl e) ∙ by-plan h d

-- ---- what was read

module _ (text : List ℕ) where
  abbrev own : Refusal
  own = read_refusal text most_columns most_entries

  pub listing-refused : {e : Refusal} → Err e ≡ answered own (sizes (plan_of text)) → refusal_line e ≡ listing text
  unfolding listing
  listing-refused w =
      let r = refusal (listing_checks text) in
      let n = λ (z : r.number ≡ 0). err-refused own (sizes (plan_of text)) w (ap (λ q. q.number) (same-refusal text) ∙ z) in
      ap refusal_line (err-is own (sizes (plan_of text)) w ∙ same-refusal text)
      ∙ sym (unless-refused r (refusal_line r) (plan_listing (plan_of text)) n)

  pub listing-accepted : {a : Sizes} → Ok a ≡ answered own (sizes (plan_of text)) → plan_listing (plan_of text) ≡ listing text
  unfolding listing
  listing-accepted w =
      let r = refusal (listing_checks text) in
      sym (unless-accepted r (refusal_line r) (plan_listing (plan_of text))
      (ap (λ q. q.number) (sym (same-refusal text)) ∙ ok-accepted own (sizes (plan_of text)) w))
