-- No word is negative, and the fraction is that of the word of the next length.
use Rattle.exact.proofs.Ground.{◌≡◌, ◌∙◌, ap, subst, ◌≤ℤ◌, ◌<◌, ◌+◌, ◌-◌, arith, pos, nat_abs, get_or, take, get_or-take}
use Rattle.exact.specs.Fractions.{reduced}
use Rattle.exact.proofs.Bits.{of}
use Rattle.text.specs.Bytes.{Put}
use Rattle.listing_lines.specs.Listing.{word_line}
use Rattle.listing_lines.proofs.Words.{words-next}
use Rattle.listing_lines.proofs.routines.write_words.Goals as goal

pub to_u64-requires : goal.to_u64-requires
to_u64-requires c =
    let k = c.loop-k.k in
    let ws = c.args.words.now in
    let h : k < c.args.m = omega arith in
    let d : k + 1 - 1 ≡ k = omega arith in
    rw (of (get_or (take c.args.m ws) k (pos 0)) c.to_u64-arg-1.given, get_or-take c.args.m ws k (pos 0) h)
    (subst (λ i. pos 0 ≤ℤ get_or ws i (pos 0)) d (c.requires.0.not_negative (k + 1) (omega arith) (omega arith)))

pub loop-k-preserved : goal.loop-k-preserved
loop-k-preserved c =
    let k = c.loop-k.k in
    let ws = c.args.words.now in
    let h : k < c.args.m = omega arith in
    let z = of (get_or (take c.args.m ws) k (pos 0)) c.to_u64-arg-1.given ∙ get_or-take c.args.m ws k (pos 0) h in
    let x : c.reduced-word.result ≡ reduced (nat_abs (get_or ws k (pos 0))) c.args.pairs =
    c.reduced-word.ensures ∙ ap (λ n. reduced n c.args.pairs) (ap nat_abs (c.to_u64.ensures ∙ z)) in
    words-next ws c.args.pairs k c.loop-k.invariant
    (subst (λ x. Put (word_line (k + 1) x) 68 c.loop-k.end c.loop-k.room c.write_line-end.result c.write_line-end.new.room) x c.write_line-end.ensures)
