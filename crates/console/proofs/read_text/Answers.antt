-- Each read adds what it gave behind what was there.
use Rattle.std.proofs.Common.{rules, arith, ◌≡◌, ◌+◌, ◌-◌, ◌≤◌, ℕ, List, ◌++◌, length, take, drop}
use Rattle.std.proofs.Common.{slice_range, sym, ap, ◌∙◌, subst, le_refl, drop_at, length-take-le}
use Rattle.std.proofs.lemmas.Slice.{take-put_mid_below}
use Rattle.std.proofs.KnownBytes.{Consumes-trans}
use Rattle.std.specs.Io.KnownBytes.{Consumes}
use borrow.Rule.Slice.PartMut.{put_mid, post_of}
use lib.Seq.{take-add, take-append-le}
use Rattle.console.proofs.read_text.Goals as goal

-- the room's front grows by the bytes that are put behind it
front-grown : (a n : ℕ) (old part : List ℕ) → a ≤ length old → n ≤ length part →
    take a old ++ take n part ≡ take (a + n) (put_mid a (length old - a) old part)
front-grown a n old part within fits =
    let new = put_mid a (length old - a) old part in
    let after = post_of a (length old - a) old in
    let front : take a new ≡ take a old = take-put_mid_below _ _ _ _ _ (le_refl _) within in
    let behind : slice_range new a (a + n) ≡ take n part =
    ap (take ((a + n) - a)) (drop_at (take a old) (part ++ after) a (length-take-le a old within))
    ∙ ap (λ m. take m (part ++ after)) (omega arith) ∙ take-append-le n part after fits in
    ap (λ l. l ++ take n part) (sym front) ∙ ap (λ l. take a new ++ l) (sym behind)
    ∙ ap (λ m. take a new ++ take m (drop a new)) (omega arith) ∙ sym (take-add a n new)

pub loop-size-preserved : goal.loop-size-preserved
loop-size-preserved g c =
    let l = c.loop-size in
    let r = c.read_once-part in
    let grown = front-grown l.size r.result.size l.room r.new.room l.invariant.1 r.ensures.fits.0 in
    (search rules, search rules, subst (Consumes _ _) grown (Consumes-trans _ _ _ _ _ l.invariant.2 r.ensures.taken))
