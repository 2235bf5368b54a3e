-- Parts put into a room one after the other are put in as one.
use Rattle.exact.proofs.Ground.{List, [], ◌∷◌, ◌++◌, append_assoc, append-nil, ◌≡◌, ◌∙◌, sym, ap, refl, ℕ, ◌≤◌, ◌<◌, ◌+◌, zero-add, arith, length}
use Rattle.exact.proofs.Ground.{take, drop, set, length-append}
use Rattle.exact.specs.Lists.{each, into}
use Rattle.text.specs.Bytes.{put_at, Put}
use Rattle.text.proofs.Places.{put-nothing, put-more, put-length, put_one, take_put}

pub each_snoc : {A : Type 0} (xs : List A) (x : A) (g : A → List ℕ) → each (xs ++ x ∷ []) g ≡ each xs g ++ g x
each_snoc [] x g = append-nil (g x)
each_snoc (y ∷ ys) x g = ap (λ l. g y ++ l) (each_snoc ys x g) ∙ sym (append_assoc (g y) (each ys g) (g x))

pub put-none : (at : ℕ) (room : List ℕ) → at ≤ length room → Put [] 0 at room at room
put-none at room h = record { fits = omega arith; short = omega arith; behind = omega arith; stored = put-nothing at room }

pub put_byte : (b at : ℕ) (room : List ℕ) → at < length room → Put (b ∷ []) 1 at room (at + 1) (set room at b)
put_byte b at room h = record { fits = omega arith; short = omega arith; behind = refl; stored = put_one at room b h }

-- the same bytes by another name, under a larger bound
pub put_as : {xs ys : List ℕ} {a b at next : ℕ} {room after : List ℕ} → xs ≡ ys → a ≤ b → Put xs a at room next after → Put ys b at room next after
put_as e h P = record {
  fits = rw (← e) P.fits;
  short = rw (← e) (omega (arith, P.short));
  behind = rw (← e) P.behind;
  stored = rw (← e) P.stored;
}

pub put-kept : {xs : List ℕ} {a at next : ℕ} {room after : List ℕ} → Put xs a at room next after → length after ≡ length room
put-kept {xs} {at = at} {room = room} P = ap length P.stored ∙ put-length at room xs P.fits

pub put_both : {xs ys : List ℕ} {a b at mid next : ℕ} {room between after : List ℕ} →
    Put xs a at room mid between → Put ys b mid between next after → Put (xs ++ ys) (a + b) at room next after
put_both {xs} {ys} {at = at} {mid = mid} {room = room} P Q =
    let l = length-append xs ys in
    record {
      fits = omega (arith, Q.fits, P.behind, put-kept P);
      short = omega (arith, P.short, Q.short);
      behind = omega (arith, P.behind, Q.behind);
      stored = Q.stored ∙ ap (put_at mid ys) P.stored ∙ put-more at room xs P.fits ys mid (sym P.behind);
    }

-- ---- from the front of a room

pub front-taken : {xs room after : List ℕ} {a n : ℕ} → Put xs a 0 room n after → take n after ≡ xs
front-taken {xs} {room} {n = n} P = ap (take n) P.stored ∙ take_put 0 room xs P.fits n (sym P.behind)

pub front-into : {xs room after : List ℕ} {a n : ℕ} → Put xs a 0 room n after → after ≡ into xs room
front-into {xs} {room} P = P.stored ∙ ap (λ k. xs ++ drop k room) (zero-add (length xs))
