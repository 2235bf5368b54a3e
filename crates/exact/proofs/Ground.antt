-- Names of the kit's libraries that many proofs use, in one place: a proof takes them from here.
pub use mathlib.Core.Bool.{true, false, Bool, cond, not, ◌&&◌, ◌||◌}
pub use mathlib.Core.List.Memᴰ.{head as mem-head}
pub use mathlib.Core.List.Memᴰ.{not-nil as mem-not_nil}
pub use mathlib.Core.List.Memᴰ.{tail as mem-tail}
pub use mathlib.Core.List.{List, [], ◌∷◌, map, ◌++◌, Memᴰ, append_assoc}
pub use mathlib.Core.List.Memᴰ.{append_cases as mem-append_cases}
pub use mathlib.Core.List.Memᴰ.{append_left as mem-append_left}
pub use mathlib.Core.List.Memᴰ.{append_right as mem-append_right}
pub use mathlib.Core.List.Memᴰ.{map as mem-map}
pub use mathlib.Core.List.Memᴰ.{of_map as mem-of_map}
pub use mathlib.Core.List.{append-nil}
pub use mathlib.Core.List.Memᴰ.{cases_cons as mem-cases_cons}
pub use mathlib.Core.List.Memᴰ.{eq_of_singleton as mem-of_singleton}
pub use mathlib.Core.Logic.{◌⊎◌, inl, inr, ⊎_elim}
pub use mathlib.Core.Option.{none}
pub use mathlib.Core.Path.{◌≡◌, ◌∙◌, sym, ap, refl, ap₂, subst, fun_ext, subst⁻¹}
pub use Prim.Native.Nat.{ℕ, ◌≤◌, ◌<◌, ◌-◌, ◌+◌, ◌*◌, suc, zero, ◌^◌, zero-le, ◌/◌, ◌%◌, min}
pub use native.Mathlib.Decide.{dec_lt, ℕ_discrete, dec_le}
pub use native.Mathlib.Nat.{zero-add, le_trans, mul-le-mul, mul-pos, add-zero, le_refl, mul-le-mul_right, suc-mul, zero-mul}
pub use native.Mathlib.Nat.{eq-or-lt_of_le}
pub use native.Mathlib.Numerals.{add-one}
pub use native.Mathlib.Omega.{arith}
pub use lib.Dec.{eqb, T, ltb, eqb→eq, eqb_refl, leb, ltb→lt, leb→le}
pub use lib.IntN.{pos, ℤ, nat_abs, ◌*ℤ◌, ◌+ℤ◌, ◌-ℤ◌, negsuc, neg_ℤ, +ℤ_idl, +ℤ_idr, +ℤ_comm, *ℤ-zero, zero-*ℤ, +ℤ_assoc}
pub use lib.ListN.{drop_of_length-le, length, get_or, take, drop, replicate, set, length-append, length-map, length-set, length-drop}
pub use lib.ListN.{get_or-append, length-replicate, take-append-drop, get_or-eq_default}
pub use lib.Seq.{length-take-le, take_at, take-suc, drop-cons, take_all, drop-length, get_or-take, get_or-drop, ext_get_or, append_snoc}
pub use lib.Seq.{drop-drop, drop_at, take-length}
pub use lib.Signed.{◌≤ℤ◌, lt_z}
pub use borrow.Author.Rules.{rules}
pub use borrow.Author.Tests.{ne_eqb, le-ltb, eq-eqb, lt-ltb, eqb-true, ltb-false, eqb-false, le-leb, not-true, not-false, lt-leb}
pub use mir.Syntax.{w64}
pub use mir.Val.{to_z, of_z}
