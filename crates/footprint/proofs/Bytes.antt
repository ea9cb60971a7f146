-- The bytes of an access, one after the other.
use mathlib.Core.Path.{◌≡◌, refl, sym, ap, subst, ◌∙◌}
use Prim.Native.Nat.{ℕ, zero, suc, ◌+◌, ◌*◌}
use native.Mathlib.Nat.{zero-add, add-zero, add-suc, suc-add}
use native.Mathlib.Numerals.{add-one}
use mathlib.Core.List.{List, [], ◌∷◌, ◌++◌, map}
use lib.Bits.{or_zero_r}
use Rattle.banks.specs.Line.{from, line, addresses, start_of, step_of, count_of}
use Rattle.terms.specs.declared.Way.{Way}
use Rattle.pieces.specs.State.{State}
use Rattle.pieces.specs.Place.{Place, byte, xlat}
use Rattle.model.specs.Table.{bytes, at_or, at_addr, addr_in, code_in}
use Rattle.footprint.specs.Inner.Numbers.{push, Adds}
use Rattle.footprint.specs.declared.Numbers.{Numbers}
use Rattle.footprint.proofs.Grown.{none, one, both}

-- the places of n addresses from a start, a step apart
unfoldable pub run : ℕ → ℕ → ℕ → ℕ → List Place
run c s t n = map {B = Place} (λ y. byte (xlat c y)) (line s t n)

snoc : (g : ℕ → Place) (h : ℕ → ℕ) (k n : ℕ) → map g (map h (from k (suc n))) ≡ map g (map h (from k n)) ++ (g (h (k + n)) ∷ [])
snoc g h k zero = ap (λ (i : ℕ). g (h i) ∷ []) (sym (add-zero k))
snoc g h k (suc n) =
    let e : suc k + n ≡ k + suc n = suc-add k n ∙ sym (add-suc k n) in
    ap (λ (l : List Place). g (h k) ∷ l)
    (snoc g h (suc k) n ∙ ap (λ (i : ℕ). map g (map h (from (suc k) n)) ++ (g (h i) ∷ [])) e)

pub run_none : {l : Numbers} (c s t : ℕ) → Adds l (run c s t 0) l
unfolding run line
run_none c s t = none

-- one byte more
pub run_next : {l m r : Numbers} {x : ℕ} (c s t i : ℕ) → Adds l (run c s t i) m → x ≡ 144 + xlat c (s + i * t) → r ≡ push m x
    → Adds l (run c s t (i + 1)) r
unfolding run line
run_next {m = m} c s t i e f g =
    let z = zero-add i in
    rw (add-one i, snoc (λ y. byte (xlat c y)) (λ k. s + k * t) 0 i, z) (both e (one m (byte (xlat c (s + i * t))) g f))

pub run_all : (way : Way) (c x : ℕ) → bytes xlat way c x ≡ run c (start_of way c x) (step_of way c) (count_of way)
unfolding run addresses
run_all way c x = refl

-- an access without an immediate
pub at_addr_lem : {l r : Numbers} (way : Way) (n : ℕ) (s : State) → Adds l (at_or xlat way n 0 s) r → Adds l (at_addr xlat way n s) r
at_addr_lem {l} {r} way n s h =
    let e = ap (bytes xlat way (code_in s n)) (or_zero_r (addr_in s n)) in
    subst (λ (ps : List Place). Adds l ps r) e h
