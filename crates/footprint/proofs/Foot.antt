-- A footprint lists all that an instruction reads and writes, and $a alone decides what that is.
use mathlib.Core.Path.{◌≡◌, refl, sym, ap, ap₂, ◌∙◌}
use Prim.Native.Nat.{ℕ, suc, ◌+◌, ◌-◌, ◌≤◌}
use native.Mathlib.Omega.{arith}
use native.Mathlib.Nat.{zero-add, add-zero}
use native.Mathlib.Numerals.{add-one}
use mathlib.Core.List.{List, [], ◌∷◌, ◌++◌, map}
use borrow.Author.Tests.{lt-ltb}
use lib.ListN.{length, take, drop, set, replicate, length-append, length-map}
use lib.Seq.{sets, sets-eq, take-append_seam, drop-append_seam}
use Rattle.words.specs.Address.{Address}
use Rattle.words.specs.Address as A
use Rattle.words.specs.Insn.{Insn}
use Rattle.words.specs.Insn as N
use Rattle.pieces.specs.State.{State}
use Rattle.pieces.specs.Place.{Place, xlat}
use Rattle.model.specs.Table.{reads, writes, reads_a, writes_a}
use Rattle.model.specs.Number.{number, reads_of, writes_of, touches_of}
use Rattle.model.proofs.Touched.{touches_le}
use Rattle.footprint.specs.Inner.Numbers.{nothing, push, pushed, held, touched, lent, addressed, footprint_of}
use Rattle.footprint.specs.declared.Numbers.{Numbers}
use Rattle.footprint.specs.declared.Touches.{Touches}
use Rattle.footprint.proofs.Grown.{pushed_append}

-- ---- $a alone

lent_address : (i : Address) (s : State) → addressed i s.a ≡ touched (reads_a xlat i s) (writes_a xlat i s)
lent_address (A.Set o) s = refl
lent_address (A.Add o) s = refl
lent_address (A.Bitop o) s = refl
lent_address (A.Aadd o) s = refl
lent_address (A.Ld o) s = refl
lent_address (A.St o) s = refl
lent_address (A.Lda o) s = refl
lent_address (A.Sta o) s = refl

pub lent_footprint : (i : Insn) (s : State) → footprint_of i (lent s.a) ≡ footprint_of i s
lent_footprint (N.Address i) s = lent_address i s
lent_footprint (N.Vector i) s = refl
lent_footprint N.Nop s = refl

-- ---- what is listed

map_append : (ps qs : List Place) → map number (ps ++ qs) ≡ map number ps ++ map number qs
map_append [] qs = refl
map_append (p ∷ ps) qs = ap (λ (l : List ℕ). number p ∷ l) (map_append ps qs)

-- some numbers from the start of the array
abbrev pub numbers_of : List ℕ → Numbers
numbers_of xs = record { numbers = sets (replicate 22 0) 0 xs; count = length xs }

-- where there is room for all, all are listed
filled : (l : Numbers) (ps : List Place) → l.count + length ps ≤ 22
    → pushed l ps ≡ record { numbers = sets l.numbers l.count (map number ps); count = l.count + length ps }
unfolding pushed push
filled l [] h = ap (λ (k : ℕ). record { numbers = l.numbers; count = k }) (sym (add-zero l.count))
filled l (p ∷ ps) h =
    let e : l.count + 1 + length ps ≡ l.count + suc (length ps) = omega arith in
    let m : Numbers = record { numbers = set l.numbers l.count (number p); count = l.count + 1 } in
    rw (lt-ltb l.count 22 (omega arith))
    (filled m ps (omega arith)
    ∙ ap₂ {C = Numbers} (λ j k. record { numbers = sets m.numbers j (map number ps); count = k }) (add-one l.count) e)

listed : (ps : List Place) (xs : List ℕ) → map number ps ≡ xs → length xs ≤ 22 → pushed nothing ps ≡ numbers_of xs
listed ps xs e h =
    let n : length ps ≡ length xs = sym (length-map ps number) ∙ ap length e in
    filled nothing ps (omega arith)
    ∙ ap₂ {C = Numbers} (λ ys k. record { numbers = sets (replicate 22 0) 0 ys; count = k }) e (zero-add (length ps) ∙ n)

module _ (i : Insn) (s : State) where
  all : map number (reads xlat i s ++ writes xlat i s) ≡ touches_of i s
  unfolding reads_of writes_of
  all = map_append (reads xlat i s) (writes xlat i s)

  some : map number (reads xlat i s) ≡ reads_of i s
  unfolding reads_of
  some = refl

  pub reads_le : length (reads_of i s) ≤ length (touches_of i s)
  reads_le = omega (arith, length-append (reads_of i s) (writes_of i s))

  pub footprint_is : footprint_of i s ≡ record { list = numbers_of (touches_of i s); reads = length (reads_of i s) }
  unfolding touched
  footprint_is =
      ap₂ {C = Touches} (λ l m. record { list = l; reads = m.count })
      (pushed_append nothing (reads xlat i s) (writes xlat i s)
      ∙ listed (reads xlat i s ++ writes xlat i s) (touches_of i s) all (touches_le i s))
      (listed (reads xlat i s) (reads_of i s) some (omega (arith, reads_le, touches_le i s)))

  pub held_all : held (numbers_of (touches_of i s)) ≡ touches_of i s
  held_all =
      let n = touches_le i s in
      let e = zero-add (length (touches_of i s)) in
      ap (take (length (touches_of i s))) (sets-eq (touches_of i s) (replicate 22 0) 0 (omega arith))
      ∙ take-append_seam (touches_of i s) (drop (0 + length (touches_of i s)) (replicate 22 0))

  -- behind those read stand those written
  pub held_written : drop (length (reads_of i s)) (held (numbers_of (touches_of i s))) ≡ writes_of i s
  held_written = ap (drop (length (reads_of i s))) held_all ∙ drop-append_seam (reads_of i s) (writes_of i s)

  pub writes_are : length (touches_of i s) - length (reads_of i s) ≡ length (writes_of i s)
  writes_are = omega (arith, length-append (reads_of i s) (writes_of i s))
