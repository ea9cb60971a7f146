-- What a bounded instruction reads and writes is there, and it is no more than twenty-two places.
use mathlib.Core.Path.{◌≡◌, refl, sym, subst}
use mathlib.Core.Logic.{⊎_elim}
use Prim.Native.Nat.{ℕ, ◌≤◌, ◌<◌}
use native.Mathlib.Omega.{arith}
use mathlib.Core.Bool.{Bool, true, false, cond}
use mathlib.Core.List.Memᴰ
use mathlib.Core.List.{List, [], ◌∷◌, ◌++◌, map, Memᴰ}
use borrow.Author.Tests.{ltb-true}
use lib.Bits.{bit_or, or_lt}
use lib.Dec.{ltb}
use lib.ListN.{length, length-append, length-map}
use Rattle.banks.specs.Line.{addresses, line, count_of}
use Rattle.terms.specs.declared.Way.{Way}
use Rattle.terms.specs.declared.Way.TheVariants.{Horizontal, Vertical, Scalar}
use Rattle.banks.proofs.Places.{length_from}
use Rattle.banks.proofs.OneToOne.{at_lt}
use Rattle.words.specs.Inner.Bounded.{BoundedI, BoundedS, BoundedA, BoundedV, Bounded}
use Rattle.terms.specs.declared.Half as H
use Rattle.terms.specs.declared.Half.TheVariants.{Low, High}
use Rattle.words.specs.declared.Increment.{Increment}
use Rattle.words.specs.declared.Increment.TheVariants as I
use Rattle.words.specs.Second.{Second}
use Rattle.words.specs.Second as S
use Rattle.words.specs.Input.{Input}
use Rattle.words.specs.Input.{Mask, Signs}
use Rattle.words.specs.Address.{Address}
use Rattle.words.specs.Address as A
use Rattle.words.specs.Vector.{Vector}
use Rattle.words.specs.Vector as W
use Rattle.words.specs.Insn.{Insn}
use Rattle.words.specs.Insn as N
use Rattle.pieces.specs.State.{State}
use Rattle.pieces.specs.Place.{Place, byte, signs, zeros, long, short, xlat}
use Rattle.model.specs.Table.{half_of, increment, second, input, written, long_of, short_of, flags_of, datum, bytes, at_or, at_addr, addr_in, code_in, reads_a, writes_a, reads_v, writes_v, reads, writes}
use Rattle.model.specs.Number.{reads_of, writes_of, touches_of}
use Rattle.model.proofs.Numbered.{There}

abbrev Each : List Place → Type 0
Each [] = Unit {0}
Each (p ∷ ps) = There p × Each ps

each_in : (ps : List Place) → Each ps → (p : Place) → Memᴰ p ps → There p
each_in [] h p m = absurd (Memᴰ.not-nil m)
each_in (q ∷ ps) h p m =
    ⊎_elim (λ (e : p ≡ q). subst There (sym e) h.0) (λ (m : Memᴰ p ps). each_in ps h.1 p m) (Memᴰ.cases_cons m)

each_append : (ps qs : List Place) → Each ps → Each qs → Each (ps ++ qs)
each_append [] qs h k = k
each_append (p ∷ ps) qs h k = (h.0, each_append ps qs h.1 k)

each_written : (n : ℕ) (ps : List Place) → (n < 4 → Each ps) → Each (written n ps)
each_written n ps h = go (ltb n 4) (ltb-true n 4)
  where
    go : (b : Bool) → (b ≡ true → n < 4) → Each (cond b ps [])
    go true e = h (e refl)
    go false e = tt

each_long : (n : ℕ) → Each (long_of n)
each_long n = each_written n (long n ∷ []) (λ h. omega arith)

each_short : (n : ℕ) → Each (short_of n)
each_short n = each_written n (short n ∷ []) (λ h. omega arith)

each_flags : (n : ℕ) → Each (flags_of n)
each_flags n = each_written n (signs n ∷ zeros n ∷ []) (λ h. omega arith)

there_half : (h : H.Half) (n : ℕ) → n < 32 → There (half_of h n)
there_half Low n l = l
there_half High n l = l

there_datum : (way : Way) (n : ℕ) → n < 32 → There (datum way n)
there_datum Horizontal n l = l
there_datum Vertical n l = l
there_datum Scalar n l = l

each_increment : (i : Increment) → BoundedI i → Each (increment i)
each_increment (I.Register n) h = (h, tt)
each_increment (I.Immediate i) h = tt

each_second : (x : Second) → BoundedS x → Each (second x)
each_second (S.Register n) h = (h, tt)
each_second (S.Byte b) h = tt
each_second S.Absent h = tt

each_input : (n : ℕ) (x : Input) → Each (input n x)
each_input n (Mask m) = tt
each_input n Signs = omega arith

each_at : (c : ℕ) (xs : List ℕ) → Each (map {B = Place} (λ y. byte (xlat c y)) xs)
each_at c [] = tt
each_at c (x ∷ xs) = (at_lt c x, each_at c xs)

each_bytes : (way : Way) (c x : ℕ) → Each (bytes xlat way c x)
each_bytes way c x = each_at c (addresses way c x)

reads_address : (i : Address) (s : State) → BoundedA i → Each (reads_a xlat i s)
unfolding BoundedA
reads_address (A.Set o) s h = tt
reads_address (A.Add o) s h = omega arith
reads_address (A.Bitop o) s h = omega arith
reads_address (A.Aadd o) s h = omega arith
reads_address (A.Ld o) s h = (h.1, (h.1, each_bytes o.way _ _))
reads_address (A.St o) s h = (h.1, (h.1, (there_datum o.way o.reg h.0, tt)))
reads_address (A.Lda o) s h = (h.1, (h.1, each_append (increment o.inc) _ (each_increment o.inc h.2) (each_bytes o.way _ _)))
reads_address (A.Sta o) s h =
    (h.1, (h.1, each_append (increment o.inc) _ (each_increment o.inc h.2) (there_datum o.way o.reg h.0, tt)))

writes_address : (i : Address) (s : State) → BoundedA i → Each (writes_a xlat i s)
unfolding BoundedA
writes_address (A.Set o) s h = (there_half o.half o.dst h, tt)
writes_address (A.Add o) s h = (h.0, (h.0, each_long o.cdst))
writes_address (A.Bitop o) s h = (h.0, (h.0, each_long o.flags))
writes_address (A.Aadd o) s h = (h.0, each_short o.cdst)
writes_address (A.Ld o) s h = (there_datum o.way o.reg h.0, each_short o.cdst)
writes_address (A.St o) s h = each_append (at_or xlat o.way o.base o.uimm s) _ (each_bytes o.way _ _) (each_short o.cdst)
writes_address (A.Lda o) s h = (there_datum o.way o.reg h.0, (h.1, each_short o.cdst))
writes_address (A.Sta o) s h = each_append (at_addr xlat o.way o.base s) _ (each_bytes o.way _ _) (h.1, each_short o.cdst)

reads_vector : (i : Vector) → BoundedV i → Each (reads_v i)
unfolding BoundedV
reads_vector (W.Arith o) h = (h.1, each_second o.second h.2)
reads_vector (W.Shift o) h = (h.1, each_second o.second h.2)
reads_vector (W.Clip o) h = omega arith
reads_vector (W.Add9 o) h = omega arith
reads_vector (W.MinAbs o) h = omega arith
reads_vector (W.Bitop o) h = omega arith
reads_vector (W.Logic o) h = omega arith
reads_vector (W.Cmpad o) h = (h.0, (or_lt 5 o.src1 1 h.0 (omega arith), (h.1, each_input o.vcdst o.input)))
reads_vector (W.Swz o) h = omega arith
reads_vector (W.Mov o) h = omega arith
reads_vector (W.MovImm o) h = tt
reads_vector (W.MovFlags dst) h = omega arith

writes_vector : (i : Vector) → BoundedV i → Each (writes_v i)
unfolding BoundedV
writes_vector (W.Arith o) h = (h.0, each_flags o.vcdst)
writes_vector (W.Shift o) h = (h.0, each_flags o.vcdst)
writes_vector (W.Clip o) h = (h.0, each_flags o.vcdst)
writes_vector (W.Add9 o) h = (h.0, each_flags o.vcdst)
writes_vector (W.MinAbs o) h = (h.0, each_flags o.vcdst)
writes_vector (W.Bitop o) h = (h.0, each_flags o.flags)
writes_vector (W.Logic o) h = (h.0, each_flags o.vcdst)
writes_vector (W.Cmpad o) h = each_flags o.vcdst
writes_vector (W.Swz o) h = (h.0, tt)
writes_vector (W.Mov o) h = (h.0, each_flags o.vcdst)
writes_vector (W.MovImm o) h = (h, each_flags o.vcdst)
writes_vector (W.MovFlags dst) h = (h, tt)

each_reads : (i : Insn) (s : State) → Bounded i → Each (reads xlat i s)
each_reads (N.Address i) s h = reads_address i s h
each_reads (N.Vector i) s h = reads_vector i h
each_reads N.Nop s h = tt

each_writes : (i : Insn) (s : State) → Bounded i → Each (writes xlat i s)
each_writes (N.Address i) s h = writes_address i s h
each_writes (N.Vector i) s h = writes_vector i h
each_writes N.Nop s h = tt

-- every place that a bounded instruction reads is there, in any state
pub reads_there : (i : Insn) (s : State) → Bounded i → (p : Place) → Memᴰ p (reads xlat i s) → There p
reads_there i s h = each_in (reads xlat i s) (each_reads i s h)

-- and every place that it writes
pub writes_there : (i : Insn) (s : State) → Bounded i → (p : Place) → Memᴰ p (writes xlat i s) → There p
writes_there i s h = each_in (writes xlat i s) (each_writes i s h)

-- ---- how many

few : (n : ℕ) (ps : List Place) → length (written n ps) ≤ length ps
few n ps = go (ltb n 4)
  where
    go : (b : Bool) → length (cond b ps []) ≤ length ps
    go true = omega arith
    go false = omega arith

few_long : (n : ℕ) → length (long_of n) ≤ 1
few_long n = few n (long n ∷ [])

few_short : (n : ℕ) → length (short_of n) ≤ 1
few_short n = few n (short n ∷ [])

few_flags : (n : ℕ) → length (flags_of n) ≤ 2
few_flags n = few n (signs n ∷ zeros n ∷ [])

few_increment : (i : Increment) → length (increment i) ≤ 1
few_increment (I.Register n) = omega arith
few_increment (I.Immediate i) = omega arith

few_second : (x : Second) → length (second x) ≤ 1
few_second (S.Register n) = omega arith
few_second (S.Byte b) = omega arith
few_second S.Absent = omega arith

few_input : (n : ℕ) (x : Input) → length (input n x) ≤ 1
few_input n (Mask m) = omega arith
few_input n Signs = omega arith

count_le : (way : Way) → count_of way ≤ 16
count_le Horizontal = omega arith
count_le Vertical = omega arith
count_le Scalar = omega arith

few_bytes : (way : Way) (c x : ℕ) → length (addresses way c x) ≤ 16
unfolding addresses line
few_bytes way c x = simp (length-map, length_from) (count_le way)

module _ (s : State) (n : ℕ) (way : Way) where
  few_or : (uimm : ℕ) → length (at_or xlat way n uimm s) ≤ 16
  few_or uimm = simp length-map (few_bytes way (code_in s n) (bit_or (addr_in s n) uimm))

  few_addr : length (at_addr xlat way n s) ≤ 16
  few_addr = simp length-map (few_bytes way (code_in s n) (addr_in s n))

few_address : (i : Address) (s : State) → length (reads_a xlat i s ++ writes_a xlat i s) ≤ 22
few_address (A.Set o) s = omega arith
few_address (A.Add o) s = omega (arith, few_long o.cdst)
few_address (A.Bitop o) s = omega (arith, few_long o.flags)
few_address (A.Aadd o) s = omega (arith, few_short o.cdst)
few_address (A.Ld o) s = simp length-append (omega (arith, few_short o.cdst, few_or s o.base o.way o.uimm))
few_address (A.St o) s = simp length-append (omega (arith, few_short o.cdst, few_or s o.base o.way o.uimm))
few_address (A.Lda o) s = simp length-append (omega (arith, few_short o.cdst, few_increment o.inc, few_addr s o.base o.way))
few_address (A.Sta o) s = simp length-append (omega (arith, few_short o.cdst, few_increment o.inc, few_addr s o.base o.way))

few_vector : (i : Vector) → length (reads_v i ++ writes_v i) ≤ 22
few_vector (W.Arith o) = simp length-append (omega (arith, few_second o.second, few_flags o.vcdst))
few_vector (W.Shift o) = simp length-append (omega (arith, few_second o.second, few_flags o.vcdst))
few_vector (W.Clip o) = omega (arith, few_flags o.vcdst)
few_vector (W.Add9 o) = omega (arith, few_flags o.vcdst)
few_vector (W.MinAbs o) = omega (arith, few_flags o.vcdst)
few_vector (W.Bitop o) = omega (arith, few_flags o.flags)
few_vector (W.Logic o) = omega (arith, few_flags o.vcdst)
few_vector (W.Cmpad o) = simp length-append (omega (arith, few_input o.vcdst o.input, few_flags o.vcdst))
few_vector (W.Swz o) = omega arith
few_vector (W.Mov o) = omega (arith, few_flags o.vcdst)
few_vector (W.MovImm o) = omega (arith, few_flags o.vcdst)
few_vector (W.MovFlags dst) = omega arith

few_touched : (i : Insn) (s : State) → length (reads xlat i s ++ writes xlat i s) ≤ 22
few_touched (N.Address i) s = few_address i s
few_touched (N.Vector i) s = few_vector i
few_touched N.Nop s = omega arith

-- no instruction touches more than twenty-two places, so a buffer of twenty-two numbers takes them all
pub touches_le : (i : Insn) (s : State) → length (touches_of i s) ≤ 22
unfolding reads_of writes_of
touches_le i s = simp (length-append, length-map) (omega (arith, simp length-append at (few_touched i s)))
