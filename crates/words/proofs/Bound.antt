-- Whatever a word decodes to names registers that are there.
use mathlib.Core.Path.{◌≡◌, refl}
use mathlib.Core.Bool.{Bool, true, false, cond}
use mathlib.Core.List.{List, [], ◌∷◌}
use Prim.Native.Nat.{ℕ, zero, suc, ◌-◌, ◌*◌, ◌<◌}
use native.Mathlib.Omega.{arith}
use borrow.Author.Tests.{ltb-true}
use lib.Dec.{ltb}
use lib.ListN.{get_or, take, drop}
use Rattle.words.specs.Fields.{fields_of}
use Rattle.words.specs.Inner.Bounded.{BoundedA, BoundedV, BoundedD}
use Rattle.words.specs.Table.{rows, decode_at, decode_of, none}
use Rattle.terms.specs.declared.Refusal.TheVariants.{Foreign}
use Rattle.words.specs.declared.Fields.{Fields}
use Rattle.words.specs.Decoded.{Decoded}
use Rattle.words.specs.Decoded as D

abbrev All : List Decoded → Type 0
All [] = Unit {0}
All (d ∷ ds) = BoundedD d × All ds

at : (ds : List Decoded) (n : ℕ) → All ds → BoundedD (get_or ds n none)
at [] n h = tt
at (d ∷ ds) zero h = h.0
at (d ∷ ds) (suc n) h = at ds n h.1

join : (n : ℕ) (ds : List Decoded) → All (take n ds) → All (drop n ds) → All ds
join zero ds h k = k
join (suc n) [] h k = tt
join (suc n) (d ∷ ds) h k = (h.0, join n ds h.1 k)

record Small (f : Fields) : Type 0 where
  dst : f.dst < 32
  src1 : f.src1 < 32
  src2 : f.src2 < 32
  src3 : f.src3 < 32

small : (w : ℕ) → Small (fields_of w)
unfolding fields_of
small w = record { dst = omega arith; src1 = omega arith; src2 = omega arith; src3 = omega arith }

-- the table by its lines of eight, since `omega` takes at most 64 parts
module _ (f : Fields) (s : Small f) (side mask : ℕ) where
  abbrev eight : ℕ → List Decoded
  eight k = take 8 (drop (k * 8) (rows f side mask))

  line0 : All (eight 0)
  unfolding rows BoundedA BoundedV
  line0 = omega arith

  line1 : (b : Bool) → ltb mask 131072 ≡ b → All (eight 1)
  unfolding rows BoundedA BoundedV
  line1 true e = rw e (omega arith)
  line1 false e = rw e (omega arith)

  line2 : All (eight 2)
  unfolding rows BoundedA BoundedV
  line2 = omega arith

  line3 : All (eight 3)
  unfolding rows BoundedA BoundedV
  line3 = omega arith

  line4 : All (eight 4)
  unfolding rows BoundedA BoundedV
  line4 = omega arith

  line5 : All (eight 5)
  unfolding rows BoundedA BoundedV
  line5 = omega arith

  line6 : All (eight 6)
  unfolding rows BoundedA BoundedV
  line6 = omega arith

  line7 : All (eight 7)
  unfolding rows BoundedA BoundedV
  line7 = omega arith

  line8 : (b : Bool) → ltb side 32 ≡ b → All (eight 8)
  unfolding rows BoundedA BoundedV
  line8 true e = let h = ltb-true side 32 e in rw e (omega arith)
  line8 false e = rw e (omega arith)

  line9 : (b : Bool) → ltb side 32 ≡ b → All (eight 9)
  unfolding rows BoundedA BoundedV
  line9 true e = let h = ltb-true side 32 e in rw e (omega arith)
  line9 false e = rw e (omega arith)

  line10 : All (eight 10)
  unfolding rows BoundedA BoundedV
  line10 = omega arith

  line11 : All (eight 11)
  unfolding rows BoundedA BoundedV
  line11 = omega arith

  all : All (rows f side mask)
  unfolding rows
  all = let r = rows f side mask in join 8 r line0 (join 8 (drop 8 r) (line1 _ refl) (join 8 (drop 16 r) line2 (join 8 (drop 24 r) line3 (join 8 (drop 32 r) line4 (join 8 (drop 40 r) line5 (join 8 (drop 48 r) line6 (join 8 (drop 56 r) line7 (join 8 (drop 64 r) (line8 _ refl) (join 8 (drop 72 r) (line9 _ refl) (join 8 (drop 80 r) line10 line11))))))))))

either : (b b' : Bool) (d : Decoded) → BoundedD d → BoundedD (cond b (D.Refused Foreign) (cond b' (D.Refused Foreign) d))
either true b' d h = tt
either false true d h = tt
either false false d h = h

pub bounded : (w side mask : ℕ) → BoundedD (decode_of w side mask)
unfolding decode_of decode_at
bounded w side mask =
    let f = fields_of w in
    either (ltb f.op 0x80) (ltb 0xdf f.op) (get_or (rows f side mask) (f.op - 0x80) none)
    (at (rows f side mask) (f.op - 0x80) (all f (small w) side mask))
