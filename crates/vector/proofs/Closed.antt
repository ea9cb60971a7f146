-- What a vector instruction of the model comes to, piece by piece: `vectored` on $vc and $v, nothing on the others, and what it counts.
use mathlib.Core.Path.{◌≡◌, refl, ap}
use Prim.Native.Nat.{ℕ, zero, suc, ◌+◌, ◌*◌, ◌/◌, ◌%◌}
use native.Mathlib.Omega.{arith}
use mathlib.Core.Bool.{Bool, true, false, cond}
use mathlib.Core.List.{List, [], ◌∷◌}
use lib.Dec.{ltb}
use lib.ListN.{set}
use Rattle.lane.specs.Lane.{tells}
use Rattle.lanes.specs.Lanes.{Lanes, arith_lanes}
use Rattle.pieces.specs.Inner.Regs.{vreg_of, with_vreg, flags_at}
use Rattle.words.specs.Insn as N
use Rattle.words.specs.Second.{Second}
use Rattle.words.specs.Second.{Register, Byte, Absent}
use Rattle.words.specs.Input.{Input}
use Rattle.words.specs.Input.{Mask, Signs}
use Rattle.words.specs.Vector.{Vector}
use Rattle.words.specs.Vector.{Arith, Shift, Clip, Add9, MinAbs, Bitop, Logic, Cmpad, Swz, Mov, MovImm, MovFlags}
use Rattle.pieces.specs.State.{State, state}
use Rattle.terms.specs.declared.Half.TheVariants.{Low, High}
use Rattle.pieces.specs.Place.{xlat, halves, edit, upd, signs, zeros}
use Rattle.model.specs.Prog.{Did, Done, ret, run, ◌>>=◌, ◌≔◌, puts, done}
use Rattle.model.specs.Vector.{flags_to, lanes_to, second, input}
use Rattle.terms.specs.Counts.{counts, none}
use Rattle.terms.specs.Inner.Runs.{amount}
use Rattle.terms.specs.declared.Counted.TheVariants.{Nothing, Clipped}
use Rattle.model.specs.Step.{stepped, counted}
use Rattle.model.proofs.Cells.{accesses_are}
use Rattle.model.proofs.Clipped.{telling, clipped_none}
use Rattle.ports.specs.Inner.Ports.{vectors, second_of, input_of, lanes_at}
use Rattle.vector.specs.Inner.Effect.{vectored, counted_of}

-- two halves put are one word set, two halves read are one word
halves_put : (n sf zf : ℕ) (l : List ℕ) → upd n (edit halves High zf) (upd n (edit halves Low sf) l) ≡ set l n (zf * 65536 + sf % 65536)
halves_put n sf zf [] = refl
halves_put zero sf zf (w ∷ ws) = ap (λ (z : ℕ). z ∷ ws) (omega arith)
halves_put (suc n) sf zf (w ∷ ws) = ap (λ (z : List ℕ). w ∷ z) (halves_put n sf zf ws)

halves_read : (w : ℕ) → w / 65536 * 65536 + w % 65536 ≡ w
halves_read w = omega arith

-- flags are written only below 4
flags_put : (n sf zf : ℕ) (s : State) → puts xlat (flags_to n sf zf) s ≡ state s.ds s.a s.r s.c (flags_at n sf zf s.vc) s.v
unfolding flags_at
flags_put n sf zf s = go (ltb n 4)
  where
    go : (b : Bool) → puts xlat (cond b ((signs n ≔ sf) ∷ (zeros n ≔ zf) ∷ []) []) s
        ≡ state s.ds s.a s.r s.c (cond b (set s.vc n (zf * 65536 + sf % 65536)) s.vc) s.v
    go true = ap (λ (z : List ℕ). state s.ds s.a s.r s.c z s.v) (halves_put n sf zf s.vc)
    go false = refl

lanes_put : (dst n : ℕ) (l : Lanes) (s : State)
    → puts xlat (lanes_to dst n l).writes s
    ≡ state s.ds s.a s.r s.c (lanes_at dst n l (vectors s.vc s.v)).vc (lanes_at dst n l (vectors s.vc s.v)).v
unfolding lanes_at with_vreg
lanes_put dst n l s = flags_put n l.signs l.zeros (state s.ds s.a s.r s.c s.vc (with_vreg s.v dst l.bytes))

-- a source that is read or not
second_run : (y : Second) (g : List ℕ → Did) (s : State)
    → run xlat (second y >>= (λ ys. ret (g ys)) >>= (λ d. ret (done d))) s ≡ done (g (second_of y s.v))
unfolding second_of vreg_of
second_run (Register n) g s = refl
second_run (Byte b) g s = refl
second_run Absent g s = refl

input_run : (n : ℕ) (y : Input) (g : ℕ → Did) (s : State)
    → run xlat (input n y >>= (λ m. ret (g m)) >>= (λ d. ret (done d))) s ≡ done (g (input_of n y s.vc))
unfolding input_of
input_run n (Mask m) g s = refl
input_run n Signs g s = refl

pub closed : (i : Vector) (s : State)
    → stepped (N.Vector i) s
    ≡ state s.ds s.a s.r s.c (vectored i (vectors s.vc s.v)).vc (vectored i (vectors s.vc s.v)).v
unfolding stepped vectored vreg_of with_vreg
closed (Arith o) s = simp second_run (lanes_put _ _ _ s)
closed (Shift o) s = simp second_run (lanes_put _ _ _ s)
closed (Clip o) s = lanes_put _ _ _ s
closed (Add9 o) s = lanes_put _ _ _ s
closed (MinAbs o) s = lanes_put _ _ _ s
closed (Bitop o) s = lanes_put _ _ _ s
closed (Logic o) s = lanes_put _ _ _ s
closed (Cmpad o) s = simp input_run (flags_put _ _ _ s)
closed (Swz o) s = refl
closed (Mov o) s = lanes_put _ _ _ s
closed (MovImm o) s = lanes_put _ _ _ s
closed (MovFlags dst) s = simp halves_read

-- an instruction that does not tell counts nothing
silent : (i : Vector) (s : State) → telling (N.Vector i) ≡ false → counted (N.Vector i) s ≡ none
silent i s e = λ k. counts (accesses_are (N.Vector i) s k) (clipped_none (N.Vector i) s e k)

pub counting : (i : Vector) (s : State) → counted (N.Vector i) s ≡ amount (counted_of i (vectors s.vc s.v))
unfolding counted counted_of vreg_of
counting (Arith o) s = go (tells o.calc) refl
  where
    n : ℕ
    n = (arith_lanes o.calc o.signed (vreg_of s.v o.src1) (second_of o.second s.v)).clipped

    go : (t : Bool) → tells o.calc ≡ t → counted (N.Vector (Arith o)) s ≡ amount (cond t (Clipped n) Nothing)
    go true e = ap (λ (d : Done). d.counts) (second_run o.second _ s)
    go false e = silent (Arith o) s e
counting (Shift o) s = silent (Shift o) s refl
counting (Clip o) s = silent (Clip o) s refl
counting (Add9 o) s = refl
counting (MinAbs o) s = silent (MinAbs o) s refl
counting (Bitop o) s = silent (Bitop o) s refl
counting (Logic o) s = silent (Logic o) s refl
counting (Cmpad o) s = silent (Cmpad o) s refl
counting (Swz o) s = silent (Swz o) s refl
counting (Mov o) s = silent (Mov o) s refl
counting (MovImm o) s = silent (MovImm o) s refl
counting (MovFlags dst) s = silent (MovFlags dst) s refl
