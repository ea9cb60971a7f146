-- The three demands hold: specs/Claims.antt, put together from the other files.
use mathlib.Core.Path.{◌≡◌, refl, sym, ◌∙◌}
use Prim.Native.Nat.{ℕ, ◌%◌}
use native.Mathlib.Omega.{arith}
use mathlib.Core.Bool.{Bool, true, false}
use mathlib.Core.List.{List}
use lib.ListN.{length}
use Rattle.terms.specs.Counts.{none}
use Rattle.words.specs.Table.{decode_of}
use Rattle.words.specs.Decoded.{Decoded}
use Rattle.words.specs.Decoded as D
use Rattle.pieces.specs.State.{State, Sized, sized_of}
use Rattle.pieces.specs.Place.{xlat}
use Rattle.model.specs.Step.{step_of}
use Rattle.model.specs.Run.{RunOutcome, ended, run_of}
use Rattle.model.specs.Claims.{Does, Demand1, Demand2, Demand3}
use Rattle.pieces.proofs.Right.{sized_if, sized_only, clash}
use Rattle.model.proofs.Triples.{opening}
use Rattle.model.proofs.Refused.{refused, refusal_range, refusal_iff, five_iff}
use Rattle.model.proofs.Numbers.{step_exactly}
use Rattle.model.proofs.Lists.{starts}
use Rattle.model.proofs.Listed.{finished_at, spent_at, stopped_at, steps_leave}
use Rattle.model.proofs.Cells.{accesses_are}
use Rattle.model.proofs.Clipped.{clipped_are}
use Rattle.model.proofs.Match.{reads_are, writes_are}
use Rattle.model.proofs.Commute.{commutes, accepted, swapped}
use Rattle.model.proofs.Neighbours.{neighbours}

-- 5 and 6 leave all untouched
untouched : (budget : ℕ) (ws : List ℕ) (s : State) → (Sized s × (length ws % 3 ≡ 0) → ⊥) → run_of budget ws s ≡ ended (run_of budget ws s).number 0 none s
untouched budget ws s h =
    opening (λ (r : RunOutcome). r ≡ ended r.number 0 none s) budget ws s (λ z e. absurd (h (z, e))) (λ z e. refl) (λ z. refl)

pub demand1 : Demand1
demand1 = record {
  step = λ word side mask s. record { number = step_exactly word side mask s; unchanged = refused word side mask s };
  list = λ budget ws s. record {
    starts = starts budget ws s;
    untouched = untouched budget ws s;
    zero = finished_at budget ws s;
    seven = spent_at budget ws s;
    one_to_four = stopped_at budget ws s;
  };
}

-- an accepted word is an instruction
does : (word side mask : ℕ) (s : State) → (step_of word side mask s).number ≡ 0 → Does word side mask s
does word side mask s h = go (sized_of s) refl (decode_of word side mask) refl
  where
    go : (b : Bool) → sized_of s ≡ b → (d : Decoded) → decode_of word side mask ≡ d → Does word side mask s
    go true z (D.Insn i) e = record { insn = i; decoded = e; gives = accepted word side mask i s (sized_if s z) e }
    go true z (D.Refused k) e = absurd (omega (arith, h, refusal_range k, (refusal_iff word side mask s k).1 (sized_if s z, e)))
    go false z d e = absurd (omega (arith, h, (five_iff word side mask s).1 (λ (q : Sized s). clash (sym z ∙ sized_only s q))))

pub demand2 : Demand2
demand2 = record { step = does; accesses = accesses_are; clipped = clipped_are; list = steps_leave }

pub demand3 : Demand3
demand3 = record {
  table = λ i s. record { reads_are = reads_are xlat i s; writes_are = writes_are xlat i s };
  insns = commutes xlat;
  triples = λ w side mask w' side' mask' i j s z d d' h. swapped w side mask w' side' mask' i j s z d d' h;
  list = λ budget w side mask w' side' mask' i j before rest s d d' h m.
      neighbours budget w side mask w' side' mask' i j rest d d' before s h m;
}
