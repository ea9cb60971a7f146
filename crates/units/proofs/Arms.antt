-- What each arm of `units::triple` leaves, where its word decodes to what its case means: the outcome of the word's row.
use Rattle.std.proofs.Common.{Ok, Err, ◌≡◌, ℕ, List, [], sym, ap, ◌∙◌, subst}
use Rattle.words.specs.Table.{decode_of}
use Rattle.words.specs.Inner.Bounded.{Bounded, BoundedD}
use Rattle.words.specs.Inner.Meant.{meant, meant_d}
use Rattle.words.specs.Address.{Address}
use Rattle.words.specs.Vector.{Vector}
use Rattle.words.specs.Insn as N
use Rattle.words.specs.Decoded as D
use Rattle.words.proofs.Bound.{bounded}
use Rattle.terms.specs.declared.Counted.{Counted}
use Rattle.terms.specs.declared.Counted.TheVariants.{Nothing}
use Rattle.words.specs.declared.Insn.{Insn}
use Rattle.std.specs.Prelude.{MatchResult}
use Rattle.std.specs.declared.result.Result.{Result}
use Rattle.terms.specs.declared.Refusal.{Refusal}
use Rattle.address.specs.Inner.Effect.{Pieces, five, addressed, counted_in}
use Rattle.address.specs.Inner.Effect as A
use Rattle.ports.specs.Inner.Ports as P
use Rattle.vector.specs.Inner.Effect as U
use Rattle.pieces.specs.State.{State, state}
use Rattle.units.specs.Inner.Answers.{answered, answered_of, by_insn}
use Rattle.units.proofs.Units.{idling, vectoring, addressing, by_row}

-- the word's row of the table is the instruction i
pub record Row (word side mask : ℕ) (i : N.Insn) : Type 0 where
  pub is : D.Insn i ≡ decode_of word side mask

-- where the word decodes to d, which is the instruction n, which is the case j
pub row : {word side mask : ℕ} {d : Result Insn Refusal} {n j : Insn} → meant_d d ≡ decode_of word side mask → d ≡ Ok n → n ≡ j → Row word side mask (meant j)
row h g e = record { is = ap (λ (i : Insn). D.Insn (meant i)) (sym e) ∙ ap meant_d (sym g) ∙ h }

-- a word that is no instruction: its refusal goes on as it is
pub refusal_on : (P : Insn → Type 0) {d : Result Insn Refusal} {x : Result Counted Refusal} {k : Refusal} → d ≡ Err k → MatchResult d P (λ k. x ≡ Err k) → x ≡ Err k
refusal_on P {x = x} e m = subst (λ (d : Result Insn Refusal). MatchResult d P (λ k. x ≡ Err k)) e m

-- the pieces that a function is lent, among those that it is not
module _ (s : State) where
  abbrev pub just_a : Pieces → Pieces
  just_a z = five s.ds z.a s.r s.c s.v

  abbrev pub a_and_c : Pieces → Pieces
  a_and_c z = five s.ds z.a s.r z.c s.v

  abbrev pub but_r : Pieces → Pieces
  but_r z = five z.ds z.a s.r z.c z.v

  abbrev pub but_v : Pieces → Pieces
  but_v z = five z.ds z.a z.r z.c s.v

  abbrev pub just_a_lent : Pieces
  just_a_lent = five [] s.a [] [] []

  abbrev pub a_and_c_lent : Pieces
  a_and_c_lent = five [] s.a [] s.c []

  abbrev pub but_r_lent : Pieces
  but_r_lent = five s.ds s.a [] s.c s.v

  abbrev pub but_v_lent : Pieces
  but_v_lent = five s.ds s.a s.r s.c []

module _ {word side mask : ℕ} where
  -- the registers that it names are there
  pub there : {i : N.Insn} → Row word side mask i → Bounded i
  there r = subst (λ (d : D.Decoded). BoundedD d) (sym r.is) (bounded word side mask)

  module _ (s : State) where
    ends : {i : N.Insn} → Row word side mask i → by_insn i s ≡ answered_of word side mask s
    ends {i} r = by_row word side mask s (D.Insn i) r.is

    pub of_nop : Row word side mask N.Nop → answered (Ok Nothing) s ≡ answered_of word side mask s
    of_nop r = idling s ∙ ends r

    pub of_vector : {i : Vector} → Row word side mask (N.Vector i) → {z : P.Result} → z ≡ U.result_of i (P.vectors s.vc s.v)
        → answered (Ok z.counted) (state s.ds s.a s.r s.c z.after.vc z.after.v) ≡ answered_of word side mask s
    of_vector {i} r f = vectoring s i f ∙ ends r

    pub of_address : (g : Pieces → Pieces) (l : Pieces) {i : Address} → Row word side mask (N.Address i) → {z : A.Result} → z ≡ A.result_of i l
        → counted_in i l.a ≡ counted_in i s.a → g (addressed i l) ≡ addressed i (five s.ds s.a s.r s.c s.v)
        → answered (Ok z.counted) (state (g z.after).ds (g z.after).a (g z.after).r (g z.after).c s.vc (g z.after).v) ≡ answered_of word side mask s
    of_address g l {i} r f h k = addressing s g l i f h k ∙ ends r

    -- the same where the store and $a are read and $c and $v change: n is counted
    pub of_load : {i : Address} → Row word side mask (N.Address i) → {n : Counted} {c v : List ℕ}
        → A.result_from n (five s.ds s.a [] c v) ≡ A.result_of i (but_r_lent s)
        → counted_in i (but_r_lent s).a ≡ counted_in i s.a → but_r s (addressed i (but_r_lent s)) ≡ addressed i (five s.ds s.a s.r s.c s.v)
        → answered (Ok n) (state s.ds s.a s.r c s.vc v) ≡ answered_of word side mask s
    of_load r f h k = of_address (but_r s) (but_r_lent s) r f h k
