-- Demand 3, over the table of places alone: one argument for all instructions.
use mathlib.Core.Path.{◌≡◌, refl, ap, ◌∙◌}
use mathlib.Core.List.Memᴰ
use mathlib.Core.List.{List, ◌++◌}
use Rattle.words.specs.Insn.{Insn}
use Rattle.words.specs.Table.{decode_of}
use Rattle.words.specs.Decoded as D
use Prim.Native.Nat.{ℕ}
use Rattle.pieces.specs.State.{State, Sized}
use Rattle.pieces.specs.Place.{Place, Xlat, xlat}
use Rattle.terms.specs.declared.Counts.{Counts}
use Rattle.model.specs.Prog.{Done}
use Rattle.model.specs.Step.{outcome, sem, stepped, counted, triple_of, step_of}
use Rattle.model.specs.Table.{reads, writes}
use Rattle.model.specs.Claims.{Apart, Free, Commute, Exchange, Swapped}
use Rattle.model.proofs.Foot.{Clear, Exchanged, exchange}
use Rattle.model.proofs.Match.{reads_are, writes_are}
use Rattle.model.proofs.Lengths.{sized_stepped}
use Rattle.model.proofs.Refused.{step_sized}

left : (ps qs rs : List Place) → Apart ps (qs ++ rs) → Apart ps qs
left ps qs rs h p d e = h p d (Memᴰ.append_left rs e)

right : (ps qs rs : List Place) → Apart ps (qs ++ rs) → Apart ps rs
right ps qs rs h p d e = h p d (Memᴰ.append_right qs e)

-- the table's freedom is the programs'
clear : (X : Xlat) (i j : Insn) (s : State) → Free X i j s → Clear X (sem i) (sem j) s
clear X i j s h = record {
  wr = rw (writes_are X i s, reads_are X j s) (left (writes X i s) (reads X j s) (writes X j s) h.first);
  rd = rw (writes_are X j s, reads_are X i s) (left (writes X j s) (reads X i s) (writes X i s) h.second);
  ww = rw (writes_are X i s, writes_are X j s) (right (writes X i s) (reads X j s) (writes X j s) h.first);
}

-- under any translation: both orders end in one state, and each step counts the same in both
pub commutes : (X : Xlat) → Exchange X
commutes X i j s h =
    let e : Exchanged X (sem i) (sem j) s = exchange X (sem i) (sem j) s (clear X i j s h) in
    record { state = e.state; later = ap (λ (d : Done). d.counts) e.later.result; earlier = ap (λ (d : Done). d.counts) e.earlier.result }

-- under document 01's translation
module _ (i j : Insn) (s : State) (h : Free xlat i j s) where
  both : Commute xlat i j s
  both = commutes xlat i j s h

  pub later : counted j (stepped i s) ≡ counted j s
  unfolding counted stepped
  later = both.later

  pub earlier : counted i (stepped j s) ≡ counted i s
  unfolding counted stepped
  earlier = both.earlier

  pub same : stepped j (stepped i s) ≡ stepped i (stepped j s)
  unfolding stepped
  same = both.state

-- ---- the same of two triples, as the single call answers them

-- an instruction's triple is accepted, and gives what demand 2 says
pub accepted : (w side mask : ℕ) (i : Insn) (s : State) → Sized s → decode_of w side mask ≡ D.Insn i
    → step_of w side mask s ≡ outcome 0 (counted i s) (stepped i s)
unfolding triple_of
accepted w side mask i s z e = step_sized w side mask s z ∙ (rw e refl)

-- where two triples are accepted in a state of right lengths and are free of clashes there
module _ (w side mask w' side' mask' : ℕ) (i j : Insn) (s : State) (z : Sized s)
    (d : decode_of w side mask ≡ D.Insn i) (d' : decode_of w' side' mask' ≡ D.Insn j) (h : Free xlat i j s) where
  pub swapped : Swapped w side mask w' side' mask' i j s
  swapped =
      record {
        one = record {
          first = accepted w side mask i s z d;
          second =
              accepted w' side' mask' j (stepped i s) (sized_stepped i s z) d'
              ∙ ap (λ (k : Counts). outcome 0 k (stepped j (stepped i s))) (later i j s h);
        };
        other = record {
          first = accepted w' side' mask' j s z d';
          second =
              accepted w side mask i (stepped j s) (sized_stepped j s z) d
              ∙ ap (λ (k : Counts). outcome 0 k (stepped i (stepped j s))) (earlier i j s h);
        };
        same = same i j s h;
      }
