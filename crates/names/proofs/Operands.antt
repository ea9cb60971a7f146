-- Lists of operands, compared by computing; a list of operands from the code's number for it.
use mathlib.Core.Path.{◌≡◌, refl, ap, ◌∙◌, sym}
use mathlib.Core.Bool.{Bool, true, false, cond, ◌&&◌}
use mathlib.Core.List.{List, [], ◌∷◌}
use Prim.Native.Nat.{ℕ, ◌<◌}
use lib.Dec.{T, eqb}
use lib.ListN.{get_or, drop}
use Rattle.names.specs.Line.{Kind, number, flags, signed, lohi, allvc, Operand}
use Rattle.names.specs.Table.{row_at, rows, operands_at}
use Rattle.names.specs.Calls.{eqs}
use Rattle.names.specs.Inner.Code.{told, slot_of, slot_at, listed, form_of, form_code}
use Rattle.names.proofs.Tests.{and_left, and_right, below, eqs_eq}

abbrev decoded : List ℕ → Operand
decoded l =
    record {
      kind =
          cond (eqb (get_or l 0 0) 0) (number (get_or l 3 0) (drop 4 l))
          (cond (eqb (get_or l 0 0) 1) (flags (drop 4 l)) (cond (eqb (get_or l 0 0) 2) signed (cond (eqb (get_or l 0 0) 3) lohi allvc)));
      at = get_or l 1 0;
      bits = get_or l 2 0;
    }

back_kind : (k : Kind) (at n : ℕ) → decoded (told (record { kind = k; at = at; bits = n })) ≡ record { kind = k; at = at; bits = n }
back_kind (number b p) at n = refl
back_kind (flags p) at n = refl
back_kind signed at n = refl
back_kind lohi at n = refl
back_kind allvc at n = refl

unfoldable pub alike : List Operand → List Operand → Bool
alike [] [] = true
alike [] (b ∷ t) = false
alike (a ∷ s) [] = false
alike (a ∷ s) (b ∷ t) = eqs (told a) (told b) && alike s t

pub alike_eq : (s t : List Operand) → T (alike s t) → s ≡ t
unfolding alike
alike_eq [] [] h = refl
alike_eq [] (b ∷ t) h = absurd h
alike_eq (a ∷ s) [] h = absurd h
alike_eq (a ∷ s) (b ∷ t) h =
    let e : a ≡ b = sym (back_kind a.kind a.at a.bits) ∙ ap decoded (eqs_eq (told a) (told b) (and_left (eqs (told a) (told b)) (alike s t) h)) ∙ back_kind b.kind b.at b.bits in
    ap (λ (o : Operand). o ∷ s) e ∙ ap (λ (l : List Operand). b ∷ l) (alike_eq s t (and_right (eqs (told a) (told b)) (alike s t) h))

-- the operands of an opcode, from their number
form_test : (op : ℕ) → op < 256 → T (alike (listed 5 (form_code op)) (operands_at op))
unfolding form_code form_of slot_of listed slot_at alike row_at rows
form_test = below (λ op. alike (listed 5 (form_code op)) (operands_at op)) 256 tt

pub form_back : (op : ℕ) → op < 256 → listed 5 (form_code op) ≡ operands_at op
form_back op h = alike_eq (listed 5 (form_code op)) (operands_at op) (form_test op h)
