-- A value's text, read as an operand of its kind, is the value; the texts of a word's operands, gathered, are its fields.
use mathlib.Core.Path.{◌≡◌, refl, ap, ◌∙◌}
use mathlib.Core.Bool.{Bool, true, false, cond, ◌&&◌}
use mathlib.Core.List.{List, [], ◌∷◌, ◌++◌}
use mathlib.Core.Logic.{◌⊎◌, inl, inr}
use Prim.Native.Nat.{ℕ, zero, suc, ◌+◌, ◌*◌, ◌-◌, ◌/◌, ◌%◌, ◌^◌, ◌<◌, ◌≤◌}
use native.Mathlib.Nat.{mod-lt, mod-eq_of_lt, one-le-pow}
use native.Mathlib.Omega.{arith}
use borrow.Author.Tests.{ltb-true, lt-ltb, le-ltb}
use lib.Dec.{T, ltb, leb, eqb, eqb→eq, leb→le, ltb→lt, lt→ltb}
use lib.ListN.{length}
use lib.Seq.{drop-append_seam}
use Rattle.names.specs.Line.{Kind, number, flags, signed, lohi, allvc, Operand, ascii, numeral, kept, shown, text_of, value_of, texts_of, fields_of}
use Rattle.names.specs.Inner.Scan.{digits_of, meant, gathered}
use Rattle.names.proofs.Tests.{and_left, and_right}
use Rattle.names.proofs.Numeral.{numeral_back}

-- the field is small enough for the kind
abbrev pub fine : Kind → ℕ → Bool
fine (number b p) n = leb 2 b && (leb b 16 && (leb (2 ^ n) (b ^ 4) && leb (2 ^ n) 65536))
fine (flags p) n = eqb n 3
fine signed n = eqb n 11
fine lohi n = eqb n 1
fine allvc n = eqb n 0

hex_back : (x : ℕ) → x < 65536 → digits_of 16 0 (numeral 4 16 x) ≡ x
hex_back x h = numeral_back 16 (omega arith) (omega arith) 4 x h h

signed_back : (x : ℕ) (t : Bool) → ltb x 1024 ≡ t → x < 2048
    → meant signed (cond t (ascii "0x" ++ numeral 4 16 x) (ascii "-0x" ++ numeral 4 16 (2048 - x))) ≡ x
signed_back x true e h = hex_back x (omega arith)
signed_back x false e h = rw (hex_back (2048 - x) (omega arith)) (omega arith)

lohi_back : (x : ℕ) → x < 2 → meant lohi (text_of lohi x) ≡ x
lohi_back zero h = refl
lohi_back (suc zero) h = refl
lohi_back (suc (suc x)) h = absurd (omega arith)

pub meant_back : (k : Kind) (n : ℕ) → T (fine k n) → (x : ℕ) → x < 2 ^ n → T (shown k x) → meant k (text_of k x) ≡ x
meant_back (number b p) n f x h s =
    let f1 : T (leb 2 b) = and_left (leb 2 b) _ f in
    let g = and_right (leb 2 b) _ f in
    let f2 : T (leb b 16) = and_left (leb b 16) _ g in
    let g' = and_right (leb b 16) _ g in
    let f3 : 2 ^ n ≤ b ^ 4 = leb→le _ _ (and_left (leb (2 ^ n) (b ^ 4)) _ g') in
    let f4 : 2 ^ n ≤ 65536 = leb→le _ _ (and_right (leb (2 ^ n) (b ^ 4)) _ g') in
    rw (drop-append_seam p (numeral 4 b x)) (numeral_back b (leb→le _ _ f1) (leb→le _ _ f2) 4 x (omega arith) (omega arith))
meant_back (flags p) n f x h s =
    let l : x < 4 = ltb→lt x 4 s in
    rw (drop-append_seam p (numeral 4 10 x)) (numeral_back 10 (omega arith) (omega arith) 4 x (omega arith) (omega arith))
meant_back signed n f x h s = signed_back x (ltb x 1024) refl (rw (eqb→eq n 11 f) at h)
meant_back lohi n f x h s = lohi_back x (rw (eqb→eq n 1 f) at h)
meant_back allvc n f x h s = omega (arith, rw (eqb→eq n 0 f) at h)

taken_back : (k : Kind) (n : ℕ) → T (fine k n) → (x : ℕ) → x < 2 ^ n → T (shown k x) → meant k (text_of k x) % 2 ^ n ≡ x
taken_back k n f x h s = ap (λ (y : ℕ). y % 2 ^ n) (meant_back k n f x h s) ∙ mod-eq_of_lt h

-- ---- the operands of a row

abbrev pub flagless : Kind → Bool
flagless (number b p) = true
flagless (flags p) = false
flagless signed = true
flagless lohi = true
flagless allvc = true

abbrev pub solid : List Operand → Bool
solid [] = true
solid (o ∷ os) = flagless o.kind && solid os

abbrev pub alone : Kind → List Operand → Bool
alone (number b p) os = true
alone (flags p) os = solid os
alone signed os = true
alone lohi os = true
alone allvc os = true

abbrev pub sound : List Operand → Bool
sound [] = true
sound (o ∷ os) = fine o.kind o.bits && (alone o.kind os && sound os)

shown_flagless : (k : Kind) (x : ℕ) → T (flagless k) → shown k x ≡ true
shown_flagless (number b p) x t = refl
shown_flagless (flags p) x t = absurd t
shown_flagless signed x t = refl
shown_flagless lohi x t = refl
shown_flagless allvc x t = refl

pub length_solid : (os : List Operand) (w : ℕ) → T (solid os) → length (texts_of os w) ≡ length os
unfolding texts_of
length_solid [] w t = refl
length_solid (o ∷ os) w t =
    rw (shown_flagless o.kind (value_of o w) (and_left (flagless o.kind) (solid os) t))
    (ap suc (length_solid os w (and_right (flagless o.kind) (solid os) t)))

abbrev pub operand : Kind → ℕ → ℕ → Operand
operand k at n = record { kind = k; at = at; bits = n }

flag_back : (p : List ℕ) (at n : ℕ) (os : List Operand) (v : ℕ) (rest : List (List ℕ)) → T (fine (flags p) n) → length rest ≡ length os → (v < 4) ⊎ (v ≡ 7)
    → gathered (operand (flags p) at n ∷ os) (cond (ltb v 4) ((p ++ numeral 4 10 v) ∷ rest) rest) ≡ v * 2 ^ at + gathered os rest
unfolding gathered
flag_back p at n os v rest f e (inl h) =
    rw (lt-ltb v 4 h, lt-ltb (length os) (suc (length rest)) (omega arith), taken_back (flags p) n f v (rw (eqb→eq n 3 f) (omega arith)) (lt→ltb v 4 h)) refl
flag_back p at n os v rest f e (inr h) = rw (h, le-ltb (length os) (length rest) (omega arith)) refl

kept_flag : (x : ℕ) (t : Bool) → ltb x 4 ≡ t → (cond t x 7 < 4) ⊎ (cond t x 7 ≡ 7)
kept_flag x true e = inl (ltb-true x 4 e)
kept_flag x false e = inr refl

small : (w at n : ℕ) → w / 2 ^ at % 2 ^ n < 2 ^ n
small w at n = mod-lt (w / 2 ^ at) (one-le-pow n 2 (omega arith))

one_back : (k : Kind) (at n : ℕ) (os : List Operand) (w : ℕ) → T (fine k n) → T (alone k os) → gathered os (texts_of os w) ≡ fields_of os w
    → gathered (operand k at n ∷ os) (texts_of (operand k at n ∷ os) w) ≡ fields_of (operand k at n ∷ os) w
unfolding gathered texts_of fields_of value_of
one_back (number b p) at n os w f a ih = rw (taken_back (number b p) n f (w / 2 ^ at % 2 ^ n) (small w at n) tt, ih) refl
one_back (flags p) at n os w f a ih =
    flag_back p at n os (kept (flags p) (w / 2 ^ at % 2 ^ n)) (texts_of os w) f (length_solid os w a) (kept_flag (w / 2 ^ at % 2 ^ n) (ltb (w / 2 ^ at % 2 ^ n) 4) refl)
    ∙ ap (λ (r : ℕ). kept (flags p) (w / 2 ^ at % 2 ^ n) * 2 ^ at + r) ih
one_back signed at n os w f a ih = rw (taken_back signed n f (w / 2 ^ at % 2 ^ n) (small w at n) tt, ih) refl
one_back lohi at n os w f a ih = rw (taken_back lohi n f (w / 2 ^ at % 2 ^ n) (small w at n) tt, ih) refl
one_back allvc at n os w f a ih = rw (taken_back allvc n f (w / 2 ^ at % 2 ^ n) (small w at n) tt, ih) refl

pub gathered_back : (os : List Operand) (w : ℕ) → T (sound os) → gathered os (texts_of os w) ≡ fields_of os w
unfolding gathered texts_of fields_of
gathered_back [] w t = refl
gathered_back (o ∷ os) w t =
    let r = and_right (fine o.kind o.bits) _ t in
    one_back o.kind o.at o.bits os w (and_left (fine o.kind o.bits) _ t) (and_left (alone o.kind os) (sound os) r)
    (gathered_back os w (and_right (alone o.kind os) (sound os) r))
