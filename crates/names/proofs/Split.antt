-- A line's texts, with no space and no line feed in them, are found again by splitting at the spaces.
use mathlib.Core.Path.{◌≡◌, refl, ap}
use mathlib.Core.Bool.{Bool, true, false, cond, ◌&&◌, not}
use mathlib.Core.List.{List, [], ◌∷◌, ◌++◌}
use Prim.Native.Nat.{ℕ, zero, suc, ◌-◌, ◌/◌, ◌%◌, ◌<◌, ◌≤◌}
use native.Mathlib.Nat.{mod-lt}
use native.Mathlib.Omega.{arith}
use borrow.Author.Tests.{ltb-true}
use lib.Dec.{T, ltb, leb, eqb, leb→le}
use Rattle.names.specs.Line.{Kind, number, flags, signed, lohi, allvc, Operand, ascii, digit, numeral, shown, text_of, value_of, texts_of, ended}
use Rattle.names.specs.Inner.Scan.{split}
use Rattle.names.proofs.Tests.{and_left, and_right, below, both, T_false}
use Rattle.names.proofs.Gather.{fine}

-- a byte that is neither a line feed nor a space
abbrev pub inner : ℕ → Bool
inner b = ltb b 256 && (not (eqb b 10) && not (eqb b 32))

module _ (b : ℕ) (h : T (inner b)) where
  pub inner_byte : T (ltb b 256)
  inner_byte = and_left (ltb b 256) (not (eqb b 10) && not (eqb b 32)) h

  stops : T (not (eqb b 10) && not (eqb b 32))
  stops = and_right (ltb b 256) (not (eqb b 10) && not (eqb b 32)) h

  pub inner_feed : T (not (eqb b 10))
  inner_feed = and_left (not (eqb b 10)) (not (eqb b 32)) stops

  pub inner_space : T (not (eqb b 32))
  inner_space = and_right (not (eqb b 10)) (not (eqb b 32)) stops

abbrev pub plain : List ℕ → Bool
plain [] = true
plain (b ∷ bs) = inner b && plain bs

pub plain_append : (s t : List ℕ) → T (plain s) → T (plain t) → T (plain (s ++ t))
plain_append [] t p q = q
plain_append (b ∷ s) t p q = both (inner b) (plain (s ++ t)) (and_left (inner b) (plain s) p) (plain_append s t (and_right (inner b) (plain s) p) q)

pub split_plain : (t r : List ℕ) → T (plain t) → split (t ++ r) ≡ (t ++ (split r).0, (split r).1)
unfolding split
split_plain [] r p = refl
split_plain (b ∷ t) r p =
    let i = and_left (inner b) (plain t) p in
    let e : eqb b 10 ≡ false = T_false (eqb b 10) (inner_feed b i) in
    let f : eqb b 32 ≡ false = T_false (eqb b 32) (inner_space b i) in
    rw (e, f, split_plain t r (and_right (inner b) (plain t) p)) refl

abbrev pub plains : List (List ℕ) → Bool
plains [] = true
plains (t ∷ ts) = plain t && plains ts

append_nil : (t : List ℕ) → t ++ [] ≡ t
append_nil [] = refl
append_nil (b ∷ t) = ap (λ (l : List ℕ). b ∷ l) (append_nil t)

-- a name, with a space in it or not, before the texts
abbrev pub feedless : List ℕ → Bool
feedless [] = true
feedless (b ∷ bs) = not (eqb b 10) && feedless bs

pub split_name : (t r : List ℕ) (ts : List (List ℕ)) → T (feedless t) → split r ≡ ([], ts) → split (t ++ r) ≡ ((split t).0, (split t).1 ++ ts)
unfolding split
split_name [] r ts p e = e
split_name (b ∷ t) r ts p e =
    rw (T_false (eqb b 10) (and_left (not (eqb b 10)) (feedless t) p), split_name t r ts (and_right (not (eqb b 10)) (feedless t) p) e)
    (go (eqb b 32))
  where
    go : (c : Bool)
        → ◌≡◌ {A = List ℕ × List (List ℕ)} (cond c ([], (split t).0 ∷ ((split t).1 ++ ts)) (b ∷ (split t).0, (split t).1 ++ ts)) (
          (cond {A = List ℕ × List (List ℕ)} c ([], (split t).0 ∷ (split t).1) (b ∷ (split t).0, (split t).1)).0,
          (cond {A = List ℕ × List (List ℕ)} c ([], (split t).0 ∷ (split t).1) (b ∷ (split t).0, (split t).1)).1 ++ ts,
        )
    go true = refl
    go false = refl

pub split_ended : (ts : List (List ℕ)) → T (plains ts) → split (ended ts) ≡ ([], ts)
unfolding split ended
split_ended [] p = refl
split_ended (t ∷ ts) p =
    rw (split_plain t (ended ts) (and_left (plain t) (plains ts) p), split_ended ts (and_right (plain t) (plains ts) p), append_nil t) refl

-- ---- the texts of operands are plain

digit_plain : (d : ℕ) → d < 16 → T (plain (digit d ∷ []))
digit_plain = below (λ d. plain (digit d ∷ [])) 16 tt

module _ (b : ℕ) (two : 2 ≤ b) (few : b ≤ 16) where
  step_plain : (k n : ℕ) (t : Bool) → ltb n b ≡ t → T (plain (numeral k b (n / b)))
      → T (plain (cond t (digit n ∷ []) (numeral k b (n / b) ++ digit (n % b) ∷ [])))
  step_plain k n true e ih = digit_plain n (omega (arith, ltb-true n b e))
  step_plain k n false e ih =
      plain_append (numeral k b (n / b)) (digit (n % b) ∷ []) ih (digit_plain (n % b) (omega (arith, mod-lt n {m = b} (omega arith))))

  pub numeral_plain : (k n : ℕ) → T (plain (numeral k b n))
  unfolding numeral
  numeral_plain zero n = tt
  numeral_plain (suc k) n = step_plain k n (ltb n b) refl (numeral_plain k (n / b))

abbrev pub clear : Kind → Bool
clear (number b p) = plain p
clear (flags p) = plain p
clear signed = true
clear lohi = true
clear allvc = true

signed_plain : (x : ℕ) (t : Bool) → T (plain (cond t (ascii "0x" ++ numeral 4 16 x) (ascii "-0x" ++ numeral 4 16 (2048 - x))))
signed_plain x true = numeral_plain 16 (omega arith) (omega arith) 4 x
signed_plain x false = numeral_plain 16 (omega arith) (omega arith) 4 (2048 - x)

lohi_plain : (t : Bool) → T (plain (cond t (ascii "lo") (ascii "hi")))
lohi_plain true = tt
lohi_plain false = tt

pub text_plain : (k : Kind) (n x : ℕ) → T (fine k n) → T (clear k) → T (plain (text_of k x))
text_plain (number b p) n x f c =
    plain_append p (numeral 4 b x) c
    (numeral_plain b (leb→le _ _ (and_left (leb 2 b) _ f)) (leb→le _ _ (and_left (leb b 16) _ (and_right (leb 2 b) _ f))) 4 x)
text_plain (flags p) n x f c = plain_append p (numeral 4 10 x) c (numeral_plain 10 (omega arith) (omega arith) 4 x)
text_plain signed n x f c = signed_plain x (ltb x 1024)
text_plain lohi n x f c = lohi_plain (eqb x 0)
text_plain allvc n x f c = tt

abbrev pub clean : List Operand → Bool
clean [] = true
clean (o ∷ os) = (fine o.kind o.bits && clear o.kind) && clean os

cond_plains : (s : Bool) (t : List ℕ) (ts : List (List ℕ)) → T (plain t) → T (plains ts) → T (plains (cond s (t ∷ ts) ts))
cond_plains true t ts p q = both (plain t) (plains ts) p q
cond_plains false t ts p q = q

pub texts_plain : (os : List Operand) (w : ℕ) → T (clean os) → T (plains (texts_of os w))
unfolding texts_of
texts_plain [] w c = tt
texts_plain (o ∷ os) w c =
    let h = and_left (fine o.kind o.bits && clear o.kind) (clean os) c in
    cond_plains (shown o.kind (value_of o w)) (text_of o.kind (value_of o w)) (texts_of os w)
    (text_plain o.kind o.bits (value_of o w) (and_left (fine o.kind o.bits) (clear o.kind) h) (and_right (fine o.kind o.bits) (clear o.kind) h))
    (texts_plain os w (and_right (fine o.kind o.bits && clear o.kind) (clean os) c))
