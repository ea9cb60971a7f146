-- An opcode that is none of a decision's keys is refused, where the keys are all the documented opcodes.
use mathlib.Core.Path.{◌≡◌, refl}
use mathlib.Core.Bool.{Bool, true, false, ◌||◌}
use mathlib.Core.List.{List}
use Prim.Native.Nat.{ℕ, ◌+◌, ◌-◌, ◌<◌, ◌≤◌}
use native.Mathlib.Omega.{arith}
use native.Mathlib.Decide.{dec_lt}
use borrow.Author.Tests.{lt-ltb, le-ltb}
use lib.Dec.{T, ltb, ltb→lt}
use Rattle.words.specs.declared.Fields.{Fields}
use Rattle.words.specs.Decoded.{Decoded}
use Rattle.words.specs.Decoded as D
use Rattle.terms.specs.declared.Refusal.TheVariants.{Foreign, Undocumented, SideIndex, SideMask}
use Rattle.words.specs.Table.{decode_at, rows, none}
use Rattle.words.proofs.Law.{Rest, keyed, unkeyed, or_right, every, at}

-- a row that refuses the word as undocumented
unfoldable pub bare : Decoded → Bool
bare (D.Insn i) = false
bare (D.Refused Foreign) = false
bare (D.Refused Undocumented) = true
bare (D.Refused SideIndex) = false
bare (D.Refused SideMask) = false

bare_is : (d : Decoded) → T (bare d) → none ≡ d
unfolding bare
bare_is (D.Insn i) t = absurd t
bare_is (D.Refused Foreign) t = absurd t
bare_is (D.Refused Undocumented) t = refl
bare_is (D.Refused SideIndex) t = absurd t
bare_is (D.Refused SideMask) t = absurd t

module _ (f : Fields) (side mask op : ℕ) where
  pub low : op < 128 → D.Refused Foreign ≡ decode_at op f side mask
  unfolding decode_at
  low h = rw (lt-ltb op 128 h)

  module _ (keys : List (List ℕ)) (rest : Rest op keys) where
    -- a row that no arm has refuses the word
    pub gap : T (every (λ n d. keyed n keys || bare d) none 128 (rows f side mask)) → 128 ≤ op → op < 208 → none ≡ decode_at op f side mask
    unfolding rows decode_at
    gap all lo hi =
        let e : 128 + (op - 128) ≡ op = omega arith in
        let t = at (λ n d. keyed n keys || bare d) none (rows f side mask) 128 all (op - 128) (omega arith) in
        rw (le-ltb op 128 lo, le-ltb 223 op (omega arith)) (bare_is _ (or_right (keyed op keys) _ (unkeyed op keys rest) (rw e at t)))

    -- from 208 to 223 each opcode is an arm's
    pub high : T (every (λ n d. ltb n 208 || keyed n keys) none 128 (rows f side mask)) → 208 ≤ op → D.Refused Foreign ≡ decode_at op f side mask
    unfolding rows decode_at
    high all lo =
        elim (dec_lt op 224) [
          | yes h ↦
              let e : 128 + (op - 128) ≡ op = omega arith in
              let t = at (λ n d. ltb n 208 || keyed n keys) none (rows f side mask) 128 all (op - 128) (omega arith) in
              let g : T (ltb op 208) → ⊥ = λ u. let h : op < 208 = ltb→lt op 208 u in omega arith in
              absurd (unkeyed op keys rest (or_right (ltb op 208) (keyed op keys) g (rw e at t)))
          | no h ↦ rw (le-ltb op 128 (omega arith), lt-ltb 223 op (omega arith))
        ]
