-- A part of $v that is lent is a register of it.
use Rattle.std.proofs.Common.{◌≡◌, ℕ, ◌+◌, ◌-◌, ◌*◌, ◌≤◌, List, ◌++◌, length, take, drop, sym, ap, ◌∙◌, append_assoc, arith, take_all}
use borrow.Rule.Slice.PartMut.{put_mid, Post-is}
use lib.Seq.{sets-eq}
use Rattle.pieces.specs.Inner.Regs.{with_vreg}

pub pasted : (v : List ℕ) (n : ℕ) (x : List ℕ) → 16 * n + 16 ≤ length v → length x ≡ 16 → put_mid (16 * n) (16 * n + 16 - 16 * n) v x ≡ with_vreg v n x
unfolding with_vreg
pasted v n x h e =
    let t : take 16 x ≡ x = take_all 16 x (omega (arith, e)) in
    ap (λ (z : List ℕ). take (16 * n) v ++ (x ++ z)) (Post-is (16 * n) (16 * n + 16) v (omega arith))
    ∙ sym (rw (t, sets-eq x v (16 * n) (omega (arith, e)), e) (append_assoc (take (16 * n) v) x (drop (16 * n + 16) v)))
