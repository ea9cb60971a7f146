-- A register read from a lent piece, and the piece with one register or its flags written.
use Rattle.std.specs.Prelude.{ℕ, ◌+◌, ◌*◌, ◌/◌, ◌%◌, cond, List, take, drop, ◌==◌, nat_le, nat_lt, slice_index, slice_set}
use Rattle.std.proofs.lemmas.List.Edits.{sets}
use Rattle.terms.specs.declared.Half.{Half}
use Rattle.terms.specs.declared.Half.TheVariants.{Low, High}
use Rattle.pieces.specs.declared.Base.{Base}

-- $v[n], and $v with another $v[n]
unfoldable pub vreg_of : List ℕ → ℕ → List ℕ
vreg_of v n = take 16 (drop (16 * n) v)

unfoldable pub with_vreg : List ℕ → ℕ → List ℕ → List ℕ
with_vreg v n x = sets v (16 * n) (take 16 x)

-- the fields of an $a word: bits 0-15 addr, 16-29 limit, 30-31 stride code
unfoldable pub base_of : ℕ → Base
base_of w = record { addr = w % 65536; limit = w / 65536 % 16384; stride = w / 65536 / 16384 }

-- an $a word with another half
unfoldable pub with_half : Half → ℕ → ℕ → ℕ
with_half Low x w = w / 65536 * 65536 + x % 65536
with_half High x w = x * 65536 + w % 65536

-- addr moved on, modulo 65,536
abbrev pub plus : ℕ → ℕ → ℕ
plus x y = (x + y) % 65536

-- a $c word with the long flags of a result, or with the end flag
unfoldable pub with_long : ℕ → ℕ → ℕ
with_long res w = w / 1024 * 1024 + (res / 2147483648 + 2 * cond (res == 0) 1 0) % 4 * 256 + w % 256

unfoldable pub with_end : ℕ → ℕ → ℕ → ℕ
with_end addr limit w = w / 2048 * 2048 + cond (nat_le limit addr) 1 0 % 2 * 1024 + w % 1024

-- $c, and $vc, where the index is below 4
unfoldable pub long_at : ℕ → ℕ → List ℕ → List ℕ
long_at cdst res c = cond (nat_lt cdst 4) (slice_set c cdst (with_long res (slice_index c cdst))) c

unfoldable pub end_at : ℕ → ℕ → ℕ → List ℕ → List ℕ
end_at cdst addr limit c = cond (nat_lt cdst 4) (slice_set c cdst (with_end addr limit (slice_index c cdst))) c

unfoldable pub flags_at : ℕ → ℕ → ℕ → List ℕ → List ℕ
flags_at vcdst signs zeros vc = cond (nat_lt vcdst 4) (slice_set vc vcdst (zeros * 65536 + signs % 65536)) vc
