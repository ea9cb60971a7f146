-- What an address instruction makes of the pieces that it may change, in one formula each, and what it counts. proofs/Closed.antt shows that the model says the same.
use Rattle.std.specs.Prelude.{ℕ, ◌+◌, ◌%◌, List, bit_or, slice_index, slice_set}
use Rattle.bits.specs.Bitop.{bitop}
use Rattle.signed.specs.Signed.{low}
use Rattle.banks.specs.Line.{addresses}
use Rattle.banks.specs.Inner.Access.{places, cells_of}
use Rattle.terms.specs.declared.Counted.{Counted}
use Rattle.terms.specs.declared.Counted.TheVariants.{Nothing, Cells}
use Rattle.terms.specs.declared.Way.{Way}
use Rattle.terms.specs.declared.Way.TheVariants.{Horizontal, Vertical, Scalar}
use Rattle.store.specs.Inner.Loads.{loaded, stored, word_of, bytes_of}
use Rattle.pieces.specs.Inner.Regs.{vreg_of, with_vreg, base_of, with_half, plus, long_at, end_at}
use Rattle.pieces.specs.declared.Base.{Base}
use Rattle.terms.specs.declared.Half.TheVariants.{Low}
use Rattle.words.specs.declared.Increment.{Increment}
use Rattle.words.specs.declared.Increment.TheVariants.{Register, Immediate}
use Rattle.words.specs.Address.{Address}
use Rattle.words.specs.Address.{Set, Add, Bitop, Aadd, Ld, St, Lda, Sta}

pub record Pieces : Type 0 where
  pub ds : List ℕ
  pub a : List ℕ
  pub r : List ℕ
  pub c : List ℕ
  pub v : List ℕ

abbrev pub five : List ℕ → List ℕ → List ℕ → List ℕ → List ℕ → Pieces
five ds a r c v = record { ds = ds; a = a; r = r; c = c; v = v }

abbrev pub base_in : List ℕ → ℕ → Base
base_in a n = base_of (slice_index a n)

unfoldable pub inc_of : Increment → List ℕ → ℕ
inc_of (Register n) a = slice_index a n % 65536
inc_of (Immediate i) a = low 16 i

-- the bytes that an access reads, and the store after an access that writes
abbrev pub fetched : Way → ℕ → ℕ → List ℕ → List ℕ
fetched way code x ds = loaded ds (places code (addresses way code x))

abbrev pub kept : Way → ℕ → ℕ → List ℕ → List ℕ → List ℕ
kept way code x bytes ds = stored ds (places code (addresses way code x)) bytes

-- the loaded register's piece, by the way of the access
abbrev pub into_r : Way → ℕ → List ℕ → List ℕ → List ℕ
into_r Horizontal n bytes r = r
into_r Vertical n bytes r = r
into_r Scalar n bytes r = slice_set r n (word_of bytes)

abbrev pub into_v : Way → ℕ → List ℕ → List ℕ → List ℕ
into_v Horizontal n bytes v = with_vreg v n bytes
into_v Vertical n bytes v = with_vreg v n bytes
into_v Scalar n bytes v = v

-- the stored register's bytes
abbrev pub out_of : Way → ℕ → List ℕ → List ℕ → List ℕ
out_of Horizontal n r v = vreg_of v n
out_of Vertical n r v = vreg_of v n
out_of Scalar n r v = bytes_of (slice_index r n)

-- $a with addr of register n moved to x
abbrev pub addr_at : ℕ → ℕ → List ℕ → List ℕ
addr_at n x a = slice_set a n (with_half Low x (slice_index a n))

-- add and bitop: the result to $a[dst], its long flags to $c[cdst]
abbrev pub result_at : ℕ → ℕ → ℕ → Pieces → Pieces
result_at dst cdst res s = five s.ds (slice_set s.a dst res) s.r (long_at cdst res s.c) s.v

abbrev pub loading : Way → ℕ → ℕ → ℕ → List ℕ → List ℕ → Pieces → Pieces
loading way n code x a c s = five s.ds a (into_r way n (fetched way code x s.ds) s.r) c (into_v way n (fetched way code x s.ds) s.v)

abbrev pub storing : Way → ℕ → ℕ → ℕ → List ℕ → List ℕ → Pieces → Pieces
storing way n code x a c s = five (kept way code x (out_of way n s.r s.v) s.ds) a s.r c s.v

unfoldable pub addressed : Address → Pieces → Pieces
addressed (Set o) s = five s.ds (slice_set s.a o.dst (with_half o.half o.imm (slice_index s.a o.dst))) s.r s.c s.v
addressed (Add o) s = result_at o.dst o.cdst ((slice_index s.a o.src1 + slice_index s.a o.src2) % 4294967296) s
addressed (Bitop o) s = result_at o.dst o.flags (bitop 32 o.op (slice_index s.a o.src1) (slice_index s.a o.src2)) s
addressed (Aadd o) s =
    let b : Base = base_in s.a o.dst in
    let x : ℕ = plus b.addr (slice_index s.a o.src2 % 65536) in
    five s.ds (addr_at o.dst x s.a) s.r (end_at o.cdst x b.limit s.c) s.v
addressed (Ld o) s =
    let b : Base = base_in s.a o.base in
    loading o.way o.reg b.stride (bit_or b.addr o.uimm) s.a (end_at o.cdst (plus b.addr o.uimm) b.limit s.c) s
addressed (St o) s =
    let b : Base = base_in s.a o.base in
    storing o.way o.reg b.stride (bit_or b.addr o.uimm) s.a (end_at o.cdst (plus b.addr o.uimm) b.limit s.c) s
addressed (Lda o) s =
    let b : Base = base_in s.a o.base in
    let x : ℕ = plus b.addr (inc_of o.inc s.a) in
    loading o.way o.reg b.stride b.addr (addr_at o.base x s.a) (end_at o.cdst x b.limit s.c) s
addressed (Sta o) s =
    let b : Base = base_in s.a o.base in
    let x : ℕ = plus b.addr (inc_of o.inc s.a) in
    storing o.way o.reg b.stride b.addr (addr_at o.base x s.a) (end_at o.cdst x b.limit s.c) s

-- what it counts: the cells that its access enters
abbrev pub entered_in : Way → ℕ → List ℕ → Counted
entered_in way n a = Cells (cells_of way (base_in a n).stride)

unfoldable pub counted_in : Address → List ℕ → Counted
counted_in (Set o) a = Nothing
counted_in (Add o) a = Nothing
counted_in (Bitop o) a = Nothing
counted_in (Aadd o) a = Nothing
counted_in (Ld o) a = entered_in o.way o.base a
counted_in (St o) a = entered_in o.way o.base a
counted_in (Lda o) a = entered_in o.way o.base a
counted_in (Sta o) a = entered_in o.way o.base a

-- what it comes to: what it counts, and the five pieces afterwards
pub record Result : Type 0 where
  pub counted : Counted
  pub after : Pieces

abbrev pub result_from : Counted → Pieces → Result
result_from n p = record { counted = n; after = p }

unfoldable pub result_of : Address → Pieces → Result
result_of i p = result_from (counted_in i p.a) (addressed i p)
