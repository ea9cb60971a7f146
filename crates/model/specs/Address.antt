-- What each address instruction does. Beside each clause stands the chapter's step; document 01, "Address instructions", decides.
use Rattle.std.specs.Prelude.{ℕ, ◌+◌, ◌*◌, ◌/◌, ◌%◌, Bool, cond, List, [], ◌∷◌, ◌++◌, map, leb, eqb, get_or, drop}
use Rattle.std.specs.Int.Bits.{bit_or}
use Rattle.bits.specs.Bitop.{bitop}
use Rattle.signed.specs.Signed.{low}
use Rattle.banks.specs.Line.{addresses}
use Rattle.terms.specs.declared.Way.{Way}
use Rattle.terms.specs.declared.Way.TheVariants.{Horizontal, Vertical, Scalar}
use Rattle.words.specs.declared.Increment.{Increment}
use Rattle.words.specs.declared.Increment.TheVariants.{Register, Immediate}
use Rattle.words.specs.Address.{Address}
use Rattle.words.specs.Address.{Set, Add, Bitop, Aadd, Ld, St, Lda, Sta}
use Rattle.pieces.specs.State.{A}
use Rattle.pieces.specs.Place.{at, vec, byte, Addr, alo, ahi, reg, long, short}
use Rattle.model.specs.Prog.{Prog, ret, ◌>>=◌, read, Write, ◌≔◌, below4, load, store, Did, only}

-- ---- registers

-- the fields of $a[n]: addr, limit, stride
pub record Base : Type 0 where
  pub addr : ℕ
  pub limit : ℕ
  pub stride : ℕ

-- bits 0-15 addr; of the high half, bits 0-13 limit and bits 14-15 stride
abbrev pub base_of : ℕ → ℕ → Base
base_of l h = record { addr = l; limit = h % 16384; stride = h / 16384 }

abbrev pub base : ℕ → Prog Base
base n = do
  l ← read (alo n)
  h ← read (ahi n)
  ret (base_of l h)

-- $a[n] whole
abbrev pub word : ℕ → Prog ℕ
word n = do
  l ← read (alo n)
  h ← read (ahi n)
  ret (h * 65536 + l)

abbrev pub word_to : ℕ → ℕ → List Write
word_to n x = (alo n ≔ x % 65536) ∷ (ahi n ≔ x / 65536) ∷ []

-- a register's index, or a signed immediate, as a number modulo 65,536
abbrev pub increment : Increment → Prog ℕ
increment (Register n) = read (alo n)
increment (Immediate i) = ret (low 16 i)

-- ---- flags

abbrev pub flag : Bool → ℕ
flag b = cond b 1 0

-- bit 8 sign: bit 31 of the result; bit 9 zero: the result is 0
abbrev pub long_to : ℕ → ℕ → List Write
long_to cdst res = below4 cdst ((long cdst ≔ res / 2147483648 + 2 * flag (eqb res 0)) ∷ [])

-- bit 10 end: addr >= limit
abbrev pub short_to : ℕ → ℕ → ℕ → List Write
short_to cdst addr limit = below4 cdst ((short cdst ≔ flag (leb limit addr)) ∷ [])

-- ---- loads and stores

-- the address list of an access at x under the stride code c
abbrev pub span : Way → ℕ → ℕ → List Addr
span way c x = map {B = Addr} (λ y. record { stride = c; addr = y }) (addresses way c x)

abbrev pub loads : List Addr → Prog (List ℕ)
loads [] = ret []
loads (b ∷ bs) = do
  x ← read (byte b)
  xs ← loads bs
  ret (x ∷ xs)

abbrev pub stores : List Addr → List ℕ → List Write
stores [] xs = []
stores (b ∷ bs) xs = (byte b ≔ get_or xs 0 0) ∷ stores bs (drop 1 xs)

-- "byte k of $r is bits 8k to 8k+7"
abbrev pub joined : List ℕ → ℕ
joined [] = 0
joined (x ∷ xs) = x + joined xs * 256

abbrev pub split : ℕ → List ℕ
split x = x % 256 ∷ x / 256 % 256 ∷ x / 65536 % 256 ∷ x / 16777216 % 256 ∷ []

-- the loaded register: $v[n], or $r[n] of a scalar access
abbrev pub into : Way → ℕ → List ℕ → Write
into Horizontal n xs = vec n ≔ xs
into Vertical n xs = vec n ≔ xs
into Scalar n xs = reg n ≔ joined xs

-- the bytes of the stored register
abbrev pub from : Way → ℕ → Prog (List ℕ)
from Horizontal n = read (vec n)
from Vertical n = read (vec n)
from Scalar n = do
  x ← read (reg n)
  ret (split x)

-- for idx in range(16): $v[DST][idx] = DS[addr[idx]]
abbrev pub loading : Way → ℕ → ℕ → ℕ → List Write → Prog Did
loading way n c x rest = do
  xs ← loads (span way c x)
  ret (record { writes = into way n xs ∷ rest; access = load way c (span way c x); clipped = 0 })

-- for idx in range(16): DS[addr[idx]] = $v[SRC1][idx]
abbrev pub storing : Way → ℕ → ℕ → List ℕ → List Write → Prog Did
storing way c x xs rest = ret (record { writes = stores (span way c x) xs ++ rest; access = store way c (span way c x); clipped = 0 })

-- "the sum is taken modulo 65,536 and only addr changes"
abbrev pub plus : ℕ → ℕ → ℕ
plus addr y = (addr + y) % 65536

abbrev pub address : Address → Prog Did
-- setlo, sethi: $a[DST] = ($a[DST] & 0xffff0000) | IMM16, or ($a[DST] & 0xffff) | IMM16 << 16
address (Set o) = ret (only ((at A o.dst o.half ≔ o.imm) ∷ []))
-- add: res = $a[SRC1] + $a[SRC2S]; $a[DST] = res; $c[CDST].address.long = cres
address (Add o) = do
  x ← word o.src1
  y ← word o.src2
  let res : ℕ = (x + y) % 4294967296 in ret (only (word_to o.dst res ++ long_to o.cdst res))
-- bitop: res = bitop(BITOP, $a[SRC1], $a[SRC2]) & 0xffffffff; the rest as in add
address (Bitop o) = do
  x ← word o.src1
  y ← word o.src2
  let res : ℕ = bitop 32 o.op x y in ret (only (word_to o.dst res ++ long_to o.flags res))
-- aadd: $a[DST].addr += $a[SRC2S]; $c[CDST].address.short = $a[DST].addr >= $a[DST].limit
address (Aadd o) = do
  b ← base o.dst
  y ← read (alo o.src2)
  let to : ℕ = plus b.addr y in ret (only ((alo o.dst ≔ to) ∷ short_to o.cdst to b.limit))
-- ldvh, ldvv, lds: the address is $a[SRC1].addr | UIMM; $c[CDST].address.short = (($a[SRC1].addr + UIMM) & 0xffff) >= $a[SRC1].limit
address (Ld o) = do
  b ← base o.base
  loading o.way o.reg b.stride (bit_or b.addr o.uimm) (short_to o.cdst (plus b.addr o.uimm) b.limit)
-- stvh, stvv, sts: the same of $a[DST]
address (St o) = do
  b ← base o.base
  xs ← from o.way o.reg
  storing o.way b.stride (bit_or b.addr o.uimm) xs (short_to o.cdst (plus b.addr o.uimm) b.limit)
-- ldavh, ldavv, ldas: the address is $a[SRC1].addr; $a[SRC1].addr += $a[SRC2S] or IMM; $c[CDST].address.short = $a[SRC1].addr >= $a[SRC1].limit
address (Lda o) = do
  b ← base o.base
  y ← increment o.inc
  let to : ℕ = plus b.addr y in
      loading o.way o.reg b.stride b.addr ((alo o.base ≔ to) ∷ short_to o.cdst to b.limit)
-- stavh, stavv, stas: the same of $a[DST]
address (Sta o) = do
  b ← base o.base
  y ← increment o.inc
  xs ← from o.way o.reg
  let to : ℕ = plus b.addr y in
      storing o.way b.stride b.addr xs ((alo o.base ≔ to) ∷ short_to o.cdst to b.limit)
