-- A place: one half of an $a register, one $r, one $v, the long pair or the short bit of one $c, the signs or the zeros of one $vc, or
-- one data store byte. Document 01, "Table of places".
use Rattle.std.specs.Prelude.{ℕ, ◌+◌, ◌*◌, ◌/◌, ◌%◌, List, take, drop, set, slice_index, slice_set}
use Rattle.std.proofs.lemmas.List.Edits.{sets}
use Rattle.banks.specs.Bank.{at as atBank}
use Rattle.terms.specs.declared.Half.{Half}
use Rattle.terms.specs.declared.Half.TheVariants.{Low, High}
use Rattle.pieces.specs.State.{State, Piece, A, R, C, VC, sel, over, over_d, over_v}

-- B says how a data store byte is given
pub data Spot (B : Type 0) : Type 0 where
  at : Piece → ℕ → Half → Spot B
  vec : ℕ → Spot B
  byte : B → Spot B

-- document 01's place gives a byte by its index in the store
abbrev pub Place : Type 0
Place = Spot ℕ

-- what an instruction names gives it by its stride code and its 13-bit address
pub record Addr : Type 0 where
  pub stride : ℕ
  pub addr : ℕ

abbrev pub Name : Type 0
Name = Spot Addr

-- translation: code → address → index
abbrev pub Xlat : Type 0
Xlat = ℕ → ℕ → ℕ

-- document 01's, with its layout
abbrev pub xlat : Xlat
xlat c x = atBank c x

abbrev pub place : Xlat → Name → Place
place X (at p n h) = at p n h
place X (vec n) = vec n
place X (byte b) = byte (X b.stride b.addr)

-- document 01's names for them
abbrev pub alo : {B : Type 0} → ℕ → Spot B
alo n = at A n Low

abbrev pub ahi : {B : Type 0} → ℕ → Spot B
ahi n = at A n High

abbrev pub reg : {B : Type 0} → ℕ → Spot B
reg n = at R n Low

abbrev pub long : {B : Type 0} → ℕ → Spot B
long n = at C n Low

abbrev pub short : {B : Type 0} → ℕ → Spot B
short n = at C n High

abbrev pub signs : {B : Type 0} → ℕ → Spot B
signs n = at VC n Low

abbrev pub zeros : {B : Type 0} → ℕ → Spot B
zeros n = at VC n High

-- how the words of a piece are cut: $r not at all, $a and $vc in halves, $c by its flags
pub data Cut : Type 0 where
  whole halves flags : Cut

abbrev pub cut : Piece → Cut
cut A = halves
cut R = whole
cut C = flags
cut VC = halves

-- what a place's part of a word holds: the long flags are bits 8 and 9 of $c, the short one is bit 10
abbrev pub view : Cut → Half → ℕ → ℕ
view whole Low x = x
view whole High x = 0
view halves Low x = x % 65536
view halves High x = x / 65536
view flags Low x = x / 256 % 4
view flags High x = x / 1024 % 2

-- the word with another part: other bits keep their values
abbrev pub edit : Cut → Half → ℕ → ℕ → ℕ
edit whole Low n x = n
edit whole High n x = x
edit halves Low n x = x / 65536 * 65536 + n % 65536
edit halves High n x = n * 65536 + x % 65536
edit flags Low n x = x / 1024 * 1024 + n % 4 * 256 + x % 256
edit flags High n x = x / 2048 * 2048 + n % 2 * 1024 + x % 1024

abbrev pub upd : ℕ → (ℕ → ℕ) → List ℕ → List ℕ
upd n f l = slice_set l n (f (slice_index l n))

-- what a place holds: a vector register sixteen bytes, any other a number
abbrev pub Val : {B : Type 0} → Spot B → Type 0
Val (at p n h) = ℕ
Val (vec n) = List ℕ
Val (byte b) = ℕ

abbrev pub get : Xlat → (q : Name) → State → Val q
get X (at p n h) s = view (cut p) h (slice_index (sel p s) n)
get X (vec n) s = take 16 (drop (16 * n) s.v)
get X (byte b) s = slice_index s.ds (X b.stride b.addr)

abbrev pub put : Xlat → (q : Name) → Val q → State → State
put X (at p n h) x s = over p (upd n (edit (cut p) h x)) s
put X (vec n) x s = over_v (λ l. sets l (16 * n) (take 16 x)) s
put X (byte b) x s = over_d (λ l. set l (X b.stride b.addr) x) s
