-- The six lent pieces as lists of numbers, and a change of one of them. Document 01, "The six lent pieces".
use Rattle.std.specs.Prelude.{◌≡◌, ℕ, Bool, cond, ◌&&◌, List, length, ◌==◌}
use Rattle.std.specs.Borrow.{Bor}

pub record State : Type 0 where
  pub ds : List ℕ
  pub a : List ℕ
  pub r : List ℕ
  pub c : List ℕ
  pub vc : List ℕ
  pub v : List ℕ

abbrev pub state : List ℕ → List ℕ → List ℕ → List ℕ → List ℕ → List ℕ → State
state ds a r c vc v = record { ds = ds; a = a; r = r; c = c; vc = vc; v = v }

-- the state behind the six pieces, where all are lent for reading alone
abbrev pub pieces : Bor (List ℕ) → Bor (List ℕ) → Bor (List ℕ) → Bor (List ℕ) → Bor (List ℕ) → Bor (List ℕ) → State
pieces ds a r c vc v = state ds.now a.now r.now c.now vc.now v.now

-- the right lengths: 8,192 bytes, thirty-two words twice, four words twice, 512 bytes
pub record Sized (s : State) : Type 0 where
  pub ds : length s.ds ≡ 8192
  pub a : length s.a ≡ 32
  pub r : length s.r ≡ 32
  pub c : length s.c ≡ 4
  pub vc : length s.vc ≡ 4
  pub v : length s.v ≡ 512

-- the same as a test of six lengths
unfoldable pub lengths : ℕ → ℕ → ℕ → ℕ → ℕ → ℕ → Bool
lengths ds a r c vc v = ds == 8192 && a == 32 && r == 32 && c == 4 && vc == 4 && v == 512

abbrev pub sized_of : State → Bool
sized_of s = lengths (length s.ds) (length s.a) (length s.r) (length s.c) (length s.vc) (length s.v)

-- the pieces that are words
pub data Piece : Type 0 where
  A R C VC : Piece

abbrev pub code : Piece → ℕ
code A = 0
code R = 1
code C = 2
code VC = 3

abbrev pub sel : Piece → State → List ℕ
sel A s = s.a
sel R s = s.r
sel C s = s.c
sel VC s = s.vc

-- f where the two numbers are one
abbrev pub on : ℕ → ℕ → (List ℕ → List ℕ) → List ℕ → List ℕ
on i j f l = cond (i == j) (f l) l

-- one piece changed by f
abbrev pub over : Piece → (List ℕ → List ℕ) → State → State
over p f s = state s.ds (on (code p) 0 f s.a) (on (code p) 1 f s.r) (on (code p) 2 f s.c) (on (code p) 3 f s.vc) s.v

abbrev pub over_d : (List ℕ → List ℕ) → State → State
over_d f s = state (f s.ds) s.a s.r s.c s.vc s.v

abbrev pub over_v : (List ℕ → List ℕ) → State → State
over_v f s = state s.ds s.a s.r s.c s.vc (f s.v)
