-- What an instruction does: it asks what places hold, one after the other, and ends with what it writes, which access it made, and how many
-- components it tells as clipped.
-- So all sources are read before anything is written, and all that an instruction can depend on is what it asked.
use Rattle.std.specs.Prelude.{ℕ, cond, List, [], ◌∷◌, map, ltb}
use Rattle.banks.specs.Bank.{pair_of}
use Rattle.banks.specs.Line.{distinct}
use Rattle.terms.specs.declared.Way.{Way}
use Rattle.terms.specs.declared.Counts.{Counts}
use Rattle.terms.specs.Counts.{counts}
use Rattle.pieces.specs.State.{State}
use Rattle.pieces.specs.Place.{Name, Addr, Place, Xlat, Val, get, put, place}

infixl 20 ◌>>=◌
infix 30 ◌≔◌
pub data Prog (Y : Type 0) : Type 0 where
  ret : Y → Prog Y
  ask : (q : Name) → (Val q → Prog Y) → Prog Y

abbrev pub ◌>>=◌ : {Y Z : Type 0} → Prog Y → (Y → Prog Z) → Prog Z
◌>>=◌ (ret y) f = f y
◌>>=◌ (ask q k) f = ask q (λ v. k v >>= f)

abbrev pub read : (q : Name) → Prog (Val q)
read q = ask q (λ v. ret v)

abbrev pub run : {Y : Type 0} → Xlat → Prog Y → State → Y
run X (ret y) s = y
run X (ask q k) s = run X (k (get X q s)) s

-- the places asked, in order, in that state
abbrev pub asked : {Y : Type 0} → Xlat → Prog Y → State → List Place
asked X (ret y) s = []
asked X (ask q k) s = place X q ∷ asked X (k (get X q s)) s

pub record Write : Type 0 where
  pub name : Name
  pub value : Val name

abbrev pub ◌≔◌ : (q : Name) → Val q → Write
q ≔ v = record { name = q; value = v }

abbrev pub puts : Xlat → List Write → State → State
puts X [] s = s
puts X (w ∷ ws) s = puts X ws (put X w.name w.value s)

-- the places written
abbrev pub spots : Xlat → List Write → List Place
spots X [] = []
spots X (w ∷ ws) = place X w.name ∷ spots X ws

-- "flags are written only if CDST or VCDST is below 4"
abbrev pub below4 : ℕ → List Write → List Write
below4 n ws = cond (ltb n 4) ws []

-- a load or a store that was made: its way, its stride code, its address list
pub data Access : Type 0 where
  idle : Access
  load : Way → ℕ → List Addr → Access
  store : Way → ℕ → List Addr → Access

-- what the instruction itself comes to
pub record Did : Type 0 where
  pub writes : List Write
  pub access : Access
  pub clipped : ℕ

abbrev pub only : List Write → Did
only ws = record { writes = ws; access = idle; clipped = 0 }

-- what one step hands back
pub record Done : Type 0 where
  pub writes : List Write
  pub counts : Counts

-- the number of distinct (bank, cell) pairs in an address list
abbrev pub entered : List Addr → ℕ
entered bs = distinct (map (λ (b : Addr). pair_of b.stride b.addr) bs)

abbrev pub cells : Access → ℕ
cells idle = 0
cells (load way c bs) = entered bs
cells (store way c bs) = entered bs

abbrev pub done : Did → Done
done d = record { writes = d.writes; counts = counts (cells d.access) d.clipped }
