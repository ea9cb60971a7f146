-- Sums over the list of sixteen words are those over sources 2 and 3.
use mathlib.Core.Path.{◌≡◌}
use mathlib.Core.Bool.{cond}
use mathlib.Core.List.{List}
use Prim.Native.Nat.{ℕ, ◌-◌}
use lib.Dec.{ltb}
use lib.ListN.{get_or}
use Rattle.lane.specs.Lane.{add9_lane}
use Rattle.lanes.specs.Lanes.{listed, how_many, pair_at}
use Rattle.lanes.specs.Inner.Unpacked.{unpacked_of, sign_beside, add9_unpacked}

pub by_words : (a b c ws : List ℕ) → ws ≡ listed 16 (λ i. cond (ltb i 8) (pair_at b i) (pair_at c (i - 8)))
    → unpacked_of (λ i. sign_beside (add9_lane (get_or a i 0) (get_or ws i 0))) ≡ add9_unpacked a b c
unfolding add9_unpacked unpacked_of listed how_many
by_words a b c ws e = rw e
