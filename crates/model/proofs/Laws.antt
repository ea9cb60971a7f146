-- Laws of programs and of lists of writes, under any translation, and of a turn of a run.
use mathlib.Core.Path.{◌≡◌, refl, ap, ◌∙◌}
use Prim.Native.Nat.{ℕ}
use mathlib.Core.Bool.{Bool, true, false, cond}
use mathlib.Core.List.{List, [], ◌∷◌, ◌++◌, map}
use borrow.Author.Tests.{eqb-true, eqb-false}
use lib.Dec.{eqb}
use lib.ListN.{get_or, set, drop}
use Rattle.pieces.specs.State.{State, over_d}
use Rattle.pieces.specs.Place.{Addr, Xlat, byte, get, put}
use Rattle.model.specs.Prog.{Prog, ret, ask, ◌>>=◌, run, Write, puts}
use Rattle.model.specs.Address.{loads, stores}
use Rattle.model.specs.Run.{RunOutcome}

-- what a list of addresses holds in a data store
abbrev pub gathered : Xlat → List ℕ → List Addr → List ℕ
gathered X l bs = map (λ b. get_or l (X b.stride b.addr) 0) bs

-- a data store with a byte put at each address of a list, as far as there are bytes
unfoldable pub scattered : Xlat → List ℕ → List Addr → List ℕ → List ℕ
scattered X l [] xs = l
scattered X l (b ∷ bs) xs = scattered X (set l (X b.stride b.addr) (get_or xs 0 0)) bs (drop 1 xs)

module _ (X : Xlat) where
  -- a program that goes on gives what its second part gives from the first part's result
  pub run_bind : {Y Z : Type 0} (m : Prog Y) (f : Y → Prog Z) (s : State) → run X (m >>= f) s ≡ run X (f (run X m s)) s
  run_bind (ret y) f s = refl
  run_bind (ask q k) f s = run_bind (k (get X q s)) f s

  -- two lists of writes joined are one after the other
  pub puts_append : (us ws : List Write) (s : State) → puts X (us ++ ws) s ≡ puts X ws (puts X us s)
  puts_append [] ws s = refl
  puts_append (u ∷ us) ws s = puts_append us ws (put X u.name u.value s)

  -- writes made only where a test holds
  pub puts_cond : (b : Bool) (ws : List Write) (s : State) → puts X (cond b ws []) s ≡ cond b (puts X ws s) s
  puts_cond true ws s = refl
  puts_cond false ws s = refl

  -- a load gives the bytes at its addresses
  pub run_loads : (bs : List Addr) (s : State) → run X (loads bs) s ≡ gathered X s.ds bs
  run_loads [] s = refl
  run_loads (b ∷ bs) s =
      run_bind (loads bs) (λ xs. ret (get X (byte b) s ∷ xs)) s ∙ ap (λ (z : List ℕ). get X (byte b) s ∷ z) (run_loads bs s)

  -- a store changes the data store alone, at its addresses
  pub puts_stores : (bs : List Addr) (xs : List ℕ) (s : State) → puts X (stores bs xs) s ≡ over_d (λ l. scattered X l bs xs) s
  unfolding scattered
  puts_stores [] xs s = refl
  puts_stores (b ∷ bs) xs s = puts_stores bs (drop 1 xs) (put X (byte b) (get_or xs 0 0) s)

-- what holds of a turn in each of its three ways, with what is known there
pub turn : (P : RunOutcome → Type 0) (budget n m : ℕ) (u v w : RunOutcome) → (n ≡ budget → P u) → ((n ≡ budget → ⊥) → m ≡ 0 → P v)
    → ((n ≡ budget → ⊥) → (m ≡ 0 → ⊥) → P w) → P (cond (eqb n budget) u (cond (eqb m 0) v w))
turn P budget n m u v w p q r = go (eqb n budget) (eqb m 0) (eqb-true n budget) (eqb-false n budget) (eqb-true m 0) (eqb-false m 0)
  where
    go : (x y : Bool) → (x ≡ true → n ≡ budget) → (x ≡ false → n ≡ budget → ⊥) → (y ≡ true → m ≡ 0) → (y ≡ false → m ≡ 0 → ⊥)
        → P (cond x u (cond y v w))
    go true y a b c d = p (a refl)
    go false true a b c d = q (b refl) (c refl)
    go false false a b c d = r (b refl) (d refl)
