-- The table lists what each instruction asks and writes, no more and no less: equality of lists.
use mathlib.Core.Path.{◌≡◌, refl, ap, ◌∙◌}
use Prim.Native.Nat.{ℕ}
use mathlib.Core.Bool.{Bool, true, false, cond}
use mathlib.Core.List.{List, [], ◌∷◌, ◌++◌, map, append-nil}
use lib.Dec.{ltb}
use Rattle.banks.specs.Line.{addresses}
use Rattle.terms.specs.declared.Way.{Way}
use Rattle.terms.specs.declared.Way.TheVariants.{Horizontal, Vertical, Scalar}
use Rattle.terms.specs.declared.Half as H
use Rattle.terms.specs.declared.Half.TheVariants.{Low, High}
use Rattle.words.specs.declared.Increment.{Increment}
use Rattle.words.specs.declared.Increment.TheVariants as I
use Rattle.words.specs.Second.{Second}
use Rattle.words.specs.Second as S
use Rattle.words.specs.Input.{Input}
use Rattle.words.specs.Input.{Mask, Signs}
use Rattle.words.specs.Address.{Address}
use Rattle.words.specs.Address as A
use Rattle.words.specs.Vector.{Vector}
use Rattle.words.specs.Vector as W
use Rattle.words.specs.Insn.{Insn}
use Rattle.words.specs.Insn as N
use Rattle.pieces.specs.State.{State, A}
use Rattle.pieces.specs.Place.{Place, Addr, Xlat, get, place, byte, at}
use Rattle.model.specs.Prog.{Prog, ret, ask, ◌>>=◌, run, asked, Write, spots, below4, Did, Done, done}
use lib.ListN.{drop}
use Rattle.model.specs.Address.{address, span, loads, stores, into, from, loading, storing, increment}
use Rattle.model.specs.Vector.{vector, second, input}
use Rattle.model.specs.Step.{sem}
use Rattle.model.specs.Table.{reads, writes, reads_a, writes_a, reads_v, writes_v, bytes, datum, written, half_of}
use Rattle.model.specs.Table as T

module _ (X : Xlat) where
  run_bind : {Y Z : Type 0} (m : Prog Y) (f : Y → Prog Z) (s : State) → run X (m >>= f) s ≡ run X (f (run X m s)) s
  run_bind (ret y) f s = refl
  run_bind (ask q k) f s = run_bind (k (get X q s)) f s

  asked_bind : {Y Z : Type 0} (m : Prog Y) (f : Y → Prog Z) (s : State) → asked X (m >>= f) s ≡ asked X m s ++ asked X (f (run X m s)) s
  asked_bind (ret y) f s = refl
  asked_bind (ask q k) f s = ap (λ (l : List Place). place X q ∷ l) (asked_bind (k (get X q s)) f s)

  named : List Addr → List Place
  named [] = []
  named (b ∷ bs) = byte (X b.stride b.addr) ∷ named bs

  asked_loads : (bs : List Addr) (s : State) → asked X (loads bs) s ≡ named bs
  unfolding named
  asked_loads [] s = refl
  asked_loads (b ∷ bs) s =
      ap (λ (l : List Place). place X (byte b) ∷ l)
      (asked_bind (loads bs) (λ xs. ret (get X (byte b) s ∷ xs)) s ∙ append-nil (asked X (loads bs) s) ∙ asked_loads bs s)

  named_span : (c : ℕ) (l : List ℕ) → named (map {B = Addr} (λ y. record { stride = c; addr = y }) l) ≡ map {B = Place} (λ y. byte (X c y)) l
  unfolding named
  named_span c [] = refl
  named_span c (y ∷ l) = ap (λ (ps : List Place). byte (X c y) ∷ ps) (named_span c l)

  loaded_places : (way : Way) (c x : ℕ) (s : State) → asked X (loads (span way c x)) s ≡ bytes X way c x
  loaded_places way c x s = asked_loads (span way c x) s ∙ named_span c (addresses way c x)

  -- the same of what stands behind a load: its places and no other
  asked_last : {Y Z : Type 0} (m : Prog Y) (f : Y → Z) (s : State) → asked X (m >>= (λ y. ret (f y))) s ≡ asked X m s
  asked_last m f s = asked_bind m (λ y. ret (f y)) s ∙ append-nil (asked X m s)

  spots_append : (us ws : List Write) → spots X (us ++ ws) ≡ spots X us ++ spots X ws
  spots_append [] ws = refl
  spots_append (u ∷ us) ws = ap (λ (l : List Place). place X u.name ∷ l) (spots_append us ws)

  spots_below : (n : ℕ) (ws : List Write) → spots X (below4 n ws) ≡ written n (spots X ws)
  spots_below n ws = go (ltb n 4)
    where
      go : (b : Bool) → spots X (cond b ws []) ≡ cond b (spots X ws) []
      go true = refl
      go false = refl

  spots_stores : (bs : List Addr) (xs : List ℕ) → spots X (stores bs xs) ≡ named bs
  unfolding named
  spots_stores [] xs = refl
  spots_stores (b ∷ bs) xs = ap (λ (l : List Place). byte (X b.stride b.addr) ∷ l) (spots_stores bs (drop 1 xs))

  stored_places : (way : Way) (c x : ℕ) (xs : List ℕ) → spots X (stores (span way c x) xs) ≡ bytes X way c x
  stored_places way c x xs = spots_stores (span way c x) xs ∙ named_span c (addresses way c x)

  place_into : (way : Way) (n : ℕ) (xs : List ℕ) → place X (into way n xs).name ≡ datum way n
  place_into Horizontal n xs = refl
  place_into Vertical n xs = refl
  place_into Scalar n xs = refl

  -- ---- the whole of a load, and of a store

  abbrev end : Prog Did → Prog Done
  end m = m >>= (λ d. ret (done d))

  asked_loading : (way : Way) (n c x : ℕ) (rest : List Write) (s : State) → asked X (end (loading way n c x rest)) s ≡ bytes X way c x
  asked_loading way n c x rest s =
      asked_last (loading way n c x rest) done s
      ∙ asked_last (loads (span way c x)) _ s
      ∙ loaded_places way c x s

  spots_loading : (way : Way) (n c x : ℕ) (rest : List Write) (s : State)
      → spots X (run X (end (loading way n c x rest)) s).writes ≡ datum way n ∷ spots X rest
  spots_loading way n c x rest s = simp (run_bind, place_into)

  spots_storing : (way : Way) (c x : ℕ) (xs : List ℕ) (rest : List Write) (s : State)
      → spots X (run X (end (storing way c x xs rest)) s).writes ≡ bytes X way c x ++ spots X rest
  spots_storing way c x xs rest s = simp (spots_append, stored_places)

  -- ---- a part of a program, and what follows it

  asked_then : {Y : Type 0} (m : Prog Y) (f : Y → Prog Did) (s : State) → asked X (end (m >>= f)) s ≡ asked X m s ++ asked X (end (f (run X m s))) s
  asked_then (ret y) f s = refl
  asked_then (ask q k) f s = ap (λ (l : List Place). place X q ∷ l) (asked_then (k (get X q s)) f s)

  run_then : {Y : Type 0} (m : Prog Y) (f : Y → Prog Did) (s : State) → run X (end (m >>= f)) s ≡ run X (end (f (run X m s))) s
  run_then (ret y) f s = refl
  run_then (ask q k) f s = run_then (k (get X q s)) f s

  asked_increment : (i : Increment) (s : State) → asked X (increment i) s ≡ T.increment i
  asked_increment (I.Register n) s = refl
  asked_increment (I.Immediate i) s = refl

  asked_from : (way : Way) (n : ℕ) (s : State) → asked X (from way n) s ≡ datum way n ∷ []
  asked_from Horizontal n s = refl
  asked_from Vertical n s = refl
  asked_from Scalar n s = refl

  asked_second : (x : Second) (s : State) → asked X (second x) s ≡ T.second x
  asked_second (S.Register n) s = refl
  asked_second (S.Byte b) s = refl
  asked_second S.Absent s = refl

  asked_input : (vcdst : ℕ) (x : Input) (s : State) → asked X (input vcdst x) s ≡ T.input vcdst x
  asked_input vcdst (Mask m) s = refl
  asked_input vcdst Signs s = refl

  place_half : (h : H.Half) (n : ℕ) → place X (at A n h) ≡ half_of h n
  place_half Low n = refl
  place_half High n = refl

  -- ---- instruction by instruction

  reads_address : (i : Address) (s : State) → asked X (end (address i)) s ≡ reads_a X i s
  reads_address (A.Set o) s = refl
  reads_address (A.Add o) s = refl
  reads_address (A.Bitop o) s = refl
  reads_address (A.Aadd o) s = refl
  reads_address (A.Ld o) s = simp asked_loading
  reads_address (A.St o) s = simp (asked_then, asked_from)
  reads_address (A.Lda o) s = simp (asked_then, asked_increment, loaded_places, append-nil)
  reads_address (A.Sta o) s = simp (asked_then, asked_increment, asked_from)

  writes_address : (i : Address) (s : State) → spots X (run X (end (address i)) s).writes ≡ writes_a X i s
  writes_address (A.Set o) s = simp place_half
  writes_address (A.Add o) s = simp spots_below
  writes_address (A.Bitop o) s = simp spots_below
  writes_address (A.Aadd o) s = simp spots_below
  writes_address (A.Ld o) s = simp (spots_loading, spots_below)
  writes_address (A.St o) s = simp (run_then, spots_storing, spots_below)
  writes_address (A.Lda o) s = simp (run_then, place_into, spots_below)
  writes_address (A.Sta o) s = simp (run_then, spots_storing, spots_below)

  reads_vector : (i : Vector) (s : State) → asked X (end (vector i)) s ≡ reads_v i
  reads_vector (W.Arith o) s = simp (asked_then, asked_second, append-nil)
  reads_vector (W.Shift o) s = simp (asked_then, asked_second, append-nil)
  reads_vector (W.Clip o) s = refl
  reads_vector (W.Add9 o) s = refl
  reads_vector (W.MinAbs o) s = refl
  reads_vector (W.Bitop o) s = refl
  reads_vector (W.Logic o) s = refl
  reads_vector (W.Cmpad o) s = simp (asked_then, asked_input, append-nil)
  reads_vector (W.Swz o) s = refl
  reads_vector (W.Mov o) s = refl
  reads_vector (W.MovImm o) s = refl
  reads_vector (W.MovFlags dst) s = refl

  writes_vector : (i : Vector) (s : State) → spots X (run X (end (vector i)) s).writes ≡ writes_v i
  writes_vector (W.Arith o) s = simp (run_then, spots_below)
  writes_vector (W.Shift o) s = simp (run_then, spots_below)
  writes_vector (W.Clip o) s = simp spots_below
  writes_vector (W.Add9 o) s = simp spots_below
  writes_vector (W.MinAbs o) s = simp spots_below
  writes_vector (W.Bitop o) s = simp spots_below
  writes_vector (W.Logic o) s = simp spots_below
  writes_vector (W.Cmpad o) s = simp (run_then, spots_below)
  writes_vector (W.Swz o) s = refl
  writes_vector (W.Mov o) s = simp spots_below
  writes_vector (W.MovImm o) s = simp spots_below
  writes_vector (W.MovFlags dst) s = refl

-- the places that the meaning reads, and those that it writes, are the table's, in its order: for every instruction, state and translation
pub reads_are : (X : Xlat) (i : Insn) (s : State) → asked X (sem i) s ≡ reads X i s
reads_are X (N.Address i) s = reads_address X i s
reads_are X (N.Vector i) s = reads_vector X i s
reads_are X N.Nop s = refl

pub writes_are : (X : Xlat) (i : Insn) (s : State) → spots X (run X (sem i) s).writes ≡ writes X i s
writes_are X (N.Address i) s = writes_address X i s
writes_are X (N.Vector i) s = writes_vector X i s
writes_are X N.Nop s = refl
