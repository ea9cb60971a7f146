-- A write at a place that a program does not ask leaves all that it asks and its result. Two programs, neither of which writes
-- a place that the other asks or writes, come to one state in both orders, with the same results.
use mathlib.Core.Path.{◌≡◌, refl, ap, sym, ◌∙◌, subst}
use mathlib.Core.List.{List, [], ◌∷◌, Memᴰ}
use Rattle.pieces.specs.State.{State}
use Rattle.pieces.specs.Place.{Name, Place, Xlat, Val, get, put, place}
use Rattle.model.specs.Prog.{Prog, ret, ask, run, asked, Write, puts, spots, Done}
use Rattle.model.specs.Claims.{Apart}
use Rattle.pieces.proofs.Lens.{put_comm, get_other}

-- the state after a program's writes, and the places it writes, worked out in s
abbrev pub after : Xlat → Prog Done → State → State
after X m s = puts X (run X m s).writes s

abbrev pub written : Xlat → Prog Done → State → List Place
written X m s = spots X (run X m s).writes

-- a program gives the same result in two states, and asks the same places
pub record Same {Y : Type 0} (X : Xlat) (m : Prog Y) (s t : State) : Type 0 where
  pub result : run X m t ≡ run X m s
  pub places : asked X m t ≡ asked X m s

module _ (X : Xlat) where
  -- a value put at a place that a program does not ask leaves its result and the places it asks
  pub one : {Y : Type 0} (m : Prog Y) (q : Name) (x : Val q) (s : State)
      → (Memᴰ (place X q) (asked X m s) → ⊥) → Same X m s (put X q x s)
  one (ret y) q x s h = record { result = refl; places = refl }
  one (ask p k) q x s h =
      let e : get X p (put X q x s) ≡ get X p s = get_other X p q x s (λ (d : place X p ≡ place X q). h (Memᴰ.head (sym d))) in
      let i : Same X (k (get X p s)) s (put X q x s) = one (k (get X p s)) q x s (λ d. h (Memᴰ.tail d)) in
      record { result = rw e i.result; places = rw e (ap (λ (l : List Place). place X p ∷ l) i.places) }

  -- and so do the writes of a list
  pub many : {Y : Type 0} (m : Prog Y) (ws : List Write) (s : State) → Apart (spots X ws) (asked X m s) → Same X m s (puts X ws s)
  many m [] s h = record { result = refl; places = refl }
  many m (w ∷ ws) s h =
      let t : State = put X w.name w.value s in
      let i : Same X m s t = one m w.name w.value s (λ d. h (place X w.name) (Memᴰ.head refl) d) in
      let j : Same X m t (puts X ws t) =
      many m ws t (λ p d e. h p (Memᴰ.tail d) (subst (λ (l : List Place). Memᴰ p l) i.places e)) in
      record { result = j.result ∙ i.result; places = j.places ∙ i.places }

  -- the same, where the places are worked out after the write
  back_one : {Y : Type 0} (m : Prog Y) (q : Name) (x : Val q) (s : State)
      → (Memᴰ (place X q) (asked X m (put X q x s)) → ⊥) → Same X m s (put X q x s)
  back_one (ret y) q x s h = record { result = refl; places = refl }
  back_one (ask p k) q x s h =
      let t : State = put X q x s in
      let e : get X p t ≡ get X p s = get_other X p q x s (λ (d : place X p ≡ place X q). h (Memᴰ.head (sym d))) in
      let i : Same X (k (get X p t)) s t = back_one (k (get X p t)) q x s (λ d. h (Memᴰ.tail d)) in
      record {
        result = i.result ∙ ap (λ (z : Val p). run X (k z) s) e;
        places = ap (λ (l : List Place). place X p ∷ l) (i.places ∙ ap (λ (z : Val p). asked X (k z) s) e);
      }

  -- and after a list of writes
  pub back : {Y : Type 0} (m : Prog Y) (ws : List Write) (s : State) → Apart (spots X ws) (asked X m (puts X ws s)) → Same X m s (puts X ws s)
  back m [] s h = record { result = refl; places = refl }
  back m (w ∷ ws) s h =
      let t : State = put X w.name w.value s in
      let j : Same X m t (puts X ws t) = back m ws t (λ p d e. h p (Memᴰ.tail d) e) in
      let i : Same X m s t = back_one m w.name w.value s
      (λ d. h (place X w.name) (Memᴰ.head refl) (subst (λ (l : List Place). Memᴰ (place X w.name) l) (sym j.places) d)) in
      record { result = j.result ∙ i.result; places = j.places ∙ i.places }

  put_puts : (q : Name) (x : Val q) (ws : List Write) (s : State)
      → (Memᴰ (place X q) (spots X ws) → ⊥) → put X q x (puts X ws s) ≡ puts X ws (put X q x s)
  put_puts q x [] s h = refl
  put_puts q x (w ∷ ws) s h =
      put_puts q x ws (put X w.name w.value s) (λ d. h (Memᴰ.tail d))
      ∙ ap (puts X ws) (put_comm X q w.name x w.value s (λ e. h (Memᴰ.head e)))

  -- two lists of writes with no place in common come to one state in both orders
  pub puts_comm : (us ws : List Write) (s : State) → Apart (spots X us) (spots X ws) → puts X us (puts X ws s) ≡ puts X ws (puts X us s)
  puts_comm [] ws s h = refl
  puts_comm (u ∷ us) ws s h =
      ap (puts X us) (put_puts u.name u.value ws s (λ d. h (place X u.name) (Memᴰ.head refl) d))
      ∙ puts_comm us ws (put X u.name u.value s) (λ p d e. h p (Memᴰ.tail d) e)

-- neither writes a place that the other reads or writes, worked out in s
pub record Clear (X : Xlat) (m n : Prog Done) (s : State) : Type 0 where
  pub wr : Apart (written X m s) (asked X n s)
  pub rd : Apart (written X n s) (asked X m s)
  pub ww : Apart (written X m s) (written X n s)

-- both orders end in one state, and each program does the same first as last
pub record Exchanged (X : Xlat) (m n : Prog Done) (s : State) : Type 0 where
  pub state : after X n (after X m s) ≡ after X m (after X n s)
  pub later : Same X n s (after X m s)
  pub earlier : Same X m s (after X n s)

-- programs that are clear of each other may change places: one state, and each asks and gives what it did alone
pub exchange : (X : Xlat) (m n : Prog Done) (s : State) → Clear X m n s → Exchanged X m n s
exchange X m n s h =
    let ms : List Write = (run X m s).writes in
    let ns : List Write = (run X n s).writes in
    let i : Same X n s (puts X ms s) = many X n ms s h.wr in
    let j : Same X m s (puts X ns s) = many X m ns s h.rd in
    record {
      state =
          ap (λ (d : Done). puts X d.writes (puts X ms s)) i.result
          ∙ sym (puts_comm X ms ns s h.ww)
          ∙ sym (ap (λ (d : Done). puts X d.writes (puts X ns s)) j.result);
      later = i;
      earlier = j;
    }
