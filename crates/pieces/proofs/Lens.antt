-- Two puts at different places commute, and a put leaves what another place holds.
use Rattle.std.proofs.Common.{◌≡◌, ℕ, ◌*◌, ◌<◌, ◌≢◌, ◌⊎◌, List, get_or, take, drop, set, sym, refl, ap, ◌∙◌, subst, inl, inr, arith, get_or-set_other}
use mathlib.Core.Path.{fun_ext}
use native.Mathlib.Decide.{ℕ_discrete}
use lib.Seq.{sets, set_comm}
use Rattle.pieces.specs.State.{State, Piece, sel, over, over_d, over_v, code}
use Rattle.terms.specs.declared.Half.{Half}
use Rattle.terms.specs.declared.Half.TheVariants.{Low, High}
use Rattle.pieces.specs.Place.{Place, Name, Xlat, place, at, vec, byte, Cut, cut, view, edit, upd, Val, get, put}
use Rattle.pieces.proofs.Change.{edit_comm, view_lo, view_hi, code_inj, over_comm, over_over, sel_other, sel_same, sel_V, sel_D, upd_comm, upd_upd, view_upd, sets_comm, drop_sets, win_sets, take_16, ne_cases}

vec_comm : (n m : ℕ) (x y l : List ℕ) → n ≢ m
    → sets (sets l (16 * m) (take 16 y)) (16 * n) (take 16 x) ≡ sets (sets l (16 * n) (take 16 x)) (16 * m) (take 16 y)
vec_comm n m x y l h = go (ne_cases n m h)
  where
    go : (n < m) ⊎ (m < n)
        → sets (sets l (16 * m) (take 16 y)) (16 * n) (take 16 x) ≡ sets (sets l (16 * n) (take 16 x)) (16 * m) (take 16 y)
    go (inl e) = sym (sets_comm (take 16 x) (take 16 y) l (16 * n) (16 * m) (omega (arith, take_16 x)))
    go (inr e) = sets_comm (take 16 y) (take 16 x) l (16 * m) (16 * n) (omega (arith, take_16 y))

vec_other : (n m : ℕ) (y l : List ℕ) → n ≢ m
    → take 16 (drop (16 * n) (sets l (16 * m) (take 16 y))) ≡ take 16 (drop (16 * n) l)
vec_other n m y l h = go (ne_cases n m h)
  where
    go : (n < m) ⊎ (m < n) → take 16 (drop (16 * n) (sets l (16 * m) (take 16 y))) ≡ take 16 (drop (16 * n) l)
    go (inl e) = win_sets (take 16 y) (16 * n) 16 l (16 * m) (omega arith)
    go (inr e) = ap (λ (k : List ℕ). take 16 k) (drop_sets (take 16 y) l (16 * m) (16 * n) (omega (arith, take_16 y)))

-- two places of one piece
halves_comm : (k : Cut) (m x y : ℕ) (l : List ℕ) → upd m (edit k Low x) (upd m (edit k High y) l) ≡ upd m (edit k High y) (upd m (edit k Low x) l)
halves_comm k m x y l =
    upd_upd m (edit k Low x) (edit k High y) l
    ∙ ap (λ (f : ℕ → ℕ). upd m f l) (fun_ext (λ w. edit_comm k x y w))
    ∙ sym (upd_upd m (edit k High y) (edit k Low x) l)

word_comm : (p : Piece) (n m : ℕ) (h g : Half) (x y : ℕ) (l : List ℕ) → ◌≢◌ {A = Place} (at p n h) (at p m g)
    → upd n (edit (cut p) h x) (upd m (edit (cut p) g y) l) ≡ upd m (edit (cut p) g y) (upd n (edit (cut p) h x) l)
word_comm p n m h g x y l ne = go (ℕ_discrete n m) h g ne
  where
    go : Dec (n ≡ m) → (h g : Half) → ◌≢◌ {A = Place} (at p n h) (at p m g)
        → upd n (edit (cut p) h x) (upd m (edit (cut p) g y) l) ≡ upd m (edit (cut p) g y) (upd n (edit (cut p) h x) l)
    go (no e) h g ne = upd_comm n m (edit (cut p) h x) (edit (cut p) g y) l e
    go (yes e) Low Low ne = absurd (ne (ap {B = Place} (λ (k : ℕ). at p k Low) e))
    go (yes e) High High ne = absurd (ne (ap {B = Place} (λ (k : ℕ). at p k High) e))
    go (yes e) Low High ne = rw e (halves_comm (cut p) m x y l)
    go (yes e) High Low ne = rw e (sym (halves_comm (cut p) m y x l))

word_other : (p : Piece) (n m : ℕ) (h g : Half) (y : ℕ) (l : List ℕ) → ◌≢◌ {A = Place} (at p n h) (at p m g)
    → view (cut p) h (get_or (upd m (edit (cut p) g y) l) n 0) ≡ view (cut p) h (get_or l n 0)
word_other p n m h g y l ne = go (ℕ_discrete n m) h g ne
  where
    go : Dec (n ≡ m) → (h g : Half) → ◌≢◌ {A = Place} (at p n h) (at p m g)
        → view (cut p) h (get_or (upd m (edit (cut p) g y) l) n 0) ≡ view (cut p) h (get_or l n 0)
    go (no e) h g ne = ap (view (cut p) h) (get_or-set_other l m n (edit (cut p) g y (get_or l m 0)) 0 e)
    go (yes e) Low Low ne = absurd (ne (ap {B = Place} (λ (k : ℕ). at p k Low) e))
    go (yes e) High High ne = absurd (ne (ap {B = Place} (λ (k : ℕ). at p k High) e))
    go (yes e) Low High ne = rw e (view_upd m (view (cut p) Low) (edit (cut p) High y) l (λ w. view_lo (cut p) y w))
    go (yes e) High Low ne = rw e (view_upd m (view (cut p) High) (edit (cut p) Low y) l (λ w. view_hi (cut p) y w))

-- `wr p n h x`: x at a half of a word
abbrev wr : Piece → ℕ → Half → ℕ → State → State
wr p n h x s = over p (upd n (edit (cut p) h x)) s

words_comm : (p q : Piece) (n m : ℕ) (h g : Half) (x y : ℕ) (s : State) → ◌≢◌ {A = Place} (at p n h) (at q m g)
    → wr p n h x (wr q m g y s) ≡ wr q m g y (wr p n h x s)
words_comm p q n m h g x y s ne = go (ℕ_discrete (code p) (code q))
  where
    one : (q : Piece) → p ≡ q → ◌≢◌ {A = Place} (at p n h) (at q m g) → wr p n h x (wr q m g y s) ≡ wr q m g y (wr p n h x s)
    one q e =
        subst (λ (q : Piece). ◌≢◌ {A = Place} (at p n h) (at q m g) → wr p n h x (wr q m g y s) ≡ wr q m g y (wr p n h x s)) e
        (λ ne.
        over_over p (upd n (edit (cut p) h x)) (upd m (edit (cut p) g y)) s
        ∙ ap (λ (f : List ℕ → List ℕ). over p f s) (fun_ext (λ l. word_comm p n m h g x y l ne))
        ∙ sym (over_over p (upd m (edit (cut p) g y)) (upd n (edit (cut p) h x)) s))

    go : Dec (code p ≡ code q) → wr p n h x (wr q m g y s) ≡ wr q m g y (wr p n h x s)
    go (yes e) = one q (code_inj p q e) ne
    go (no e) = over_comm p q (upd n (edit (cut p) h x)) (upd m (edit (cut q) g y)) s e

words_other : (p q : Piece) (n m : ℕ) (h g : Half) (y : ℕ) (s : State) → ◌≢◌ {A = Place} (at p n h) (at q m g)
    → view (cut p) h (get_or (sel p (wr q m g y s)) n 0) ≡ view (cut p) h (get_or (sel p s) n 0)
words_other p q n m h g y s ne = go (ℕ_discrete (code q) (code p))
  where
    one : (q : Piece) → p ≡ q → ◌≢◌ {A = Place} (at p n h) (at q m g)
        → view (cut p) h (get_or (sel p (wr q m g y s)) n 0) ≡ view (cut p) h (get_or (sel p s) n 0)
    one q e =
        subst (λ (q : Piece). ◌≢◌ {A = Place} (at p n h) (at q m g)
        → view (cut p) h (get_or (sel p (wr q m g y s)) n 0) ≡ view (cut p) h (get_or (sel p s) n 0)) e
        (λ ne.
        ap (λ (l : List ℕ). view (cut p) h (get_or l n 0)) (sel_same p (upd m (edit (cut p) g y)) s)
        ∙ word_other p n m h g y (sel p s) ne)

    go : Dec (code q ≡ code p) → view (cut p) h (get_or (sel p (wr q m g y s)) n 0) ≡ view (cut p) h (get_or (sel p s) n 0)
    go (yes e) = one q (sym (code_inj q p e)) ne
    go (no e) = ap (λ (l : List ℕ). view (cut p) h (get_or l n 0)) (sel_other p q (upd m (edit (cut q) g y)) s e)

module _ (X : Xlat) where
  -- two values put at different places come to one state in both orders
  pub put_comm : (p q : Name) (x : Val p) (y : Val q) (s : State) → place X p ≢ place X q → put X p x (put X q y s) ≡ put X q y (put X p x s)
  put_comm (at p n h) (at q m g) x y s ne = words_comm p q n m h g x y s ne
  put_comm (at p n h) (vec m) x y s ne = refl
  put_comm (at p n h) (byte b) x y s ne = refl
  put_comm (vec n) (at q m g) x y s ne = refl
  put_comm (vec n) (vec m) x y s ne = ap (λ (l : List ℕ). over_v (λ _. l) s) (vec_comm n m x y s.v (λ (e : n ≡ m). ne (ap {B = Place} vec e)))
  put_comm (vec n) (byte b) x y s ne = refl
  put_comm (byte b) (at q m g) x y s ne = refl
  put_comm (byte b) (vec m) x y s ne = refl
  put_comm (byte b) (byte c) x y s ne =
      let i : ℕ = X b.stride b.addr in
      let j : ℕ = X c.stride c.addr in
      ap (λ (l : List ℕ). over_d (λ _. l) s) (set_comm s.ds j i y x (λ (e : j ≡ i). ne (ap {B = Place} byte (sym e))))

  -- a value put at a place leaves what another place holds
  pub get_other : (p q : Name) (y : Val q) (s : State) → place X p ≢ place X q → get X p (put X q y s) ≡ get X p s
  get_other (at p n h) (at q m g) y s ne = words_other p q n m h g y s ne
  get_other (at p n h) (vec m) y s ne = ap (λ (l : List ℕ). view (cut p) h (get_or l n 0)) (sel_V p (λ l. sets l (16 * m) (take 16 y)) s)
  get_other (at p n h) (byte b) y s ne = ap (λ (l : List ℕ). view (cut p) h (get_or l n 0)) (sel_D p (λ l. set l (X b.stride b.addr) y) s)
  get_other (vec n) (at q m g) y s ne = refl
  get_other (vec n) (vec m) y s ne = vec_other n m y s.v (λ (e : n ≡ m). ne (ap {B = Place} vec e))
  get_other (vec n) (byte b) y s ne = refl
  get_other (byte b) (at q m g) y s ne = refl
  get_other (byte b) (vec m) y s ne = refl
  get_other (byte b) (byte c) y s ne =
      let i : ℕ = X b.stride b.addr in
      let j : ℕ = X c.stride c.addr in
      get_or-set_other s.ds j i y 0 (λ (e : i ≡ j). ne (ap {B = Place} byte e))
