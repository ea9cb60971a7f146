-- Changes of a word's parts, of a piece, of a list's elements: which of them commute, and what they leave.
use Rattle.std.proofs.Common.{◌≡◌, ℕ, zero, suc, ◌+◌, ◌*◌, ◌/◌, ◌%◌, ◌<◌, ◌≤◌, Bool, true, false, cond, T, eqb, ◌≢◌, ◌⊎◌, List, [], ◌∷◌, length, get_or, take, drop, set, sym, refl, ap, ◌∙◌, inl, inr, arith, eqb→eq, length-take, get_or-set_other, drop-set-lt}
use native.Mathlib.Decide.{ℕ_discrete, dec_lt}
use lib.Seq.{sets, set_comm, take-set-le}
use Rattle.pieces.specs.State.{State, Piece, A, R, C, VC, sel, over, over_d, over_v, on, code}
use Rattle.terms.specs.declared.Half.TheVariants.{Low, High}
use Rattle.pieces.specs.Place.{Cut, whole, halves, flags, view, edit, upd}

-- the flags' words by their digits, each a call of `omega` with nothing else in reach
e₁ : (y w : ℕ) → (w / 2048 * 2048 + y % 2 * 1024 + w % 1024) / 1024 ≡ w / 2048 * 2 + y % 2
e₁ y w = omega arith

e₂ : (y w : ℕ) → (w / 2048 * 2048 + y % 2 * 1024 + w % 1024) % 256 ≡ w % 256
e₂ y w = omega arith

f₁ : (x w : ℕ) → (w / 1024 * 1024 + x % 4 * 256 + w % 256) / 2048 ≡ w / 2048
f₁ x w = omega arith

f₂ : (x w : ℕ) → (w / 1024 * 1024 + x % 4 * 256 + w % 256) % 1024 ≡ x % 4 * 256 + w % 256
f₂ x w = omega arith

-- the two parts of a word may be changed in either order
pub edit_comm : (k : Cut) (x y w : ℕ) → edit k Low x (edit k High y w) ≡ edit k High y (edit k Low x w)
edit_comm whole x y w = refl
edit_comm halves x y w = omega arith
edit_comm flags x y w = rw (e₁, e₂, f₁, f₂) (omega arith)

-- a change of the high part leaves the low one, and the other way round
pub view_lo : (k : Cut) (y w : ℕ) → view k Low (edit k High y w) ≡ view k Low w
view_lo whole y w = refl
view_lo halves y w = omega arith
view_lo flags y w = omega arith

pub view_hi : (k : Cut) (x w : ℕ) → view k High (edit k Low x w) ≡ view k High w
view_hi whole x w = refl
view_hi halves x w = omega arith
view_hi flags x w = omega arith

-- ---- a change of one piece

un : ℕ → Piece
un n = cond (eqb n 0) A (cond (eqb n 1) R (cond (eqb n 2) C VC))

un_code : (p : Piece) → un (code p) ≡ p
unfolding un
un_code A = refl
un_code R = refl
un_code C = refl
un_code VC = refl

-- a piece is known by its number
pub code_inj : (p q : Piece) → code p ≡ code q → p ≡ q
code_inj p q e = sym (un_code p) ∙ ap un e ∙ un_code q

on_other : (i j : ℕ) (f : List ℕ → List ℕ) (l : List ℕ) → i ≢ j → on i j f l ≡ l
on_other i j f l h = go (eqb i j) (eqb→eq i j)
  where
    go : (b : Bool) → (T b → i ≡ j) → cond b (f l) l ≡ l
    go true e = absurd (h (e tt))
    go false e = refl

-- at each number one of the two changes is none
on_comm : (i j k : ℕ) (f g : List ℕ → List ℕ) (l : List ℕ) → i ≢ j → on i k f (on j k g l) ≡ on j k g (on i k f l)
on_comm i j k f g l h = go (ℕ_discrete i k)
  where
    go : Dec (i ≡ k) → on i k f (on j k g l) ≡ on j k g (on i k f l)
    go (yes e) =
        let n : j ≢ k = λ (d : j ≡ k). h (e ∙ sym d) in
        rw (on_other j k g l n, on_other j k g (on i k f l) n)
    go (no n) = rw (on_other i k f l n, on_other i k f (on j k g l) n)

on_on : (i k : ℕ) (f g : List ℕ → List ℕ) (l : List ℕ) → on i k f (on i k g l) ≡ on i k (λ x. f (g x)) l
on_on i k f g l = go (eqb i k)
  where
    go : (b : Bool) → cond b (f (cond b (g l) l)) (cond b (g l) l) ≡ cond b (f (g l)) l
    go true = refl
    go false = refl

-- two pieces may be changed in either order
pub over_comm : (p q : Piece) (f g : List ℕ → List ℕ) (s : State) → code p ≢ code q → over p f (over q g s) ≡ over q g (over p f s)
over_comm p q f g s h = λ i. record {
  ds = s.ds;
  a = on_comm (code p) (code q) 0 f g s.a h i;
  r = on_comm (code p) (code q) 1 f g s.r h i;
  c = on_comm (code p) (code q) 2 f g s.c h i;
  vc = on_comm (code p) (code q) 3 f g s.vc h i;
  v = s.v;
}

-- two changes of one piece are one
pub over_over : (p : Piece) (f g : List ℕ → List ℕ) (s : State) → over p f (over p g s) ≡ over p (λ l. f (g l)) s
over_over p f g s = λ i. record {
  ds = s.ds;
  a = on_on (code p) 0 f g s.a i;
  r = on_on (code p) 1 f g s.r i;
  c = on_on (code p) 2 f g s.c i;
  vc = on_on (code p) 3 f g s.vc i;
  v = s.v;
}

-- a change of one piece leaves the others
pub sel_other : (p q : Piece) (f : List ℕ → List ℕ) (s : State) → code q ≢ code p → sel p (over q f s) ≡ sel p s
sel_other A q f s h = on_other (code q) 0 f s.a h
sel_other R q f s h = on_other (code q) 1 f s.r h
sel_other C q f s h = on_other (code q) 2 f s.c h
sel_other VC q f s h = on_other (code q) 3 f s.vc h

-- and is seen in its own
pub sel_same : (p : Piece) (f : List ℕ → List ℕ) (s : State) → sel p (over p f s) ≡ f (sel p s)
sel_same A f s = refl
sel_same R f s = refl
sel_same C f s = refl
sel_same VC f s = refl

-- a change of the vector registers leaves the four pieces of words
pub sel_V : (p : Piece) (f : List ℕ → List ℕ) (s : State) → sel p (over_v f s) ≡ sel p s
sel_V A f s = refl
sel_V R f s = refl
sel_V C f s = refl
sel_V VC f s = refl

-- and so does a change of the data store
pub sel_D : (p : Piece) (f : List ℕ → List ℕ) (s : State) → sel p (over_d f s) ≡ sel p s
sel_D A f s = refl
sel_D R f s = refl
sel_D C f s = refl
sel_D VC f s = refl

-- ---- a change of one word

-- two words may be changed in either order
pub upd_comm : (n m : ℕ) (f g : ℕ → ℕ) (l : List ℕ) → n ≢ m → upd n f (upd m g l) ≡ upd m g (upd n f l)
upd_comm n m f g l h =
    rw (get_or-set_other l m n (g (get_or l m 0)) 0 h, get_or-set_other l n m (f (get_or l n 0)) 0 (λ (e : m ≡ n). h (sym e)))
    (sym (set_comm l n m (f (get_or l n 0)) (g (get_or l m 0)) h))

-- two changes of one word are one
pub upd_upd : (n : ℕ) (f g : ℕ → ℕ) (l : List ℕ) → upd n f (upd n g l) ≡ upd n (λ x. f (g x)) l
upd_upd n f g [] = refl
upd_upd zero f g (x ∷ xs) = refl
upd_upd (suc n) f g (x ∷ xs) = ap (λ (r : List ℕ). x ∷ r) (upd_upd n f g xs)

-- a test of a word that f leaves alone
pub view_upd : (n : ℕ) (t f : ℕ → ℕ) (l : List ℕ) → ((x : ℕ) → t (f x) ≡ t x) → t (get_or (upd n f l) n 0) ≡ t (get_or l n 0)
view_upd n t f [] h = refl
view_upd zero t f (x ∷ xs) h = h x
view_upd (suc n) t f (x ∷ xs) h = view_upd n t f xs h

-- ---- a change of sixteen bytes

set_sets : (us l : List ℕ) (i j v : ℕ) → i < j → sets (set l i v) j us ≡ set (sets l j us) i v
set_sets [] l i j v h = refl
set_sets (u ∷ us) l i j v h =
    ap (λ (k : List ℕ). sets k (suc j) us) (set_comm l i j v u (omega arith)) ∙ set_sets us (set l j u) i (suc j) v (omega arith)

-- two runs of bytes that do not meet may be written in either order
pub sets_comm : (vs us l : List ℕ) (i j : ℕ) → i + length vs ≤ j → sets (sets l i vs) j us ≡ sets (sets l j us) i vs
sets_comm [] us l i j h = refl
sets_comm (v ∷ vs) us l i j h =
    sets_comm vs us (set l i v) (suc i) j (omega arith) ∙ ap (λ (k : List ℕ). sets k (suc i) vs) (set_sets us l i j v (omega arith))

-- what lies behind a run of bytes is left
pub drop_sets : (vs l : List ℕ) (i k : ℕ) → i + length vs ≤ k → drop k (sets l i vs) ≡ drop k l
drop_sets [] l i k h = refl
drop_sets (v ∷ vs) l i k h = drop_sets vs (set l i v) (suc i) k (omega arith) ∙ drop-set-lt k l i v (omega arith)

win_set : (k n : ℕ) (l : List ℕ) (i v : ℕ) → k + n ≤ i → take n (drop k (set l i v)) ≡ take n (drop k l)
win_set zero n l i v h = take-set-le n l i v (omega arith)
win_set (suc k) n [] i v h = refl
win_set (suc k) n (x ∷ xs) zero v h = absurd (omega arith)
win_set (suc k) n (x ∷ xs) (suc i) v h = win_set k n xs i v (omega arith)

-- and so is what lies before it
pub win_sets : (vs : List ℕ) (k n : ℕ) (l : List ℕ) (i : ℕ) → k + n ≤ i → take n (drop k (sets l i vs)) ≡ take n (drop k l)
win_sets [] k n l i h = refl
win_sets (v ∷ vs) k n l i h = win_sets vs k n (set l i v) (suc i) (omega arith) ∙ win_set k n l i v h

-- a vector register is given at most sixteen bytes
pub take_16 : (x : List ℕ) → length (take 16 x) ≤ 16
take_16 x = omega (arith, length-take 16 x)

-- of two different numbers one is the smaller
pub ne_cases : (n m : ℕ) → n ≢ m → (n < m) ⊎ (m < n)
ne_cases n m h = go (dec_lt n m)
  where
    go : Dec (n < m) → (n < m) ⊎ (m < n)
    go (yes e) = inl e
    go (no e) = inr (omega arith)
