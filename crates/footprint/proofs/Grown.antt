-- A list of numbers with some places more, and then with some more again; and where flags are written or not.
use mathlib.Core.Path.{◌≡◌, refl, ap, subst, ◌∙◌}
use Prim.Native.Nat.{ℕ, ◌≤◌, ◌<◌}
use mathlib.Core.List.{List, [], ◌∷◌, ◌++◌}
use borrow.Author.Tests.{lt-ltb, le-ltb}
use Rattle.words.specs.declared.Fields.{Fields}
use Rattle.pieces.specs.Place.{Place}
use Rattle.model.specs.Number.{number}
use Rattle.model.specs.Table.{written}
use Rattle.footprint.specs.Inner.Numbers.{nothing, push, pushed, Adds, touched}
use Rattle.footprint.specs.declared.Numbers.{Numbers}
use Rattle.footprint.specs.declared.Touches.{Touches}

-- no place more
pub none : {l : Numbers} → Adds l [] l
unfolding pushed
none = record { is = refl }

-- one more
pub one : (l : Numbers) {r : Numbers} {x : ℕ} (p : Place) → r ≡ push l x → x ≡ number p → Adds l (p ∷ []) r
unfolding pushed
one l p e f = record { is = e ∙ ap (push l) f }

pub pushed_append : (l : Numbers) (ps qs : List Place) → pushed (pushed l ps) qs ≡ pushed l (ps ++ qs)
unfolding pushed
pushed_append l [] qs = refl
pushed_append l (p ∷ ps) qs = pushed_append (push l (number p)) ps qs

-- some, then some
pub both : {l m r : Numbers} {ps qs : List Place} → Adds l ps m → Adds m qs r → Adds l (ps ++ qs) r
both {l} {m} {r} {ps} {qs} e f = record { is = f.is ∙ ap (λ (k : Numbers). pushed k qs) e.is ∙ pushed_append l ps qs }

-- what is read, then what is written
pub ends : {read all : Numbers} {ps qs : List Place} → Adds nothing ps read → Adds read qs all
    → record { list = all; reads = read.count } ≡ touched ps qs
unfolding touched
ends e f = rw (f.is, e.is) refl

-- what the fields that were cut name is what the word's fields name
pub cut : {r : Touches} (T : Fields → Touches) {f g : Fields} → f ≡ g → r ≡ T f → r ≡ T g
cut {r} T e h = subst (λ (x : Fields). r ≡ T x) e h

-- ---- flags

pub is_written : {l r : Numbers} {ps : List Place} (n : ℕ) → n < 4 → Adds l ps r → Adds l (written n ps) r
is_written n h e = rw (lt-ltb n 4 h) e

pub not_written : {l : Numbers} (n : ℕ) (ps : List Place) → 4 ≤ n → Adds l (written n ps) l
not_written n ps h = rw (le-ltb n 4 h) none
