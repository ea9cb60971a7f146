-- Right lengths stay right: of a step, of a triple, of the single call and of a run.
use mathlib.Core.Path.{◌≡◌, refl, ◌∙◌}
use Prim.Native.Nat.{ℕ, ◌+◌, ◌*◌}
use mathlib.Core.Bool.{Bool, true, false, cond}
use mathlib.Core.List.{List, [], ◌∷◌}
use lib.Dec.{eqb}
use lib.ListN.{length, get_or, take, length-set}
use lib.Seq.{length-sets}
use Rattle.terms.specs.Counts.{none, plus}
use Rattle.terms.specs.declared.Counts.{Counts}
use Rattle.words.specs.Table.{decode_of}
use Rattle.words.specs.Insn.{Insn}
use Rattle.words.specs.Decoded.{Decoded}
use Rattle.words.specs.Decoded as D
use Rattle.pieces.specs.State.{State, Sized, sized_of, Piece, code, on, over}
use Rattle.pieces.specs.Place.{Name, at, vec, byte, Xlat, xlat, Val, put, upd, edit, cut}
use Rattle.model.specs.Prog.{run, Write, puts}
use Rattle.model.specs.Step.{sem, step_x, stepped, Outcome, outcome, by_decoded, triple_of, step_of}
use Rattle.model.specs.Run.{Triple, triples, RunOutcome, ended, run_from, run_of}
use Rattle.model.proofs.Laws.{turn}
use Rattle.model.proofs.Triples.{opening}

length_on : (i j : ℕ) (f : List ℕ → List ℕ) (l : List ℕ) → length (f l) ≡ length l → length (on i j f l) ≡ length l
length_on i j f l h = go (eqb i j)
  where
    go : (b : Bool) → length (cond b (f l) l) ≡ length l
    go true = h
    go false = refl

sized_over : (p : Piece) (f : List ℕ → List ℕ) (s : State) → ((l : List ℕ) → length (f l) ≡ length l) → Sized s → Sized (over p f s)
sized_over p f s k h =
    record {
      ds = h.ds;
      a = length_on (code p) 0 f s.a (k s.a) ∙ h.a;
      r = length_on (code p) 1 f s.r (k s.r) ∙ h.r;
      c = length_on (code p) 2 f s.c (k s.c) ∙ h.c;
      vc = length_on (code p) 3 f s.vc (k s.vc) ∙ h.vc;
      v = h.v;
    }

-- a value put at a place keeps every length
pub sized_put : (X : Xlat) (q : Name) (x : Val q) (s : State) → Sized s → Sized (put X q x s)
sized_put X (at p n g) x s h = sized_over p (upd n (edit (cut p) g x)) s (λ l. length-set l n (edit (cut p) g x (get_or l n 0))) h
sized_put X (vec n) x s h =
    record { ds = h.ds; a = h.a; r = h.r; c = h.c; vc = h.vc; v = length-sets s.v (16 * n) (take 16 x) ∙ h.v }
sized_put X (byte b) x s h =
    record { ds = length-set s.ds (X b.stride b.addr) x ∙ h.ds; a = h.a; r = h.r; c = h.c; vc = h.vc; v = h.v }

-- and so does a list of writes
pub sized_puts : (X : Xlat) (ws : List Write) (s : State) → Sized s → Sized (puts X ws s)
sized_puts X [] s h = h
sized_puts X (w ∷ ws) s h = sized_puts X ws (put X w.name w.value s) (sized_put X w.name w.value s h)

-- whatever the instruction, all it does is a list of writes
pub sized_step : (X : Xlat) (i : Insn) (s : State) → Sized s → Sized (step_x X i s)
sized_step X i s h = sized_puts X (run X (sem i) s).writes s h

-- so under document 01's translation
pub sized_stepped : (i : Insn) (s : State) → Sized s → Sized (stepped i s)
unfolding stepped
sized_stepped i s h = sized_step xlat i s h

sized_decoded : (d : Decoded) (s : State) → Sized s → Sized (by_decoded d s).after
sized_decoded (D.Insn i) s h = sized_stepped i s h
sized_decoded (D.Refused k) s h = h

-- a triple keeps them, done or refused
pub sized_triple : (word side mask : ℕ) (s : State) → Sized s → Sized (triple_of word side mask s).after
unfolding triple_of
sized_triple word side mask s h = sized_decoded (decode_of word side mask) s h

-- and so does the single call
pub sized_step_of : (word side mask : ℕ) (s : State) → Sized s → Sized (step_of word side mask s).after
unfolding step_of
sized_step_of word side mask s h = go (sized_of s)
  where
    go : (b : Bool) → Sized (cond b (triple_of word side mask s) (outcome 5 none s)).after
    go true = sized_triple word side mask s h
    go false = h

-- a run from anywhere keeps them
pub sized_from : (budget : ℕ) (ts : List Triple) (n : ℕ) (c : Counts) (s : State) → Sized s → Sized (run_from budget ts n c s).after
unfolding run_from
sized_from budget [] n c s h = h
sized_from budget (t ∷ ts) n c s h =
    let o : Outcome = triple_of t.word t.side t.mask s in
    let g : Sized o.after = sized_triple t.word t.side t.mask s h in
    turn (λ (r : RunOutcome). Sized r.after) budget n o.number
    (ended 7 n c s) (run_from budget ts (n + 1) (plus c o.counts) o.after) (ended o.number n c o.after)
    (λ e. h) (λ e z. sized_from budget ts (n + 1) (plus c o.counts) o.after g) (λ e z. g)

-- the state after a list call has the right lengths if the one before it has
pub sized_run : (budget : ℕ) (ws : List ℕ) (s : State) → Sized s → Sized (run_of budget ws s).after
sized_run budget ws s h =
    opening (λ (r : RunOutcome). Sized r.after) budget ws s (λ z e. sized_from budget (triples ws) 0 none s h) (λ z e. h) (λ z. h)
