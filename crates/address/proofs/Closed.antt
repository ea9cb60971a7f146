-- The formulas of specs/Effect.antt say what the model says: the state after an address instruction, and the cells that it enters.
use Rattle.std.proofs.Common.{◌≡◌, ℕ, zero, suc, ◌+◌, ◌*◌, ◌/◌, ◌%◌, Bool, true, false, cond, List, [], ◌∷◌, ◌++◌, map, get_or, drop, set, refl, ap, ◌∙◌, arith}
use Rattle.banks.specs.Bank.{at, pair_of}
use Rattle.banks.specs.Line.{addresses, distinct}
use Rattle.banks.specs.Inner.Access.{places, cells_of}
use Rattle.terms.specs.declared.Way.{Way}
use Rattle.terms.specs.declared.Way.TheVariants.{Horizontal, Vertical, Scalar}
use Rattle.banks.proofs.Counts.{cells_are}
use Rattle.store.specs.Inner.Loads.{loaded, stored, word_of, bytes_of}
use Rattle.pieces.specs.Inner.Regs.{vreg_of, with_vreg, base_of, with_half, with_long, with_end, long_at, end_at}
use Rattle.terms.specs.declared.Half.{Half}
use Rattle.terms.specs.declared.Half.TheVariants.{Low, High}
use Rattle.words.specs.declared.Increment.{Increment}
use Rattle.words.specs.declared.Increment.TheVariants.{Register, Immediate}
use Rattle.words.specs.Insn as N
use Rattle.words.specs.Address.{Address}
use Rattle.words.specs.Address.{Set, Add, Bitop, Aadd, Ld, St, Lda, Sta}
use Rattle.pieces.specs.State.{State, state, C, over}
use Rattle.pieces.specs.Place.{Addr, xlat, put, halves, edit, upd}
use Rattle.model.specs.Prog as P
use Rattle.model.specs.Prog.{Prog, ret, ◌>>=◌, run, puts, Write, Did, Done, done}
use Rattle.model.specs.Address as M
use Rattle.terms.specs.Counts.{counts}
use Rattle.terms.specs.Inner.Runs.{amount}
use Rattle.terms.specs.declared.Counts.{Counts}
use Rattle.model.specs.Step.{stepped, counted}
use Rattle.model.proofs.Laws.{gathered, scattered, run_bind, puts_append, puts_cond, run_loads, puts_stores}
use Rattle.address.specs.Inner.Effect.{Pieces, five, addressed, counted_in, inc_of, fetched, kept, into_r, into_v, out_of}

-- ---- words and flags

word_get : (w : ℕ) → w / 65536 * 65536 + w % 65536 ≡ w
word_get w = omega arith

-- two halves put are the word put
word_put : (d x : ℕ) (l : List ℕ) → upd d (edit halves High (x / 65536)) (upd d (edit halves Low (x % 65536)) l) ≡ set l d x
word_put d x [] = refl
word_put zero x (w ∷ ws) = ap (λ (z : ℕ). z ∷ ws) (omega arith)
word_put (suc d) x (w ∷ ws) = ap (λ (z : List ℕ). w ∷ z) (word_put d x ws)

half_put : (h : Half) (x w : ℕ) → edit halves h x w ≡ with_half h x w
unfolding with_half
half_put Low x w = refl
half_put High x w = refl

-- a test on $c alone
cond_c : (b : Bool) (f : List ℕ → List ℕ) (s : State)
    → cond b (over C f s) s ≡ state s.ds s.a s.r (cond b (f s.c) s.c) s.vc s.v
cond_c true f s = refl
cond_c false f s = refl

puts_short : (cd x lim : ℕ) (s : State)
    → puts xlat (M.short_to cd x lim) s ≡ state s.ds s.a s.r (end_at cd x lim s.c) s.vc s.v
unfolding end_at with_end
puts_short cd x lim s = simp (puts_cond, cond_c)

puts_long : (cd x : ℕ) (s : State) → puts xlat (M.long_to cd x) s ≡ state s.ds s.a s.r (long_at cd x s.c) s.vc s.v
unfolding long_at with_long
puts_long cd x s = simp (puts_cond, cond_c)

puts_result : (d cd x : ℕ) (s : State)
    → puts xlat (M.word_to d x ++ M.long_to cd x) s ≡ state s.ds (set s.a d x) s.r (long_at cd x s.c) s.vc s.v
puts_result d cd x s = puts_long cd x (puts xlat (M.word_to d x) s) ∙ simp word_put

-- ---- accesses

-- an address list under a code
abbrev under : ℕ → List ℕ → List Addr
under c l = map {B = Addr} (λ y. record { stride = c; addr = y }) l

gathered_is : (c : ℕ) (l ds : List ℕ) → gathered xlat ds (under c l) ≡ loaded ds (places c l)
unfolding loaded places
gathered_is c [] ds = refl
gathered_is c (y ∷ l) ds = ap (λ (z : List ℕ). get_or ds (at c y) 0 ∷ z) (gathered_is c l ds)

scattered_is : (c : ℕ) (l xs ds : List ℕ) → scattered xlat ds (under c l) xs ≡ stored ds (places c l) xs
unfolding scattered stored places
scattered_is c [] xs ds = refl
scattered_is c (y ∷ l) xs ds = scattered_is c l (drop 1 xs) (set ds (at c y) (get_or xs 0 0))

same_word : (xs : List ℕ) → M.joined xs ≡ word_of xs
unfolding word_of
same_word [] = refl
same_word (x ∷ xs) = ap (λ (z : ℕ). x + z * 256) (same_word xs)

put_into : (way : Way) (n : ℕ) (xs : List ℕ) (s : State)
    → put xlat (M.into way n xs).name (M.into way n xs).value s ≡ state s.ds s.a (into_r way n xs s.r) s.c s.vc (into_v way n xs s.v)
unfolding with_vreg
put_into Horizontal n xs s = refl
put_into Vertical n xs s = refl
put_into Scalar n xs s = rw (same_word xs) refl

-- a program to its end, with what it counts
abbrev end : Prog Did → State → Done
end m s = run xlat (m >>= (λ d. ret (done d))) s

run_from : (way : Way) (n : ℕ) (f : List ℕ → Prog Did) (s : State) → end (M.from way n >>= f) s ≡ end (f (out_of way n s.r s.v)) s
unfolding vreg_of bytes_of
run_from Horizontal n f s = refl
run_from Vertical n f s = refl
run_from Scalar n f s = refl

run_increment : (i : Increment) (f : ℕ → Prog Did) (s : State) → end (M.increment i >>= f) s ≡ end (f (inc_of i s.a)) s
unfolding inc_of
run_increment (Register n) f s = refl
run_increment (Immediate i) f s = refl

run_loading : (way : Way) (n c x : ℕ) (rest : List Write) (s : State)
    → end (M.loading way n c x rest) s
    ≡ done (record { writes = M.into way n (fetched way c x s.ds) ∷ rest; access = P.load way c (M.span way c x); clipped = 0 })
run_loading way n c x rest s = simp (run_bind, run_loads, gathered_is)

puts_storing : (way : Way) (c x : ℕ) (xs : List ℕ) (rest : List Write) (s : State)
    → puts xlat (M.stores (M.span way c x) xs ++ rest) s ≡ puts xlat rest (state (kept way c x xs s.ds) s.a s.r s.c s.vc s.v)
puts_storing way c x xs rest s = simp (puts_append, puts_stores, scattered_is)

pairs : (c : ℕ) (l : List ℕ) → map (λ (b : Addr). pair_of b.stride b.addr) (under c l) ≡ map (pair_of c) l
pairs c [] = refl
pairs c (y ∷ l) = ap (λ (z : List ℕ). pair_of c y ∷ z) (pairs c l)

enters : (way : Way) (c x : ℕ) → counts (P.entered (M.span way c x)) 0 ≡ counts (cells_of way c) 0
enters way c x = ap (λ (n : ℕ). counts n 0) (ap distinct (pairs c (addresses way c x)) ∙ cells_are way c x)

abbrev count : Done → Counts
count d = d.counts

count_loading : (way : Way) (n c x : ℕ) (rest : List Write) (s : State) → count (end (M.loading way n c x rest) s) ≡ counts (cells_of way c) 0
count_loading way n c x rest s = ap count (run_loading way n c x rest s) ∙ enters way c x

-- ---- the eight instructions

pub closed : (i : Address) (s : State)
    → let p : Pieces = addressed i (five s.ds s.a s.r s.c s.v) in
    stepped (N.Address i) s ≡ state p.ds p.a p.r p.c s.vc p.v
unfolding stepped addressed base_of with_half
closed (Set o) s = simp half_put
closed (Add o) s = simp (word_get, puts_result)
closed (Bitop o) s = simp (word_get, puts_result)
closed (Aadd o) s = simp puts_short
closed (Ld o) s = simp (run_loading, put_into, puts_short)
closed (St o) s = simp (run_from, puts_storing, puts_short)
closed (Lda o) s = simp (run_increment, run_loading, put_into, puts_short)
closed (Sta o) s = simp (run_increment, run_from, puts_storing, puts_short)

pub counting : (i : Address) (s : State) → counted (N.Address i) s ≡ amount (counted_in i s.a)
unfolding counted counted_in base_of
counting (Set o) s = refl
counting (Add o) s = refl
counting (Bitop o) s = refl
counting (Aadd o) s = refl
counting (Ld o) s = count_loading o.way _ _ _ _ s
counting (St o) s = ap count (run_from o.way o.reg _ s) ∙ enters o.way _ _
counting (Lda o) s = ap count (run_increment o.inc _ s) ∙ count_loading o.way _ _ _ _ s
counting (Sta o) s = ap count (run_increment o.inc _ s) ∙ ap count (run_from o.way o.reg _ s) ∙ enters o.way _ _
