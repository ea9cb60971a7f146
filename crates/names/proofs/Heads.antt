-- Names as packed numbers: a text begins with an opcode's name exactly if the packed numbers are one.
use mathlib.Core.Path.{◌≡◌, refl, ap, ◌∙◌, sym, subst}
use mathlib.Core.Bool.{Bool, true, false, cond, ◌&&◌, not}
use mathlib.Core.List.{List, [], ◌∷◌, ◌++◌, append_assoc, append-nil}
use Prim.Native.Nat.{ℕ, zero, suc, ◌+◌, ◌*◌, ◌/◌, ◌%◌, ◌^◌, ◌<◌, ◌≤◌}
use native.Mathlib.Nat.{pow-suc, mul-one, mul_assoc, mul_comm, mul-le-mul, one-le-pow}
use native.Mathlib.Numerals.{add-one}
use native.Mathlib.Omega.{arith}
use native.Mathlib.Decide.{ℕ_discrete}
use borrow.Author.Tests.{eq-eqb, ne_eqb}
use lib.Dec.{T, ltb, leb, eqb, eqb→eq, leb→le, ltb→lt, lt→ltb}
use lib.ListN.{drop_of_length-le, length, take, drop, get_or, length-append}
use lib.Seq.{take-suc, length-take-le}
use Rattle.names.specs.Table.{row_at, rows, documented, name_at}
use Rattle.names.specs.Calls.{eqs, up_to, some, named_by}
use Rattle.names.specs.Inner.Scan.{split}
use Rattle.names.specs.Inner.Code.{packed, unpacked, name_code, head_code, bears}
use Rattle.names.proofs.Tests.{and_left, and_right, both, below, T_true, T_false, eqs_refl}
use Rattle.names.proofs.First.{some_passes, none_passes}
use Rattle.names.proofs.Alike.{differ}
use Rattle.names.proofs.Packed.{packed_append}
use Rattle.names.proofs.Lines.{bytes, bytes_append, unpack, documented_range}
use Rattle.names.proofs.Scans.{here}
use Rattle.names.proofs.Writing.{packed_le}

-- ---- the code's number of a name's first part
cut : ℕ → ℕ
cut n = cond (eqb (n / 256 % 256) 32) (n / 65536) n

cut_test : (op : ℕ) → op < 256 → T (eqb (cut (name_code op)) (head_code op))
unfolding cut name_code head_code packed row_at rows up_to
cut_test = below (λ op. eqb (cut (name_code op)) (head_code op)) 256 tt

module _ (op : ℕ) (h : op < 256) where
  pub head_cut : name_code op / 256 % 256 ≡ 32 → name_code op / 65536 ≡ head_code op
  unfolding cut
  head_cut e = let q : cut (name_code op) ≡ head_code op = eqb→eq _ _ (cut_test op h) in rw (eq-eqb (name_code op / 256 % 256) 32 e) at q

  pub head_whole : (name_code op / 256 % 256 ≡ 32 → ⊥) → name_code op ≡ head_code op
  unfolding cut
  head_whole e = let q : cut (name_code op) ≡ head_code op = eqb→eq _ _ (cut_test op h) in rw (ne_eqb (name_code op / 256 % 256) 32 e) at q

-- a name that is cut has a text behind its first part, another has none
part_test : (op : ℕ) → op < 256 → T (eqb (length (split (name_at op)).1) (cond (eqb (name_code op / 256 % 256) 32) 1 0))
unfolding name_code packed row_at rows split
part_test = below (λ op. eqb (length (split (name_at op)).1) (cond (eqb (name_code op / 256 % 256) 32) 1 0)) 256 tt

module _ (op : ℕ) (h : op < 256) where
  pub one_part : name_code op / 256 % 256 ≡ 32 → length (split (name_at op)).1 ≡ 1
  one_part e = eqb→eq _ _ (part_test op h) ∙ ap (λ (t : Bool). cond t 1 0) (eq-eqb (name_code op / 256 % 256) 32 e)

  pub no_part : (name_code op / 256 % 256 ≡ 32 → ⊥) → length (split (name_at op)).1 ≡ 0
  no_part e = eqb→eq _ _ (part_test op h) ∙ ap (λ (t : Bool). cond t 1 0) (ne_eqb (name_code op / 256 % 256) 32 e)

-- ---- a name has at most seven bytes
name_test : (op : ℕ) → op < 256 → T (bytes (up_to (name_at op)) && leb (length (up_to (name_at op))) 7)
unfolding row_at rows up_to
name_test = below (λ op. bytes (up_to (name_at op)) && leb (length (up_to (name_at op))) 7) 256 tt

module _ (op : ℕ) (h : op < 256) where
  name_bytes : T (bytes (up_to (name_at op)))
  name_bytes = and_left (bytes (up_to (name_at op))) (leb (length (up_to (name_at op))) 7) (name_test op h)

  name_few : length (up_to (name_at op)) ≤ 7
  name_few = leb→le _ _ (and_right (bytes (up_to (name_at op))) (leb (length (up_to (name_at op))) 7) (name_test op h))

packed_inj : (s t : List ℕ) → T (bytes s) → T (bytes t) → length s ≤ 7 → length t ≤ 7 → packed 1 s ≡ packed 1 t → s ≡ t
packed_inj s t p q l m e = sym (unpack s p l) ∙ ap (unpacked 7) e ∙ unpack t q m

-- ---- the text's name, packed
head_case : (op h : ℕ) (s : List ℕ) (d : Bool) → h ≡ packed 1 s → T (bytes s) → length s ≤ 7 → op < 256
    → d && eqs (up_to (name_at op)) s ≡ eqb (cond d (packed 1 (up_to (name_at op))) 0) h
head_case op h s false e b l o = sym (ne_eqb 0 h (λ q. omega (arith, packed_le 1 s)))
head_case op h s true e b l o = go (ℕ_discrete (packed 1 (up_to (name_at op))) h)
  where
    go : Dec (packed 1 (up_to (name_at op)) ≡ h) → eqs (up_to (name_at op)) s ≡ eqb (packed 1 (up_to (name_at op))) h
    go (yes q) =
        let r : up_to (name_at op) ≡ s = packed_inj (up_to (name_at op)) s (name_bytes op o) b (name_few op o) l (q ∙ e) in
        T_true (eqs (up_to (name_at op)) s) (rw r (eqs_refl s)) ∙ sym (eq-eqb (packed 1 (up_to (name_at op))) h q)
    go (no q) = sym (differ (up_to (name_at op)) s (λ r. q (ap (packed 1) r ∙ sym e))) ∙ sym (ne_eqb (packed 1 (up_to (name_at op))) h q)

-- no name is packed as 2
two_test : (op : ℕ) → op < 256 → T (not (bears 2 op))
unfolding bears head_code packed row_at rows up_to
two_test = below (λ op. not (bears 2 op)) 256 tt

module _ (t : List ℕ) where
  head_is : (h : ℕ) → h ≡ packed 1 (up_to t) → T (bytes (up_to t)) → length (up_to t) ≤ 7 → (op : ℕ) → op < 256 → named_by t op ≡ bears h op
  unfolding named_by bears head_code
  head_is h e b l op o = head_case op h (up_to t) (documented op) e b l o

  -- a longer name is none
  head_long : 7 < length (up_to t) → (op : ℕ) → op < 256 → named_by t op ≡ bears 2 op
  unfolding named_by
  head_long l op o =
      rw (sym (differ (up_to (name_at op)) (up_to t) (λ r. omega (arith, name_few op o, ap length r)))) (go (documented op) ∙ sym (T_false (bears 2 op) (two_test op o)))
    where
      go : (d : Bool) → d && false ≡ false
      go true = refl
      go false = refl

-- ---- a byte more
module _ (t : List ℕ) (i : ℕ) (h : i < length t) (b : get_or t i 0 < 256) where
  one_more : take (i + 1) t ≡ take i t ++ (get_or t i 0 ∷ [])
  one_more = rw add-one (take-suc t i 0 h)

  pub packed_more : packed 1 (take i t) * 256 + get_or t i 0 ≡ packed 1 (take (i + 1) t)
  unfolding packed
  packed_more = sym (ap (packed 1) one_more ∙ packed_append 1 (take i t) (get_or t i 0 ∷ []))

  pub bytes_more : T (bytes (take i t)) → T (bytes (take (i + 1) t))
  bytes_more p = rw one_more (bytes_append (take i t) (get_or t i 0 ∷ []) p (both (ltb (get_or t i 0) 256) true (lt→ltb _ _ b) tt))

-- so many bytes fit
pub packed_below : (n m k : ℕ) (t : List ℕ) → T (bytes t) → length t ≤ k → n < m → packed n t < m * 256 ^ k
unfolding packed
packed_below n m k [] b l h = rw mul-one at (mul-le-mul {n₁ = suc n} {m₁ = 1} {n₂ = m} {m₂ = 256 ^ k} h (one-le-pow k 256 (omega arith)))
packed_below n m zero (c ∷ t) b l h = absurd (omega arith)
packed_below n m (suc k) (c ∷ t) b l h =
    let c' : c < 256 = ltb→lt c 256 (and_left (ltb c 256) (bytes t) b) in
    rw (pow-suc) (go (packed_below (n * 256 + c) (m * 256) k t (and_right (ltb c 256) (bytes t) b) (omega arith) (omega arith)))
  where
    go : packed (n * 256 + c) t < m * 256 * 256 ^ k → packed (n * 256 + c) t < m * (256 ^ k * 256)
    go p = subst (λ (x : ℕ). packed (n * 256 + c) t < x) (mul_assoc m 256 (256 ^ k) ∙ ap (λ (x : ℕ). m * x) (mul_comm 256 (256 ^ k))) p

-- the first i bytes, packed, and all after them
module _ (t : List ℕ) (i p : ℕ) (h : i ≤ length t) (l : i ≤ 7) (q : p ≡ packed 1 (take i t)) (b : T (bytes (take i t))) (u : up_to t ≡ take i t ++ up_to (drop i t)) where
  -- at a space, a line feed or the end the name is whole
  pub name_ends : up_to (drop i t) ≡ [] → (op : ℕ) → op < 256 → named_by t op ≡ bears p op
  name_ends e =
      let w : up_to t ≡ take i t = u ∙ ap (λ (r : List ℕ). take i t ++ r) e ∙ append-nil (take i t) in
      head_is t p (q ∙ ap (packed 1) (sym w)) (subst (λ (x : List ℕ). T (bytes x)) (sym w) b) (rw (w, length-take-le i t h) l)

  pub name_some : p ≡ 0 → ⊥
  name_some e = omega (arith, packed_le 1 (take i t), q)

  -- six bytes leave room for one more
  pub name_room : i ≤ 6 → p < 2 ^ 56
  name_room m = let r = packed_below 1 2 6 (take i t) b (rw (length-take-le i t h) m) (omega arith) in omega (arith, q, r)

module _ (t : List ℕ) (i : ℕ) (h : i < length t) (u : up_to t ≡ take i t ++ up_to (drop i t)) where
  pub name_more : (get_or t i 0 ≡ 10 → ⊥) → (get_or t i 0 ≡ 32 → ⊥) → up_to t ≡ take (i + 1) t ++ up_to (drop (i + 1) t)
  unfolding up_to
  name_more e f =
      u ∙ ap (λ (r : List ℕ). take i t ++ up_to r) (here t i h)
      ∙ rw (ne_eqb (get_or t i 0) 10 e, ne_eqb (get_or t i 0) 32 f) (sym (rw (add-one, take-suc t i 0 h) (append_assoc (take i t) (get_or t i 0 ∷ []) (up_to (drop (suc i) t)))))

  -- an eighth byte makes it longer than any name
  pub name_long : 7 ≤ i → (get_or t i 0 ≡ 10 → ⊥) → (get_or t i 0 ≡ 32 → ⊥) → (op : ℕ) → op < 256 → named_by t op ≡ bears 2 op
  name_long m e f =
      head_long t (rw (name_more e f, length-append (take (i + 1) t) (up_to (drop (i + 1) t)), length-take-le (i + 1) t (omega arith)) (omega arith))

pub stops_end : (t : List ℕ) (i : ℕ) → length t ≤ i → up_to (drop i t) ≡ []
unfolding up_to
stops_end t i g = ap up_to (drop_of_length-le t g)

module _ (t : List ℕ) (i : ℕ) (h : i < length t) where
  pub stops_feed : get_or t i 0 ≡ 10 → up_to (drop i t) ≡ []
  unfolding up_to
  stops_feed e = rw (here t i h, eq-eqb (get_or t i 0) 10 e) refl

  pub stops_space : get_or t i 0 ≡ 32 → up_to (drop i t) ≡ []
  unfolding up_to
  stops_space e = rw (here t i h, ne_eqb (get_or t i 0) 10 (λ q. omega arith), eq-eqb (get_or t i 0) 32 e) refl

-- ---- the names known
zero_case : (d : Bool) (n h : ℕ) → (h ≡ 0 → ⊥) → cond d n 0 ≡ h → T d
zero_case true n h z e = tt
zero_case false n h z e = absurd (z (sym e))

module _ (h : ℕ) where
  pub bears_is : (op : ℕ) → T (bears h op) → head_code op ≡ h
  unfolding bears
  bears_is op t = eqb→eq (head_code op) h t

  is_bears : (op : ℕ) → head_code op ≡ h → T (bears h op)
  unfolding bears
  is_bears op e = rw (eq-eqb (head_code op) h e) tt

  pub bears_known : (op : ℕ) → (h ≡ 0 → ⊥) → head_code op ≡ h → T (documented op)
  unfolding head_code
  bears_known op z e = zero_case (documented op) (packed 1 (up_to (name_at op))) h z e

  pub known_none : (h ≡ 0 → ⊥) → ((op : ℕ) → 128 ≤ op → op < 224 → head_code op ≡ h → ⊥) → some (bears h) 256 ≡ false
  known_none z f =
      none_passes (bears h) 256 (λ op l t. let e = bears_is op t in let r = documented_range op l (bears_known op z e) in f op r.0 r.1 e)

  pub known_some : (op : ℕ) → op < 224 → head_code op ≡ h → some (bears h) 256 ≡ true
  known_some op l e = some_passes (bears h) 256 op (is_bears op e) (omega arith)
