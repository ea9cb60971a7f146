-- "May I swap these two?": the answer of the call `may_swap`, and of the call `places`.
use Rattle.std.specs.Prelude.{ℕ, Bool, false, cond, ◌||◌, ◌&&◌, List, [], ◌∷◌, eqb, leb, length}
use Rattle.std.proofs.lemmas.List.Edits.{sets}
use Rattle.terms.specs.Answers.{number}
use Rattle.terms.specs.declared.End.TheVariants as E
use Rattle.words.specs.Table.{decode_of}
use Rattle.words.specs.Insn.{Insn}
use Rattle.words.specs.Decoded.{Decoded}
use Rattle.words.specs.Decoded as D
use Rattle.pieces.specs.State.{State, sized_of}
use Rattle.model.specs.Step.{refusal}
use Rattle.model.specs.Number.{reads_of, writes_of, touches_of}

abbrev pub has : ℕ → List ℕ → Bool
has x [] = false
has x (y ∷ ys) = eqb x y || has x ys

-- which place clashes first: one that the first instruction writes and the second touches, in the order in which the first writes
-- them; else one that the second writes and the first touches
pub record Verdict : Type 0 where
  -- 0 free, 1 clash
  pub clash : ℕ
  -- the place's number, 0 where free
  pub place : ℕ
  -- 1 or 2: the instruction that writes it; 0 where free
  pub writer : ℕ

abbrev pub verdict : ℕ → ℕ → ℕ → Verdict
verdict c p w = record { clash = c; place = p; writer = w }

-- the first of xs that is in ys, else what stands last
abbrev pub first_in : List ℕ → List ℕ → ℕ → Verdict → Verdict
first_in [] ys w v = v
first_in (x ∷ xs) ys w v = cond (has x ys) (verdict 1 x w) (first_in xs ys w v)

abbrev pub free : Verdict
free = verdict 0 0 0

unfoldable pub verdict_of : Insn → Insn → State → Verdict
verdict_of i j s = first_in (writes_of i s) (touches_of j s) 1 (first_in (writes_of j s) (touches_of i s) 2 free)

-- what may_swap leaves: the answer's number and the verdict. The pieces are never changed
pub record SwapOutcome : Type 0 where
  pub number : ℕ
  pub verdict : Verdict

abbrev pub swap_outcome : ℕ → Verdict → SwapOutcome
swap_outcome n v = record { number = n; verdict = v }

-- 1 to 4 of the first triple, then of the second, both met in the same state
abbrev pub swap_decoded : Decoded → Decoded → State → SwapOutcome
swap_decoded (D.Refused k) e s = swap_outcome (refusal k) free
swap_decoded (D.Insn i) (D.Refused k) s = swap_outcome (refusal k) free
swap_decoded (D.Insn i) (D.Insn j) s = swap_outcome (number E.Done) (verdict_of i j s)

unfoldable pub swap_of : (w side mask w' side' mask' : ℕ) → State → SwapOutcome
swap_of w side mask w' side' mask' s =
    cond (sized_of s) (swap_decoded (decode_of w side mask) (decode_of w' side' mask') s) (swap_outcome (number E.Lengths) free)

-- what places leaves: the answer's number, how many places are read and written, and the buffer, whose first entries are their numbers
pub record PlacesOutcome : Type 0 where
  pub number : ℕ
  pub reads : ℕ
  pub writes : ℕ
  pub buffer : List ℕ

abbrev pub places_outcome : ℕ → ℕ → ℕ → List ℕ → PlacesOutcome
places_outcome n r w b = record { number = n; reads = r; writes = w; buffer = b }

abbrev pub places_decoded : Decoded → State → List ℕ → PlacesOutcome
places_decoded (D.Refused k) s b = places_outcome (refusal k) 0 0 b
places_decoded (D.Insn i) s b = places_outcome (number E.Done) (length (reads_of i s)) (length (writes_of i s)) (sets b 0 (touches_of i s))

-- refused as by a wrong length: a buffer of fewer than 22 numbers, which is the most that an instruction touches
unfoldable pub places_of : (w side mask : ℕ) → State → List ℕ → PlacesOutcome
places_of w side mask s b =
    cond (sized_of s && leb 22 (length b)) (places_decoded (decode_of w side mask) s b) (places_outcome (number E.Lengths) 0 0 b)
