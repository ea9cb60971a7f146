-- The tests that every row of the table passes, and what follows for the line of a word: it is read back as the word's normal form.
use mathlib.Core.Path.{◌≡◌, refl, ap}
use mathlib.Core.Bool.{Bool, ◌&&◌}
use mathlib.Core.List.{List, ◌++◌}
use Prim.Native.Nat.{ℕ, ◌+◌, ◌*◌, ◌/◌, ◌^◌, ◌<◌}
use native.Mathlib.Nat.{mod-lt}
use native.Mathlib.Omega.{arith}
use lib.Dec.{T}
use lib.Seq.{drop-append_seam}
use Rattle.names.specs.Line.{Operand, texts_of, fields_of, ended}
use Rattle.names.specs.Table.{rows, row_at, name_at, operands_at, op_of, line_of, normal_of}
use Rattle.names.specs.Inner.Scan.{split, candidate}
use Rattle.names.proofs.Tests.{and_left, and_right, below}
use Rattle.names.proofs.Gather.{sound, gathered_back}
use Rattle.names.proofs.Split.{clean, feedless, split_name, split_ended, texts_plain}
use Rattle.names.proofs.Fields.{fines, disjoint, free, cut, Shows, shows, lifted, self, free_zero, same_texts, same_fields}

-- operands fit their fields, at most one flags register, no spaces in texts, fields apart from each other and from the opcode
abbrev pub proper : List Operand → Bool
proper os = (sound os && clean os) && ((fines os && disjoint os) && free 24 8 os)

row_test : (op : ℕ) → op < 256 → T (proper (operands_at op))
unfolding row_at rows
row_test = below (λ op. proper (operands_at op)) 256 tt

pub row_feedless : (op : ℕ) → op < 256 → T (feedless (name_at op))
unfolding row_at rows
row_feedless = below (λ op. feedless (name_at op)) 256 tt

pub op_small : (w : ℕ) → op_of w < 256
op_small w = mod-lt (w / 2 ^ 24) (omega arith)

module _ (op : ℕ) (h : op < 256) where
  abbrev os : List Operand
  os = operands_at op

  left : T (sound os && clean os)
  left = and_left (sound os && clean os) ((fines os && disjoint os) && free 24 8 os) (row_test op h)

  right : T ((fines os && disjoint os) && free 24 8 os)
  right = and_right (sound os && clean os) ((fines os && disjoint os) && free 24 8 os) (row_test op h)

  pub row_sound : T (sound os)
  row_sound = and_left (sound os) (clean os) left

  pub row_clean : T (clean os)
  row_clean = and_right (sound os) (clean os) left

  pub row_fines : T (fines os)
  row_fines = and_left (fines os) (disjoint os) (and_left (fines os && disjoint os) (free 24 8 os) right)

  pub row_disjoint : T (disjoint os)
  row_disjoint = and_right (fines os) (disjoint os) (and_left (fines os && disjoint os) (free 24 8 os) right)

  pub row_free : T (free 24 8 os)
  row_free = and_right (fines os && disjoint os) (free 24 8 os) right

module _ (w : ℕ) where
  abbrev ws : List Operand
  ws = operands_at (op_of w)

  -- the line read as one of its opcode is the normal form
  pub candidate_line : candidate (op_of w) (line_of w) ≡ normal_of w
  unfolding candidate line_of normal_of
  candidate_line =
      rw (
        split_name (name_at (op_of w)) (ended (texts_of ws w)) (texts_of ws w) (row_feedless (op_of w) (op_small w)) (split_ended (texts_of ws w) (texts_plain ws w (row_clean (op_of w) (op_small w)))),
        drop-append_seam (split (name_at (op_of w))).1 (texts_of ws w),
        gathered_back ws w (row_sound (op_of w) (op_small w)),
      )
      refl

  zero_op : cut 24 8 (fields_of ws w) ≡ 0
  zero_op = free_zero ws w (row_fines (op_of w) (op_small w)) (row_disjoint (op_of w) (op_small w)) 24 8 (row_free (op_of w) (op_small w))

  pub normal_op : op_of (normal_of w) ≡ op_of w
  unfolding normal_of
  normal_op = self 24 8 (op_of w) (fields_of ws w) (op_small w) zero_op

  pub normal_shows : Shows ws (normal_of w) w
  unfolding normal_of
  normal_shows =
      lifted ws 24 8 (op_of w) (fields_of ws w) w (op_small w) zero_op (row_free (op_of w) (op_small w))
      (shows ws w (row_fines (op_of w) (op_small w)) (row_disjoint (op_of w) (op_small w)))

  -- the normal form has the same line
  pub normal_line : line_of (normal_of w) ≡ line_of w
  unfolding line_of
  normal_line = rw normal_op (ap (λ (ts : List (List ℕ)). name_at (op_of w) ++ ended ts) (same_texts ws (normal_of w) w normal_shows))

  same_normal : (n : ℕ) → op_of n ≡ op_of w → Shows ws n w → normal_of n ≡ normal_of w
  unfolding normal_of
  same_normal n e s = rw e (ap (λ (x : ℕ). op_of w * 2 ^ 24 + x) (same_fields ws n w s))

  pub normal_normal : normal_of (normal_of w) ≡ normal_of w
  normal_normal = same_normal (normal_of w) normal_op normal_shows
