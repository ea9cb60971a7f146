-- A decision over the opcode, an arm for each: what an arm hands back is right at its opcode, and what the default does at every other one.
use mathlib.Core.Path.{◌≡◌, sym, ap, ◌∙◌}
use mathlib.Core.Bool.{◌||◌}
use mathlib.Core.List.{List}
use Prim.Native.Nat.{ℕ, ◌<◌}
use lib.Dec.{T, eqb, eqb→eq}
use Rattle.words.proofs.Law.{Rest, keyed, unkeyed, or_right}
use Rattle.names.proofs.Tests.{all, below}

module _ (code : ℕ → ℕ) where
  pub code_arm : {v k : ℕ} (op : ℕ) → op ≡ k → T (eqb v (code k)) → v ≡ code op
  code_arm {v} {k} op e t = eqb→eq v (code k) t ∙ ap code (sym e)

  pub code_other : {v : ℕ} (op : ℕ) (kss : List (List ℕ)) → T (all (λ op. keyed op kss || eqb v (code op)) 256) → op < 256 → Rest op kss → v ≡ code op
  code_other {v} op kss t h r =
      eqb→eq v (code op) (or_right (keyed op kss) (eqb v (code op)) (unkeyed op kss r) (below (λ op. keyed op kss || eqb v (code op)) 256 t op h))
