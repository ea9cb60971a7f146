-- The numbers tell the answers apart.
use mathlib.Core.Path.{◌≡◌, refl, sym, ap, ◌∙◌}
use Prim.Native.Nat.{ℕ, zero, suc, ◌<◌}
use native.Mathlib.Omega.{arith}
use Rattle.terms.specs.Answers.{number, numbered}
use Rattle.terms.specs.declared.Refusal.{Refusal}
use Rattle.terms.specs.declared.Refusal.TheVariants as R
use Rattle.terms.specs.declared.End.{End}
use Rattle.terms.specs.declared.End.TheVariants as E

pub back : (e : End) → numbered (number e) ≡ e
back E.Done = refl
back (E.Refused R.Foreign) = refl
back (E.Refused R.Undocumented) = refl
back (E.Refused R.SideIndex) = refl
back (E.Refused R.SideMask) = refl
back E.Lengths = refl
back E.Ragged = refl
back E.Spent = refl
back E.Unnamed = refl
back E.Amiss = refl
back E.Unended = refl
back E.Short = refl

-- their numbers tell the ends apart
pub number_inj : (d e : End) → number d ≡ number e → d ≡ e
number_inj d e h = sym (back d) ∙ ap numbered h ∙ back e

-- and each of the twelve numbers has its answer
pub number_back : (n : ℕ) → n < 12 → number (numbered n) ≡ n
number_back zero h = refl
number_back (suc zero) h = refl
number_back (suc (suc zero)) h = refl
number_back (suc (suc (suc zero))) h = refl
number_back (suc (suc (suc (suc zero)))) h = refl
number_back (suc (suc (suc (suc (suc zero))))) h = refl
number_back (suc (suc (suc (suc (suc (suc zero)))))) h = refl
number_back (suc (suc (suc (suc (suc (suc (suc zero))))))) h = refl
number_back (suc (suc (suc (suc (suc (suc (suc (suc zero)))))))) h = refl
number_back (suc (suc (suc (suc (suc (suc (suc (suc (suc zero))))))))) h = refl
number_back (suc (suc (suc (suc (suc (suc (suc (suc (suc (suc zero)))))))))) h = refl
number_back (suc (suc (suc (suc (suc (suc (suc (suc (suc (suc (suc zero))))))))))) h = refl
number_back (suc (suc (suc (suc (suc (suc (suc (suc (suc (suc (suc (suc n)))))))))))) h = absurd (omega arith)

-- an end's refusal, or d
which : Refusal → End → Refusal
which d E.Done = d
which d (E.Refused k) = k
which d E.Lengths = d
which d E.Ragged = d
which d E.Spent = d
which d E.Unnamed = d
which d E.Amiss = d
which d E.Unended = d
which d E.Short = d

-- they tell the refusals apart
pub refused_inj : (j k : Refusal) → number (E.Refused j) ≡ number (E.Refused k) → j ≡ k
unfolding which
refused_inj j k e = ap (which j) (number_inj (E.Refused j) (E.Refused k) e)
