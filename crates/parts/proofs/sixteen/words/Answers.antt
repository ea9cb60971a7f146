-- Word by word.
use Rattle.std.proofs.Common.{◌≡◌, ℕ, ◌/◌, ◌%◌, cond, List, [], ◌∷◌, get_or, refl, ◌∙◌, Bool, true, false}
use Rattle.std.specs.Int.{from_bool}
use Rattle.terms.specs.Answers.{number}
use Rattle.model.specs.Parts.{first_words}
use Rattle.parts.specs.Words.{worded}
use Rattle.parts.specs.declared.Run.{Run}
use Rattle.parts.proofs.sixteen.words.Goals as goal

-- a truth as a word
as_word : (t : Bool) → from_bool t ≡ cond t 1 0
as_word true = refl
as_word false = refl

listed : (r : Run) (b n : ℕ) (t : List ℕ) → b ≡ cond r.over 1 0 → n ≡ number r.end → t ≡ first_words 3 r.held
    → r.budget ∷ b ∷ n ∷ r.steps ∷ r.counts.accesses % 4294967296 ∷ r.counts.accesses / 4294967296 ∷ r.count ∷ get_or t 0 0 ∷ get_or t 1 0 ∷ get_or t 2 0
    ∷ r.counts.clipped % 4294967296 ∷ r.counts.clipped / 4294967296 ∷ 0 ∷ 0 ∷ 0 ∷ 0 ∷ []
    ≡ worded r
unfolding worded
listed r b n t e f g = rw (e, f, g) refl

pub returns : goal.returns
returns c = listed c.args.x c.from.result c.from-2.result c.triple-held.result (c.from.ensures ∙ as_word c.args.x.over) c.from-2.ensures c.triple-held.ensures
