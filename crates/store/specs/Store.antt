-- The raw view: a bank's own part of a store.
use Rattle.std.specs.Prelude.{ℕ, ◌*◌, cond, ◌&&◌, List, [], length, take, drop, eqb, ltb}

-- "given a bank from 0 to 15 and a store of 8,192 bytes, it hands back that bank's 512 bytes as a part of the lent store; otherwise an
-- empty part" (document 01, "Translation and the sixteen banks")
unfoldable pub bank_view : List ℕ → ℕ → List ℕ
bank_view ds b = cond (eqb (length ds) 8192 && ltb b 16) (take 512 (drop (b * 512) ds)) []
