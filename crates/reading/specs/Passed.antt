-- Bytes that a text has at an index, and the index behind them.
use Rattle.std.specs.Prelude.{Bool, cond, List, ℕ, ◌+◌, length, take, drop}
use Rattle.text.specs.Pieces.{same}

-- whether the bytes stand in the text from index `at` on
unfoldable pub stands : List ℕ → ℕ → List ℕ → Bool
stands bytes at text = same (take (length bytes) (drop at text)) bytes

-- the index behind them where they stand there, and one behind the end of the text where they do not
unfoldable pub passed : List ℕ → ℕ → List ℕ → ℕ
passed bytes at text = cond (stands bytes at text) (at + length bytes) (length text + 1)
