-- A buffer after bytes were written into it.
use Rattle.std.specs.Prelude.{List, ◌++◌, ℕ, ◌+◌, ◌≤◌, ◌≡◌, length, take, drop}
use Rattle.writing.specs.declared.kernel.Writer.{Writer}

-- old with the bytes in it from index `at` on, and every other byte as it was
unfoldable pub written : ℕ → List ℕ → List ℕ → List ℕ
written at bytes old = take at old ++ bytes ++ drop (at + length bytes) old

-- a writer's buffer has room for the bytes
abbrev pub HasRoom : List ℕ → Writer → Type 0
HasRoom bytes w = w.len + length bytes ≤ length w.buffer.now

-- the bytes were written behind what was there, in the same buffer
pub record Wrote (bytes : List ℕ) (old new : Writer) : Type 0 where
  pub same-buffer : new.buffer.ghost_name ≡ old.buffer.ghost_name
  pub ends : new.len ≡ old.len + length bytes
  pub content : new.buffer.now ≡ written old.len bytes old.buffer.now
