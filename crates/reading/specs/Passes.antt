-- What a reader passes over.
use Rattle.std.specs.Prelude.{List, ℕ, ◌+◌, ◌≡◌, Option, Some, None, length}
use Rattle.reading.specs.declared.kernel.Reader.{Reader}
use Rattle.reading.specs.Passed.{passed}

-- where a reader is, and one behind the end of its text where it found something else
abbrev pub reached : Reader → Option (Unit {0}) → ℕ
reached r (Some done) = r.at
reached r None = length r.text.now + 1

-- a reader is behind the bytes where they stand in its text; the answer is none where something else stands
pub record Passes (bytes : List ℕ) (old new : Reader) (result : Option (Unit {0})) : Type 0 where
  pub same-text : new.text ≡ old.text
  pub value : reached new result ≡ passed bytes old.at old.text.now
