-- What a failed read comes to: a text that is longer than a study is refused with 1. Assumes nothing.
use mathlib.Core.Path.{◌≡◌}
use mathlib.Core.List.{List}
use Prim.Native.Nat.{ℕ, ◌<◌}
use borrow.Author.Tests.{lt-leb}
use lib.ListN.{length}
use Rattle.listing.specs.Listings.{refusal_of}
use Rattle.study.specs.Studies.{study_in}
use Rattle.answer.specs.Texts.{answer_of}

pub longer-refused : (text : List ℕ) → 16384 < length text → answer_of text ≡ refusal_of 1
unfolding answer_of study_in
longer-refused text h = rw (lt-leb (length text) 16384 h)
