-- The form of the marks: "one byte a piece". Read by `mark_at`, written by `patch_marks`; outside this crate nothing unfolds either.
use Rattle.std.specs.Prelude.{◌≡◌, Bool, List, ℕ, ◌≤◌, length, get_or, replicate}
use Rattle.list_laws.specs.Patch.{patch}

-- the mark of piece q; a place beyond the bytes is no open piece
unfoldable pub mark_at : List ℕ → ℕ → ℕ
mark_at marks q = get_or marks q 1

-- the marks in which that of piece q has become `new q` where `own q`
unfoldable pub patch_marks : (ℕ → Bool) → (ℕ → ℕ) → List ℕ → List ℕ
patch_marks own new marks = patch own new marks

-- how many marks the bytes have room for
abbrev pub places_in : List ℕ → ℕ
places_in marks = length marks

-- how many bytes hold the marks of so many pieces
abbrev pub bytes_for : ℕ → ℕ
bytes_for pieces = pieces

-- so many bytes, each 0
abbrev pub zeros : ℕ → List ℕ
zeros bytes = replicate bytes 0

-- a number that can stand as a mark: any
abbrev pub IsMark : ℕ → Type 0
IsMark x = Unit

-- no more pieces than 65,536 triplets of 4,096 band pairs have
abbrev pub FewPieces : ℕ → Type 0
FewPieces pieces = pieces ≤ 268435456

-- no more places
abbrev pub Few : List ℕ → Type 0
Few marks = FewPieces (places_in marks)

-- the bytes of the marks of so many pieces
abbrev pub Holds : ℕ → List ℕ → Type 0
Holds pieces marks = Few marks × (length marks ≡ bytes_for pieces)
