-- The bytes that answer a study.
use Rattle.std.specs.Prelude.{◌≡◌, List, ℕ, zero, suc, ◌≤◌, length}
use Rattle.ask.specs.Ask.{first_no}
use Rattle.triplet_study.specs.declared.Sizes.{Sizes}
use Rattle.triplet_study.specs.Study.{Study, sizes_of}
use Rattle.triplet_study.specs.Tested.{Ready}
use Rattle.ask.specs.Lent.{LentMut}
use Rattle.triplet_iw.specs.Whole.{all_weights, all_flags}
use Rattle.listing.specs.Listings.{listing_of, refusal_of}
use Rattle.writing.specs.Written.{written}
use Rattle.answer_weights.specs.Asked.{questions_of}

-- the listing of all weights of a study
unfoldable pub listing_for : Study → List ℕ
listing_for s = listing_of (sizes_of s).points (sizes_of s).bands1 (sizes_of s).bands2 (sizes_of s).channels (all_weights s) (all_flags s)

-- "A refusal prints one line alone", by the number of the first no; 0 is the listing
abbrev pub answer_by : ℕ → List ℕ → List ℕ
answer_by zero listing = listing
answer_by (suc n) listing = refusal_of (suc n)

-- the answer to a well formed text
unfoldable pub answer_to : Study → List ℕ
answer_to s = answer_by (first_no (questions_of s)) (listing_for s)

-- a tested study, with counts and buffers that fit it, whose listing fits the output
abbrev pub Listable : Study → Sizes → ℕ → ℕ → Type 0
Listable s z weights flags = Ready s z weights flags × (length (listing_for s) ≤ 118617)

-- bytes written at the start of a buffer, and their count given
abbrev pub Wrote : List ℕ → LentMut ℕ → ℕ → Type 0
Wrote bytes out count = (count ≡ length bytes) × (out.exit.now ≡ written 0 bytes out.entry.now)
