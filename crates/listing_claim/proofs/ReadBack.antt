-- Request 5, both directions, over every record whose flags are 0 or 1. A NaN comes back as a NaN: there is one. Assumes nothing.
use Prim.Native.Nat.{ℕ}
use mathlib.Core.Path.{◌≡◌, refl, sym, ◌∙◌}
use mathlib.Core.Bool.{true, false}
use mathlib.Core.List.{List}
use native.Mathlib.Omega.{arith}
use lib.Ieee.{Float}
use lib.IntN.{ℤ}
use lib.ListN.{length}
use lib.Signed.{mag}
use borrow.Author.Tests.{eq-eqb}
use Rattle.list_laws.proofs.BoolLaws.{clash}
use Rattle.ask.specs.Ask.{first_no}
use Rattle.ask.proofs.AskLaws.{all_yes}
use Rattle.question_values.specs.TpTypes.{is_tp_type, channels_of}
use Rattle.sheet_counts.specs.declared.Counts.{Counts}
use Rattle.sheet_counts.specs.SheetCounts.{are_sheet_counts, cells_of, weight_count_of}
use Rattle.text.proofs.PieceLaws.{same-is}
use Rattle.listing_read.specs.Restored.{is_listing}
use Rattle.listing_read.specs.Reading.{listed_weights, listed_flags, is_listed, read_questions, read_no}
use Rattle.listing_claim.specs.Records.{IsRecordOf, printed}
use Rattle.listing_claim.proofs.RecordLaws.{flags-back, weights-back, accepted, is-record}

module _ (type : ℤ) (c : Counts) where
  module _ (weights : List Float) (flags : List ℤ) (r : IsRecordOf type c weights flags) (listing : List ℕ) (w : listing ≡ printed type c weights flags) where
    -- the weights and flags that the writer printed come back with every bit
    pub weights-come-back : listed_weights listing type c ≡ weights
    unfolding listed_weights printed
    weights-come-back = weights-back (mag c.num_band0) (mag c.num_band1) (mag c.num_band2) (channels_of type) (cells_of c) weights flags r listing w

    pub flags-come-back : listed_flags listing type c ≡ flags
    unfolding listed_flags printed
    flags-come-back = flags-back (mag c.num_band0) (mag c.num_band1) (mag c.num_band2) (channels_of type) (cells_of c) weights flags r listing w

    pub is-listed : is_listed listing type c ≡ true
    unfolding is_listed printed
    is-listed = accepted (mag c.num_band0) (mag c.num_band1) (mag c.num_band2) (channels_of type) (cells_of c) weights flags r listing w

    -- "What the writer printed comes back": the call with buffers of the record's lengths is accepted
    pub comes_back : is_tp_type type ≡ true → are_sheet_counts c ≡ true → read_no listing type c (length weights) (length flags) ≡ 0
    unfolding first_no
    comes_back t a = rw (t, a, eq-eqb (length weights) (weight_count_of type c) r.many-weights, eq-eqb (length flags) (cells_of c) r.many-flags, is-listed)

  -- "a listing accepted by the reader is exactly what the writer prints for the restored record"
  pub only-printed : (listing : List ℕ) → is_listed listing type c ≡ true → listing ≡ printed type c (listed_weights listing type c) (listed_flags listing type c)
  unfolding is_listed is_listing printed listed_weights listed_flags
  only-printed listing e = same-is listing _ e

  -- and what is restored is a record, its flags 0 or 1
  pub restored-record : (listing : List ℕ) → IsRecordOf type c (listed_weights listing type c) (listed_flags listing type c)
  unfolding listed_weights listed_flags
  restored-record listing = is-record (mag c.num_band0) (mag c.num_band1) (mag c.num_band2) (channels_of type) (cells_of c) listing

  -- the same of a call that is accepted
  pub accepted-printed : (listing : List ℕ) (n m : ℕ) → read_no listing type c n m ≡ 0 → listing ≡ printed type c (listed_weights listing type c) (listed_flags listing type c)
  accepted-printed listing n m e =
      only-printed listing (all_yes (read_questions listing type c n m) (omega arith, (omega arith, (omega arith, (omega arith, tt)))) e).1.1.1.0

  -- two records with one listing are equal
  pub one-record : (w w' : List Float) (f f' : List ℤ) → IsRecordOf type c w f → IsRecordOf type c w' f' → printed type c w f ≡ printed type c w' f' → (w ≡ w') × (f ≡ f')
  one-record w w' f f' r r' e = (
    sym (weights-come-back w f r (printed type c w f) refl) ∙ weights-come-back w' f' r' (printed type c w f) e,
    sym (flags-come-back w f r (printed type c w f) refl) ∙ flags-come-back w' f' r' (printed type c w f) e,
  )

  -- a listing that question 22 refuses is no record's
  pub no_record : (listing : List ℕ) → is_listed listing type c ≡ false → (w : List Float) (f : List ℤ) → IsRecordOf type c w f → listing ≡ printed type c w f → ⊥
  no_record listing n w f r e = clash (sym n ∙ is-listed w f r listing e)
