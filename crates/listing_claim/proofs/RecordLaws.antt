-- What the writer printed, found again: each flag and each weight where the reader looks for it. Assumes nothing.
use Prim.Native.Nat.{ℕ, zero, suc, ◌+◌, ◌*◌, ◌/◌, ◌%◌, ◌<◌}
use mathlib.Core.Path.{◌≡◌, refl, sym, ap, ◌∙◌}
use mathlib.Core.Bool.{Bool, true, false, cond}
use mathlib.Core.List.{List, [], ◌∷◌, ◌++◌}
use mathlib.Core.Logic.{◌⊎◌, inl, inr}
use native.Mathlib.Nat.{div-add-mod', mod-lt, div-lt_iff_lt-mul}
use native.Mathlib.Omega.{arith}
use lib.Dec.{eqb}
use lib.Ieee.{Float, nan, binary64, fits, to_bits}
use lib.Ieee.Bits.{of_bits-to_bits, to_bits-lt, of_bits-fits}
use lib.IntN.{ℤ, pos}
use lib.ListN.{length, get_or, take, drop, length-append}
use lib.Seq.{ext_get_or}
use Rattle.list_laws.specs.Lists.{at, rows}
use Rattle.list_laws.specs.Signed.{eq_z}
use Rattle.list_laws.specs.Columns.{BeforeColumn}
use Rattle.list_laws.proofs.ColumnLaws.{columns-all}
use Rattle.list_laws.proofs.MatrixLaws.{replaced-same}
use Rattle.list_laws.proofs.ProductLaws.{digit_lt}
use Rattle.text.specs.Fields.{bits}
use Rattle.std.specs.declared.option.Option.{Option}
use Rattle.std.specs.declared.option.Option.TheVariants.{None, Some}
use Rattle.text.proofs.PieceLaws.{same-yes}
use Rattle.listing.specs.Listings.{header, number, weight_end, weight_text, weight_of, weights_of, flag_at, line_of, lines_of, listing_of}
use Rattle.reading.proofs.PassedLaws.{Stand, stand-first, stand-second, stand-byte}
use Rattle.reading.proofs.RowLaws.{piece-stands, rows-stand}
use Rattle.listing_line.specs.Lines.{numbers_of, flag_here, float_of, weight_here}
use Rattle.listing_line.proofs.LineLaws.{number-zero, number-one, two-bytes, flag-zero, flag_one, spelled-read}
use Rattle.listing_read.specs.Restored.{place_of, line_start, flag_place, weight_place, flags_in, weights_in, is_listing}
use Rattle.listing_read.proofs.RestoredLaws.{line-is, weights-seventeen, start_is, flags-length, weights-length, flag-in, weight-in}
use Rattle.listing_claim.specs.Records.{IsFlag, IsDouble, IsRecord}

written-zero : (flags : List ℤ) (e : ℕ) → at flags e ≡ pos 0 → flag_at flags e ≡ 0
unfolding flag_at
written-zero flags e z = rw z

written_one : (flags : List ℤ) (e : ℕ) → at flags e ≡ pos 1 → flag_at flags e ≡ 1
unfolding flag_at
written_one flags e z = rw z

-- a flag's number, read from its digit
digit-flag : (text : List ℕ) (at flag : ℕ) → (flag ≡ 0) ⊎ (flag ≡ 1) → Stand (number flag 9) at text → flag_here text at ≡ flag
digit-flag text at flag (inl e) s = flag-zero text at (stand-byte 48 (9 ∷ []) at text (rw (e, number-zero) at s)) ∙ sym e
digit-flag text at flag (inr e) s =
    flag_one text at (λ z. let b : get_or text at 0 ≡ 49 = stand-byte 49 (9 ∷ []) at text (rw (e, number-one) at s) in omega (arith, b, z)) ∙ sym e

-- a weight, read from its digits
digits-weight : (text : List ℕ) (at end : ℕ) (x : Float) → IsDouble x → Stand (weight_text x end) at text → weight_here text at ≡ x
unfolding weight_here
digits-weight text at end x h s =
    ap float_of (spelled-read (to_bits binary64 x) end at text (to_bits-lt binary64 x h) s) ∙ of_bits-to_bits binary64 x h

module _ (points bands1 bands2 channels cells : ℕ) (weights : List Float) (flags : List ℤ) (r : IsRecord channels cells weights flags)
    (text : List ℕ) (w : text ≡ listing_of points bands1 bands2 channels weights flags) where
  abbrev lines : ℕ → List ℕ
  lines = line_of points bands1 bands2 channels weights flags

  listed : text ≡ header ++ rows cells lines
  unfolding listing_of lines_of
  listed = w ∙ ap (λ (n : ℕ). header ++ rows n lines) r.many-flags

  -- what stands behind the numbers of an entry
  flag-stands : (e : ℕ) → e < cells → Stand (number (flag_at flags e) 9) (flag_place points bands1 bands2 channels e) text
  flag-stands e l =
      let n : List ℕ = numbers_of (place_of points bands1 bands2 e) in
      let s : Stand (lines e) (line_start points bands1 bands2 channels e) text = piece-stands header lines cells e (line_start points bands1 bands2 channels e) text listed l (sym (start_is points bands1 bands2 channels weights flags e)) in
      stand-second n (number (flag_at flags e) 9) (line_start points bands1 bands2 channels e) text
      (stand-first (n ++ number (flag_at flags e) 9) (weights_of weights (length flags) e channels) (line_start points bands1 bands2 channels e) text (rw (line-is points bands1 bands2 channels weights flags e) at s))

  weights-stand : (e : ℕ) → e < cells → Stand (weights_of weights (length flags) e channels) (flag_place points bands1 bands2 channels e + 2) text
  unfolding flag_at
  weights-stand e l =
      let n : List ℕ = numbers_of (place_of points bands1 bands2 e) in
      let s : Stand (lines e) (line_start points bands1 bands2 channels e) text = piece-stands header lines cells e (line_start points bands1 bands2 channels e) text listed l (sym (start_is points bands1 bands2 channels weights flags e)) in
      let q : line_start points bands1 bands2 channels e + length (n ++ number (flag_at flags e) 9) ≡ flag_place points bands1 bands2 channels e + 2 = omega (arith, length-append n (number (flag_at flags e) 9), two-bytes (eq_z (at flags e) (pos 0))) in
      rw q at
      (stand-second (n ++ number (flag_at flags e) 9) (weights_of weights (length flags) e channels) (line_start points bands1 bands2 channels e) text (rw (line-is points bands1 bands2 channels weights flags e) at s))

  weight-stands : (c e : ℕ) → c < channels → e < cells → Stand (weight_text (get_or weights (c * cells + e) nan) (weight_end channels c)) (weight_place points bands1 bands2 channels c e) text
  unfolding weights_of weight_of
  weight-stands c e h l =
      let q : flag_place points bands1 bands2 channels e + 2 + length (rows c (weight_of weights (length flags) e channels)) ≡ weight_place points bands1 bands2 channels c e = omega (arith, weights-seventeen points bands1 bands2 channels weights (length flags) e c) in
      rw (q, r.many-flags) at (rows-stand (weight_of weights (length flags) e channels) channels c (flag_place points bands1 bands2 channels e + 2) text (weights-stand e l) h)

  -- ---- the record comes back

  flag-back : (e : ℕ) → e < cells → pos (flag_here text (flag_place points bands1 bands2 channels e)) ≡ at flags e
  flag-back e l = go (r.each-flag e l)
    where
      go : IsFlag (at flags e) → pos (flag_here text (flag_place points bands1 bands2 channels e)) ≡ at flags e
      go (inl z) = ap pos (digit-flag text (flag_place points bands1 bands2 channels e) 0 (inl refl) (rw (written-zero flags e z) at (flag-stands e l))) ∙ sym z
      go (inr z) = ap pos (digit-flag text (flag_place points bands1 bands2 channels e) 1 (inr refl) (rw (written_one flags e z) at (flag-stands e l))) ∙ sym z

  pub flags-back : flags_in points bands1 bands2 channels cells text ≡ flags
  flags-back =
      ext_get_or (pos 0) (flags_in points bands1 bands2 channels cells text) flags (flags-length points bands1 bands2 channels cells text ∙ sym r.many-flags)
      (λ e l. let h : e < cells = omega (arith, l, flags-length points bands1 bands2 channels cells text) in flag-in points bands1 bands2 channels cells text e h ∙ flag-back e h)

  pub weights-back : weights_in points bands1 bands2 channels cells text ≡ weights
  unfolding weights_in
  weights-back =
      sym (columns-all nan channels cells (λ c e. weight_here text (weight_place points bands1 bands2 channels c e)) weights weights r.many-weights
      (replaced-same {D = BeforeColumn channels cells} (λ c e h. sym (
      digits-weight text (weight_place points bands1 bands2 channels c e) (weight_end channels c) (get_or weights (c * cells + e) nan)
      (r.each-weight (c * cells + e) (digit_lt c channels e cells h.0 h.1))
      (weight-stands c e h.0 h.1)))))

  pub accepted : is_listing points bands1 bands2 channels cells text ≡ true
  unfolding is_listing
  accepted = rw (weights-back, flags-back) (same-yes text (listing_of points bands1 bands2 channels weights flags) w)

-- ---- and what stands in a text is a record

flag_is : (text : List ℕ) (at : ℕ) → IsFlag (pos (flag_here text at))
unfolding flag_here
flag_is text at = go (eqb (get_or text at 0) 48)
  where
    go : (t : Bool) → IsFlag (pos (cond t 0 1))
    go true = inl refl
    go false = inr refl

double-of : (m : Option ℕ) → IsDouble (float_of m)
unfolding fits
double-of (Some n) = of_bits-fits binary64 n
double-of None = tt

weight-double : (text : List ℕ) (at : ℕ) → IsDouble (weight_here text at)
unfolding weight_here
weight-double text at = double-of (bits (take 16 (drop at text)))

module _ (points bands1 bands2 channels cells : ℕ) (text : List ℕ) where
  each-double : (i : ℕ) → i < channels * cells → IsDouble (get_or (weights_in points bands1 bands2 channels cells text) i nan)
  each-double i l =
      let some : 0 < cells = positive cells l in
      let row : i / cells < channels = (div-lt_iff_lt-mul {k = cells} {x = i} {y = channels} some).1 l in
      let q : get_or (weights_in points bands1 bands2 channels cells text) i nan ≡ weight_here text (weight_place points bands1 bands2 channels (i / cells) (i % cells)) =
      ap (λ (k : ℕ). get_or (weights_in points bands1 bands2 channels cells text) k nan) (sym (div-add-mod' i cells))
      ∙ weight-in points bands1 bands2 channels cells text (i / cells) (i % cells) row (mod-lt i some) in
      rw q (weight-double text (weight_place points bands1 bands2 channels (i / cells) (i % cells)))
    where
      positive : (n : ℕ) → i < channels * n → 0 < n
      positive zero h = absurd (omega arith)
      positive (suc n) h = omega arith

  pub is-record : IsRecord channels cells (weights_in points bands1 bands2 channels cells text) (flags_in points bands1 bands2 channels cells text)
  is-record =
      record {
        many-flags = flags-length points bands1 bands2 channels cells text;
        many-weights = weights-length points bands1 bands2 channels cells text;
        each-flag = λ e l. rw (flag-in points bands1 bands2 channels cells text e l) (flag_is text (flag_place points bands1 bands2 channels e));
        each-weight = each-double;
      }
