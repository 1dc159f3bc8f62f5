-- The line of an entry, where it begins and what stands in it; a text judged line by line. Assumes nothing.
use Prim.Native.Nat.{ℕ, ◌+◌, ◌*◌, ◌/◌, ◌%◌, ◌≤◌, ◌<◌}
use mathlib.Core.Path.{◌≡◌, refl, sym, ap, ◌∙◌}
use mathlib.Core.Bool.{Bool, true, false, cond}
use mathlib.Core.List.{List, [], ◌++◌, append-nil}
use mathlib.Core.Logic.{◌⊎◌, inl, inr}
use native.Mathlib.Nat.{div-eq_of_lt, div-le_self, mod-eq_of_lt, mod-lt}
use native.Mathlib.Omega.{arith}
use lib.Dec.{eqb}
use lib.Ieee.{Float, nan}
use lib.IntN.{ℤ, pos}
use lib.ListN.{length, get_or, length-append}
use borrow.Author.Tests.{ne_eqb, eqb-true, eqb-false, lt-ltb, le-ltb}
use Rattle.list_laws.specs.Lists.{at, tabulate, rows}
use Rattle.list_laws.specs.Signed.{eq_z}
use Rattle.list_laws.proofs.BoolLaws.{clash, lt-or-le}
use Rattle.list_laws.proofs.ColumnLaws.{rows-entry}
use Rattle.list_laws.proofs.FillLaws.{length-tabulate, length-rows, tabulate-at}
use Rattle.list_laws.proofs.NextLaws.{mod-up, div-kept, mod-back, div-up}
use Rattle.text.specs.Pieces.{same}
use Rattle.text.proofs.PieceLaws.{same-yes, same-is, same-no}
use Rattle.listing.specs.Listings.{header, number, front_of, weight_end, weight_text, weight_of, weights_of, flag_at, line_of, lines_of, listing_of}
use Rattle.reading.specs.Passed.{passed}
use Rattle.reading.proofs.PassedLaws.{Stand, passed-yes, stand-first, stand-room, whole_is, whole-passed}
use Rattle.std.specs.Prelude.{Option, Some, None}
use Rattle.std.specs.Option.{is_some}
use Rattle.reading.specs.Passes.{Passes, reached}
use Rattle.reading.specs.declared.kernel.Reader.{Reader}
use Rattle.reading.proofs.ReaderLaws.{passes-as, pieces-lost, pieces-next}
use Rattle.reading.proofs.RowLaws.{rows_ext, rows_long, one_more_lem, front-stands, piece-stands}
use Rattle.sheet_counts.proofs.SheetCountLaws.{counts-low, all-cells-le, weights-le, both-yes}
use Rattle.listing_line.specs.Lines.{numbers_of, flag_here, weight_here, weights_here, line_here}
use Rattle.listing_line.proofs.LineLaws.{two-bytes, weight-length}
use lib.Signed.{mag}
use Rattle.question_values.specs.TpTypes.{channels_of}
use Rattle.triplet_types.specs.Types.{tp_type_of}
use Rattle.triplet_types.proofs.TypeLaws.{channels-of-type}
use Rattle.sheet_counts.specs.declared.Counts.{Counts}
use Rattle.listing_read.specs.Forms.{form_of}
use Rattle.listing_read.specs.Restored.{place_of, next_place, line_start, flag_place, weight_place, flags_in, weights_in, is_listing, listing_in}

-- ---- the form

-- the counts of the type that a number names, and of the counts of a call
pub form-is : (type : ℤ) (c : Counts) → form_of (tp_type_of type) c ≡ record { points = mag c.num_band0; bands1 = mag c.num_band1; bands2 = mag c.num_band2; channels = channels_of type }
form-is type c = rw (channels-of-type type) refl

-- ---- the place after a place

module _ (points bands1 bands2 : ℕ) (h₀ : 0 < points) (h₁ : 0 < bands1) (h₂ : 0 < bands2) where
  pub first-place : record { triplet = 0; point = 0; b1 = 0; b2 = 0 } ≡ place_of points bands1 bands2 0
  unfolding place_of
  first-place =
      let z : (n : ℕ) → 0 < n → (0 / n ≡ 0) × (0 % n ≡ 0) = λ n h. (div-eq_of_lt h, mod-eq_of_lt h) in
      rw ((z bands2 h₂).0, (z bands2 h₂).1, (z bands1 h₁).0, (z bands1 h₁).1, (z points h₀).0, (z points h₀).1)

  pub place-low : (e : ℕ) → (place_of points bands1 bands2 e).triplet ≤ e
  unfolding place_of
  place-low e = omega (arith, div-le_self (e / bands2 / bands1) points, div-le_self (e / bands2) bands1, div-le_self e bands2)

  pub place-bounds : (e : ℕ) → let p = place_of points bands1 bands2 e in (p.point < points) × (p.b1 < bands1) × (p.b2 < bands2)
  unfolding place_of
  place-bounds e = (mod-lt (e / bands2 / bands1) h₀, mod-lt (e / bands2) h₁, mod-lt e h₂)

  pub next_place_lem : (e : ℕ) → next_place points bands1 bands2 (place_of points bands1 bands2 e) ≡ place_of points bands1 bands2 (e + 1)
  unfolding place_of next_place
  next_place_lem e = go (lt-or-le (e % bands2 + 1) bands2) (lt-or-le (e / bands2 % bands1 + 1) bands1) (lt-or-le (e / bands2 / bands1 % points + 1) points)
    where
      f : ℕ
      f = e / bands2

      g : ℕ
      g = e / bands2 / bands1

      go : (e % bands2 + 1 < bands2) ⊎ (bands2 ≤ e % bands2 + 1) → (f % bands1 + 1 < bands1) ⊎ (bands1 ≤ f % bands1 + 1) → (g % points + 1 < points) ⊎ (points ≤ g % points + 1)
          → next_place points bands1 bands2 (place_of points bands1 bands2 e) ≡ place_of points bands1 bands2 (e + 1)
      go (inl a) b c = rw (lt-ltb (e % bands2 + 1) bands2 a, mod-up e bands2 h₂ a, div-kept e bands2 h₂ a)
      go (inr a) (inl b) c =
          rw (le-ltb (e % bands2 + 1) bands2 a, lt-ltb (f % bands1 + 1) bands1 b, mod-back e bands2 h₂ a, div-up e bands2 h₂ a, mod-up f bands1 h₁ b, div-kept f bands1 h₁ b)
      go (inr a) (inr b) (inl c) =
          rw (le-ltb (e % bands2 + 1) bands2 a, le-ltb (f % bands1 + 1) bands1 b, lt-ltb (g % points + 1) points c, mod-back e bands2 h₂ a, div-up e bands2 h₂ a, mod-back f bands1 h₁ b, div-up f bands1 h₁ b, mod-up g points h₀ c, div-kept g points h₀ c)
      go (inr a) (inr b) (inr c) =
          rw (le-ltb (e % bands2 + 1) bands2 a, le-ltb (f % bands1 + 1) bands1 b, le-ltb (g % points + 1) points c, mod-back e bands2 h₂ a, div-up e bands2 h₂ a, mod-back f bands1 h₁ b, div-up f bands1 h₁ b, mod-back g points h₀ c, div-up g points h₀ c)

-- ---- the line of an entry

module _ (points bands1 bands2 channels : ℕ) where
  abbrev numbers : ℕ → List ℕ
  numbers e = numbers_of (place_of points bands1 bands2 e)

  -- a line is four numbers, a flag and weights
  pub line-is : (weights : List Float) (flags : List ℤ) (e : ℕ) → line_of points bands1 bands2 channels weights flags e ≡ numbers_of (place_of points bands1 bands2 e) ++ number (flag_at flags e) 9 ++ weights_of weights (length flags) e channels
  unfolding line_of front_of numbers_of place_of
  line-is weights flags e = refl

  pub weights-seventeen : (weights : List Float) (total e n : ℕ) → length (rows n (weight_of weights total e channels)) ≡ n * 17
  unfolding weight_of
  weights-seventeen weights total e n = length-rows n 17 (weight_of weights total e channels) (λ c l. weight-length (get_or weights (c * total + e) nan) (weight_end channels c))

  pub line-width : (weights : List Float) (flags : List ℤ) (e : ℕ) → length (line_of points bands1 bands2 channels weights flags e) ≡ length (numbers_of (place_of points bands1 bands2 e)) + 2 + 17 * channels
  unfolding weights_of flag_at
  line-width weights flags e =
      ap length (line-is weights flags e)
      ∙ omega (
        arith,
        length-append (numbers e ++ number (flag_at flags e) 9) (weights_of weights (length flags) e channels),
        length-append (numbers e) (number (flag_at flags e) 9),
        two-bytes (eq_z (at flags e) (pos 0)),
        weights-seventeen weights (length flags) e channels,
      )

  -- where a line begins does not depend on the record
  pub start_is : (weights : List Float) (flags : List ℤ) (e : ℕ) → length (header ++ rows e (line_of points bands1 bands2 channels weights flags)) ≡ line_start points bands1 bands2 channels e
  unfolding line_start
  start_is weights flags e =
      omega (
        arith,
        length-append header (rows e (line_of points bands1 bands2 channels weights flags)),
        length-append header (rows e (line_of points bands1 bands2 channels [] [])),
        rows_long e (line_of points bands1 bands2 channels weights flags) (line_of points bands1 bands2 channels [] []) (λ i. line-width weights flags i ∙ sym (line-width [] [] i)),
      )

  pub start_first : line_start points bands1 bands2 channels 0 ≡ 27
  unfolding line_start rows header
  start_first = refl

  pub start-next : (e : ℕ) → line_start points bands1 bands2 channels (e + 1) ≡ flag_place points bands1 bands2 channels e + 2 + 17 * channels
  unfolding line_start
  start-next e =
      ap length (one_more_lem header (line_of points bands1 bands2 channels [] []) e)
      ∙ omega (arith, length-append (header ++ rows e (line_of points bands1 bands2 channels [] [])) (line_of points bands1 bands2 channels [] [] e), line-width [] [] e)

  -- ---- the record that stands in a text

  module _ (cells : ℕ) (text : List ℕ) where
    pub flags-length : length (flags_in points bands1 bands2 channels cells text) ≡ cells
    unfolding flags_in
    flags-length = length-tabulate cells (λ e. pos (flag_here text (flag_place points bands1 bands2 channels e)))

    pub weights-length : length (weights_in points bands1 bands2 channels cells text) ≡ channels * cells
    unfolding weights_in
    weights-length = length-rows channels cells (λ c. tabulate cells (λ e. weight_here text (weight_place points bands1 bands2 channels c e))) (λ c l. length-tabulate cells (λ e. weight_here text (weight_place points bands1 bands2 channels c e)))

    pub weight-in : (c e : ℕ) → c < channels → e < cells → get_or (weights_in points bands1 bands2 channels cells text) (c * cells + e) nan ≡ weight_here text (weight_place points bands1 bands2 channels c e)
    unfolding weights_in
    weight-in c e h l = rows-entry nan channels cells (λ c e. weight_here text (weight_place points bands1 bands2 channels c e)) c e h l

    pub flag-in : (e : ℕ) → e < cells → at (flags_in points bands1 bands2 channels cells text) e ≡ pos (flag_here text (flag_place points bands1 bands2 channels e))
    unfolding flags_in
    flag-in e l = tabulate-at cells (λ e. pos (flag_here text (flag_place points bands1 bands2 channels e))) (pos 0) e l

    flag-as : (e : ℕ) → e < cells → flag_at (flags_in points bands1 bands2 channels cells text) e ≡ flag_here text (flag_place points bands1 bands2 channels e)
    unfolding flag_at flag_here
    flag-as e l = rw (flag-in e l) (go (eqb (get_or text (flag_place points bands1 bands2 channels e) 0) 48))
      where
        go : (t : Bool) → ◌≡◌ {A = ℕ} (cond (eq_z (pos (cond t 0 1)) (pos 0)) 0 1) (cond t 0 1)
        go true = refl
        go false = refl

    -- the line that stands in the text is the writer's line of that record
    pub line-here : (e : ℕ) → e < cells → line_here (place_of points bands1 bands2 e) channels text (line_start points bands1 bands2 channels e)
        ≡ line_of points bands1 bands2 channels (weights_in points bands1 bands2 channels cells text) (flags_in points bands1 bands2 channels cells text) e
    unfolding line_here weights_here weights_of weight_of
    line-here e l =
        let w : List Float = weights_in points bands1 bands2 channels cells text in
        let f : List ℤ = flags_in points bands1 bands2 channels cells text in
        let r : rows channels (λ c. weight_text (weight_here text (weight_place points bands1 bands2 channels c e)) (weight_end channels c)) ≡ rows channels (weight_of w (length f) e channels) =
        rows_ext channels (λ c. weight_text (weight_here text (weight_place points bands1 bands2 channels c e)) (weight_end channels c)) (weight_of w (length f) e channels)
        (λ c h. ap (λ (x : Float). weight_text x (weight_end channels c)) (sym (ap (λ (n : ℕ). get_or w (c * n + e) nan) flags-length ∙ weight-in c e h l))) in
        sym (line-is w f e ∙ cc (flag-as e l, r))

    -- ---- judged line by line

    -- the writer's lines of that record
    abbrev pub lines_in : ℕ → List ℕ
    lines_in = line_of points bands1 bands2 channels (weights_in points bands1 bands2 channels cells text) (flags_in points bands1 bands2 channels cells text)

    pub listed-is : listing_of points bands1 bands2 channels (weights_in points bands1 bands2 channels cells text) (flags_in points bands1 bands2 channels cells text) ≡ header ++ rows cells lines_in
    unfolding listing_of lines_of
    listed-is = ap (λ (n : ℕ). header ++ rows n lines_in) flags-length

    -- a reader at the front passes over the header, then line after line
    module _ {u v : Reader} (z : u.at ≡ 0) (t : u.text.now ≡ text) where
      pub judged-first : {r : Option (Unit {0})} → Passes header u v r → Passes (header ++ rows 0 lines_in) u v r
      unfolding rows
      judged-first p = passes-as (sym (append-nil header)) p

      pub judged-next : (e : ℕ) {w : Reader} {r : Option (Unit {0})} → e < cells → Passes (header ++ rows e lines_in) u v (Some (tt {0}))
          → Passes (line_here (place_of points bands1 bands2 e) channels v.text.now v.at) v w r → Passes (header ++ rows (e + 1) lines_in) u w r
      judged-next e l p q =
          let at : u.at + length (header ++ rows e lines_in) ≡ line_start points bands1 bands2 channels e = omega (arith, z, start_is (weights_in points bands1 bands2 channels cells text) (flags_in points bands1 bands2 channels cells text) e) in
          pieces-next header lines_in (line_here (place_of points bands1 bands2 e) channels) e (rw (t, at) (line-here e l)) p q

      pub judged-lost : (e : ℕ) → e ≤ cells → Passes (header ++ rows e lines_in) u v None → Passes (header ++ rows cells lines_in) u v None
      judged-lost e h p = pieces-lost header lines_in e cells h p

    pub judged-all : (p : ℕ) → p ≡ passed (header ++ rows cells lines_in) 0 text → eqb p (length text) ≡ is_listing points bands1 bands2 channels cells text
    unfolding is_listing
    judged-all p e = go (eqb p (length text)) refl
      where
        go : (t : Bool) → eqb p (length text) ≡ t → t ≡ same text (listing_of points bands1 bands2 channels (weights_in points bands1 bands2 channels cells text) (flags_in points bands1 bands2 channels cells text))
        go true f = sym (same-yes text _ (whole_is (header ++ rows cells lines_in) text (sym e ∙ eqb-true p (length text) f) ∙ sym listed-is))
        go false f = sym (same-no text _ (λ s. eqb-false p (length text) f (e ∙ whole-passed (header ++ rows cells lines_in) text (s ∙ listed-is))))

    -- a text is the listing where a reader that begins at its front passes over that, and is then at the end
    module _ {u v : Reader} (z : u.at ≡ 0) (t : u.text.now ≡ text) where
      judged : (r : Option (Unit {0})) → Passes (listing_in points bands1 bands2 channels cells u.text.now) u v r → eqb (reached v r) (length text) ≡ is_listing points bands1 bands2 channels cells text
      judged r p = judged-all (reached v r) (rw (t, z, listed-is) at p.value)

      pub judged-some : (r : Option (Unit {0})) → is_some r ≡ true → Passes (listing_in points bands1 bands2 channels cells u.text.now) u v r → eqb v.at (length text) ≡ is_listing points bands1 bands2 channels cells text
      judged-some (Some done) y p = judged (Some done) p
      judged-some None y p = absurd (clash y)

      pub judged-none : (r : Option (Unit {0})) → is_some r ≡ false → Passes (listing_in points bands1 bands2 channels cells u.text.now) u v r → false ≡ is_listing points bands1 bands2 channels cells text
      judged-none (Some done) y p = absurd (clash (sym y))
      judged-none None y p =
          let e : v.text.now ≡ text = ap (λ (b : _). b.now) p.same-text ∙ t in
          sym (ne_eqb (length v.text.now + 1) (length text) (λ q. omega (arith, q, ap length e))) ∙ judged None p

    -- ---- an accepted text

    module _ (yes : is_listing points bands1 bands2 channels cells text ≡ true) where
      pub accepted-is : text ≡ header ++ rows cells lines_in
      unfolding is_listing
      accepted-is = same-is text _ yes ∙ listed-is

      -- the header is there
      pub header-room : 27 ≤ length text
      unfolding header
      header-room = omega (arith, ap length accepted-is, length-append header (rows cells lines_in))

      -- the numbers of an entry stand where its line begins, and there is room for the line
      pub numbers-passed : (e : ℕ) → e < cells → passed (numbers_of (place_of points bands1 bands2 e)) (line_start points bands1 bands2 channels e) text ≡ flag_place points bands1 bands2 channels e
      numbers-passed e l =
          let w : List Float = weights_in points bands1 bands2 channels cells text in
          let f : List ℤ = flags_in points bands1 bands2 channels cells text in
          let s : Stand (lines_in e) (line_start points bands1 bands2 channels e) text = piece-stands header lines_in cells e (line_start points bands1 bands2 channels e) text accepted-is l (sym (start_is w f e)) in
          let t : Stand (numbers_of (place_of points bands1 bands2 e) ++ number (flag_at f e) 9 ++ weights_of w (length f) e channels) (line_start points bands1 bands2 channels e) text = rw (line-is w f e) at s in
          sym (passed-yes (numbers_of (place_of points bands1 bands2 e)) (line_start points bands1 bands2 channels e) text
          (stand-first (numbers_of (place_of points bands1 bands2 e)) (number (flag_at f e) 9) (line_start points bands1 bands2 channels e) text
          (stand-first (numbers_of (place_of points bands1 bands2 e) ++ number (flag_at f e) 9) (weights_of w (length f) e channels) (line_start points bands1 bands2 channels e) text t)))

      pub line-room : (e : ℕ) → e < cells → flag_place points bands1 bands2 channels e + 2 + 17 * channels ≤ length text
      line-room e l =
          go (stand-room (header ++ rows (e + 1) lines_in) 0 text (front-stands header lines_in cells (e + 1) text accepted-is (omega arith)))
        where
          n : length (header ++ rows (e + 1) lines_in) ≡ flag_place points bands1 bands2 channels e + 2 + 17 * channels
          n = start_is (weights_in points bands1 bands2 channels cells text) (flags_in points bands1 bands2 channels cells text) (e + 1) ∙ start-next e

          go : (length (header ++ rows (e + 1) lines_in) ≡ 0) ⊎ (0 + length (header ++ rows (e + 1) lines_in) ≤ length text) → flag_place points bands1 bands2 channels e + 2 + 17 * channels ≤ length text
          go (inl z) = absurd (omega (arith, z, n))
          go (inr r) = omega (arith, r, n)

-- what `grind` is given at a function
pub ruleset judged_laws = (judged-some, judged-none)

pub ruleset count_laws = (counts-low, all-cells-le, weights-le, both-yes)

pub ruleset place_laws = (first-place, header-room, line-room, next_place_lem, numbers-passed, place-bounds, place-low, start_first, start-next)
