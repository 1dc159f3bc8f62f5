-- All weights and flags of a study that is ready, as the listing takes them. Assumes nothing.
use mathlib.Core.Path.{◌≡◌, refl, sym, ap, ◌∙◌}
use mathlib.Core.List.{List}
use Prim.Native.Nat.{ℕ, ◌*◌, ◌<◌}
use native.Mathlib.Omega.{arith}
use lib.Ieee.{Float}
use lib.IntN.{ℤ}
use lib.ListN.{length}
use Rattle.list_laws.proofs.FillLaws.{length-tabulate}
use Rattle.triplet_study.specs.declared.Sizes.{Sizes}
use Rattle.triplet_study.specs.Study.{Study, sizes_of}
use Rattle.triplet_study.specs.Tested.{Counted, Ready}
use Rattle.triplet_study.proofs.StudyLaws.{ready-counted}
use Rattle.triplet_piece.specs.Weights.{weight_at, flag_at}
use Rattle.triplet_iw.specs.Whole.{all_weights, all_flags}
use Rattle.listing.specs.Listings.{listing_of}
use Rattle.writing.specs.Written as W
use Rattle.writing.specs.Written.{written}
use Rattle.writing.specs.declared.kernel.Writer.{Writer}
use Rattle.answer_weights.specs.Answers.{listing_for}

weights-length : (s : Study) → length (all_weights s) ≡ (sizes_of s).channels * (sizes_of s).cells
unfolding all_weights
weights-length s = length-tabulate ((sizes_of s).channels * (sizes_of s).cells) (weight_at s)

flags-length : (s : Study) → length (all_flags s) ≡ (sizes_of s).cells
unfolding all_flags
flags-length s = length-tabulate (sizes_of s).cells (flag_at s)

module _ {s : Study} {z : Sizes} {w f : ℕ} (r : Ready s z w f) (weights : List Float) (flags : List ℤ) (e : weights ≡ all_weights s) (g : flags ≡ all_flags s) where
  pub listed : listing_of z.points z.bands1 z.bands2 z.channels weights flags ≡ listing_for s
  unfolding listing_for
  listed = rw (e, g, r.counts)

  entries : length weights ≡ z.channels * length flags
  entries = rw (e, g, r.counts) (weights-length s ∙ ap (λ (n : ℕ). (sizes_of s).channels * n) (sym (flags-length s)))

  pub listable : (0 < z.points) × (0 < z.bands1) × (0 < z.bands2) × (length weights ≡ z.channels * length flags)
  listable =
      let c : Counted z = ready-counted r in
      (c.points-some, c.bands1-some, c.bands2-some, entries)

-- what a writer wrote at the front of a buffer, under another name
pub wrote_front : {l m old : List ℕ} {u v : Writer} → u.len ≡ 0 → u.buffer.now ≡ old → W.Wrote l u v → l ≡ m → (v.len ≡ length m) × (v.buffer.now ≡ written 0 m old)
wrote_front {l} {m} {old} {u} {v} z c w e =
    (omega (arith, w.ends, z, ap length e), w.content ∙ rw (z, c, e) refl)

-- bytes written at the start, under another name
pub wrote_so : (r : ℕ) (l m old new : List ℕ) → r ≡ length l → new ≡ written 0 l old → l ≡ m → (r ≡ length m) × (new ≡ written 0 m old)
wrote_so r l m old new p q e = (p ∙ ap length e, q ∙ ap (λ (x : List ℕ). written 0 x old) e)
