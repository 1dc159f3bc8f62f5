-- A piece by its triplet and its bands. Assumes nothing.
use mathlib.Core.Path.{◌≡◌, ap, ◌∙◌}
use Prim.Native.Nat.{ℕ, ◌+◌, ◌*◌, ◌/◌, ◌%◌, ◌<◌}
use native.Mathlib.Nat.{div-add-mod', div-lt_iff_lt-mul, mod-lt}
use Rattle.triplet_study.specs.declared.Sizes.{Sizes}
use Rattle.triplet_study.specs.Tested.{Counted}
use Rattle.triplet_iw.proofs.TripletLaws.{pair-bands}

-- piece q by its triplet and its bands
pub piece_is : (q pairs bands2 : ℕ) → q / pairs * pairs + (q % pairs / bands2 * bands2 + q % pairs % bands2) ≡ q
piece_is q pairs bands2 = ap (λ (n : ℕ). q / pairs * pairs + n) (div-add-mod' (q % pairs) bands2) ∙ div-add-mod' q pairs

pub piece-at : {z : Sizes} → Counted z → (q : ℕ) → q < z.triplets * z.pairs → (q / z.pairs < z.triplets) × ((q % z.pairs / z.bands2 < z.bands1) × (q % z.pairs % z.bands2 < z.bands2))
piece-at {z} c q h = ((div-lt_iff_lt-mul {k = z.pairs} {x = q} {y = z.triplets} c.pairs-some).1 h, pair-bands c (q % z.pairs) (mod-lt q c.pairs-some))
