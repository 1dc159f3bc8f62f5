-- Work areas that begin alike have the same boxes and weights, and channels in order have the plain outputs; of type 4 the first channel is enough. Assumes nothing.
use mathlib.Core.Path.{◌≡◌, refl, subst, ◌∙◌}
use mathlib.Core.Bool.{Bool, true, false}
use mathlib.Core.List.{List}
use Prim.Native.Nat.{ℕ, zero, suc, ◌*◌, ◌≤◌}
use native.Mathlib.Omega.{arith}
use lib.Ieee.{Float, nan}
use lib.ListN.{get_or}
use Rattle.list_laws.proofs.BoolLaws.{clash}
use Rattle.list_laws.proofs.FillLaws.{tabulate-ext}
use Rattle.tetrahedron_method.specs.Weight.{weight_of}
use Rattle.tetrahedron_method.specs.Sorted.{sorted_weight}
use Rattle.tetrahedron_method.specs.declared.WeightFunction.TheVariants.{I}
use Rattle.tetrahedron_method.proofs.SortedLaws.{weight_is, weight-same}
use Rattle.triplet_types.specs.declared.TpType.{TpType}
use Rattle.triplet_types.specs.declared.TpType.TheVariants.{Type2, Type3, Type4}
use Rattle.triplet_values.specs.Values.{combined, channel_values, least_of, greatest_of, box_of, Begun}
use Rattle.triplet_channels.specs.declared.Channel.{Channel}
use Rattle.triplet_channels.specs.declared.Channels.{Channels}
use Rattle.triplet_channels.specs.Channels.{channel_at, further_at, outputs_at}
use Rattle.triplet_channels.specs.Ordered.{further_rows, ordered_channel_at, ordered_further_at, outputs_ordered, Prepared}

-- the values of a channel go by the first entries alone
pub values_same : (c n : ℕ) {s t u v : List Float} → Begun n s t → Begun n u v → channel_values c s u n ≡ channel_values c t v n
unfolding channel_values
values_same c n {s} {t} {u} {v} h g =
    tabulate-ext n (λ i. combined c (get_or s i nan) (get_or u i nan)) (λ i. combined c (get_or t i nan) (get_or v i nan)) (λ i l. rw (h.same i l, g.same i l))

module _ (n : ℕ) (s t : List Float) (h : Begun n s t) (pos : 1 ≤ n) where
  least-same : (k : ℕ) → k ≤ n → least_of s k ≡ least_of t k
  unfolding least_of
  least-same zero l = h.same 0 (omega arith)
  least-same (suc k) l = rw (least-same k (omega arith), h.same k (omega arith))

  greatest-same : (k : ℕ) → k ≤ n → greatest_of s k ≡ greatest_of t k
  unfolding greatest_of
  greatest-same zero l = h.same 0 (omega arith)
  greatest-same (suc k) l = rw (greatest-same k (omega arith), h.same k (omega arith))

  box-same : box_of s n ≡ box_of t n
  unfolding box_of
  box-same = rw (least-same n (omega arith), greatest-same n (omega arith))

module _ {rows : ℕ} {t : List Float} {c : Channel} (h : Prepared rows t c) (pos : 1 ≤ rows) (w : Float) where
  channel-is : ordered_channel_at w c rows ≡ channel_at w t rows
  unfolding ordered_channel_at channel_at
  channel-is =
      let e : sorted_weight I w c.values c.places rows ≡ weight_of I w t rows = weight_is I w h.filled c.values c.places rows h.sorted.sorted ∙ weight-same I w h.filled t rows h.begun.same in
      let g : c.bounds ≡ box_of t (rows * 4) = h.bounds ∙ box-same (rows * 4) h.filled t h.begun (omega arith) in
      rw (e, g)

-- whether a type has a second and a third channel
abbrev pub has_further : TpType → Bool
has_further Type2 = true
has_further Type3 = true
has_further Type4 = false

-- a second or a third channel is ready, where the type has it
pub record Further (tp : TpType) (rows : ℕ) (t : List Float) (c : Channel) : Type 0 where
  pub ready : has_further tp ≡ true → Prepared rows t c

further-is : (tp : TpType) (w : Float) {rows : ℕ} {t : List Float} {c : Channel} → Further tp rows t c → 1 ≤ rows → ordered_further_at tp w c rows ≡ further_at tp w t rows
unfolding ordered_further_at further_at
further-is Type2 w h pos = channel-is (h.ready refl) pos w
further-is Type3 w h pos = channel-is (h.ready refl) pos w
further-is Type4 w h pos = refl

-- the outputs of channels in order are the plain outputs
pub outputs-is : (tp : TpType) (w : Float) (rows : ℕ) → 1 ≤ rows → {t0 t1 t2 : List Float} (c : Channels)
    → Prepared rows t0 c.first → Further tp rows t1 c.second → Further tp rows t2 c.third
    → outputs_ordered tp w c rows ≡ outputs_at tp w t0 t1 t2 rows
unfolding outputs_ordered outputs_at
outputs-is tp w rows pos c h0 h1 h2 = rw (channel-is h0 pos w, further-is tp w h1 pos, further-is tp w h2 pos)

-- a channel of frequencies in work areas is the channel of those that they begin with
pub prepared-as : (k rows : ℕ) {f f' g g' : List Float} {c : Channel} → Begun (rows * 4) f f' → Begun (rows * 4) g g'
    → Prepared rows (channel_values k f g (rows * 4)) c → Prepared rows (channel_values k f' g' (rows * 4)) c
prepared-as k rows {c = c} h j m = subst (λ (t : List Float). Prepared rows t c) (values_same k (rows * 4) h j) m

-- a type gives its further channels all rows or none
further-all : (tp : TpType) (rows : ℕ) → has_further tp ≡ true → further_rows tp rows ≡ rows
further-all Type2 rows h = refl
further-all Type3 rows h = refl
further-all Type4 rows h = clash h

-- the same of a further channel, in the rows that its type gives it
pub further-as : (tp : TpType) (k rows n : ℕ) → n ≡ further_rows tp rows → {f f' g g' : List Float} {c : Channel} → Begun (rows * 4) f f' → Begun (rows * 4) g g'
    → Prepared n (channel_values k f g (n * 4)) c → Further tp rows (channel_values k f' g' (rows * 4)) c
further-as tp k rows n q {f} {f'} {g} {g'} {c} h j m =
    record {
      ready = λ y. prepared-as k rows h j (subst (λ (i : ℕ). Prepared i (channel_values k f g (i * 4)) c) (q ∙ further-all tp rows y) m);
    }
