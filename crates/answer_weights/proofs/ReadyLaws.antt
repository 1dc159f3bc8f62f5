-- A study whose questions are answered yes has few weights, its buffers fit, and its listing has room. Assumes nothing.
use mathlib.Core.Path.{◌≡◌, ap, ◌∙◌}
use mathlib.Core.Bool.{true, ◌&&◌}
use Prim.Native.Nat.{ℕ, ◌*◌, ◌≤◌}
use native.Mathlib.Nat.{mul-le-mul_right}
use native.Mathlib.Omega.{arith}
use borrow.Author.Tests.{leb-true, eq-eqb}
use lib.IntN.{pos}
use lib.ListN.{length}
use Rattle.list_laws.specs.Lists.{tabulate}
use Rattle.list_laws.proofs.BoolLaws.{and_both}
use Rattle.list_laws.proofs.FillLaws.{length-tabulate}
use Rattle.ask.specs.Ask.{first_no, AllYes}
use Rattle.question_values.specs.Counts.{are_counts}
use Rattle.question_values.specs.TpTypes.{is_tp_type, channels_of}
use Rattle.ask.proofs.AskLaws.{all_yes}
use Rattle.triplet_types.specs.Types.{channel_count}
use Rattle.triplet_types.specs.declared.TpType.{TpType}
use Rattle.triplet_types.specs.declared.TpType.TheVariants.{Type2, Type3, Type4}
use Rattle.triplet_types.proofs.TypeLaws.{channels-of-type}
use Rattle.triplet_study.specs.declared.Sizes.{Sizes}
use Rattle.triplet_study.specs.Study.{Study, tp_in, bands1_in, bands2_in, triplet_count, sizes_by, sizes_of}
use Rattle.triplet_study.specs.Questions.{triplets_in, study_questions, are_lengths}
use Rattle.triplet_study.specs.Tested.{Tested}
use Rattle.triplet_study.proofs.StudyLaws.{study-numbered, tested, ready}
use Rattle.triplet_piece.specs.Weights.{flag_at}
use Rattle.triplet_iw.specs.Whole.{all_weights, all_flags}
use Rattle.listing_length.proofs.ListingLengthLaws.{listing-longest}
use Rattle.study_counts.specs.Counts.{weight_count, few_weights}
use Rattle.answer_weights.specs.Asked.{asks_few, questions_of}
use Rattle.answer_weights.specs.Answers.{listing_for, Listable}

-- every type has a channel
channel-some : (tp : TpType) → 1 ≤ channel_count tp
channel-some Type2 = omega arith
channel-some Type3 = omega arith
channel-some Type4 = omega arith

-- buffers of the right lengths: question 12 says yes
pub lengths-yes : (z : Sizes) (w f : ℕ) → w ≡ z.channels * z.cells → f ≡ z.cells → are_lengths z w f ≡ true
unfolding are_lengths
lengths-yes z w f e g = simp (eq-eqb w (z.channels * z.cells) e, eq-eqb f z.cells g)

module _ (s : Study) (yes : first_no (questions_of s) ≡ 0) where
  all : AllYes (questions_of s)
  all = all_yes (questions_of s) (omega arith, study-numbered s) yes

  few : asks_few s ≡ true
  few = all.0

  -- 3 to 11 say yes
  pub further : first_no (study_questions s) ≡ 0
  unfolding first_no
  further = rw few at yes

  pub passed : Tested s
  passed = tested s further

  -- 8 and 9 say yes
  typed-counted : (is_tp_type s.shape.tp_type && are_counts s.shape.num_band1 s.shape.num_band2 (pos (length s.points)) (pos (triplets_in s.triplets))) ≡ true
  typed-counted = and_both all.1.1.1.1.1.1.0 all.1.1.1.1.1.1.1.0

  abbrev count : ℕ
  count = weight_count s.shape.tp_type s.shape.num_band1 s.shape.num_band2 (length s.points) (triplets_in s.triplets)

  few-counted : count ≤ 4096
  unfolding few_weights
  few-counted = leb-true count 4096 (rw typed-counted at few)

  -- at most 4,096 weights
  few-weights : (sizes_of s).channels * (sizes_of s).cells ≤ 4096
  unfolding sizes_by weight_count
  few-weights =
      let c : ℕ = channels_of s.shape.tp_type in
      let t : ℕ = triplet_count s in
      let p : ℕ = length s.points in
      let b : ℕ = bands1_in s * bands2_in s in
      let q : triplets_in s.triplets ≡ t = omega (arith, passed.triplets-whole) in
      let w : c * triplets_in s.triplets * p * b ≤ 4096 = few-counted in
      rw (← channels-of-type s.shape.tp_type) (omega (arith, w, ap (λ (n : ℕ). c * n * p * b) q))

  few-cells : (sizes_of s).cells ≤ 4096
  unfolding sizes_by
  few-cells =
      let n : ℕ = triplet_count s * length s.points * (bands1_in s * bands2_in s) in
      let c : ℕ = channel_count (tp_in s) in
      let h : c * n ≤ 4096 = few-weights in
      omega (arith, h, mul-le-mul_right {m = 1} {n = c} n (channel-some (tp_in s)))

  -- the listing has room in 118,617 bytes
  pub listing-room : length s.points ≤ 712 → triplet_count s ≤ 1170 → length (listing_for s) ≤ 118617
  unfolding listing_for sizes_by all_flags
  listing-room hp ht =
      let t : ℕ = triplet_count s in
      let p : ℕ = length s.points in
      let b1 : ℕ = bands1_in s in
      let b2 : ℕ = bands2_in s in
      let c : ℕ = channel_count (tp_in s) in
      let f : c * (t * p * (b1 * b2)) ≤ 4096 = few-weights in
      let e : t * p * (b1 * b2) ≡ t * p * b1 * b2 = omega arith in
      let k : Tested s = passed in
      listing-longest t p b1 b2 c (all_weights s) (tabulate (t * p * (b1 * b2)) (flag_at s))
      (length-tabulate (t * p * (b1 * b2)) (flag_at s) ∙ e) (omega (arith, f, ap (λ (n : ℕ). c * n) e)) (channel-some (tp_in s)) ht hp
      k.points-low k.bands1-low k.bands2-low k.bands1-high k.bands2-high

  -- the counts that the code makes
  module _ (z : Sizes) (made : z ≡ sizes_of s) where
    pub few-made : (z.cells ≤ 4096) × (z.channels * z.cells ≤ 4096)
    few-made = rw made (few-cells, few-weights)

    -- and buffers of their lengths
    pub may-list : (w f : ℕ) → w ≡ z.channels * z.cells → f ≡ z.cells → length s.points ≤ 712 → triplet_count s ≤ 1170 → Listable s z w f
    may-list w f e g hp ht = (ready s z w f further made (lengths-yes z w f e g), listing-room hp ht)
