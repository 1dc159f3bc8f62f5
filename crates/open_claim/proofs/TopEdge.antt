-- Computed: a point inside one box, one on its top edge and one above it, each inside no other box. The second has flag 0 and weight 0 and is
-- not counted. Assumes nothing.
use mathlib.Core.Path.{◌≡◌, refl}
use mathlib.Core.List.{List, [], ◌∷◌, ◌++◌}
use Prim.Native.Nat.{ℕ, zero, suc}
use lib.Ieee.{Float, binary64, of_bits, of_int, lt, eq, le, ne, add, sub, mul, div, neg}
use lib.IntN.{ℤ, pos}
use Rattle.ieee_laws.specs.Magnitude.{absolute}
use Rattle.ieee_laws.specs.Zeros.{plus_zero}
use Rattle.list_laws.specs.Lists.{all_below, some_below, count_below, tabulate, area, first_at}
use Rattle.list_laws.specs.Signed.{is_nat, is_below, is_between, within}
use Rattle.ask.specs.Ask.{first_no}
use Rattle.bzgrid_lookup.specs.Neighbours.{grid_of, kind_of, neighbour_of, wanted_address, dense_neighbour, in_group, is_address}
use Rattle.grgrid.specs.Index.{grid_index}
use Rattle.numbers.specs.Mesh.{mesh_of, count_of}
use Rattle.open_count.specs.OpenCount.{is_nonzero, is_open, open_from, open_count_answer}
use Rattle.std.specs.declared.result.Result.TheVariants.{Ok}
use Rattle.question_grids.specs.Grids.{is_grid_kind, is_mesh, are_triples, are_addresses, is_map, is_dense_map}
use Rattle.question_grids.specs.Steps.{are_grid_points}
use Rattle.question_grids.specs.Tables.{is_table}
use Rattle.question_values.specs.Counts.{is_band_count, are_counts, is_product}
use Rattle.question_values.specs.Frequencies.{in_range, are_in_range}
use Rattle.question_values.specs.TpTypes.{is_tp_type, channels_of}
use Rattle.sheet_counts.specs.declared.Counts.{Counts}
use Rattle.sheet_counts.specs.SheetCounts.{are_sheet_counts, cells_per_triplet}
use Rattle.tetrahedron_formulas.specs.Choice.{i_of, g_of}
use Rattle.tetrahedron_fractions.specs.Binary64.{one, three, four}
use Rattle.tetrahedron_fractions.specs.Branch.{branch_of}
use Rattle.tetrahedron_fractions.specs.Fraction.{is_small}
use Rattle.tetrahedron_paper.specs.Paper as P
use Rattle.tetrahedron_method.specs.Weight.{weight_of, sum_of, row_weight, share_of, or_zero}
use Rattle.tetrahedron_sort.specs.Sort.{sorted_of, place_of}
use Rattle.triplet_channels.specs.Channels.{channel_at, further_at, outputs_at}
use Rattle.triplet_corners.specs.Corners.{copy_of, corner_numbers}
use Rattle.triplet_iw.specs.Whole.{all_weights, all_flags}
use Rattle.triplet_outputs.specs.Outputs.{flag_of, outputs_by}
use Rattle.triplet_piece.specs.Layout.{triplet_at, point_at, pair_at, channel_of}
use Rattle.triplet_piece.specs.Weights.{outputs_of_corners, outputs_of, outputs_at_cell}
use Rattle.triplet_study.specs.Questions.{study_questions, are_triplets, hold_frequencies, are_study_frequencies}
use Rattle.triplet_study.specs.Study.{Study, study, sizes_by}
use Rattle.triplet_types.specs.Types.{tp_type_of}
use Rattle.triplet_values.specs.Values.{corner_frequency, corner_frequencies, combined, channel_values, least_of, greatest_of, box_of}

-- k equal rows of a table
abbrev rows_of : List ℤ → ℕ → List ℤ
rows_of row zero = []
rows_of row (suc k) = row ++ rows_of row k

-- 2.0, 5.0, 0.75
abbrev two : Float
two = of_bits binary64 0x4000_0000_0000_0000

abbrev five : Float
five = of_bits binary64 0x4014_0000_0000_0000

abbrev three_quarters : Float
three_quarters = of_bits binary64 0x3fe8_0000_0000_0000

-- two grid points with the frequencies 1 and 2, the same on both sides; 24 equal rows whose first corner is the point itself and whose
-- others are its neighbour. At the triplet 0, 0, 0 the sums of frequencies are 2, 4, 4, 4 and the differences 0. Points 3, 4, 5.
abbrev edge : Study
edge =
    study (record { bz_grid_type = pos 2; d_diag = pos 2 ∷ pos 1 ∷ pos 1 ∷ []; tp_type = pos 2; num_band1 = pos 1; num_band2 = pos 1 })
    (pos 0 ∷ pos 0 ∷ pos 0 ∷ pos 1 ∷ pos 0 ∷ pos 0 ∷ []) (pos 0 ∷ pos 1 ∷ pos 2 ∷ [])
    (rows_of (pos 0 ∷ pos 0 ∷ pos 0 ∷ pos 1 ∷ pos 0 ∷ pos 0 ∷ pos 1 ∷ pos 0 ∷ pos 0 ∷ pos 1 ∷ pos 0 ∷ pos 0 ∷ []) 24)
    (one ∷ two ∷ []) (one ∷ two ∷ []) (three ∷ four ∷ five ∷ []) (pos 0 ∷ pos 0 ∷ pos 0 ∷ [])

-- its counts: one triplet, three points, one band on each side
abbrev counts : Counts
counts = record { num_triplets = pos 1; num_band0 = pos 3; num_band1 = pos 1; num_band2 = pos 1 }

pub flags : all_flags edge ≡ pos 0 ∷ pos 0 ∷ pos 1 ∷ []
unfolding all_flags tabulate outputs_at_cell outputs_of outputs_of_corners outputs_at outputs_by flag_of channel_at further_at triplet_at point_at pair_at sizes_by tp_type_of is_nat corner_numbers area copy_of corner_frequencies corner_frequency channel_values combined box_of least_of greatest_of grid_of kind_of mesh_of neighbour_of wanted_address dense_neighbour in_group is_address grid_index first_at of_bits lt le eq add sub neg
flags = refl

-- the first output is the sum's weight I, the second the difference of the closed channels'
pub weights : all_weights edge ≡ three_quarters ∷ plus_zero ∷ plus_zero ∷ plus_zero ∷ plus_zero ∷ plus_zero ∷ []
unfolding all_weights channel_of weight_of sum_of row_weight share_of or_zero branch_of i_of g_of is_small P.fraction sorted_of place_of absolute of_int ne mul div tabulate outputs_at_cell outputs_of outputs_of_corners outputs_at outputs_by flag_of channel_at further_at triplet_at point_at pair_at sizes_by tp_type_of is_nat corner_numbers area copy_of corner_frequencies corner_frequency channel_values combined box_of least_of greatest_of grid_of kind_of mesh_of neighbour_of wanted_address dense_neighbour in_group is_address grid_index first_at of_bits lt le eq add sub neg
weights = refl

-- two flags are 0, and one entry is open
pub counted : open_count_answer (pos 2) counts (all_weights edge) (pos 0) ≡ Ok 1
unfolding first_no is_tp_type are_sheet_counts are_counts is_band_count is_between is_below cells_per_triplet channels_of is_nat open_from count_below is_open some_below is_nonzero ne eq of_bits
counted = rw weights refl

-- no question refuses the study
pub accepted : first_no (study_questions edge) ≡ 0
unfolding first_no is_grid_kind is_mesh are_triples are_addresses is_map is_dense_map is_table is_tp_type are_counts is_band_count are_triplets are_grid_points are_study_frequencies hold_frequencies are_in_range in_range is_product is_between is_below is_nat within all_below absolute mesh_of count_of of_bits lt eq le ne
accepted = refl
