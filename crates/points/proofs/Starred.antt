-- Every starred point holds of the definitions: antt computes each. Assumes nothing.
use mathlib.Core.Path.{refl}
use lib.Ieee.{of_bits, of_int, lt, eq, le, ne, add, sub, mul, div}
use Rattle.ieee_laws.specs.Magnitude.{absolute}
use Rattle.ieee_laws.specs.Zeros.{is_negative_zero}
use Rattle.list_laws.specs.Lists.{all_below, tabulate, rows, first_at}
use Rattle.list_laws.specs.Matrix.{each_part}
use Rattle.list_laws.specs.Signed.{is_nat, is_below, is_between, within}
use Rattle.common.specs.Matrix.{is_lattice, is_lattice_row, is_lattice_entry, row_times}
use Rattle.numbers.specs.Mesh.{mesh_of, count_of}
use Rattle.grgrid.specs.Index.{grid_index}
use Rattle.bzgrid.specs.Lists.{neighbours_of_all, neighbours_of}
use Rattle.bzgrid_lookup.specs.Neighbours.{grid_of, kind_of, neighbour_of, wanted_address, sparse_neighbour, map_on_doubled, dense_neighbour, in_group, is_address}
use Rattle.relative_grid_address.specs.Answer.{table_answer}
use Rattle.relative_grid_address.specs.Diagonal.{main_diagonal_of}
use Rattle.degenerate_sets.specs.Averages.{averaged_by, points_by}
use Rattle.averaging_blocks.specs.Weights.{averaged_in}
use Rattle.averaging_flags.specs.Flags.{flag_in}
use Rattle.ask.specs.Ask.{first_no}
use Rattle.question_values.specs.Averages.{is_degenerate_id, are_degenerate_ids, is_weight, are_weights}
use Rattle.question_values.specs.Counts.{is_band_count, are_counts, is_product}
use Rattle.question_values.specs.Frequencies.{in_range, are_in_range}
use Rattle.question_grids.specs.Grids.{is_grid_kind, is_mesh, are_triples, are_addresses, is_map, is_dense_map, is_sparse_map}
use Rattle.question_grids.specs.Steps.{are_steps, are_grid_points}
use Rattle.question_values.specs.TpTypes.{is_tp_type, channels_of}
use Rattle.tetrahedron_formulas.specs.Choice.{i_of, g_of, j_of, n_of}
use Rattle.tetrahedron_fractions.specs.Branch.{branch_of}
use Rattle.tetrahedron_fractions.specs.Fraction.{is_small}
use Rattle.tetrahedron_paper.specs.Paper as P
use Rattle.tetrahedron_method.specs.Weight.{weight_of, sum_of, row_weight, share_of, or_zero}
use Rattle.tetrahedron_sort.specs.Sort.{sorted_of, place_of}
use Rattle.points.specs.Points.{Every, points}

pub starred : Every points
unfolding first_no are_in_range in_range all_below absolute weight_of sum_of row_weight share_of or_zero branch_of i_of g_of j_of n_of is_small P.fraction sorted_of place_of of_bits of_int lt eq le ne add sub mul div table_answer is_lattice is_lattice_row is_lattice_entry main_diagonal_of row_times is_grid_kind is_mesh are_triples are_addresses is_map is_dense_map is_sparse_map are_steps are_grid_points is_product is_nat is_below is_between within mesh_of count_of grid_of kind_of neighbours_of_all neighbours_of neighbour_of wanted_address sparse_neighbour map_on_doubled dense_neighbour in_group is_address grid_index tabulate rows first_at is_tp_type channels_of is_band_count are_counts is_degenerate_id are_degenerate_ids is_negative_zero is_weight are_weights averaged_in flag_in averaged_by points_by each_part
starred = (refl, (refl, (refl, (refl, (refl, (refl, (refl, (refl, (refl, (refl, (refl, (refl, (refl, (refl, (refl, ((refl, refl), ((refl, refl), ((refl, (refl, refl)), tt))))))))))))))))))
