-- Question 7 is answered yes by each built-in table, so the program never refuses with 7. Assumes nothing.
use mathlib.Core.Path.{◌≡◌, refl}
use mathlib.Core.Bool.{Bool, true, false, cond}
use Prim.Native.Nat.{ℕ, zero, suc, ◌<◌}
use native.Mathlib.Omega.{arith}
use lib.IntN.{pos}
use lib.ListN.{length}
use lib.Signed.{mag}
use Rattle.list_laws.specs.Lists.{all_below}
use Rattle.list_laws.specs.Signed.{within, is_between}
use Rattle.ask.specs.Ask.{first_no}
use Rattle.numbers.specs.Mesh.{count_of, mesh_of}
use Rattle.question_grids.specs.Grids.{are_triples, triples_in, is_grid_kind, is_mesh, are_addresses, is_map}
use Rattle.question_values.specs.Counts.{are_counts}
use Rattle.question_values.specs.TpTypes.{is_tp_type}
use Rattle.question_grids.specs.Tables.{is_table}
use Rattle.tetrahedron_tables.specs.Tables.{table_of, flat, table0, table1, table2, table3}
use Rattle.triplet_study.specs.declared.Shape.{Shape}
use Rattle.triplet_study.specs.Study.{Study}
use Rattle.triplet_study.specs.Questions.{triplets_in, are_triplets, are_study_frequencies}
use Rattle.answer_weights.specs.Asked.{asks_few, questions_of}
use Rattle.study.specs.Studies.{StudyText}
use Rattle.answer.specs.Texts.{asked_of}
use Rattle.answer.proofs.AnswerLaws.{diagonal-lt}

pub built_in : (d : ℕ) → d < 4 → is_table (flat (table_of d)) ≡ true
unfolding is_table are_triples all_below within flat table_of table0 table1 table2 table3
built_in zero h = refl
built_in (suc zero) h = refl
built_in (suc (suc zero)) h = refl
built_in (suc (suc (suc zero))) h = refl
built_in (suc (suc (suc (suc d)))) h = absurd (omega (arith, h))

-- of a text's study, whose `diag` is 0 to 3, the first no is never 7
pub never-seven : (s : StudyText) → is_between 0 3 s.head.diag ≡ true → first_no (questions_of (asked_of s)) ≡ 7 → ⊥
unfolding first_no
never-seven s d e =
    let g : Study = asked_of s in
    let h : Shape = g.shape in
    let n : ℕ = count_of (mesh_of h.d_diag) in
    let p : ℕ = triples_in g.addresses in
    go (asks_few g) (is_grid_kind h.bz_grid_type) (is_mesh 128 h.d_diag) (are_addresses n g.addresses)
    (is_map h.bz_grid_type n p g.gp-map) (is_tp_type h.tp_type) (are_counts h.num_band1 h.num_band2 (pos (length g.points)) (pos (triplets_in g.triplets))) (are_triplets p g.triplets)
    (are_study_frequencies p (mag h.num_band1) (mag h.num_band2) g.frequencies1 g.frequencies2 g.points)
    (rw (built_in (mag s.head.diag) (diagonal-lt s.head.diag d)) at e)
  where
    go : (b1 b3 b4 b5 b6 b8 b9 b10 b11 : Bool) → ◌≡◌ {A = ℕ} (cond b1 (cond b3 (cond b4 (cond b5 (cond b6 (cond b8 (cond b9 (cond b10 (cond b11 0 11) 10) 9) 8) 6) 5) 4) 3) 1) 7 → ⊥
    go false b3 b4 b5 b6 b8 b9 b10 b11 e = omega (arith, e)
    go true false b4 b5 b6 b8 b9 b10 b11 e = omega (arith, e)
    go true true false b5 b6 b8 b9 b10 b11 e = omega (arith, e)
    go true true true false b6 b8 b9 b10 b11 e = omega (arith, e)
    go true true true true false b8 b9 b10 b11 e = omega (arith, e)
    go true true true true true false b9 b10 b11 e = omega (arith, e)
    go true true true true true true false b10 b11 e = omega (arith, e)
    go true true true true true true true false b11 e = omega (arith, e)
    go true true true true true true true true false e = omega (arith, e)
    go true true true true true true true true true e = omega (arith, e)
