-- `statuses::tetrahedra::relative_grid_address` meets its contract: the answer as a status, a table and its number.
use mathlib.Core.Path.{refl, sym, ◌∙◌}
use Rattle.ask.specs.Ask.{first_no}
use Rattle.ask.proofs.RefusalLaws.{given-told, refused-told, first-low}
use Rattle.relative_grid_address.specs.Answer.{lattice_questions, numbered_table, table_answer}
use Rattle.relative_grid_address.specs.Diagonal.{main_diagonal_of}
use Rattle.statuses.proofs.tetrahedra.relative_grid_address.Goals as goal

pub returns-in-Ok-clause-value : goal.returns-in-Ok-clause-value
unfolding table_answer
returns-in-Ok-clause-value c =
    (given-told (first_no (lattice_questions c.args.rec_lattice.now)) _ (numbered_table (main_diagonal_of c.args.rec_lattice.now)) (λ x. x.numbers) c.args.table.now (sym c.in-Ok.is ∙ c.relative_grid_address.ensures)).0

pub returns-in-Ok-clause-table_after : goal.returns-in-Ok-clause-table_after
unfolding table_answer
returns-in-Ok-clause-table_after c =
    (given-told (first_no (lattice_questions c.args.rec_lattice.now)) _ (numbered_table (main_diagonal_of c.args.rec_lattice.now)) (λ x. x.numbers) c.args.table.now (sym c.in-Ok.is ∙ c.relative_grid_address.ensures)).1

pub returns-in-Ok-clause-index_after : goal.returns-in-Ok-clause-index_after
unfolding table_answer
returns-in-Ok-clause-index_after c =
    (given-told (first_no (lattice_questions c.args.rec_lattice.now)) _ (numbered_table (main_diagonal_of c.args.rec_lattice.now)) (λ x. x.index) c.args.index.now (sym c.in-Ok.is ∙ c.relative_grid_address.ensures)).1

pub returns-in-Err-clause-value : goal.returns-in-Err-clause-value
unfolding table_answer
returns-in-Err-clause-value c =
    c.number.ensures ∙ (refused-told (first_no (lattice_questions c.args.rec_lattice.now)) _ (numbered_table (main_diagonal_of c.args.rec_lattice.now)) c.args.table.now c.args.table.now (first-low (lattice_questions c.args.rec_lattice.now) refl) (sym c.in-Err.is ∙ c.relative_grid_address.ensures)).0

pub returns-in-Err-clause-table_after : goal.returns-in-Err-clause-table_after
unfolding table_answer
returns-in-Err-clause-table_after c =
    (refused-told (first_no (lattice_questions c.args.rec_lattice.now)) _ (numbered_table (main_diagonal_of c.args.rec_lattice.now)) _ c.args.table.now (first-low (lattice_questions c.args.rec_lattice.now) refl) (sym c.in-Err.is ∙ c.relative_grid_address.ensures)).1

pub returns-in-Err-clause-index_after : goal.returns-in-Err-clause-index_after
unfolding table_answer
returns-in-Err-clause-index_after c =
    (refused-told (first_no (lattice_questions c.args.rec_lattice.now)) _ (numbered_table (main_diagonal_of c.args.rec_lattice.now)) _ c.args.index.now (first-low (lattice_questions c.args.rec_lattice.now) refl) (sym c.in-Err.is ∙ c.relative_grid_address.ensures)).1
