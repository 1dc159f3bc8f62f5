-- A sheet as a contract names it: the lent lists at a call's entry and at its exit.
use Rattle.std.specs.Prelude.{◌≡◌, List, ℕ, Float, ℤ}
use Rattle.ask.specs.Lent.{LentMut}
use Rattle.sheet_step.specs.Steps.{Sheet, sheet}
use Rattle.sheet_step.specs.declared.SheetMut.{SheetMut}

-- the sheet that a call takes, with a tally
abbrev pub sheet_in : LentMut Float → LentMut ℤ → LentMut ℕ → List ℕ → Sheet
sheet_in weights flags marks tally = sheet weights.entry.now flags.entry.now marks.entry.now tally

-- and the sheet that it leaves
abbrev pub sheet_out : LentMut Float → LentMut ℤ → LentMut ℕ → List ℕ → Sheet
sheet_out weights flags marks tally = sheet weights.exit.now flags.exit.now marks.exit.now tally

-- the sheet that lent buffers hold, with a tally
abbrev pub sheet_of : SheetMut → List ℕ → Sheet
sheet_of buffers tally = sheet buffers.weights.now buffers.flags.now buffers.marks.now tally

-- a call keeps which buffers are lent
pub record SameBuffers (before after : SheetMut) : Type 0 where
  pub weights : after.weights.ghost_name ≡ before.weights.ghost_name
  pub flags : after.flags.ghost_name ≡ before.flags.ghost_name
  pub marks : after.marks.ghost_name ≡ before.marks.ghost_name
