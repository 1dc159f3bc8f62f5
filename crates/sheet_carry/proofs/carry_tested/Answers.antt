-- `sheet_carry::carry_tested` meets its contract.
use Rattle.sheet_carry.proofs.carry_tested.Goals as goal

pub carry_asked-requires : goal.carry_asked-requires
carry_asked-requires c = record { common = rw (c.new-work.ensures, c.new-prepared.ensures) c.requires.common }
