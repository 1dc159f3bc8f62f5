-- `replay_input::kernel::flag_of` meets its contract: each flag that occurs is itself.
use borrow.Author.Rules.{rules}
use mathlib.Core.Path.{refl}
use lib.IntN.{pos, negsuc}
use Rattle.replay_input.specs.Fields.{is_flag, flag_of}
use Rattle.replay_input.proofs.FlagLaws.{a-flag, no_flag}
use Rattle.replay_input.proofs.kernel.flag_of.Goals as goal

pub returns-in-0 : goal.returns-in-0
unfolding flag_of is_flag
returns-in-0 c = a-flag c.args.n 0 (pos 0) (search rules) c.in-0.in-0-own.keys1 refl refl

pub returns-in-1 : goal.returns-in-1
unfolding flag_of is_flag
returns-in-1 c = a-flag c.args.n 1 (pos 1) (search rules) c.in-1.in-1-own.keys2 refl refl

pub returns-in-2 : goal.returns-in-2
unfolding flag_of is_flag
returns-in-2 c = a-flag c.args.n 2 (pos 2) (search rules) c.in-2.in-2-own.keys3 refl refl

pub returns-in-5 : goal.returns-in-5
unfolding flag_of is_flag
returns-in-5 c = a-flag c.args.n 5 (pos 5) (search rules) c.in-5.in-5-own.keys4 refl refl

pub returns-in-9 : goal.returns-in-9
unfolding flag_of is_flag
returns-in-9 c = a-flag c.args.n 9 (pos 9) (search rules) c.in-9.in-9-own.keys5 refl refl

pub returns-in-minus1 : goal.returns-in-minus1
unfolding flag_of is_flag
returns-in-minus1 c = a-flag c.args.n 18446744073709551615 (negsuc 0) (search rules) c.in-minus1.in-minus1-own.keys6 refl refl

pub returns-in-127 : goal.returns-in-127
unfolding flag_of is_flag
returns-in-127 c = a-flag c.args.n 127 (pos 127) (search rules) c.in-127.in-127-own.keys7 refl refl

pub returns-in_default : goal.returns-in_default
returns-in_default c = no_flag c.args.n c.in_default.in_default-own.rest.0.0.0.0.0.0.1 c.in_default.in_default-own.rest.0.0.0.0.0.1 c.in_default.in_default-own.rest.0.0.0.0.1 c.in_default.in_default-own.rest.0.0.0.1 c.in_default.in_default-own.rest.0.0.1 c.in_default.in_default-own.rest.0.1 c.in_default.in_default-own.rest.1
