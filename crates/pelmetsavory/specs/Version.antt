-- The version of the binary interface.
use Rattle.std.specs.Prelude.{ℕ}

-- the number of the present set of exported signatures, from 1: every change of one raises it
abbrev pub interface_version : ℕ
interface_version = 8
