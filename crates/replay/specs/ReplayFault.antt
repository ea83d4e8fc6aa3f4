-- The exit status of each error of a replay.
use Rattle.std.specs.Prelude.{ℕ}
use Rattle.replay.specs.declared.fault.ReplayFault.{ReplayFault}
use Rattle.replay.specs.declared.fault.ReplayFault.TheVariants.{Usage, CannotRead, BadLine, OutOfMemory, CannotWrite}

-- the exit status of an error: 2 if the arguments, a file or the script can't be used, 1 if memory is refused or
-- writing fails
abbrev pub exit_status : ReplayFault → ℕ
exit_status Usage = 2
exit_status (CannotRead name) = 2
exit_status (BadLine number) = 2
exit_status OutOfMemory = 1
exit_status CannotWrite = 1
