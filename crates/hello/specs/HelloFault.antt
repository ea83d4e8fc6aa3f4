-- The exit status of each error of the program.
use Rattle.std.specs.Prelude.{ℕ}
use Rattle.hello.specs.declared.fault.HelloFault.{HelloFault}
use Rattle.hello.specs.declared.fault.HelloFault.TheVariants.{Usage, CannotListen, OutOfMemory}

-- the exit status of an error: 2 for a usage error, 1 for any other error
abbrev pub exit_status : HelloFault → ℕ
exit_status Usage = 2
exit_status (CannotListen address) = 1
exit_status OutOfMemory = 1
