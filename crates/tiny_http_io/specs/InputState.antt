-- The input state after a body.
use Rattle.std.specs.declared.io.ErrorKind.{ErrorKind}
use Rattle.tiny_http_io.specs.declared.source.InputState.{InputState}
use Rattle.tiny_http_io.specs.declared.source.InputState.TheVariants.{Head, Body, Abandoned, Broken}

-- the input state after a body that was read or skipped whole: `Head` after `Body`; any other state is kept
abbrev pub after_body : InputState → InputState
after_body Body = Head
after_body input_state = input_state

-- the input state after a body that broke off with a fault of this kind: `Broken` after `Body`; any other state is kept
abbrev pub after_fault : ErrorKind → InputState → InputState
after_fault kind Body = Broken kind
after_fault kind input_state = input_state

-- the input state after a body that was given up before its end was read, so where it ends isn't known: `Abandoned`
-- after `Body`; any other state is kept
abbrev pub after_abandoned : InputState → InputState
after_abandoned Body = Abandoned
after_abandoned input_state = input_state
