-- The replies and the output of a replay of a script, and the bytes that are written for them.
use Rattle.std.specs.Prelude.{◌≡◌, ℕ, Bool, Option, Some, List, ◌++◌}
use Rattle.std.specs.List.{flat_map}
use Rattle.std.specs.Io.KnownBytes.{Appends}
use Rattle.tiny_http_wire.specs.Device.{Feed, Sink, whole_feed}
use Rattle.tiny_http_core.specs.declared.framing.Profile.{Profile}
use Rattle.tiny_http_core.specs.Steps.{ReplyValue, TimedValue}
use Rattle.tiny_http_core.specs.Conversation.{IsFresh, IsConversation}
use Rattle.replay_script.specs.Reply.{reply_line}
use Rattle.replay_script.specs.Script.{IsScript}

-- A run of `steps` under profile `p`, over a client that sends the bytes `client` and ends: `replies` are the replies
-- to the steps, no call to the writer fails, and `output` holds the bytes that the writer took, followed by those still
-- held.
pub record HasRun (p : Profile) (client : List ℕ) (steps : List TimedValue) (replies : List ReplyValue)
    (output : List ℕ) : Type 0 where
  pub before : Sink
  pub after : Sink
  pub taken : List ℕ
  pub held : List ℕ
  pub fresh : IsFresh before
  pub ended : Bool
  pub unread : Option Feed
  pub conversation : IsConversation p (whole_feed client) before steps replies after held ended unread
  pub no_fault : after.failures ≡ before.failures
  pub took : after.taken ≡ Some taken
  pub output_is : output ≡ taken ++ held

-- whether a replay of this script over these bytes of a client, under this profile, has these replies and this output
abbrev pub IsReplay : Profile → List ℕ → List ℕ → List ReplyValue → List ℕ → Type 0
IsReplay p client script replies output =
    (steps : List TimedValue) × IsScript script steps × HasRun p client steps replies output

-- The effect on two writers of a replay of `script`, over the bytes `client` under profile `p`: the known bytes of the
-- first grow by the output, and those of the second by a line for each reply.
pub record WritesReplay (p : Profile) (client script : List ℕ)
    (out_old out_new err_old err_new : Option (List ℕ)) : Type 0 where
  pub replies : List ReplyValue
  pub output : List ℕ
  pub replay : IsReplay p client script replies output
  pub out : Appends out_old out_new output
  pub err : Appends err_old err_new (flat_map reply_line replies)
