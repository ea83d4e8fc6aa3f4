-- The request for a WebSocket (RFC 6455, section 4.2.1).
use Rattle.std.specs.Prelude.{◌≡◌, ℕ, Bool, List, count_by, Some, true, codes}
use Rattle.websocket.specs.Handshake.{IsValidKey}
use Rattle.tiny_http_wire.specs.declared.common.Method.TheVariants.{Get}
use Rattle.tiny_http_wire.specs.Heads.{version}
use Rattle.tiny_http_open_request.specs.declared.exchange.Head.{Head}
use Rattle.tiny_http_head.specs.Common.{same_name}
use Rattle.tiny_http_head.specs.declared.common.Header.{Header}
use Rattle.tiny_http_body.specs.Framing.{value_of}
use Rattle.tiny_http_request.specs.Request.{asks_for}

-- whether a header has this name
abbrev pub has_name : List ℕ → Header → Bool
has_name name header = same_name header.field name

-- Whether a head asks for a WebSocket with this key, the only one in the head.
pub record AsksForWebSocket (head : Head) (key : List ℕ) : Type 0 where
  pub method : head.method ≡ Get
  pub in_version : head.version ≡ version 1 1
  pub upgrades : asks_for head (codes "websocket") ≡ true
  pub by_version : value_of (codes "Sec-WebSocket-Version") head.headers.items ≡ Some (codes "13")
  pub one_key : count_by (has_name (codes "Sec-WebSocket-Key")) head.headers.items ≡ 1
  pub by_key : value_of (codes "Sec-WebSocket-Key") head.headers.items ≡ Some key
  pub valid : IsValidKey key
