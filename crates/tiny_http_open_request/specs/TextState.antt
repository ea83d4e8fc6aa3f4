-- The parts of a `DropText`, a text that hasn't been printed yet, that contracts refer to.
use Rattle.std.specs.Prelude.{ℕ, Bool, List, [], if◌then◌else◌}
use Rattle.httpdate.specs.declared.date.HttpDate.{HttpDate}
use Rattle.tiny_http_response.specs.declared.response_context.ResponseContext.{ResponseContext}
use Rattle.tiny_http_response.specs.ResponseValue.{printing_in}
use Rattle.tiny_http_open_request.specs.ErrorResponse.{own_text_by}

pub record TextState : Type 0 where
  pub is_taken : Bool
  pub date : HttpDate

-- the text that is sent if a request is dropped: an empty 500, or no bytes once that text was taken
abbrev pub drop_text : TextState → ResponseContext → List ℕ
drop_text t context = if t.is_taken then [] else own_text_by 500 (printing_in context t.date)
