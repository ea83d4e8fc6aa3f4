-- Responses as values, their texts, and how they are printed.
use Rattle.std.specs.Prelude.{ℕ, Bool, List, length, Option, Some, None}
use Rattle.httpdate.specs.declared.date.HttpDate.{HttpDate}
use Rattle.tiny_http_head.specs.declared.common.HTTPVersion.{HTTPVersion}
use Rattle.tiny_http_head.specs.declared.common.Header.{Header}
use Rattle.tiny_http_response.specs.declared.response_context.ResponseContext.{ResponseContext}
use Rattle.tiny_http_response.specs.declared.response_context.Persistence.{Persistence}
use Rattle.tiny_http_response.specs.declared.coding.Coding.{Coding}
use Rattle.tiny_http_io.specs.Device.{Feed, whole_feed}
use Rattle.tiny_http_body.specs.Text.{Text}
use Rattle.tiny_http_response.specs.Answer.{Answer, Printing, answer_with, text_of}

-- A response as a value: the answer, and the feed of its data.
pub record ResponseValue : Type 0 where
  pub answer : Answer
  pub content : Feed

-- the response with this status code and these headers, whose data are this text
abbrev pub response_of : ℕ → List Header → List ℕ → ResponseValue
response_of status headers text =
    record { answer = answer_with status headers (length text); content = whole_feed text }

abbrev pub response_text : ResponseValue → Printing → Text
response_text r p = text_of r.answer r.content p

-- how a response without an upgrade is printed to a request of this version that asks for this coding, if any;
-- `no_body` says whether the request is a HEAD, and `persistence`, under `Standard`, what the response says about its
-- connection
abbrev pub printing_to : Option Coding → HTTPVersion → Bool → Option Persistence → HttpDate → Printing
printing_to asked version no_body persistence date =
    record {
      version = version;
      asked_coding = asked;
      no_body = no_body;
      persistence = persistence;
      upgrade = None;
      date = date;
    }

-- how a response is printed in this context, without an upgrade
abbrev pub printing_in : ResponseContext → HttpDate → Printing
printing_in context date = printing_to context.asked_coding context.version context.no_body context.persistence date

-- how a response is printed in this context, with an upgrade to this protocol, if there is one
abbrev pub printing_with : ResponseContext → Option (List ℕ) → HttpDate → Printing
printing_with context upgrade date = record (printing_in context date) { upgrade = upgrade }

-- this printing with an upgrade to this protocol
abbrev pub upgrading : List ℕ → Printing → Printing
upgrading protocol p = record p { upgrade = Some protocol }

-- the text of a response that upgrades to this protocol: its head alone, or nothing if the protocol isn't ASCII
abbrev pub upgrade_text : ResponseValue → List ℕ → Printing → List ℕ
upgrade_text r protocol p = (response_text r (upgrading protocol p)).bytes
