-- Whether a response says that its connection closes, and whether a client reads that.
use Rattle.std.specs.Prelude.{◌≡◌, Bool, false, ◌&&◌, List, [], ◌∷◌, ⊤, Some, codes}
use Rattle.tiny_http_open_request.specs.Pipeline.{Item, Asks, Refuses}
use Rattle.tiny_http_response.specs.Answer.{has_header}
use Rattle.tiny_http_standard_head.specs.Lists.{has_element}
use Rattle.tiny_http_client.specs.ClientAnswer.{ClientAnswer}
use Rattle.tiny_http_body.specs.declared.framing.Profile.TheVariants.{Standard}
use Rattle.tiny_http_connection_laws.specs.ClientReads.{CanBeReadAt, stage_answer}
use Rattle.tiny_http_connection.specs.Segments.{Slot, Stage, Unanswered, Answered, ByServer, Raw, Upgraded}

-- whether a response is printed with `close`, as `printing_for` (`tiny_http_connection`) determines: under Standard in
-- an error response to a refused head, and in the response to a request if `closes` holds
abbrev pub is_close_printed : Bool → Item → Bool
is_close_printed closes (Asks r) = r.framing.by_standard && closes
is_close_printed closes (Refuses refusal manner no_body last) = manner.by_standard

abbrev pub says_close_by : Bool → Item → Stage → Bool
says_close_by closes item Unanswered = false
says_close_by closes item (Answered response date found) = is_close_printed closes item
says_close_by closes item ByServer = is_close_printed closes item
says_close_by closes item (Raw written ends) = false
says_close_by closes item (Upgraded protocol response date written ends) = false

-- whether the response of this slot's number was made, and says that the connection closes
abbrev pub says_close : Slot → Bool
says_close s = says_close_by s.closes s.item s.stage

-- NO NUMBER FOLLOWS one whose response says that the connection closes.
abbrev pub NoneFollowsClose : List Slot → Type 0
NoneFollowsClose [] = ⊤
NoneFollowsClose (s ∷ []) = ⊤
NoneFollowsClose (s ∷ t ∷ slots) = (says_close s ≡ false) × NoneFollowsClose (t ∷ slots)

-- whether a client reads in a response that the connection closes: its Connection headers have the element close
abbrev pub reads_close : ClientAnswer → Bool
reads_close a = has_element (codes "Connection") (codes "close") a.head.headers

-- whether the header list of the response that answers a number has no Connection, as holds for each response of the
-- program
abbrev pub OwnsNoConnection : Stage → Type 0
OwnsNoConnection (Answered response date found) = has_header response.answer.headers (codes "Connection") ≡ false
OwnsNoConnection _ = ⊤

-- WHAT A CLIENT READS under Standard in a number's response, if that is whole, can be read and has no Connection in its
-- header list: that the connection closes, exactly if the response says so.
abbrev pub IsReadAsSaid : Slot → Type 0
IsReadAsSaid s =
    CanBeReadAt Standard s
    → OwnsNoConnection s.stage
    → (a : ClientAnswer)
    → stage_answer s s.stage ≡ Some a
    → reads_close a ≡ says_close s
