-- The result of `recv` for a message from the server's queue.
use Rattle.std.specs.Prelude.{Option, Some, None, Result, Ok, Err}
use Rattle.std.specs.declared.io.Error.{Error as IoError}
use Rattle.tiny_http_socket.specs.declared.refined_tcp_stream.RefinedTcpStream.{RefinedTcpStream}
use Rattle.tiny_http_socket.specs.declared.cork.FlushingReader.{FlushingReader}
use Rattle.tiny_http_socket.specs.declared.cork.CorkedWriter.{CorkedWriter}
use Rattle.tiny_http_socket.specs.declared.timed_reader.TimedReader.{TimedReader}
use Rattle.tiny_http_socket.specs.declared.timed_writer.TimedWriter.{TimedWriter}
use Rattle.tiny_http_request.specs.declared.request.Request.{Request}
use Rattle.tiny_http.specs.declared.accepting.Message.{Message}
use Rattle.tiny_http.specs.declared.accepting.Message.TheVariants.{Error, NewRequest, NewClient}

-- the request or the error that was popped, or `None` for an unblock mark, an empty queue, or a client that is to be
-- served
abbrev pub received : {R : Type 0} → Option (Message R)
    → Result
    (Option (Request (TimedReader (FlushingReader RefinedTcpStream (TimedWriter R)) R)
    (CorkedWriter (TimedWriter R) R) R))
    IoError
received (Some (Error fault)) = Err fault
received (Some (NewRequest request)) = Ok (Some request)
received (Some (NewClient client)) = Ok None
received None = Ok None
