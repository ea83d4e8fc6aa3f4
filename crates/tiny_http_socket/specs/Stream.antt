-- The parts of a half of a client's connection that contracts refer to.
use Rattle.std.specs.Prelude.{◌≡◌, [], Some, None, ⊤, false, Option}
use Rattle.std.specs.declared.net.Shutdown.{Shutdown}
use Rattle.std.specs.declared.net.Shutdown.TheVariants.{Read, Write}
use Rattle.std.specs.declared.net.socket_addr.SocketAddr.{SocketAddr}
use Rattle.tiny_http_io.specs.Device.{Sink}
use Rattle.tiny_http_socket.specs.Connection.{HasPeerOf}
use Rattle.tiny_http_socket.specs.Cork.{fresh_sink}
use Rattle.tiny_http_socket.specs.declared.connection.Connection.{Connection}
use Rattle.tiny_http_socket.specs.declared.connection.Connection.TheVariants as C
use Rattle.tiny_http_socket.specs.declared.refined_tcp_stream.Half.{Half}
use Rattle.tiny_http_socket.specs.declared.refined_tcp_stream.Half.TheVariants.{Reading, Writing}
use Rattle.tiny_http_socket.specs.declared.refined_tcp_stream.RefinedTcpStream.{RefinedTcpStream}

-- the way to shut down this direction alone
abbrev pub shutdown_of : Half → Shutdown
shutdown_of Reading = Read
shutdown_of Writing = Write

-- the sink of a half as a writer: its failures and the kind of the last one, and no bytes
abbrev pub stream_sink : RefinedTcpStream → Sink
stream_sink s = record { taken = None; sent = []; failures = s.failures; last_kind = s.last; has_ended = false }

-- the connection that a half shares with the other half
abbrev pub connection_of : RefinedTcpStream → Connection
connection_of s = s.connection.value

-- Whether a stream is the read half of this connection, which shuts down the direction from the client, and has counted
-- no failure.
pub record IsReadingHalf (connection : Connection) (s : RefinedTcpStream) : Type 0 where
  pub half : s.half ≡ Reading
  pub same : connection_of s ≡ connection
  pub sink : stream_sink s ≡ fresh_sink

-- Whether a stream is the write half of this connection, which shuts down the direction to the client, and has counted
-- no failure.
pub record IsWritingHalf (connection : Connection) (s : RefinedTcpStream) : Type 0 where
  pub half : s.half ≡ Writing
  pub same : connection_of s ≡ connection
  pub sink : stream_sink s ≡ fresh_sink

-- whether a half can have this peer address, given the kind of its connection: a TCP connection has one, and a Unix
-- socket has none
abbrev pub HasSamePeer : RefinedTcpStream → Option SocketAddr → Type 0
HasSamePeer s addr = HasPeerOf (connection_of s) addr

-- whether a connection may have this peer address: a TCP connection may have any or none, and a Unix socket has none
abbrev pub MayHavePeerOf : Connection → Option SocketAddr → Type 0
MayHavePeerOf (C.Tcp s) addr = ⊤
MayHavePeerOf (C.Unix s) None = ⊤
MayHavePeerOf (C.Unix s) (Some addr) = ⊥

-- whether a half may have this peer address: a half of a TCP connection may have any or none, and a half of a Unix
-- socket has none
abbrev pub MayHavePeer : RefinedTcpStream → Option SocketAddr → Type 0
MayHavePeer s addr = MayHavePeerOf (connection_of s) addr
