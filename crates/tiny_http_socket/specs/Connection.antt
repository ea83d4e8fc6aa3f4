-- Definitions for contracts about sockets and their addresses: the kind (TCP or Unix), the copy of a configured
-- address, and the text of an address.
use Rattle.std.specs.Prelude.{◌≡◌, ℕ, List, Option, Some, None, ⊤}
use Rattle.std.specs.declared.net.socket_addr.SocketAddr.{SocketAddr}
use Rattle.std.specs.declared.net.unix.addr.SocketAddr.{SocketAddr as UnixAddr}
use Rattle.std.specs.Path.{path_buf_bytes}
use Rattle.std.specs.Net.Text.{socket_text}
use Rattle.tiny_http_socket.specs.declared.connection.Listener.{Listener}
use Rattle.tiny_http_socket.specs.declared.connection.Listener.TheVariants as L
use Rattle.tiny_http_socket.specs.declared.connection.Connection.{Connection}
use Rattle.tiny_http_socket.specs.declared.connection.Connection.TheVariants as C
use Rattle.tiny_http_socket.specs.declared.connection.ConfigListenAddr.{ConfigListenAddr}
use Rattle.tiny_http_socket.specs.declared.connection.ConfigListenAddr.TheVariants as G
use Rattle.tiny_http_socket.specs.declared.connection.ListenAddr.{ListenAddr}
use Rattle.tiny_http_socket.specs.declared.connection.ListenAddr.TheVariants as A

-- whether a copy has the same addresses in the same order, or the same path
abbrev pub IsCopyOf : ConfigListenAddr → ConfigListenAddr → Type 0
IsCopyOf (G.IP addrs) (G.IP copy) = copy.items ≡ addrs.items
IsCopyOf (G.IP addrs) (G.Unix path) = ⊥
IsCopyOf (G.Unix path) (G.IP addrs) = ⊥
IsCopyOf (G.Unix path) (G.Unix copy) = path_buf_bytes copy ≡ path_buf_bytes path

-- whether a listener is of the kind that this configuration asks for
abbrev pub IsBoundAs : ConfigListenAddr → Listener → Type 0
IsBoundAs (G.IP addrs) (L.Tcp l) = ⊤
IsBoundAs (G.IP addrs) (L.Unix l) = ⊥
IsBoundAs (G.Unix path) (L.Tcp l) = ⊥
IsBoundAs (G.Unix path) (L.Unix l) = ⊤

-- whether an address is of the same kind as this listener
abbrev pub HasAddressOf : Listener → ListenAddr → Type 0
HasAddressOf (L.Tcp l) (A.IP addr) = ⊤
HasAddressOf (L.Tcp l) (A.Unix addr) = ⊥
HasAddressOf (L.Unix l) (A.IP addr) = ⊥
HasAddressOf (L.Unix l) (A.Unix addr) = ⊤

-- whether a connection can have this peer address, given its kind: a TCP connection has one, and a Unix socket has none
abbrev pub HasPeerOf : Connection → Option SocketAddr → Type 0
HasPeerOf (C.Tcp s) (Some addr) = ⊤
HasPeerOf (C.Tcp s) None = ⊥
HasPeerOf (C.Unix s) (Some addr) = ⊥
HasPeerOf (C.Unix s) None = ⊤

-- whether two connections are of the same kind
abbrev pub IsSameKind : Connection → Connection → Type 0
IsSameKind (C.Tcp s) (C.Tcp t) = ⊤
IsSameKind (C.Tcp s) (C.Unix t) = ⊥
IsSameKind (C.Unix s) (C.Tcp t) = ⊥
IsSameKind (C.Unix s) (C.Unix t) = ⊤

-- whether a connection is of the same kind as the listener that accepted it, and has a peer address exactly if it is
-- TCP
abbrev pub IsAcceptedBy : Listener → Connection → Option SocketAddr → Type 0
IsAcceptedBy (L.Tcp l) (C.Tcp s) addr = HasPeerOf (C.Tcp s) addr
IsAcceptedBy (L.Tcp l) (C.Unix s) addr = ⊥
IsAcceptedBy (L.Unix l) (C.Tcp s) addr = ⊥
IsAcceptedBy (L.Unix l) (C.Unix s) addr = HasPeerOf (C.Unix s) addr

-- the IP address and port of a listener, if it is TCP
abbrev pub ip_of : ListenAddr → Option SocketAddr
ip_of (A.IP addr) = Some addr
ip_of (A.Unix addr) = None

-- the address of a listener, if it is a Unix socket
abbrev pub unix_of : ListenAddr → Option UnixAddr
unix_of (A.IP addr) = None
unix_of (A.Unix addr) = Some addr

-- the text of an IP address and port; the text of a Unix socket's address is not stated
abbrev pub address_text : ListenAddr → Option (List ℕ)
address_text (A.IP addr) = Some (socket_text addr)
address_text (A.Unix addr) = None
