-- What can be read from and written to the OS sockets: for streams, their bytes are up to the OS. calloop leaves both to the
-- type of the socket.
use Rattle.std.specs.Prelude.{ℕ, Bool, true, false, List, [], Option, Some, None}
use Rattle.calloop_mio.specs.declared.sockets.MioIo.{MioIo}
use Rattle.calloop_mio.specs.declared.sockets.MioIo.TheVariants.{
  TcpListener as OfTcpListener,
  TcpStream as OfTcpStream,
  UdpSocket as OfUdpSocket,
  UnixListener as OfUnixListener,
  UnixStream as OfUnixStream,
}

-- true if the socket can be read and written
abbrev pub is_stream : MioIo → Bool
is_stream (OfTcpListener listener) = false
is_stream (OfTcpStream stream) = true
is_stream (OfUdpSocket socket) = false
is_stream (OfUnixListener listener) = false
is_stream (OfUnixStream stream) = true

-- the bytes that a socket will return to reads, and those that it took of writes, if they are known: a listener and a UDP
-- socket give and take none
abbrev pub known_bytes : MioIo → Option (List ℕ)
known_bytes (OfTcpListener listener) = Some []
known_bytes (OfTcpStream stream) = None
known_bytes (OfUdpSocket socket) = Some []
known_bytes (OfUnixListener listener) = Some []
known_bytes (OfUnixStream stream) = None
