-- Copies of a server's settings.
use Rattle.std.specs.Prelude.{◌≡◌, Option, Some, None, ⊤}
use Rattle.tiny_http_socket.specs.Connection.{IsCopyOf}
use Rattle.tiny_http.specs.declared.server.SslConfig.{SslConfig}
use Rattle.tiny_http.specs.declared.server.ServerConfig.{ServerConfig}

-- Whether two TLS settings have the same certificate and the same key.
pub record IsSslCopy (old copy : SslConfig) : Type 0 where
  pub certificate : copy.certificate.items ≡ old.certificate.items
  pub private_key : copy.private_key.items ≡ old.private_key.items

-- whether both TLS settings are absent, or the second are a copy of the first
abbrev pub IsSslCopyIf : Option SslConfig → Option SslConfig → Type 0
IsSslCopyIf None None = ⊤
IsSslCopyIf None (Some copy) = ⊥
IsSslCopyIf (Some old) None = ⊥
IsSslCopyIf (Some old) (Some copy) = IsSslCopy old copy

-- Whether two settings have the same address and the same TLS settings.
pub record IsConfigCopy (old copy : ServerConfig) : Type 0 where
  pub addr : IsCopyOf old.addr copy.addr
  pub ssl : IsSslCopyIf old.ssl copy.ssl
