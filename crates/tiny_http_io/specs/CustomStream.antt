-- The parts of a `CustomStream` that contracts refer to.
use Rattle.tiny_http_io.specs.declared.custom_stream.CustomStream.{CustomStream}

-- the inner reader of a `CustomStream`
abbrev pub custom_reader : {R : Type 0} → {W : Type 0} → CustomStream R W → R
custom_reader s = s.reader

-- the inner writer of a `CustomStream`
abbrev pub custom_writer : {R : Type 0} → {W : Type 0} → CustomStream R W → W
custom_writer s = s.writer
