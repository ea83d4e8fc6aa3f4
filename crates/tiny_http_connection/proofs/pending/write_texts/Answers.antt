use Rattle.tiny_http_connection.proofs.PendingLemmas.{passes-on}
use Rattle.tiny_http_connection.proofs.pending.write_texts.Goals as goal

pub returns : goal.returns
returns g c =
    let h = passes-on _ _ _ c.pass_on.ensures in
    record { passes = h.0; counts = h.1; fails_once = h.2; keeps = h.3 }
