use Rattle.std.proofs.Common.{◌≡◌, ◌+◌, ◌<◌, ◌≤◌, ◌^◌, false, length, drop}
use Rattle.std.specs.Fmt.{digits}
use Rattle.std.specs.Str.{IsAscii}
use Rattle.tiny_http_text.proofs.NumberLemmas.{spelled}
use Rattle.tiny_http_text.proofs.number.Numeral.in_base.Given as goal

abbrev pub invariant-loop-rest : goal.invariant-loop-rest
invariant-loop-rest l = record {
  size : length l.buffer ≡ 20;
  within : l.start ≤ 19;
  small : l.rest < 10 ^ (l.start + 1);
  ascii : IsAscii (drop (l.start + 1) l.buffer);
  text : digits l.base false l.number ≡ spelled (45 + l.start) l.base l.rest (drop (l.start + 1) l.buffer);
}

abbrev pub decreases-loop-rest : goal.decreases-loop-rest
decreases-loop-rest l = l.start
