use Rattle.std.proofs.Common.{◌≡◌, ◌++◌, take, drop}
use Rattle.tiny_http_response.specs.AddHeader.{with_value}
use Rattle.tiny_http_response.proofs.add_header.replace_value.Given as goal

-- no header has the name so far
abbrev pub invariant-loop-header : goal.invariant-loop-header
invariant-loop-header l = record {
  same : l.headers ≡ l.initial.headers;
  value : l.value ≡ l.initial.value;
  passed : with_value l.name l.value l.headers ≡ take l.header-index l.headers ++ with_value l.name l.value (drop l.header-index l.headers);
}
