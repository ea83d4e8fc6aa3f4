use Rattle.std.proofs.Common.{◌≡◌, ◌<◌, take, true}
use Rattle.std.specs.Prelude.{◌^◌}
use Rattle.std.specs.Str.{all_ascii_digits}
use Rattle.std.specs.Str.Parse.{digits_value}
use Rattle.tiny_http_head.proofs.content_length.number_in.Given as goal

abbrev pub invariant-loop-digit : goal.invariant-loop-digit
invariant-loop-digit l = record {
  number : l.number ≡ digits_value 10 (take l.digit-index l.text);
  within : l.number < 2 ^ 64;
  digits : all_ascii_digits (take l.digit-index l.text) ≡ true;
}
