use Rattle.std.proofs.Common.{◌≡◌, ◌++◌, drop}
use Rattle.std.specs.Prelude.{codes}
use Rattle.tiny_http_files.specs.Listing.{lines_of}
use Rattle.tiny_http_files.specs.declared.listing.TheConstants.{ENCODED}
use Rattle.tiny_http_files.proofs.listing.listing.Given as goal

abbrev pub invariant-loop-name : goal.invariant-loop-name
invariant-loop-name l = l.html.items ++ lines_of ENCODED (drop l.name-index l.names) ≡ codes "<!doctype html>\n<ul>\n" ++ lines_of ENCODED l.names
