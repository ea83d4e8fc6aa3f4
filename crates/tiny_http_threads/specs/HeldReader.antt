-- The parts of a `HeldReader` that contracts refer to.
use Rattle.tiny_http_threads.specs.declared.held_reader.HeldReader.{HeldReader}

-- the inner reader of a `HeldReader`, a reader whose turn has come
abbrev pub held_item : {I : Type 0} → {R : Type 0} → HeldReader I R → I
held_item r = r.turn.item.value
