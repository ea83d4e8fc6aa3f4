use Rattle.std.proofs.Common.{◌≡◌, ap, ◌<◌, get_or, Some, rules}
use Rattle.std.proofs.Output.{has_written_append, has_written_of_eq}
use Rattle.std.specs.Fmt.{styled_digits_output, DisplaysOnOk}
use Rattle.replay_script.specs.Reply.{hex_byte}
use Rattle.replay_script.proofs.ReplyHex.{byte_is, bytes_more}
use Rattle.replay_script.proofs.reply.BytesDisplay.fmt.Goals as goal

pub loop-byte-preserved : goal.loop-byte-preserved
loop-byte-preserved g c = λ plain.
    let bytes = c.args.self.now.0.now in
    let i = c.loop-byte.byte-index in
    let so_far = c.loop-byte.invariant plain in
    let small : get_or bytes i 0 < 256 = search rules in
    let text : styled_digits_output c.in_radix.result c.laid_out.result ≡ Some (hex_byte (get_or bytes i 0)) = rw (c.laid_out.ensures, c.in_radix.ensures) (ap Some (byte_is (get_or bytes i 0) small)) in
    let wrote : DisplaysOnOk g.W.Write.write_str_gives c.loop-byte.f c.write-in-loop-byte.result (Some (hex_byte (get_or bytes i 0))) c.write-in-loop-byte.new.self = rw text at c.write-in-loop-byte.ensures.writes in
    has_written_of_eq _ _ _ _ _ (bytes_more bytes i c.loop-byte-test.true) (has_written_append _ _ _ _ _ _ so_far (wrote so_far.plain (search rules)))
