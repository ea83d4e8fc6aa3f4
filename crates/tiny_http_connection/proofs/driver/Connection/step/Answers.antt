use Rattle.std.proofs.Common.{sym}
use Rattle.tiny_http_connection.proofs.driver.Connection.step.Goals as goal

pub returns-in-Read : goal.returns-in-Read
returns-in-Read g c = record { step = rw c.in-Read.is (c.read.ensures.step c.args.timed.now); meets = rw c.in-Read.is c.read.ensures.whole }

pub returns-in-Drop : goal.returns-in-Drop
returns-in-Drop g c = record { step = rw c.in-Drop.is (c.drop_request.ensures.step c.args.timed.now); meets = rw c.in-Drop.is tt }

pub returns-in-IntoWriter : goal.returns-in-IntoWriter
returns-in-IntoWriter g c = record { step = rw c.in-IntoWriter.is (c.into_writer.ensures.step c.args.timed.now); meets = rw c.in-IntoWriter.is tt }

pub returns-in-Flush : goal.returns-in-Flush
returns-in-Flush g c = record { step = rw c.in-Flush.is (c.flush.ensures.step c.args.timed.now); meets = rw c.in-Flush.is tt }

pub returns-in-Finish : goal.returns-in-Finish
returns-in-Finish g c = record { step = rw c.in-Finish.is (c.finish.ensures.step c.args.timed.now); meets = rw c.in-Finish.is tt }

pub returns-in-Write : goal.returns-in-Write
returns-in-Write g c = record { step = rw c.in-Write.is (c.write.ensures.step c.args.timed.now c.in-Write.bytes (sym c.deref.ensures.value)); meets = rw c.in-Write.is tt }

pub returns-in-Upgrade : goal.returns-in-Upgrade
returns-in-Upgrade g c = record { step = rw c.in-Upgrade.is (c.upgrade.ensures.step c.in-Upgrade.protocol (sym c.deref-in-Upgrade.ensures)); meets = rw c.in-Upgrade.is tt }
