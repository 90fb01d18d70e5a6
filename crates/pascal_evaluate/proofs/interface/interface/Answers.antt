use Rattle.pascal_evaluate.specs.SeenStore.{situation, all_given}
use Rattle.pascal_evaluate.proofs.Answered.{are_refused, row_refused}
use Rattle.pascal_evaluate.proofs.interface.interface.Goals as goal

pub returns-in-Read : goal.returns-in-Read
returns-in-Read c limit = rw c.in-Read.is (c.read.ensures limit)

pub returns-in-Write : goal.returns-in-Write
returns-in-Write c limit = rw c.in-Write.is (c.write.ensures c.args.text.now limit)

pub returns-in-WriteInt : goal.returns-in-WriteInt
returns-in-WriteInt c limit = rw c.in-WriteInt.is (c.write_number.ensures c.args.text.now limit)

pub returns-in-Display : goal.returns-in-Display
returns-in-Display c limit = rw c.in-Display.is (c.display.ensures c.args.text.now limit)

pub returns-in-Put : goal.returns-in-Put
returns-in-Put c limit = rw c.in-Put.is (c.put.ensures c.args.text.now limit)

pub returns-in-Accept : goal.returns-in-Accept
returns-in-Accept c limit =
    row_refused c.args.text.now c.args.procedure (all_given c.args.given.now) (situation c.args.run.now) limit (are_refused c.args.procedure c.in-Accept.is)
