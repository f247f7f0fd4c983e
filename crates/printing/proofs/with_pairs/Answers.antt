-- `with_pairs` meets its contract: each byte's pair goes behind the last.
use Rattle.printing.proofs.Printed.{byte_more}
use Rattle.printing.proofs.with_pairs.Goals as goal

pub loop-b-preserved : goal.loop-b-preserved
loop-b-preserved c =
    let l = c.loop-b in
    simp (c.with_pair-longer.ensures, l.invariant) (byte_more c.args.bytes.now l.b-index _ c.loop-b-test.true)
