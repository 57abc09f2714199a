use Rattle.std.proofs.Common.{◌-◌, arith}
use Rattle.wf_io.proofs.Listings.{listing-more}
use Rattle.wf_io.proofs.entries.entries_below.Goals as goal

pub loop-i-preserved-in_ok-insert : goal.loop-i-preserved-in_ok-insert
loop-i-preserved-in_ok-insert c =
    let more = listing-more c.args.files.now c.args.dir.now (c.loop-i.i - 1) c.loop-i.i c.index-files-i.result c.in-Some.entry (omega arith) (omega arith) c.index-files-i.is (cc c.in_ok-entry.ensures) in
    cc (c.in_ok-insert.ensures.keys)
