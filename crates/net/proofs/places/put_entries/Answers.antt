use mathlib.Core.Path.{◌≡◌}
use native.Mathlib.Omega.{arith}
use Rattle.format.specs.Circuit.{no_entry}
use Rattle.net.specs.Net.{net_entry}
use Rattle.net.proofs.Only.{put_none}
use Rattle.net.proofs.Rows.{entry_more}
use Rattle.net.proofs.places.put_entries.Goals as goal

pub loop-i-init : goal.loop-i-init
loop-i-init c =
    (omega arith, put_none 400 592 net_entry no_entry c.args.schedule c.args.net.now)

pub put_entry-requires : goal.put_entry-requires
put_entry-requires c =
    let l = c.loop-i in
    (l.invariant.0, omega arith, c.requires.2 l.i (omega arith))

pub loop-i-preserved : goal.loop-i-preserved
loop-i-preserved c =
    let l = c.loop-i in
    let turn =
    entry_more c.args.schedule l.i c.args.net.now l.net c.put_entry.new.net l.invariant.0 (omega arith) l.invariant.1 c.put_entry.ensures in
    turn

pub returns : goal.returns
returns c =
    let l = c.loop-i in
    let done : l.i ≡ c.args.count = omega arith in
    rw done at l.invariant.1
