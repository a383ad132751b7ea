use mathlib.Core.Path.{◌∙◌}
use lib.ListN.{get_or}
use Rattle.net.proofs.Joins.{grouping_first, grouping_long, grouping_within, grouping_below, noted_long, noted_within, noted_below, grouping_more, grouping_done}
use Rattle.net.proofs.links.put_groups.Goals as goal

pub loop-i-init : goal.loop-i-init
loop-i-init c =
    grouping_first c.args.net.now c.start.new.column c.requires.0 c.requires.1 c.start.ensures

pub note_loop-requires : goal.note_loop-requires
note_loop-requires c =
    let l = c.loop-i in
    let first = c.start.new.column in
    let count = get_or first 1 0 in
    (grouping_long first count l.i l.net l.invariant c.loop-i-test.true, grouping_within first count l.i l.net l.invariant c.loop-i-test.true, grouping_below first count l.i l.net l.invariant c.loop-i-test.true)

pub link-requires : goal.link-requires
link-requires c =
    let l = c.loop-i in
    let first = c.start.new.column in
    let count = get_or first 1 0 in
    let h = c.loop-i-test.true in
    let mid = c.note_loop.new.net in
    let m = c.note_loop.ensures in
    (noted_long first count l.i l.net l.invariant h mid mid m, noted_within first count l.i l.net l.invariant h mid mid m, noted_below first count l.i l.net l.invariant h mid mid m)

pub loop-i-preserved : goal.loop-i-preserved
loop-i-preserved c =
    let l = c.loop-i in
    let first = c.start.new.column in
    let mid = c.note_loop.new.net in
    grouping_more first (get_or first 1 0) l.i l.net l.invariant c.loop-i-test.true mid c.link.new.net c.note_loop.ensures c.link.ensures

pub shape_of-net : goal.shape_of-net
shape_of-net c = c.loop-i.invariant.rest.long ∙ c.start.auto.column

pub returns : goal.returns
returns c =
    let start = c.start in
    let l = c.loop-i in
    grouping_done c.args.net.now start.new.column c.requires.0 c.requires.1 start.ensures (get_or start.new.column 1 0) l.i l.net l.invariant c.loop-i-test.false
