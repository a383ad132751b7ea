use Rattle.std.proofs.Common.{sym, ◌∙◌, arith}
use Rattle.format.proofs.Chain.{member}
use Rattle.records.proofs.Linked.{walked_none, walked_more, walked_broken, walked_late, walked_done}
use Rattle.records.proofs.chains.chain.Goals as goal

pub loop-k-init : goal.loop-k-init
loop-k-init c = walked_none _ _ _ _ _

pub returns-then-not-is_link : goal.returns-then-not-is_link
returns-then-not-is_link c =
    walked_broken _ _ _ _ _ _ _ _ c.loop-k.invariant c.loop-k-test.true (sym c.is_link.ensures ∙ c.if-not-is_link.true)

pub next_at-r-requires : goal.next_at-r-requires
next_at-r-requires c =
    let s = c.args in
    omega (arith, (member s.file.now s.count s.kind c.loop-k.r (sym c.is_link.ensures ∙ c.if-not-is_link.false)).most)

pub loop-k-preserved : goal.loop-k-preserved
loop-k-preserved c =
    walked_more _ _ _ _ _ _ _ _ c.loop-k.invariant c.loop-k-test.true (omega arith) (sym c.is_link.ensures ∙ c.if-not-is_link.false) _ c.next_at-r.ensures

pub returns-then-r-eq0 : goal.returns-then-r-eq0
returns-then-r-eq0 c = walked_done _ _ _ _ _ _ _ _ c.loop-k.invariant c.loop-k-test.false c.if-r-eq0.true

pub returns-else-r-eq0 : goal.returns-else-r-eq0
returns-else-r-eq0 c = walked_late _ _ _ _ _ _ _ _ c.loop-k.invariant c.loop-k-test.false c.if-r-eq0.false
