-- Two results of one promise are what the rules say, both.
use mathlib.Core.Path.{sym, ◌∙◌}
use Rattle.promises.specs.OneResult.{OnePowerOn, OneEvent, OneLentEvent, OneBlock, OneOrigin}

pub one-power_on : OnePowerOn
one-power_on node identity j r s p q = p ∙ sym q

pub one-event : OneEvent
one-event d j e bytes length r s k l p q = (p.0 ∙ sym q.0, p.1 ∙ sym q.1)

pub one-lent-event : OneLentEvent
one-lent-event d j h r s a b k l p q = (p.0 ∙ sym q.0, p.1 ∙ sym q.1, p.2 ∙ sym q.2)

pub one_block : OneBlock
one_block block place r s p q = p ∙ sym q

pub one_origin : OneOrigin
one_origin j index subindex r s p q = p ∙ sym q
