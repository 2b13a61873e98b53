use Rattle.std.proofs.Common.{rules}
use Rattle.sei_pass.proofs.LoopLaws.{asks_at, leads_at, alone_at}
use Rattle.sei_pass.proofs.frame.Frame.lead.Goals as goal

pub returns-then-eq-clause-led : goal.returns-then-eq-clause-led
returns-then-eq-clause-led g c = λ s notes t b.
    leads_at _ _ _ _ _ _ _ _ c.next-place.result (asks_at _ _ _ _ _ _ _ _ _ t c.in-Some.ensures.found b (c.in-Next.ensures.tree s notes)) c.next-place.ensures (search rules)

pub returns-else-eq-clause-led : goal.returns-else-eq-clause-led
returns-else-eq-clause-led g c = λ s notes t b.
    (_, _, asks_at _ _ _ _ _ _ _ _ _ t c.in-Some.ensures.found b (c.in-Next.ensures.tree s notes), c.next-place.ensures)

pub returns-in-Halted-clause-led : goal.returns-in-Halted-clause-led
returns-in-Halted-clause-led g c = λ s notes t b. asks_at _ _ _ _ _ _ _ _ _ t c.in-Some.ensures.found b (c.in-Halted.ensures.tree s notes)

pub returns-in-Bad-clause-led : goal.returns-in-Bad-clause-led
returns-in-Bad-clause-led g c = λ s notes t b. asks_at _ _ _ _ _ _ _ _ _ t c.in-Some.ensures.found b (c.in-Bad.ensures.tree s notes)

pub returns-in-Struck-clause-led : goal.returns-in-Struck-clause-led
returns-in-Struck-clause-led g c = λ s notes t b. asks_at _ _ _ _ _ _ _ _ _ t c.in-Some.ensures.found b (c.in-Struck.ensures.tree s notes)

pub returns-in-Alone-clause-led : goal.returns-in-Alone-clause-led
returns-in-Alone-clause-led g c = λ s notes t b. alone_at _ s c.args.phase c.args.index _ c.in-Some.statement _ _ _ (c.in-Alone.ensures.tree s notes)
