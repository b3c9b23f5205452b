use Rattle.lasp_call.proofs.ending.tell.tell_failure.Goals as goal

pub returns-in-ReadFault-clause-told : goal.returns-in-ReadFault-clause-told
returns-in-ReadFault-clause-told g c = rw (c.in-ReadFault.is, ← c.word.ensures) c.tell.ensures.told

pub returns-in-Memory-clause-told : goal.returns-in-Memory-clause-told
returns-in-Memory-clause-told g c = rw c.in-Memory.is c.tell-in-Memory.ensures.told
