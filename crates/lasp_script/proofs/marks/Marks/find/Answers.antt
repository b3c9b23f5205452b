use Rattle.lasp_script.proofs.MarkLaws.{mark_of-keys, marked-entry}
use Rattle.lasp_script.proofs.marks.Marks.find.Goals as goal

pub returns-in-None-clause-number : goal.returns-in-None-clause-number
returns-in-None-clause-number c = rw (← c.self.view_is, ← mark_of-keys c.args.name.now c.self.inside.vars.entries) c.in-None.ensures.index

pub returns-in-Some-clause-number : goal.returns-in-Some-clause-number
returns-in-Some-clause-number c = rw (← c.self.view_is, ← mark_of-keys c.args.name.now c.self.inside.vars.entries) c.in-Some.ensures.index

pub returns-in-Some-clause-var : goal.returns-in-Some-clause-var
returns-in-Some-clause-var c = rw (← c.self.view_is) (marked-entry c.self.inside.vars.entries c.in-Some.number _ c.in-Some.var.now c.in-Some.ensures.entry)
