use Rattle.lasp_script.proofs.MarkLaws.{marks-insert}
use Rattle.lasp_script.proofs.marks.Marks.with.Goals as goal

pub returns : goal.returns
returns c =
    rw (← c.self.view_is)
    (marks-insert c.in_ok-from_str.field-0 c.args.var c.self.inside.vars.entries c.insert.new.self.entries c.args.name.now c.in_ok-from_str.ensures.ok (rw c.self.view_is c.requires.new) c.in_ok-insert.ensures.entries)
