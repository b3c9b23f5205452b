use Rattle.std.proofs.Common.{ap, sym, ◌∙◌, length}
use Rattle.lasp_log.proofs.LogLaws.{joined-sealed}
use Rattle.lasp_log.proofs.log.Log.seal_from.Goals as goal

pub invariant_of-self-in-Ok : goal.invariant_of-self-in-Ok
invariant_of-self-in-Ok g c =
    rw (c.push_reserved.ensures.items, c.reserve.ensures.items, c.in-Ok.ensures.ok, c.replace-items.ensures.value, c.replace-items.ensures.after, c.new.ensures.items)
    (c.self.invariant.0 ∙ ap length (sym (joined-sealed c.self.inside.sealed.items c.self.inside.newest.items)), c.self.invariant.1)

pub returns-in-Ok : goal.returns-in-Ok
returns-in-Ok g c =
    rw (← c.self.view_is, c.push_reserved.ensures.items, c.reserve.ensures.items, c.in-Ok.ensures.ok, c.replace-items.ensures.value, c.replace-items.ensures.after, c.new.ensures.items)
    (joined-sealed c.self.inside.sealed.items c.self.inside.newest.items)
