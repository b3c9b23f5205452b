use Rattle.lasp_logset.proofs.FewLaws.{set-after}
use Rattle.lasp_logset.proofs.set.LogSet.add.Goals as goal

pub invariant_of-self-in_err-put_in : goal.invariant_of-self-in_err-put_in
invariant_of-self-in_err-put_in c =
    set-after c.self.inside.rows.entries c.put_in.new.rows.entries c.put_in.new.log.items c.self.inside.chains.newest.entries c.self.inside.chains.older.items c.self.inside.places.newest.entries c.self.inside.places.older.items
    c.self.inside.few.places.items c.self.inside.few.upto c.put_in.ensures.kept c.self.invariant.chained c.self.invariant.found c.self.invariant.seen c.put_in.ensures.stay

pub invariant_of-self-2 : goal.invariant_of-self-2
invariant_of-self-2 c =
    rw c.seal.ensures
    (set-after c.self.inside.rows.entries c.put_in.new.rows.entries c.put_in.new.log.items c.self.inside.chains.newest.entries c.self.inside.chains.older.items c.self.inside.places.newest.entries c.self.inside.places.older.items
    c.self.inside.few.places.items c.self.inside.few.upto c.put_in.ensures.kept c.self.invariant.chained c.self.invariant.found c.self.invariant.seen c.put_in.ensures.stay)
