use Rattle.std.proofs.Common.{◌≡◌, ◌-◌, ◌↔◌, nat_lt, IsTrue, List, ◌++◌, length, slice_get, ap, subst, ◌∙◌}
use Rattle.lasp_replica.specs.History.{Growth, version_before}
use Rattle.lasp_replica.specs.Kept.{Kept}
use Rattle.lasp_replica.proofs.KeptLaws.{last-tells}
use Rattle.lasp_replica.proofs.history.History.is_still_since.Goals as goal

pub returns-in-Some : goal.returns-in-Some
returns-in-Some c =
    let growths : c.self.inside.growths.items ≡ c.args.self.now.history.growths = ap (λ (k : Kept). k.history.growths) c.self.view_is in
    let last = last-tells c.args.n (c.self.inside.first ++ c.self.inside.log.items) c.self.inside.growths.items c.in-Some.last.now c.self.invariant.sound
    (c.in-Some.ensures.value ∙ ap (λ (gs : List Growth). slice_get gs (length gs - 1)) c.deref.ensures.value) in
    subst (λ (gs : List Growth). IsTrue (nat_lt c.entry.result c.args.n) ↔ (version_before gs c.args.n ≡ length gs)) growths
    (rw c.entry.ensures last)
