use Rattle.std.proofs.Common.{ap, subst, List}
use mathlib.Core.List.{IsPrefix}
use Rattle.lasp_histlock.proofs.Prefixes.{prefix_shorter}
use Rattle.lasp_snap.specs.declared.entry.Entry.{Entry}
use Rattle.lasp_snap.proofs.front.Front.compare.Goals as goal

pub returns : goal.returns
returns c =
    let both = c.learn.new.self.log in
    let this : IsPrefix c.self.inside.seen.log both = subst (λ (l : List Entry). IsPrefix l both) (ap (λ s. s.log) c.again-both.ensures) c.learn.ensures.2 in
    rw (← c.self.view_is, ← c.other.view_is) (record {
      first = prefix_shorter c.self.inside.seen.log c.other.inside.seen.log both this c.learn.ensures.3;
      second = prefix_shorter c.other.inside.seen.log c.self.inside.seen.log both c.learn.ensures.3 this;
    })
