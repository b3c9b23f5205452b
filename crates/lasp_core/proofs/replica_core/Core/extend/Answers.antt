use Rattle.std.proofs.Common.{refl}
use Rattle.model_journal.specs.Entry as model
use Rattle.model_journal.specs.Entry.{entry}
use Rattle.lasp_graph.specs.Decl.{decl_of}
use Rattle.lasp_replica.specs.Replica.{Grows, Stays}
use Rattle.lasp_core.specs.Core.{IsSound}
use Rattle.lasp_core.proofs.CoresLaws.{either-way, declared-sound, stays-sound}
use Rattle.lasp_core.proofs.replica_core.Core.extend.Goals as goal

pub invariant_of-self : goal.invariant_of-self
invariant_of-self c =
    let old = c.self.inside.replica in
    let new = c.extend.new.self in
    let reads = c.self.inside.parked.items in
    let opened = c.self.inside.opened in
    let d = decl_of c.args.decl.now in
    let e = entry c.args.by (model.Extend d) in
    either-way (Grows e old new) (Stays old new) (IsSound new reads opened) c.extend.result c.extend.ensures.ok c.extend.ensures.err
    (λ grows. declared-sound old new e d reads opened refl c.self.invariant grows) (λ stays. stays-sound old new reads opened c.self.invariant stays)
