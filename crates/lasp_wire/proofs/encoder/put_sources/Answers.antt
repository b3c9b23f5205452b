use Rattle.std.proofs.Common.{List, length, sym, subst}
use Rattle.std.specs.List.{AllByRecursion}
use Rattle.model_graph.specs.Message.{Sent}
use Rattle.model_wire.specs.Lawful.{IsSent}
use Rattle.lasp_wire.proofs.Short.{short_sources}
use Rattle.lasp_wire.proofs.encoder.put_sources.Goals as goal

pub put_sources-requires : goal.put_sources-requires
put_sources-requires c =
    short_sources (length c.args.m.now.counts) c.sources.result.now (subst (λ (l : List Sent). AllByRecursion (IsSent (length c.args.m.now.counts)) l) (sym c.sources.ensures) c.recall.ensures.sources)
