use Rattle.std.proofs.Common.{rules, ◌≡◌}
use Rattle.lasp_graph.specs.Decl.{decl_of}
use Rattle.lasp_replica.proofs.BeginLaws.{same-source}
use Rattle.lasp_replica.proofs.sources.is_source_at.Goals as goal

pub returns-then-eq : goal.returns-then-eq
returns-then-eq c =
    let same : c.name_at-name.result.now ≡ (decl_of c.args.decl.now).name = search rules in
    same-source c.args.message.now c.args.i c.name_at-name.result.now c.state_at.result.now (decl_of c.args.decl.now) c.is_same_kind.result c.recall.ensures c.name_at-name.ensures c.state_at.ensures same c.is_same_kind.ensures
