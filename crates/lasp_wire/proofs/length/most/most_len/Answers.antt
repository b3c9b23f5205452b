use Rattle.std.proofs.Common.{ℕ, ◌+◌, ◌*◌, List, length, ap, subst, arith}
use Rattle.std.specs.List.{flat_map}
use Rattle.model_graph.specs.Message.{Sent}
use Rattle.model_graph.specs.Spelling.{spelled_source}
use Rattle.lasp_logset.specs.Weights.{IsBounded}
use Rattle.lasp_wire.proofs.MostLaws.{whole_most}
use Rattle.lasp_wire.proofs.length.most.most_len.Goals as goal

pub returns : goal.returns
returns c =
    let sources = c.most_of_sources.result in
    let bounded = subst (λ (l : List Sent). IsBounded (length (flat_map spelled_source l)) sources) c.sources.ensures c.most_of_sources.ensures in
    let counted : IsBounded (sources + (7 + 8 * length c.args.m.now.counts)) c.saturating_add.result = omega (arith, c.len.ensures, ap (λ (l : List ℕ). length l) c.counts.ensures) in
    whole_most c.args.m.now sources c.saturating_add.result c.recall.ensures bounded counted
