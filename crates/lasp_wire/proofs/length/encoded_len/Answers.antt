use Rattle.std.proofs.Common.{◌≤◌, ◌^◌, List, ℕ, length, arith, sym, subst, ap}
use Rattle.std.specs.List.{flat_map}
use Rattle.model_graph.specs.Message.{Sent}
use Rattle.model_graph.specs.Spelling.{spelled_source}
use Rattle.lasp_wire.proofs.Lengths.{sources_fit_in, spelled_len}
use Rattle.lasp_wire.proofs.length.encoded_len.Goals as goal

abbrev len_of : List Sent → ℕ
len_of sources = length (flat_map spelled_source sources)

pub sources_len-requires : goal.sources_len-requires
sources_len-requires c = subst (λ (l : List Sent). len_of l ≤ 2 ^ 32) (sym c.sources.ensures) (sources_fit_in c.args.m.now c.recall.ensures)

pub overflow_add-result-2 : goal.overflow_add-result-2
overflow_add-result-2 c =
    omega (arith, sources_fit_in c.args.m.now c.recall.ensures, c.recall.ensures.nodes.few, c.len.ensures, ap (λ (l : List ℕ). length l) c.counts.ensures, c.in_ok-sources_len.ensures, ap len_of c.sources.ensures)

pub returns : goal.returns
returns c = omega (arith, spelled_len c.args.m.now, c.len.ensures, ap (λ (l : List ℕ). length l) c.counts.ensures, c.in_ok-sources_len.ensures, ap len_of c.sources.ensures)
