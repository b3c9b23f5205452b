use Rattle.std.proofs.Common.{ℕ, length, sym, subst, arith}
use Rattle.model_graph.specs.Spelling.{spelled_content}
use Rattle.lasp_logset.specs.Weights.{IsBounded}
use Rattle.lasp_state.specs.State.{content_of}
use Rattle.lasp_state.specs.declared.state.State.{State}
use Rattle.lasp_wire.specs.Sent.{kind_of}
use Rattle.lasp_wire.proofs.MostLaws.{set_most, grow_most}
use Rattle.lasp_wire.proofs.length.most.most_of_state.Goals as goal

abbrev len_of : State → ℕ
len_of s = length (spelled_content (kind_of s) (content_of s))

pub returns-in-Set : goal.returns-in-Set
returns-in-Set c =
    subst (λ (s : State). IsBounded (len_of s) c.saturating_add.result) (sym c.in-Set.is) (set_most c.in-Set.set c.weight.result c.saturating_add.result c.weight.ensures (omega arith))

pub returns-in-Grow : goal.returns-in-Grow
returns-in-Grow c =
    subst (λ (s : State). IsBounded (len_of s) c.saturating_add-in-Grow.result) (sym c.in-Grow.is)
    (grow_most c.in-Grow.values c.weight-in-Grow.result c.saturating_add-in-Grow.result c.weight-in-Grow.ensures (omega arith))
