use Rattle.std.proofs.Common.{◌∙◌, length}
use Rattle.model_sets.specs.Values.{unite}
use Rattle.lasp_state.proofs.MemberLaws.{length-join_members}
use Rattle.lasp_state.proofs.gset.GSet.joined_len.Goals as goal

pub returns : goal.returns
returns c =
    length-join_members c.self.inside.members c.other.inside.members c.joined_rows.result c.self.invariant c.other.invariant c.joined_rows.ensures
    ∙ (λ i. length (unite (c.self.view_is i) (c.other.view_is i)))
