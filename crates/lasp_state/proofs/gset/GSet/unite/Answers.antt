use Rattle.std.proofs.Common.{◌∙◌, subst, List, IfOk, IsTrue, ◌↔◌, ◌≢◌}
use Rattle.model_values.specs.Value.{Val}
use Rattle.model_sets.specs.Values.{unite}
use Rattle.lasp_state.specs.Members.{values_of}
use Rattle.lasp_state.proofs.MemberLaws.{on_ok, members-either, grew-either, values-join}
use Rattle.lasp_state.proofs.gset.GSet.unite.Goals as goal

pub invariant_of-self : goal.invariant_of-self
invariant_of-self c =
    members-either c.join_in.result c.self.inside.members c.other.inside.members c.join_in.new.self c.self.invariant c.other.invariant c.join_in.ensures.ok c.join_in.ensures.err

pub returns-clause-ok : goal.returns-clause-ok
returns-clause-ok c =
    on_ok c.join_in.result
    (λ e. values-join c.self.inside.members c.other.inside.members c.join_in.new.self c.self.invariant c.other.invariant e ∙ (λ i. unite (c.self.view_is i) (c.other.view_is i)))
    c.join_in.ensures.ok

pub returns-clause-grew : goal.returns-clause-grew
returns-clause-grew c =
    subst (λ (s : List Val). IfOk c.join_in.result (λ grew. IsTrue grew ↔ (values_of c.join_in.new.self ≢ s))) c.self.view_is
    (grew-either c.join_in.result c.self.inside.members c.other.inside.members c.join_in.new.self c.self.invariant c.other.invariant c.join_in.ensures.ok c.join_in.ensures.grew)
