use Rattle.std.proofs.Common.{subst, List, IsTrue, ◌↔◌}
use Rattle.model_values.specs.Value.{Val}
use Rattle.model_sets.specs.Values.{IsWithin}
use Rattle.lasp_state.specs.Members.{values_of}
use Rattle.lasp_state.proofs.MemberLaws.{within-test}
use Rattle.lasp_state.proofs.gset.GSet.is_within.Goals as goal

pub returns : goal.returns
returns c =
    subst (λ (s : List Val). IsTrue c.le.result ↔ IsWithin s c.args.other.now) c.self.view_is
    (subst (λ (t : List Val). IsTrue c.le.result ↔ IsWithin (values_of c.self.inside.members) t) c.other.view_is
    (within-test c.self.inside.members c.other.inside.members c.le.result c.self.invariant c.other.invariant c.le.ensures))
