use Rattle.std.proofs.Common.{subst}
use Rattle.model_sets.specs.Values.{AreAscending}
use Rattle.lasp_state.proofs.MemberLaws.{ascending-values}
use Rattle.lasp_state.proofs.gset.GSet.ascends.Goals as goal

pub returns : goal.returns
returns c = subst AreAscending c.self.view_is (ascending-values c.self.inside.members c.self.invariant c.ascends.ensures)
