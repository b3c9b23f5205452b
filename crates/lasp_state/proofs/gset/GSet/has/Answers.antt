use Rattle.std.proofs.Common.{subst, List, IsTrue, ◌↔◌}
use Rattle.model_values.specs.Value.{Val}
use Rattle.model_sets.specs.Values.{IsHeld}
use Rattle.lasp_value.specs.Value.{val_of}
use Rattle.lasp_state.proofs.MemberLaws.{held-test}
use Rattle.lasp_state.proofs.gset.GSet.has.Goals as goal

pub returns : goal.returns
returns c =
    subst (λ (s : List Val). IsTrue c.has.result ↔ IsHeld s (val_of c.args.value.now)) c.self.view_is
    (held-test c.self.inside.members (val_of c.args.value.now) c.has.result c.self.invariant c.has.ensures)
