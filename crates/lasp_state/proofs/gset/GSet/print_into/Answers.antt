use Rattle.std.proofs.Common.{◌∙◌, ◌++◌, ap}
use Rattle.std.specs.String.{string_bytes}
use Rattle.model_values.specs.Text.{shown_values}
use Rattle.lasp_state.proofs.MemberLaws.{on_ok, shown-members}
use Rattle.lasp_state.proofs.gset.GSet.print_into.Goals as goal

pub returns : goal.returns
returns c =
    on_ok c.print_into.result
    (λ e. e ∙ ap (λ s. string_bytes c.args.out.now ++ shown_values s) (shown-members c.self.inside.members c.self.invariant c.ascends.ensures ∙ c.self.view_is)) c.print_into.ensures
