use Rattle.std.proofs.Common.{ap, ◌∙◌}
use Rattle.model_deltas.specs.Gossip.{delta_size}
use Rattle.lasp_delta.specs.Seen.{delta_seen}
use Rattle.lasp_delta.proofs.PlayLaws.{written-whole}
use Rattle.lasp_delta.proofs.run.deltas.DeltaRun.report.Goals as goal

pub returns : goal.returns
returns g c = written-whole (delta_seen g.N.Node.view g.N.Node.read c.args.self.now) c.in_ok-text.text.items c.push_line.new.text.items c.in_ok-size.size c.in_ok-text.ensures.text (c.in_ok-size.ensures ∙ ap delta_size c.as_slice.ensures.value) c.in_ok-push_line.ensures
