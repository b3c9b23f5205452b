use Rattle.std.proofs.Common.{◌≡◌, ◌∙◌, sym, ap, subst, ◌+◌, ◌<◌, List, ◌∷◌, [], ◌++◌, length, Option, option_map, ℕ, arith}
use Rattle.std.proofs.lemmas.List.{map-append}
use Rattle.model_world.specs.Command.{Command}
use Rattle.model_scripts.specs.Check.{command_limit}
use Rattle.lasp_script.specs.Command.{command_of, commands_of}
use Rattle.lasp_script.specs.Progress.{Left, MayMark}
use Rattle.lasp_script.proofs.Behind.{reads-few, kept-more, behind-more}
use Rattle.lasp_script.proofs.progress.Progress.with.Goals as goal

pub overflow_add-reads : goal.overflow_add-reads
overflow_add-reads c = omega (arith, c.reads_by.ensures, reads-few (commands_of c.self.inside.commands.items) (command_of c.args.command) c.self.inside.reads c.self.invariant.few c.self.invariant.read)

pub invariant_of-result : goal.invariant_of-result
invariant_of-result c =
    let ks = commands_of c.self.inside.commands.items in
    let k : Command = command_of c.args.command in
    let name : Option (List ℕ) = option_map (λ s. s.now) c.args.name in
    let more : commands_of c.push.new.self.items ≡ ks ++ k ∷ [] = ap commands_of c.in_ok-push.ensures.items ∙ map-append command_of c.self.inside.commands.items (c.args.command ∷ []) in
    let room : length ks + 1 < command_limit = subst (λ (l : Left). length l.commands + 1 < command_limit) (sym c.self.view_is) c.requires.room in
    let mark : MayMark c.self.inside.marks k name = subst (λ (l : Left). MayMark l.marks k name) (sym c.self.view_is) c.requires.mark in
    kept-more c.args.nodes ks c.self.inside.marks c.self.inside.sent c.self.inside.reads k name _ _ _ _ (omega (arith, c.ranges.nodes.fits)) c.self.invariant room mark more c.in_ok-marks.ensures
    (λ i. c.self.inside.sent + c.sent_by.ensures i) (λ i. c.self.inside.reads + c.reads_by.ensures i)

pub returns : goal.returns
returns c =
    let ks = commands_of c.self.inside.commands.items in
    let k : Command = command_of c.args.command in
    let name : Option (List ℕ) = option_map (λ s. s.now) c.args.name in
    let more : commands_of c.push.new.self.items ≡ ks ++ k ∷ [] = ap commands_of c.in_ok-push.ensures.items ∙ map-append command_of c.self.inside.commands.items (c.args.command ∷ []) in
    let mark : MayMark c.self.inside.marks k name = subst (λ (l : Left). MayMark l.marks k name) (sym c.self.view_is) c.requires.mark in
    rw (← c.self.view_is)
    (behind-more c.args.nodes c.args.g.now ks c.self.inside.grown c.self.inside.marks c.self.inside.sent k name _ c.in_ok-grown.grown _ _ mark more c.in_ok-grown.ensures c.in_ok-marks.ensures
    (λ i. c.self.inside.sent + c.sent_by.ensures i))
