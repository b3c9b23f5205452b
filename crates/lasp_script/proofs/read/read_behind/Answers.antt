use Rattle.std.proofs.Common.{◌≡◌, ◌∙◌, sym, ap, subst, length, List, ℕ, Option, Some, option_map, Ok}
use Rattle.serde_json.specs.View.{view}
use Rattle.model_world.specs.Lawful.{is_mark}
use Rattle.model_scripts.specs.Word.{Word, word_of}
use Rattle.model_scripts.specs.Progress.{Progress}
use Rattle.lasp_graph.specs.Library.{library_of}
use Rattle.lasp_script.specs.Command.{command_of}
use Rattle.lasp_script.specs.Word.{word_view}
use Rattle.lasp_script.specs.Progress.{Left, count_among, progress_over, behind}
use Rattle.lasp_script.proofs.May.{next-behind, next_refused}
use Rattle.lasp_script.proofs.read.read_behind.Goals as goal

pub returns-in_ok-with-in-Ok : goal.returns-in_ok-with-in-Ok
returns-in_ok-with-in-Ok g c = λ d form.
    let w : Word = word_view c.args.word.now in
    let counted : length c.args.before.marks ≡ count_among is_mark c.args.before.commands = subst (λ (l : Left). length l.marks ≡ count_among is_mark l.commands) c.before-2.view_is c.before-2.invariant.marked in
    let p : Progress = progress_over c.args.g.now c.args.before in
    next-behind (library_of c.args.lib.now) c.args.nodes c.args.g.now c.args.before counted d w (command_of c.in-Ok.command) form c.in-Ok.ensures.exact
    ∙ ap (λ (q : Progress). Ok q) (ap (λ (name : Option (List ℕ)). behind c.args.nodes p (command_of c.in-Ok.command) name) (sym c.new_mark.ensures) ∙ sym c.in_ok-with-in-Ok.ensures)

pub returns-in-Err : goal.returns-in-Err
returns-in-Err g c = λ d form.
    next_refused (library_of c.args.lib.now) c.args.nodes (progress_over c.args.g.now c.args.before) d (word_view c.args.word.now) c.in-Err.refused form c.in-Err.ensures.exact
