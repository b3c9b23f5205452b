use Rattle.std.proofs.Common.{List, ℕ, [], ◌∷◌}
use Rattle.serde_json.specs.Data.{Data, number, string}
use Rattle.serde_json.specs.View.{view, number_view}
use Rattle.lasp_spelling.proofs.Arrays.{opens-more, opens-closes}
use Rattle.lasp_script.proofs.UsualWords.{Opens-placed}
use Rattle.lasp_script.proofs.placed.take_placed.Goals as goal

pub returns-in-Some : goal.returns-in-Some
returns-in-Some c =
    let parts : List Data = string c.in_ok-word.word.now ∷ number (number_view c.in_ok-node.node) ∷ string c.in_ok-var.var.now ∷ [] in
    opens-closes 125 c.args.bytes.now c.in_ok-var.behind_var.now c.in-Some.end.now parts
    (Opens-placed c.args.bytes.now c.in_ok-inside.inside.now c.in_ok-word.behind_word.now c.in_ok-at_node.at_node.now c.in_ok-node.behind_node.now c.in_ok-at_var.at_var.now c.in_ok-var.behind_var.now c.in_ok-word.word.now
    (number_view c.in_ok-node.node) c.in_ok-var.var.now c.in_ok-inside.ensures c.in_ok-word.ensures c.in_ok-at_node.ensures c.in_ok-node.ensures.lexeme c.in_ok-node.ensures.written c.in_ok-at_var.ensures c.in_ok-var.ensures)
    c.in-Some.ensures

pub returns : goal.returns
returns c =
    let parts : List Data = string c.in_ok-word.word.now ∷ number (number_view c.in_ok-node.node) ∷ string c.in_ok-var.var.now ∷ [] in
    let opened =
    Opens-placed c.args.bytes.now c.in_ok-inside.inside.now c.in_ok-word.behind_word.now c.in_ok-at_node.at_node.now c.in_ok-node.behind_node.now c.in_ok-at_var.at_var.now c.in_ok-var.behind_var.now c.in_ok-word.word.now
    (number_view c.in_ok-node.node) c.in_ok-var.var.now c.in_ok-inside.ensures c.in_ok-word.ensures c.in_ok-at_node.ensures c.in_ok-node.ensures.lexeme c.in_ok-node.ensures.written c.in_ok-at_var.ensures c.in_ok-var.ensures
    in
    opens-closes 125 c.args.bytes.now c.in_ok-last.behind_last.now c.in_ok-end.end.now (string c.in_ok-word.word.now ∷ number (number_view c.in_ok-node.node) ∷ string c.in_ok-var.var.now ∷ view c.in_ok-last.last ∷ [])
    (opens-more 125 c.args.bytes.now c.in_ok-var.behind_var.now c.in_ok-at_last.at_last.now c.in_ok-last.behind_last.now parts (view c.in_ok-last.last) opened c.in_ok-at_last.ensures c.in_ok-last.ensures) c.in_ok-end.ensures
