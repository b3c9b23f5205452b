-- What the worked messages, scripts and files come to, by computation.
use Rattle.std.proofs.Common.{refl}
use Rattle.std.specs.Prelude.{◌≡◌, [], ◌∷◌, ◌++◌, codes, true, false, None, Ok, Err}
use Rattle.std.specs.Fmt.{digits}
use Rattle.model_graph.specs.Spelling.{spelled}
use Rattle.model_world.specs.World.{play, fresh_peer}
use Rattle.model_wire.specs.Reader.{list_at}
use Rattle.model_wire.specs.Value.{text_at, part_at, value_at, token_at, row_at}
use Rattle.model_wire.specs.Message.{single_rows_at, numbers_at, held_at, name_at, source_at, sources_at, counts_at, body_at, version_at, message_at, read_message, decoded}
use Rattle.model_wire.specs.declared.wire_why.WireWhy.TheVariants.{Short}
use Rattle.model_scripts.specs.declared.script_why.ScriptWhy.TheVariants.{NoSuchNode}
use Rattle.model_program.specs.Program.{export_answer}
use Rattle.model_program.specs.Merge.{may_take, file_joined, merge_answer, joined}
use Rattle.model_program.specs.Line.{line_of}
use Rattle.model_examples.specs.Graphs.{set_graph}
use Rattle.model_examples.specs.Files.{grown_graph, other_graph, counter_graph, first_message, second_message, add_script, cut_bytes, first_bytes}
use Rattle.model_examples.specs.Processes.{union_graph, union_script}
use Rattle.model_program.specs.declared.refusal.Refusal.TheVariants as refusal
use Rattle.model_program.specs.declared.failure.Failure.TheVariants.{Refused}
use Rattle.model_program.specs.declared.state_why.StateWhy.TheVariants.{Wire}

pub node-told : export_answer 1 union_graph union_script ≡ Err (refusal.Script 5 NoSuchNode)
node-told = refl

pub export-told : export_answer 0 set_graph add_script ≡ Ok (spelled first_message)
unfolding play
export-told = refl

pub merge-told : merge_answer set_graph 2 (joined set_graph (first_message ∷ second_message ∷ [])) ≡ Ok (codes "a [5,6]" ++ 10 ∷ codes "known 1 1" ++ 10 ∷ [])
unfolding digits
merge-told = refl

pub grown-told : merge_answer grown_graph 1 (joined grown_graph (first_message ∷ [])) ≡ Ok (codes "a [5]" ++ 10 ∷ codes "u [5]" ++ 10 ∷ codes "c 0" ++ 10 ∷ codes "known 1 0" ++ 10 ∷ [])
unfolding digits
grown-told = refl

pub own-taken : may_take set_graph (fresh_peer set_graph 2) first_message ≡ true
own-taken = refl

pub grown-taken : may_take grown_graph (fresh_peer grown_graph 2) first_message ≡ true
grown-taken = refl

pub other-taken : may_take other_graph (fresh_peer other_graph 2) first_message ≡ false
other-taken = refl

pub kind-taken : may_take counter_graph (fresh_peer counter_graph 2) first_message ≡ false
kind-taken = refl

pub fewer-taken : may_take [] (fresh_peer [] 2) first_message ≡ false
fewer-taken = refl

pub nodes-taken : may_take set_graph (fresh_peer set_graph 3) first_message ≡ false
nodes-taken = refl

pub bytes-joined : file_joined set_graph 0 None first_bytes ≡ Ok (joined set_graph (first_message ∷ []))
unfolding file_joined list_at text_at part_at value_at token_at row_at single_rows_at numbers_at held_at name_at source_at sources_at counts_at body_at version_at message_at read_message decoded
bytes-joined = refl

pub cut-joined : file_joined set_graph 0 None cut_bytes ≡ Err (refusal.State 2 48 (Wire Short))
unfolding file_joined list_at text_at part_at value_at token_at row_at single_rows_at numbers_at held_at name_at source_at sources_at counts_at body_at version_at message_at read_message decoded
cut-joined = refl

pub state-line : line_of (codes "merge" ∷ codes "g" ∷ codes "f0" ∷ []) (Refused (refusal.State 2 48 (Wire Short))) ≡ codes "state f0 48 Short" ++ 10 ∷ []
unfolding digits
state-line = refl

pub ruleset exports = (node-told, export-told)

pub ruleset merges = (merge-told, grown-told, own-taken, grown-taken, other-taken, kind-taken, fewer-taken, nodes-taken)

pub ruleset files = (bytes-joined, cut-joined, state-line)
