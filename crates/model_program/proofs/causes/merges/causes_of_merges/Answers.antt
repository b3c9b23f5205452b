use Rattle.std.proofs.Common.{◌∙◌}
use Rattle.std.specs.Prelude.{◌≡◌, ℕ, ◌-◌, List, length, Option, Some, None, Ok, Err}
use Rattle.model_functions.specs.Library.{Library}
use Rattle.model_graph.specs.Graph.{Decl, name_at}
use Rattle.model_program.specs.Merge.{file_at, joined, merge_text, merging_files}
use Rattle.model_program.specs.Plan.{told_answer}
use Rattle.model_program.specs.Program.{form, plan}
use Rattle.model_program.specs.declared.form.Form.TheVariants.{Merge}
use Rattle.model_program.specs.declared.refusal.Refusal.TheVariants as refusal
use Rattle.model_program.specs.declared.state_why.StateWhy.TheVariants.{Wire, WrongGraph}
use Rattle.model_program.specs.Told.{IsGraphTold}
use Rattle.model_program.proofs.PlanCauses.{told-form, opening-long, opening-refused, opening-read}
use Rattle.model_program.proofs.MergeCauses.{read-none, read-wrong, read-large, joined-nodes, file-long, file-refused, next-answer, last-answer, shown-answer, merge-many}
use Rattle.model_program.proofs.causes.merges.causes_of_merges.Goals as goal

-- the graph is accepted
to-files : (lib : Library) (content : List ℕ → Option (List ℕ)) (words : List (List ℕ)) (g : List Decl) → form words ≡ Merge → IsGraphTold lib content words g
    → told_answer content words (plan lib words) ≡ told_answer content words (merging_files g (length words - 3))
to-files lib content words g is graph = told-form lib content words Merge is ∙ opening-read lib content words (λ h. merging_files h (length words - 3)) g graph

pub returns-clause-graph_too_long : goal.returns-clause-graph_too_long
returns-clause-graph_too_long c = λ lib content words graph is told long.
    told-form lib content words Merge is ∙ opening-long lib content words (λ g. merging_files g (length words - 3)) graph told long

pub returns-clause-graph_refused : goal.returns-clause-graph_refused
returns-clause-graph_refused c = λ lib content words graph number why is file bad.
    told-form lib content words Merge is ∙ opening-refused lib content words (λ g. merging_files g (length words - 3)) graph number why file bad

pub returns-clause-file_too_long : goal.returns-clause-file_too_long
returns-clause-file_too_long c = λ lib content words g before bytes is graph there within told long.
    to-files lib content words g is graph
    ∙ next-answer g content words before (Some (Err (refusal.TooLong (file_at (length before))))) there within (λ left. file-long g content words before left bytes told long)

pub returns-clause-no_message : goal.returns-clause-no_message
returns-clause-no_message c = λ lib content words g before bytes place why is graph there within file bad.
    to-files lib content words g is graph
    ∙ next-answer g content words before (Some (Err (refusal.State (file_at (length before)) place (Wire why)))) there within (λ left. file-refused g content words before left bytes (refusal.State (file_at (length before)) place (Wire why)) file (read-none g before bytes place why bad))

pub returns-clause-wrong_graph : goal.returns-clause-wrong_graph
returns-clause-wrong_graph c = λ lib content words g before bytes m is graph there within file good wrong.
    to-files lib content words g is graph
    ∙ next-answer g content words before (Some (Err (refusal.State (file_at (length before)) 0 WrongGraph))) there within (λ left. file-refused g content words before left bytes (refusal.State (file_at (length before)) 0 WrongGraph) file (read-wrong g before bytes (joined-nodes g content words before there) m good wrong))

pub returns-clause-source_too_large : goal.returns-clause-source_too_large
returns-clause-source_too_large c = λ lib content words g before bytes m x is graph there within file good fits nodes large.
    to-files lib content words g is graph
    ∙ next-answer g content words before (Some (Err (refusal.TooLarge (length before) 0 (name_at g x)))) there within (λ left. file-refused g content words before left bytes (refusal.TooLarge (length before) 0 (name_at g x)) file (read-large g before bytes (joined-nodes g content words before there) m x good fits nodes large))

pub returns-clause-variable_too_large : goal.returns-clause-variable_too_large
returns-clause-variable_too_large c = λ lib content words g all x is graph there end large.
    to-files lib content words g is graph
    ∙ last-answer g content words all (Err (refusal.TooLarge (length all) 0 (name_at g x))) there (merge-many words is) end (shown-answer g (length all) (joined g all) (Some x) large)

pub returns-clause-merged : goal.returns-clause-merged
returns-clause-merged c = λ lib content words g all is graph there end small.
    to-files lib content words g is graph
    ∙ last-answer g content words all (Ok (merge_text g (joined g all))) there (merge-many words is) end (shown-answer g (length all) (joined g all) None small)
