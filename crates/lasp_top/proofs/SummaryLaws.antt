-- The numbers of states, and the lines of a summary, one after the other.
use Rattle.std.proofs.Common.{◌≡◌, ℕ, ◌+◌, ◌<◌, List, [], ◌∷◌, ◌++◌, length, drop, sum, Some, refl, sym, ap, ◌∙◌, append_assoc}
use Rattle.std.specs.Prelude.{IsFalse, slice_get}
use Rattle.std.specs.Fmt.{decimal, signed_decimal}
use Rattle.model_values.proofs.ListLaws.{drop-at}
use Rattle.model_sets.specs.Rows.{visible}
use Rattle.model_states.specs.Content.{Content}
use Rattle.model_graph.specs.Evaluation.{content_at}
use Rattle.model_graph.specs.Fold.{fold_rows}
use Rattle.model_graph.specs.Graph.{Kind, OrSet, GSet, Counter, MaxReg, Union, Product, Intersection, Map, Filter, Fold, Decl, is_source, kind_at}
use Rattle.model_graph.specs.Lawful.{shape_of}
use Rattle.model_core.specs.Core.{Core}
use Rattle.model_journal.specs.Journal.{graph, val, counts}
use Rattle.model_program.specs.Summary.{number_of, number_lines}
use Rattle.model_world.specs.Line.{line, shown_top, known_line}
use Rattle.lasp_graph.specs.Evaluated.{number_by}
use Rattle.lasp_state.specs.State as state
use Rattle.lasp_state.specs.declared.state.State.{State}
use Rattle.lasp_state.specs.declared.state.State.TheVariants.{Set, Grow, Count, Max, Fold as Folded}
use Rattle.lasp_core.specs.Core.{IsStateOf}
use Rattle.lasp_top.specs.Summary.{state_number, known_by}

-- the number of a state of this kind is that of its content
number-shown : (nodes : ℕ) (k : Kind) (s : State) (content : Content) → state.content_of s ≡ content → state.shape_of s ≡ shape_of nodes k → (IsFalse (is_source k) → state.number_of s ≡ number_by k (state.content_of s)) → state_number s ≡ number_of k content
number-shown nodes OrSet (Set rows) content is shape number = ap (λ (c : Content). decimal (length (visible c.rows))) is
number-shown nodes GSet (Set rows) content is shape number = absurd cc
number-shown nodes Counter (Set rows) content is shape number = absurd cc
number-shown nodes MaxReg (Set rows) content is shape number = absurd cc
number-shown nodes (Union x y) (Set rows) content is shape number = ap (λ (c : Content). decimal (length (visible c.rows))) is
number-shown nodes (Product x y) (Set rows) content is shape number = ap (λ (c : Content). decimal (length (visible c.rows))) is
number-shown nodes (Intersection x y) (Set rows) content is shape number = ap (λ (c : Content). decimal (length (visible c.rows))) is
number-shown nodes (Map x place ops) (Set rows) content is shape number = ap (λ (c : Content). decimal (length (visible c.rows))) is
number-shown nodes (Filter x place ops) (Set rows) content is shape number = ap (λ (c : Content). decimal (length (visible c.rows))) is
number-shown nodes (Fold x op place lift) (Set rows) content is shape number = absurd cc
number-shown nodes OrSet (Grow values) content is shape number = absurd cc
number-shown nodes GSet (Grow values) content is shape number = ap (λ (c : Content). decimal (length c.values)) is
number-shown nodes Counter (Grow values) content is shape number = absurd cc
number-shown nodes MaxReg (Grow values) content is shape number = absurd cc
number-shown nodes (Union x y) (Grow values) content is shape number = absurd cc
number-shown nodes (Product x y) (Grow values) content is shape number = absurd cc
number-shown nodes (Intersection x y) (Grow values) content is shape number = absurd cc
number-shown nodes (Map x place ops) (Grow values) content is shape number = absurd cc
number-shown nodes (Filter x place ops) (Grow values) content is shape number = absurd cc
number-shown nodes (Fold x op place lift) (Grow values) content is shape number = absurd cc
number-shown nodes OrSet (Count counts) content is shape number = absurd cc
number-shown nodes GSet (Count counts) content is shape number = absurd cc
number-shown nodes Counter (Count counts) content is shape number = ap (λ (c : Content). decimal (sum c.counts)) is
number-shown nodes MaxReg (Count counts) content is shape number = absurd cc
number-shown nodes (Union x y) (Count counts) content is shape number = absurd cc
number-shown nodes (Product x y) (Count counts) content is shape number = absurd cc
number-shown nodes (Intersection x y) (Count counts) content is shape number = absurd cc
number-shown nodes (Map x place ops) (Count counts) content is shape number = absurd cc
number-shown nodes (Filter x place ops) (Count counts) content is shape number = absurd cc
number-shown nodes (Fold x op place lift) (Count counts) content is shape number = absurd cc
number-shown nodes OrSet (Max m) content is shape number = absurd cc
number-shown nodes GSet (Max m) content is shape number = absurd cc
number-shown nodes Counter (Max m) content is shape number = absurd cc
number-shown nodes MaxReg (Max m) content is shape number = ap (λ (c : Content). shown_top c.top) is
number-shown nodes (Union x y) (Max m) content is shape number = absurd cc
number-shown nodes (Product x y) (Max m) content is shape number = absurd cc
number-shown nodes (Intersection x y) (Max m) content is shape number = absurd cc
number-shown nodes (Map x place ops) (Max m) content is shape number = absurd cc
number-shown nodes (Filter x place ops) (Max m) content is shape number = absurd cc
number-shown nodes (Fold x op place lift) (Max m) content is shape number = absurd cc
number-shown nodes OrSet (Folded rows n) content is shape number = absurd cc
number-shown nodes GSet (Folded rows n) content is shape number = absurd cc
number-shown nodes Counter (Folded rows n) content is shape number = absurd cc
number-shown nodes MaxReg (Folded rows n) content is shape number = absurd cc
number-shown nodes (Union x y) (Folded rows n) content is shape number = absurd cc
number-shown nodes (Product x y) (Folded rows n) content is shape number = absurd cc
number-shown nodes (Intersection x y) (Folded rows n) content is shape number = absurd cc
number-shown nodes (Map x place ops) (Folded rows n) content is shape number = absurd cc
number-shown nodes (Filter x place ops) (Folded rows n) content is shape number = absurd cc
number-shown nodes (Fold x op place lift) (Folded rows n) content is shape number = ap signed_decimal (number refl) ∙ ap (λ (c : Content). signed_decimal (fold_rows op lift c.rows)) is

-- of a variable of a core
pub state-numbered : (c : Core) (x : ℕ) (s : State) → x < length (graph c.frame c.entries) → IsStateOf c x s → state_number s ≡ number_of (kind_at (graph c.frame c.entries) x) (val c.frame c.entries x)
state-numbered c x s low is = number-shown c.frame.nodes (kind_at (graph c.frame c.entries) x) s (val c.frame c.entries x) is.content is.shape (λ derived. is.number (record { declared = low; process = derived }))

-- one variable's line more
pub numbers-next : (g : List Decl) (x : ℕ) (d : Decl) (shown : List Content) (drawn text more whole : List ℕ) → slice_get g x ≡ Some d → drawn ≡ number_of d.kind (content_at shown x)
    → more ≡ text ++ line (d.name ∷ drawn ∷ []) → text ++ number_lines x (drop x g) shown ≡ whole → more ++ number_lines (x + 1) (drop (x + 1) g) shown ≡ whole
numbers-next g x d shown drawn text more whole at is new before =
    let rest : List ℕ = number_lines (x + 1) (drop (x + 1) g) shown in
    ap (λ (t : List ℕ). t ++ rest) new
    ∙ append_assoc text (line (d.name ∷ drawn ∷ [])) rest
    ∙ ap (λ (t : List ℕ). text ++ (line (d.name ∷ t ∷ []) ++ rest)) is
    ∙ ap (λ (ds : List Decl). text ++ number_lines x ds shown) (sym (drop-at g x d at))
    ∙ before

-- one core's line more
pub known-next : (cores : List Core) (p : ℕ) (core : Core) (text more whole : List ℕ) → slice_get cores p ≡ Some core → more ≡ text ++ known_line p (counts core.frame core.entries)
    → text ++ known_by p (drop p cores) ≡ whole → more ++ known_by (p + 1) (drop (p + 1) cores) ≡ whole
known-next cores p core text more whole at new before =
    let rest : List ℕ = known_by (p + 1) (drop (p + 1) cores) in
    ap (λ (t : List ℕ). t ++ rest) new
    ∙ append_assoc text (known_line p (counts core.frame core.entries)) rest
    ∙ ap (λ (cs : List Core). text ++ known_by p cs) (sym (drop-at cores p core at))
    ∙ before
