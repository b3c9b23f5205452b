-- The laws of the calls of a script.
use Rattle.std.proofs.Common.{◌≡◌, ℕ, suc, ◌+◌, ◌≤◌, ◌<◌, Bool, true, false, if◌then◌else◌, IsTrue, List, [], ◌∷◌, ◌++◌, length, Result, Ok, refl, sym, ap, subst, ◌∙◌, arith}
use Rattle.model_states.specs.Content.{Content, least}
use Rattle.model_graph.specs.Graph.{Decl, is_source, kind_at}
use Rattle.model_graph.specs.Evaluation.{content_at}
use Rattle.model_graph.specs.Lawful.{IsGraph}
use Rattle.model_world.specs.Command.{Command, Script}
use Rattle.model_world.specs.Lawful.{IsLawful}
use Rattle.model_world.specs.World.{Run, peer_at, start, acts, step, ended}
use Rattle.model_world.specs.declared.stop.Stop.{Stop}
use Rattle.model_world.specs.Follow.{Followed, follow_step, follow, begin}
use Rattle.model_world.specs.Holds.{Holds, IsPlaceOf}
use Rattle.model_world.proofs.VariableLaws.{known-derived}
use Rattle.model_world.proofs.KnownLaws.{end-place}
use Rattle.model_world.proofs.FollowLaws.{bound}
use Rattle.model_world.proofs.PlayLaws.{place-sound}
use Rattle.model_journal.specs.Entry.{Entry}
use Rattle.model_journal.specs.Journal.{graph, vals, val, counts, sources_from, sources}
use Rattle.model_journal.specs.Legal.{IsLegal}
use Rattle.model_journal.proofs.GainLaws.{least_of-derived}
use Rattle.model_journal.proofs.JournalLaws.{journal-good}
use Rattle.model_runs.specs.Calls.{frame_of, calls_of_acts, when_done, calls, unbound}
use Rattle.model_runs.proofs.MatchLaws.{append-again}
use Rattle.model_runs.proofs.TieLaws.{Ties}
use Rattle.model_runs.proofs.RunLaws.{done-is, place-ties}
use Rattle.model_runs.proofs.BindLaws.{unbound-graph, unbound-counts, unbound-val}

-- ---- the journal of the calls

pub calls-graph : (g : List Decl) (nodes : ℕ) (commands : List Command) (f : Followed) → IsGraph g → length commands ≤ 100000 → IsPlaceOf g nodes commands f → (p : ℕ) → p < nodes
    → graph (frame_of g nodes p) (calls 1 (start g nodes) p commands) ≡ f.run.graph
calls-graph g nodes commands f ok few place p low = (place-ties g nodes commands f ok few place p low).same.graph_is

pub calls-contents : (g : List Decl) (nodes : ℕ) (commands : List Command) (f : Followed) → IsGraph g → length commands ≤ 100000 → IsPlaceOf g nodes commands f → (p : ℕ) → p < nodes
    → vals (frame_of g nodes p) (calls 1 (start g nodes) p commands) ≡ (peer_at f.run.peers p).contents
calls-contents g nodes commands f ok few place p low = (place-ties g nodes commands f ok few place p low).same.contents_are

pub calls-counts : (g : List Decl) (nodes : ℕ) (commands : List Command) (f : Followed) → IsGraph g → length commands ≤ 100000 → IsPlaceOf g nodes commands f → (p : ℕ) → p < nodes
    → counts (frame_of g nodes p) (calls 1 (start g nodes) p commands) ≡ (peer_at f.run.peers p).counts
calls-counts g nodes commands f ok few place p low = (place-ties g nodes commands f ok few place p low).same.counts_are

pub calls-legal : (g : List Decl) (nodes : ℕ) (commands : List Command) (f : Followed) → IsGraph g → length commands ≤ 100000 → IsPlaceOf g nodes commands f → (p : ℕ) → p < nodes
    → IsLegal (frame_of g nodes p) (calls 1 (start g nodes) p commands)
calls-legal g nodes commands f ok few place p low = (place-ties g nodes commands f ok few place p low).legal

-- the calls of more commands begin with those of the first
follow-calls : (c p : ℕ) (f mid : Followed) (commands more : List Command) → follow c f commands ≡ Ok mid → calls c f.run p (commands ++ more) ≡ calls c f.run p commands ++ calls (c + length commands) mid.run p more
unfolding follow calls
follow-calls c p f mid [] more e =
    ap (λ (z : Followed). calls c z.run p more) (let same : f ≡ mid = cc in same) ∙ ap (λ (n : ℕ). calls n mid.run p more) (let here : c ≡ c + 0 = omega arith in here)
follow-calls c p f mid (k ∷ rest) more e =
    let both = bound (follow_step c f k) (λ next. follow (c + 1) next rest) mid e in
    let next = both.0 in
    let done = done-is c f next k both.1 in
    ap (λ (r : Result Run Stop). calls_of_acts c f.run p (acts f.run k) ++ when_done r (λ run. calls (c + 1) run p (rest ++ more))) done
    ∙ ap (λ (h : List Entry). calls_of_acts c f.run p (acts f.run k) ++ h) (follow-calls (c + 1) p next mid rest more both.2)
    ∙ sym (append-again (calls_of_acts c f.run p (acts f.run k)) (calls (c + 1) next.run p rest) (calls ((c + 1) + length rest) mid.run p more))
    ∙ ap (λ (r : Result Run Stop). (calls_of_acts c f.run p (acts f.run k) ++ when_done r (λ run. calls (c + 1) run p rest)) ++ calls ((c + 1) + length rest) mid.run p more) (sym done)
    ∙ ap (λ (n : ℕ). (calls_of_acts c f.run p (acts f.run k) ++ when_done (step c f.run k) (λ run. calls (c + 1) run p rest)) ++ calls n mid.run p more) (let there : (c + 1) + length rest ≡ c + suc (length rest) = omega arith in there)

pub calls-first : (g : List Decl) (nodes : ℕ) (commands more : List Command) (f : Followed) → IsPlaceOf g nodes commands f → (p : ℕ)
    → calls 1 (start g nodes) p (commands ++ more) ≡ calls 1 (start g nodes) p commands ++ calls (1 + length commands) f.run p more
calls-first g nodes commands more f place p = follow-calls 1 p (begin g nodes) f commands more place.reached

-- ---- journals with these calls

sources-list : (g : List Decl) (ss ts : List Content) → length ss ≡ length g → length ts ≡ length g
    → ((x : ℕ) → x < length g → is_source (kind_at g x) ≡ true → content_at ss x ≡ content_at ts x) → ((x : ℕ) → x < length g → is_source (kind_at g x) ≡ false → content_at ts x ≡ least) → sources_from g ss ≡ ts
sources-list [] ss [] long wide same derived = refl
sources-list [] ss (t ∷ ts) long wide same derived = absurd (omega (arith, wide))
sources-list (d ∷ g) [] ts long wide same derived = absurd (omega (arith, long))
sources-list (d ∷ g) (s ∷ ss) [] long wide same derived = absurd (omega (arith, wide))
sources-list (d ∷ g) (s ∷ ss) (t ∷ ts) long wide same derived =
    λ i. head i ∷ sources-list g ss ts (omega (arith, long)) (omega (arith, wide)) (λ x low e. same (suc x) (omega (arith, low)) e) (λ x low e. derived (suc x) (omega (arith, low)) e) i where
      choose : (b : Bool) → is_source d.kind ≡ b → (if b then s else least) ≡ t
      choose true e = same 0 (omega arith) e
      choose false e = sym (derived 0 (omega arith) e)

      head : (if is_source d.kind then s else least) ≡ t
      head = choose (is_source d.kind) refl

-- a node of the run, and a legal journal that has its calls
module _ (g : List Decl) (nodes : ℕ) (commands : List Command) (f : Followed) (ok : IsGraph g) (few : length commands ≤ 100000) (place : IsPlaceOf g nodes commands f) (p : ℕ) (low : p < nodes)
    (h : List Entry) (legal : IsLegal (frame_of g nodes p) h) (has : unbound h ≡ calls 1 (start g nodes) p commands) where
  tie : Ties (frame_of g nodes p) (calls 1 (start g nodes) p commands) f.run.graph (peer_at f.run.peers p)
  tie = place-ties g nodes commands f ok few place p low

  pub has-graph : graph (frame_of g nodes p) h ≡ f.run.graph
  has-graph = unbound-graph (frame_of g nodes p) h legal ∙ ap (λ (k : List Entry). graph (frame_of g nodes p) k) has ∙ tie.same.graph_is

  pub has-counts : counts (frame_of g nodes p) h ≡ (peer_at f.run.peers p).counts
  has-counts = unbound-counts (frame_of g nodes p) h legal ∙ ap (λ (k : List Entry). counts (frame_of g nodes p) k) has ∙ tie.same.counts_are

  has-source : (x : ℕ) → IsTrue (is_source (kind_at f.run.graph x)) → val (frame_of g nodes p) h x ≡ content_at (peer_at f.run.peers p).contents x
  has-source x source =
      unbound-val (frame_of g nodes p) h legal x (subst (λ (c : List Decl). IsTrue (is_source (kind_at c x))) (sym has-graph) source)
      ∙ ap (λ (k : List Entry). val (frame_of g nodes p) k x) has ∙ ap (λ (ss : List Content). content_at ss x) tie.same.contents_are

  pub has-sources : sources (frame_of g nodes p) h ≡ (peer_at f.run.peers p).contents
  has-sources =
      ap (λ (c : List Decl). sources_from c (vals (frame_of g nodes p) h)) has-graph
      ∙ sources-list f.run.graph (vals (frame_of g nodes p) h) (peer_at f.run.peers p).contents
      (omega (arith, (journal-good (frame_of g nodes p) h legal).shape, ap (λ (c : List Decl). length c) has-graph)) holds.long
      (λ x small e. has-source x e)
      (λ x small e. holds.knows x small ∙ known-derived f.run.graph nodes f.deltas (peer_at f.run.peers p).counts x (place-sound g nodes commands f place).sources e ∙ least_of-derived nodes (kind_at f.run.graph x) e) where
        holds : Holds f.run.graph nodes f.deltas (peer_at f.run.peers p).contents (peer_at f.run.peers p).counts
        holds = (place-sound g nodes commands f place).holds p low

-- ---- whole scripts

pub script-legal : (g : List Decl) (script : Script) (last : Run) → IsGraph g → IsLawful g script → ended g script ≡ Ok last → (p : ℕ) → p < script.nodes → IsLegal (frame_of g script.nodes p) (calls 1 (start g script.nodes) p script.commands)
script-legal g script last ok lawful e p low = let at = end-place g script last lawful e in calls-legal g script.nodes script.commands at.0 ok lawful.few at.1 p low

pub script-sources : (g : List Decl) (script : Script) (last : Run) → IsGraph g → IsLawful g script → ended g script ≡ Ok last → (p : ℕ) → p < script.nodes → (h : List Entry) → IsLegal (frame_of g script.nodes p) h
    → unbound h ≡ calls 1 (start g script.nodes) p script.commands → (graph (frame_of g script.nodes p) h ≡ last.graph) × (sources (frame_of g script.nodes p) h ≡ (peer_at last.peers p).contents) × (counts (frame_of g script.nodes p) h ≡ (peer_at last.peers p).counts)
script-sources g script last ok lawful e p low h legal has =
    let at = end-place g script last lawful e in
    let f = at.0 in (
      has-graph g script.nodes script.commands f ok lawful.few at.1 p low h legal has ∙ ap (λ (run : Run). run.graph) at.2,
      has-sources g script.nodes script.commands f ok lawful.few at.1 p low h legal has ∙ ap (λ (run : Run). (peer_at run.peers p).contents) at.2,
      has-counts g script.nodes script.commands f ok lawful.few at.1 p low h legal has ∙ ap (λ (run : Run). (peer_at run.peers p).counts) at.2,
    )

pub ruleset calls_laws = (calls-graph, calls-contents, calls-counts, calls-legal, script-legal, calls-first)

pub ruleset unbound_laws = (unbound-graph, unbound-counts, unbound-val)

pub ruleset journals = (has-graph, has-counts, has-sources)
