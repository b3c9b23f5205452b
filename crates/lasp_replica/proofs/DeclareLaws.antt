-- What a replica keeps before the first entry, and after a declaration: what a declared variable starts with.
use Rattle.std.proofs.Common.{◌≡◌, ℕ, pos, ◌<◌, Bool, true, false, if◌then◌else◌, List, [], ◌∷◌, ◌++◌, length, map, Some, None, refl, sym, ap, subst, ◌∙◌, arith}
use Rattle.std.proofs.lemmas.List.{get_or_push}
use Rattle.model_states.specs.Counts.{zeros}
use Rattle.model_states.specs.Content.{Content, least}
use Rattle.model_states.specs.Threshold.{set}
use Rattle.model_graph.specs.Graph.{Decl, Kind, is_source, kind_at, decl_at, no_decl}
use Rattle.model_graph.specs.Evaluation.{content_at, least_of}
use Rattle.model_graph.specs.Lawful.{IsDerived, IsGraph, shape_of}
use Rattle.model_graph.proofs.PlaceLaws.{at-append, at-last, at-map-low, map-length, length-push}
use Rattle.model_journal.specs.Entry.{Extend, Entry, Frame}
use Rattle.model_journal.specs.Journal.{graph, vals, val}
use Rattle.model_journal.specs.Clean.{base}
use Rattle.model_journal.specs.Legal.{IsLegal}
use Rattle.model_journal.proofs.JournalLaws.{journal-good}
use Rattle.model_journal.proofs.CleanLaws.{vals-length}
use Rattle.model_journal.proofs.EntryLaws.{extend-vals, extend-counts}
use Rattle.model_core.proofs.PeerLaws.{graph-extended}
use Rattle.model_core.proofs.BaseLaws.{base-extended}
use Rattle.model_runs.proofs.HeldLaws.{each-variable}
use Rattle.lasp_replica.specs.History.{no_history, IsHistory}
use Rattle.lasp_replica.proofs.HistoryLaws.{history-fresh, history-declared}
use Rattle.lasp_graph.specs.States.{Held, held_at, contents_of}
use Rattle.lasp_graph.specs.Evaluated.{number_by}
use Rattle.lasp_replica.specs.Parts.{Parts, IsBaseAt, base_at, history_at, fresh_base, fresh_state, IsKept}
use Rattle.lasp_replica.proofs.KindLaws.{number-least}
use Rattle.lasp_replica.proofs.PartLaws.{base-stays, history-alike, states-long}
use Rattle.lasp_replica.proofs.OneLaws.{declared-there}
use Rattle.lasp_graph.proofs.Evaluation.{contents-push}

-- ---- a process that has read nothing

-- a variable without a bind has the base that stands for having read nothing
pub fresh-base : (X : Frame) (h : List Entry) (y : ℕ) (k : Kind) → base X h y ≡ 0 → IsBaseAt X h k y (fresh_base k)
fresh-base X h y k unbound = choose (is_source k) refl where
  choose : (b : Bool) → is_source k ≡ b → IsBaseAt X h k y (if b then None else Some (record { entries = 0; inputs = None }))
  choose true source = source
  choose false derived = (derived, sym unbound, tt)

-- ---- one place more

-- ---- declarations

pub kept-extended : (X : Frame) (h : List Entry) → IsLegal X h → (e : Entry) → IsLegal X (h ++ e ∷ []) → (d : Decl) → e.act ≡ Extend d → (p : Parts) → IsKept X h p
    → IsKept X (h ++ e ∷ []) (record { graph = p.graph ++ d ∷ []; counts = p.counts; states = p.states ++ fresh_state X.nodes d ∷ []; histories = p.histories ++ no_history ∷ []; bases = p.bases ++ fresh_base d.kind ∷ [] })
kept-extended X h legal e after d act p is = record {
  graph = graphs;
  counts = is.counts ∙ sym (extend-counts X h e d act);
  contents = contents-push p.states new ∙ ap (λ (ss : List Content). ss ++ least_of X.nodes d.kind ∷ []) is.contents ∙ sym (extend-vals X h e d act);
  shapes = each-variable p.graph d (λ (x : ℕ). (held_at (p.states ++ new ∷ []) x).shape ≡ shape_of X.nodes (kind_at (p.graph ++ d ∷ []) x))
      (λ x low. ap (λ (s : Held). s.shape) (state-old x low) ∙ is.shapes x low ∙ ap (λ (c : Decl). shape_of X.nodes c.kind) (sym (decl-old x low)))
      (ap (λ (s : Held). s.shape) state-new ∙ ap (λ (c : Decl). shape_of X.nodes c.kind) (sym decl-new));
  numbers = λ y derived. each-variable p.graph d (λ (x : ℕ). IsDerived (p.graph ++ d ∷ []) x → (held_at (p.states ++ new ∷ []) x).number ≡ number_by (kind_at (p.graph ++ d ∷ []) x) (held_at (p.states ++ new ∷ []) x).content)
      number-old (λ _. number-new) y derived.declared derived;
  histories_many = omega (arith, length-push p.histories no_history, length-push p.graph d, is.histories_many);
  histories = each-variable p.graph d (λ (x : ℕ). IsHistory X (h ++ e ∷ []) x (history_at (p.histories ++ no_history ∷ []) x)) history-old history-new;
  bases_many = omega (arith, length-push p.bases (fresh_base d.kind), length-push p.graph d, is.bases_many);
  bases = each-variable p.graph d (λ (y : ℕ). IsBaseAt X (h ++ e ∷ []) (kind_at (p.graph ++ d ∷ []) y) y (base_at (p.bases ++ fresh_base d.kind ∷ []) y)) base-old base-new;
} where
  new : Held
  new = fresh_state X.nodes d

  none : Held
  none = record { shape = set; content = least; number = pos 0 }

  long : length p.states ≡ length p.graph
  long = states-long X h legal p is

  graphs : p.graph ++ d ∷ [] ≡ graph X (h ++ e ∷ [])
  graphs = ap (λ (g : List Decl). g ++ d ∷ []) is.graph ∙ sym (graph-extended X h e d act)

  size : length p.graph ≡ length (graph X h)
  size = ap (λ (g : List Decl). length g) is.graph

  decl-old : (x : ℕ) → x < length p.graph → decl_at (p.graph ++ d ∷ []) x ≡ decl_at p.graph x
  decl-old x low = at-append p.graph (d ∷ []) x no_decl low

  decl-new : decl_at (p.graph ++ d ∷ []) (length p.graph) ≡ d
  decl-new = at-last p.graph d no_decl

  state-old : (x : ℕ) → x < length p.graph → held_at (p.states ++ new ∷ []) x ≡ held_at p.states x
  state-old x low = at-append p.states (new ∷ []) x none (omega (arith, low, long))

  state-new : held_at (p.states ++ new ∷ []) (length p.graph) ≡ new
  state-new = get_or_push p.states new none (length p.graph) long

  number-old : (x : ℕ) → x < length p.graph → IsDerived (p.graph ++ d ∷ []) x → (held_at (p.states ++ new ∷ []) x).number ≡ number_by (kind_at (p.graph ++ d ∷ []) x) (held_at (p.states ++ new ∷ []) x).content
  number-old x low derived =
      ap (λ (s : Held). s.number) (state-old x low)
      ∙ is.numbers x (record { declared = low; process = ap (λ (c : Decl). is_source c.kind) (sym (decl-old x low)) ∙ derived.process })
      ∙ (λ i. number_by (sym (decl-old x low) i).kind (sym (state-old x low) i).content)

  number-new : (held_at (p.states ++ new ∷ []) (length p.graph)).number ≡ number_by (kind_at (p.graph ++ d ∷ []) (length p.graph)) (held_at (p.states ++ new ∷ []) (length p.graph)).content
  number-new = ap (λ (s : Held). s.number) state-new ∙ sym (number-least X.nodes d.kind) ∙ (λ i. number_by (sym decl-new i).kind (sym state-new i).content)

  val-old : (x : ℕ) → x < length p.graph → val X (h ++ e ∷ []) x ≡ val X h x
  val-old x low = ap (λ (ss : List Content). content_at ss x) (extend-vals X h e d act) ∙ at-append (vals X h) (least_of X.nodes d.kind ∷ []) x least (omega (arith, low, size, vals-length X h legal))

  history-old : (x : ℕ) → x < length p.graph → IsHistory X (h ++ e ∷ []) x (history_at (p.histories ++ no_history ∷ []) x)
  history-old x low = subst (IsHistory X (h ++ e ∷ []) x) (sym (at-append p.histories (no_history ∷ []) x no_history (omega (arith, low, is.histories_many))))
      (history-alike X h e x (history_at p.histories x) (is.histories x low) (declared-there X h p is x low) (val-old x low))

  history-new : IsHistory X (h ++ e ∷ []) (length p.graph) (history_at (p.histories ++ no_history ∷ []) (length p.graph))
  history-new = subst (IsHistory X (h ++ e ∷ []) (length p.graph)) (sym (get_or_push p.histories no_history no_history (length p.graph) is.histories_many))
      (subst (λ (i : ℕ). IsHistory X (h ++ e ∷ []) i no_history) (sym size) (history-declared X h legal e d act))

  base-old : (y : ℕ) → y < length p.graph → IsBaseAt X (h ++ e ∷ []) (kind_at (p.graph ++ d ∷ []) y) y (base_at (p.bases ++ fresh_base d.kind ∷ []) y)
  base-old y low = subst (λ (c : Decl). IsBaseAt X (h ++ e ∷ []) c.kind y (base_at (p.bases ++ fresh_base d.kind ∷ []) y)) (sym (decl-old y low))
      (subst (IsBaseAt X (h ++ e ∷ []) (kind_at p.graph y) y) (sym (at-append p.bases (fresh_base d.kind ∷ []) y None (omega (arith, low, is.bases_many))))
      (base-stays X h legal e (kind_at p.graph y) y (base_at p.bases y) (base-extended X h e d y act) (is.bases y low)))

  unbound : base X (h ++ e ∷ []) (length p.graph) ≡ 0
  unbound = base-extended X h e d (length p.graph) act ∙ (journal-good X h legal).unbound (length p.graph) (omega (arith, size))

  base-new : IsBaseAt X (h ++ e ∷ []) (kind_at (p.graph ++ d ∷ []) (length p.graph)) (length p.graph) (base_at (p.bases ++ fresh_base d.kind ∷ []) (length p.graph))
  base-new = subst (λ (c : Decl). IsBaseAt X (h ++ e ∷ []) c.kind (length p.graph) (base_at (p.bases ++ fresh_base d.kind ∷ []) (length p.graph))) (sym decl-new)
      (subst (IsBaseAt X (h ++ e ∷ []) d.kind (length p.graph)) (sym (get_or_push p.bases (fresh_base d.kind) None (length p.graph) is.bases_many))
      (fresh-base X (h ++ e ∷ []) (length p.graph) d.kind unbound))

-- ---- before the first entry

contents-fresh : (nodes : ℕ) (g : List Decl) → contents_of (map (fresh_state nodes) g) ≡ map (λ d. least_of nodes d.kind) g
contents-fresh nodes [] = refl
contents-fresh nodes (d ∷ g) = ap (λ (rest : List Content). least_of nodes d.kind ∷ rest) (contents-fresh nodes g)

pub kept-fresh : (X : Frame) → IsGraph X.opening → X.replica < X.nodes
    → IsKept X [] (record { graph = X.opening; counts = zeros X.nodes; states = map (fresh_state X.nodes) X.opening; histories = map (λ d. no_history) X.opening; bases = map (λ d. fresh_base d.kind) X.opening })
kept-fresh X lawful member = record {
  graph = refl;
  counts = refl;
  contents = contents-fresh X.nodes X.opening;
  shapes = λ x low. ap (λ (s : Held). s.shape) (state x low);
  numbers = λ y derived.
      ap (λ (s : Held). s.number) (state y derived.declared) ∙ sym (number-least X.nodes (kind_at X.opening y))
      ∙ ap (λ (s : Held). number_by (kind_at X.opening y) s.content) (sym (state y derived.declared));
  histories_many = map-length (λ (d : Decl). no_history) X.opening;
  histories = λ x low. subst (IsHistory X [] x) (sym (at-map-low (λ (d : Decl). no_history) X.opening x no_decl no_history low)) (history-fresh X x);
  bases_many = map-length (λ (d : Decl). fresh_base d.kind) X.opening;
  bases = λ y low. subst (IsBaseAt X [] (kind_at X.opening y) y) (sym (at-map-low (λ (d : Decl). fresh_base d.kind) X.opening y no_decl None low)) (fresh-base X [] y (kind_at X.opening y) refl);
} where
  legal : IsLegal X []
  legal = record { opening = lawful; member = member; in_turn = tt }

  state : (x : ℕ) → x < length X.opening → held_at (map (fresh_state X.nodes) X.opening) x ≡ fresh_state X.nodes (decl_at X.opening x)
  state x low = at-map-low (fresh_state X.nodes) X.opening x no_decl (record { shape = set; content = least; number = pos 0 }) low
