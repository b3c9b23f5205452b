-- What a replica is after a declaration.
use Rattle.std.proofs.Common.{ℕ, ◌≡◌, ◌≤◌, ◌<◌, sym, ap, subst, ◌∙◌, arith}
use Rattle.std.specs.Prelude.{List, [], ◌∷◌, ◌++◌, length, map, take, Result, IsOk, is_ok, if◌then◌else◌}
use Rattle.std.specs.Arc.{arc_value}
use Rattle.std.proofs.lemmas.List.{take-append-le, map-append}
use Rattle.model_graph.specs.Graph.{Decl, no_decl, decl_at}
use Rattle.model_graph.specs.Lawful.{variable_limit}
use Rattle.model_graph.proofs.PlaceLaws.{at-last, length-push}
use Rattle.model_readings.specs.Lawful.{IsNext}
use Rattle.model_runs.specs.Held.{IsHeld}
use Rattle.model_journal.specs.Entry as model
use Rattle.model_journal.specs.Entry.{Frame}
use Rattle.model_journal.specs.Legal.{IsLegal}
use Rattle.model_core.specs.Peer.{peer_of}
use Rattle.model_core.proofs.LegalLaws.{legal-extend}
use Rattle.model_core.proofs.HeldLaws.{held-extend}
use Rattle.model_core.proofs.PeerLaws.{graph-extended}
use Rattle.lasp_replica.specs.History.{no_history}
use Rattle.lasp_replica.proofs.KeptLaws.{where-ok}
use Rattle.lasp_replica.specs.Parts.{Parts, IsKept, fresh_state, fresh_base}
use Rattle.lasp_replica.proofs.DeclareLaws.{kept-extended}
use Rattle.lasp_replica.specs.declared.replica.Replica.{Replica}
use Rattle.lasp_replica.specs.Replica.{frame_of, entries_of, busy_of, parts_of, told, seen_process, IsReplica, IsSuited, Grows}
use Rattle.lasp_replica.proofs.ReplicaLaws.{replica-kept}
use Rattle.lasp_replica.proofs.SuitLaws.{suited-pushed, suited-longer}
use Rattle.lasp_replica.specs.declared.entry.Entry.{Entry}
use Rattle.std.specs.List.{AllByRecursion}

-- ---- lists with one more

-- what is seen of a list to which a value was pushed
pub pushed : {A B R E : Type 0} (f : A → B) (r : Result R E) (new old before : List A) (a : A) (b : B) → IsOk r → new ≡ (if is_ok r then old ++ a ∷ [] else old) → old ≡ before → f a ≡ b → map f new ≡ map f before ++ b ∷ []
pushed f r new old before a b ok is same seen =
    ap (map f) (where-ok r new (old ++ a ∷ []) old ok is ∙ ap (λ (xs : List _). xs ++ a ∷ []) same) ∙ map-append f before (a ∷ []) ∙ ap (λ y. map f before ++ y ∷ []) seen

-- the entry that was pushed
pub written : {B E Y : Type 0} (r : Result B E) (new old before : List Y) (a : Y) → IsOk r → new ≡ (if is_ok r then old ++ a ∷ [] else old) → old ≡ before → new ≡ before ++ a ∷ []
written r new old before a ok is same = where-ok r new (old ++ a ∷ []) old ok is ∙ ap (λ (xs : List _). xs ++ a ∷ []) same

-- the declaration behind the others
pub last-decl : (g longer : List Decl) (d : Decl) (x : ℕ) → longer ≡ g ++ d ∷ [] → x ≡ length g → decl_at longer x ≡ d
last-decl g longer d x is here = ap (λ (ds : List Decl). decl_at ds x) is ∙ ap (λ (n : ℕ). decl_at (g ++ d ∷ []) n) here ∙ at-last g d no_decl

-- ---- one variable more

-- a variable was appended to which nothing has happened
pub record IsLonger (e : model.Entry) (d : Decl) (old new : Replica) : Type 0 where
  pub graph : arc_value new.graph ≡ arc_value old.graph ++ d ∷ []
  pub opening : new.opening ≡ old.opening
  pub me : new.me ≡ old.me
  pub counts : new.counts ≡ old.counts
  pub states : new.states ≡ old.states ++ fresh_state (length old.counts) d ∷ []
  pub histories : map told new.histories.items ≡ map told old.histories.items ++ no_history ∷ []
  pub bases : map seen_process new.processes.items ≡ map seen_process old.processes.items ++ fresh_base d.kind ∷ []
  pub busy : busy_of new ≡ busy_of old ++ 0 ∷ []
  pub entries : entries_of new ≡ entries_of old ++ e ∷ []

pub replica-grows : (old new : Replica) (e : model.Entry) (d : Decl) → IsReplica old → e.act ≡ model.Extend d → IsNext (arc_value old.graph) d → length (arc_value old.graph) < variable_limit
    → IsLonger e d old new → (v : Entry) → new.journal.items ≡ old.journal.items ++ v ∷ [] → IsSuited (length old.counts) (arc_value old.graph ++ d ∷ []) v → Grows e old new
replica-grows old new e d is act next room h v items fits = record {
  sound = replica-kept X (entries ++ e ∷ []) new frame h.entries kept legal held opened counted suited;
  frame = frame;
  entries = h.entries;
  busy = h.busy;
} where
  X : Frame
  X = frame_of old

  entries : List model.Entry
  entries = entries_of old

  g : List Decl
  g = arc_value old.graph

  frame : frame_of new ≡ X
  frame i = record { opening = opening i; replica = h.me i; nodes = length (h.counts i) } where
    opening : take new.opening (arc_value new.graph) ≡ take old.opening g
    opening = (λ i. take (h.opening i) (h.graph i)) ∙ take-append-le old.opening g (d ∷ []) is.opened

  legal : IsLegal X (entries ++ e ∷ [])
  legal = legal-extend X entries is.legal e d act (subst (λ (ds : List Decl). IsNext ds d) is.kept.graph next) (subst (λ (ds : List Decl). length ds < variable_limit) is.kept.graph room)

  parts : parts_of new ≡ record { graph = g ++ d ∷ []; counts = old.counts; states = old.states ++ fresh_state X.nodes d ∷ []; histories = map told old.histories.items ++ no_history ∷ []; bases = map seen_process old.processes.items ++ fresh_base d.kind ∷ [] }
  parts i = record { graph = h.graph i; counts = h.counts i; states = h.states i; histories = h.histories i; bases = h.bases i }

  kept : IsKept X (entries ++ e ∷ []) (parts_of new)
  kept = subst (λ (p : Parts). IsKept X (entries ++ e ∷ []) p) (sym parts) (kept-extended X entries is.legal e legal d act (parts_of old) is.kept)

  held : IsHeld X.nodes (arc_value new.graph) (peer_of X (entries ++ e ∷ []))
  held = subst (λ (ds : List Decl). IsHeld X.nodes ds (peer_of X (entries ++ e ∷ []))) (sym (h.graph ∙ ap (λ (ds : List Decl). ds ++ d ∷ []) is.kept.graph ∙ sym (graph-extended X entries e d act)))
      (held-extend X entries is.legal (subst (λ (ds : List Decl). IsHeld X.nodes ds (peer_of X entries)) is.kept.graph is.held) e d act)

  opened : new.opening ≤ length (arc_value new.graph)
  opened = omega (arith, is.opened, h.opening, ap (λ (ds : List Decl). length ds) h.graph, length-push g d)

  suited : AllByRecursion (IsSuited (length new.counts) (arc_value new.graph)) new.journal.items
  suited =
      subst (λ (ds : List Decl). AllByRecursion (IsSuited (length new.counts) ds) new.journal.items) (sym h.graph)
      (subst (λ (n : ℕ). AllByRecursion (IsSuited n (g ++ d ∷ [])) new.journal.items) (sym (ap (λ (ns : List ℕ). length ns) h.counts))
      (suited-pushed (length old.counts) (g ++ d ∷ []) old.journal.items new.journal.items v items (suited-longer (length old.counts) g d old.journal.items is.suited) fits))

  counted : length new.counts ≤ 8
  counted = omega (arith, is.few, ap (λ (ns : List ℕ). length ns) h.counts)
