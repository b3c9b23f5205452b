-- Which entries may follow legal ones, said by what the code of a replica tests.
use Rattle.std.proofs.Common.{◌≡◌, ℕ, ◌+◌, ◌≤◌, ◌<◌, ◌⊎◌, inl, inr, Bool, true, false, List, [], ◌∷◌, ◌++◌, length, map, take, slice_set, None, refl, sym, ap, subst, ◌∙◌, arith}
use Rattle.std.specs.List.{AllByRecursion}
use Rattle.model_states.specs.Counts.{count_at}
use Rattle.model_states.specs.Content.{Content, least, join_contents, size_of, row_limit}
use Rattle.model_states.specs.Update.{Op, Add, Remove, Insert, Inc, Max, Join, delta}
use Rattle.model_states.proofs.CountLaws.{count_at-larger}
use Rattle.model_graph.specs.Graph.{Decl, is_source, kind_at}
use Rattle.model_graph.specs.Evaluation.{least_of, content_at, equation, first_large}
use Rattle.model_graph.specs.Lawful.{variable_limit, IsDerived, sources_among}
use Rattle.model_graph.proofs.LimitLaws.{small-words}
use Rattle.model_graph.proofs.PlaceLaws.{at-set, at-past, at-append, at-last, below-or-not, set-length, length-push}
use Rattle.model_graph.specs.Message.{Message}
use Rattle.model_readings.specs.Lawful as readings
use Rattle.model_wire.specs.Lawful.{IsSent, IsMessage}
use Rattle.model_world.specs.World.{Peer, delivered}
use Rattle.model_runs.specs.Held.{IsUpdate}
use Rattle.model_runs.proofs.SourceLaws.{source-kind}
use Rattle.model_journal.specs.Entry.{Act, Update, Deliver, Bind, Extend, Entry, Frame}
use Rattle.model_journal.specs.Journal.{Snapshot, journal, graph, vals, val, counts, sources}
use Rattle.model_journal.specs.Clean.{base}
use Rattle.model_journal.specs.Legal.{count_limit, IsOpOf, IsSmallOp, IsLawful, BringsValid, IsLegal}
use Rattle.model_journal.proofs.PlaceLaws.{take-whole}
use Rattle.model_journal.proofs.JournalLaws.{journal-past}
use Rattle.model_journal.proofs.CleanLaws.{snapshot-take, vals-length}
use Rattle.model_journal.proofs.EntryLaws.{update-vals, update-counts, bind-vals, bind-counts, deliver-derived, deliver-counts, extend-vals, extend-counts}
use Rattle.model_journal.proofs.LimitLaws.{step-legal}
use Rattle.model_journal.proofs.StandLaws.{journal-valid}
use Rattle.model_journal.proofs.ValidLaws.{valid-least_of}
use Rattle.model_core.specs.Peer.{peer_of}
use Rattle.model_core.proofs.SourceLaws.{sources-source}
use Rattle.model_core.proofs.PeerLaws.{graph-updated, graph-delivered, graph-bound, graph-extended, peer-delivered}
use Rattle.model_core.proofs.GraphLaws.{next-follows, graph-follows}
use Rattle.model_core.proofs.ValidLaws.{value-valid, most-at, source-valid, sent-valid, val-small}
use Rattle.model_core.proofs.BaseLaws.{derived-take, read_at, join-later, join-earlier}

pub legal-start : (X : Frame) → readings.IsGraph X.opening → X.replica < X.nodes → IsLegal X []
legal-start X ok member = record { opening = graph-follows X.opening ok; member = member; in_turn = tt }

-- no replica is past the most updates
count-few : (X : Frame) (h : List Entry) → IsLegal X h → (q : ℕ) → count_at (counts X h) q ≤ count_limit
count-few X h legal q = (journal-valid X h legal).counts q

-- a lawful act that brings nothing invalid and leaves no content too large
step-with : (X : Frame) (h : List Entry) → IsLegal X h → (e : Entry) (act : Act) → e.act ≡ act → IsLawful X (journal X h) act → BringsValid X.nodes act
    → ((x : ℕ) → x < length (graph X (h ++ e ∷ [])) → size_of (val X (h ++ e ∷ []) x) ≤ row_limit) → ((q : ℕ) → count_at (counts X (h ++ e ∷ [])) q ≤ count_limit) → IsLegal X (h ++ e ∷ [])
step-with X h legal e act is lawful brings small few =
    step-legal X h legal e (subst (λ (a : Act). IsLawful X (journal X h) a) (sym is) lawful) (subst (λ (a : Act). BringsValid X.nodes a) (sym is) brings) (record { few = small; counts = few })

-- ---- updates

update-op : (nodes : ℕ) (g : List Decl) (x : ℕ) (op : Op) → IsUpdate nodes g x op → IsOpOf (kind_at g x) op
update-op nodes g x (Add v) h = h.0
update-op nodes g x (Remove v) h = h.0
update-op nodes g x (Insert v) h = h.0
update-op nodes g x (Inc by) h = h
update-op nodes g x (Max n) h = h.0
update-op nodes g x (Join s) h = source-kind nodes (kind_at g x) s h

update-small : (nodes : ℕ) (g : List Decl) (x : ℕ) (op : Op) → IsUpdate nodes g x op → IsSmallOp nodes (kind_at g x) op
update-small nodes g x (Add v) h = value-valid v h.1
update-small nodes g x (Remove v) h = value-valid v h.1
update-small nodes g x (Insert v) h = value-valid v h.1
update-small nodes g x (Inc by) h = tt
update-small nodes g x (Max n) h = h.1
update-small nodes g x (Join s) h = source-valid nodes (kind_at g x) s h

-- one count that is raised
counted : (cs : List ℕ) (p n : ℕ) → n ≤ count_limit → ((q : ℕ) → count_at cs q ≤ count_limit) → (q : ℕ) → count_at (slice_set cs p n) q ≤ count_limit
counted cs p n room few q = choose (below-or-not q (length cs)) where
  choose : (q < length cs) ⊎ (length cs ≤ q) → count_at (slice_set cs p n) q ≤ count_limit
  choose (inl low) = at-set (λ (c : ℕ). c ≤ count_limit) cs p n 0 q low (λ _. room) (λ _. few q)
  choose (inr past) = let none : count_at (slice_set cs p n) q ≡ 0 = at-past (slice_set cs p n) q 0 (omega (arith, past, set-length cs p n)) in omega (arith, none)

pub legal-update : (X : Frame) (h : List Entry) → IsLegal X h → (e : Entry) (y : ℕ) (op : Op) → e.act ≡ Update y op → y < length (graph X h) → IsUpdate X.nodes (graph X h) y op → count_at (counts X h) X.replica < 100000
    → size_of (join_contents (val X h y) (delta op (val X h y) X.replica (count_at (counts X h) X.replica + 1))) ≤ row_limit → IsLegal X (h ++ e ∷ [])
legal-update X h legal e y op is low update room small =
    step-with X h legal e (Update y op) is (low, update-op X.nodes (graph X h) y op update, update-small X.nodes (graph X h) y op update) tt
    (λ x there. subst (λ (ss : List Content). size_of (content_at ss x) ≤ row_limit) (sym (update-vals X h legal e y op is low))
    (at-set (λ (s : Content). size_of s ≤ row_limit) (vals X h) y new least x (omega (arith, there, vals-length X h legal, ap (λ (g : List Decl). length g) (graph-updated X h e y op is))) (λ _. small) (λ _. val-small X h legal x)))
    (λ q. subst (λ (cs : List ℕ). count_at cs q ≤ count_limit) (sym (update-counts X h e y op is)) (counted (counts X h) X.replica (count_at (counts X h) X.replica + 1) (omega (arith, room)) (count-few X h legal) q)) where
      new : Content
      new = join_contents (val X h y) (delta op (val X h y) X.replica (count_at (counts X h) X.replica + 1))

-- ---- deliveries

pub legal-deliver : (X : Frame) (h : List Entry) → IsLegal X h → (e : Entry) (i : ℕ) (m : Message) → e.act ≡ Deliver i m → IsMessage m → length m.counts ≡ X.nodes
    → ((more : List Decl) × (map (λ s. s.decl) m.sources ++ more ≡ sources_among (graph X h))) → first_large 0 (delivered (graph X h) m (peer_of X h)).contents ≡ None → IsLegal X (h ++ e ∷ [])
legal-deliver X h legal e i m is message wide first fits =
    step-with X h legal e (Deliver i m) is (wide, first) (sent-valid X.nodes m.sources (subst (λ (n : ℕ). AllByRecursion (IsSent n) m.sources) wide message.sources)) small
    (λ q. subst (λ (cs : List ℕ). count_at cs q ≤ count_limit) (sym (deliver-counts X h e i m is)) (omega (arith, count_at-larger (counts X h) m.counts q, count-few X h legal q, most-at 100000 m.counts message.counts q))) where
      here : graph X (h ++ e ∷ []) ≡ graph X h
      here = graph-delivered X h e i m is

      source-small : (x : ℕ) → size_of (content_at (sources X (h ++ e ∷ [])) x) ≤ row_limit
      source-small x = (small-words (sources X (h ++ e ∷ []))).0 (subst (λ (p : Peer). first_large 0 p.contents ≡ None) (sym (peer-delivered X h legal e i m is)) fits) x

      choose : (x : ℕ) → x < length (graph X (h ++ e ∷ [])) → (b : Bool) → is_source (kind_at (graph X (h ++ e ∷ [])) x) ≡ b → size_of (val X (h ++ e ∷ []) x) ≤ row_limit
      choose x low true t = subst (λ (s : Content). size_of s ≤ row_limit) (sources-source (graph X (h ++ e ∷ [])) (vals X (h ++ e ∷ [])) x low t) (source-small x)
      choose x low false t =
          let d : IsDerived (graph X h) x = subst (λ (g : List Decl). IsDerived g x) here (record { declared = low; process = t }) in
          subst (λ (s : Content). size_of s ≤ row_limit) (sym (deliver-derived X h legal e i m is x d)) (val-small X h legal x)

      small : (x : ℕ) → x < length (graph X (h ++ e ∷ [])) → size_of (val X (h ++ e ∷ []) x) ≤ row_limit
      small x low = choose x low (is_source (kind_at (graph X (h ++ e ∷ [])) x)) refl

-- ---- binds

pub legal-bind : (X : Frame) (h : List Entry) → IsLegal X h → (e : Entry) (y n : ℕ) → e.act ≡ Bind y n → n ≤ length h → IsDerived (graph X (take n h)) y
    → size_of (equation (kind_at (graph X h) y) (vals X (take n h))) ≤ row_limit → IsLegal X (h ++ e ∷ [])
legal-bind X h legal e y n is low was fits =
    step-with X h legal e (Bind y n) is (omega (arith, low, journal-past X h), subst (λ (s : Snapshot). IsDerived s.graph y) (sym (snapshot-take X h n)) was) tt
    (λ x there. subst (λ (ss : List Content). size_of (content_at ss x) ≤ row_limit) (sym (bind-vals X h legal e y n is d.declared))
    (at-set (λ (s : Content). size_of s ≤ row_limit) (vals X h) y new least x (omega (arith, there, vals-length X h legal, ap (λ (g : List Decl). length g) (graph-bound X h e y n is))) (λ _. joined (below-or-not n (base X h y))) (λ _. val-small X h legal x)))
    (λ q. subst (λ (cs : List ℕ). count_at cs q ≤ count_limit) (sym (bind-counts X h e y n is)) (count-few X h legal q)) where
      d : IsDerived (graph X h) y
      d = derived-take X h n y was

      new : Content
      new = join_contents (val X h y) (read_at X h y n)

      joined : (n < base X h y) ⊎ (base X h y ≤ n) → size_of (join_contents (val X h y) (read_at X h y n)) ≤ row_limit
      joined (inl early) = subst (λ (s : Content). size_of s ≤ row_limit) (sym (join-earlier X h legal y n d (omega (arith, early)))) (val-small X h legal y)
      joined (inr late) = subst (λ (s : Content). size_of s ≤ row_limit) (sym (join-later X h legal y n d late)) fits

-- a bind that reads what stands
pub legal-bind-now : (X : Frame) (h : List Entry) → IsLegal X h → (e : Entry) (y : ℕ) → e.act ≡ Bind y (length h) → IsDerived (graph X h) y → size_of (equation (kind_at (graph X h) y) (vals X h)) ≤ row_limit → IsLegal X (h ++ e ∷ [])
legal-bind-now X h legal e y is d fits =
    let all : h ≡ take (length h) h = sym (take-whole h (length h) (omega arith)) in
    legal-bind X h legal e y (length h) is (omega arith) (subst (λ (k : List Entry). IsDerived (graph X k) y) all d)
    (subst (λ (k : List Entry). size_of (equation (kind_at (graph X h) y) (vals X k)) ≤ row_limit) all fits)

-- ---- declarations

pub legal-extend : (X : Frame) (h : List Entry) → IsLegal X h → (e : Entry) (d : Decl) → e.act ≡ Extend d → readings.IsNext (graph X h) d → length (graph X h) < variable_limit → IsLegal X (h ++ e ∷ [])
legal-extend X h legal e d is next room =
    step-with X h legal e (Extend d) is (next-follows (graph X h) d next room) tt
    (λ x there. subst (λ (ss : List Content). size_of (content_at ss x) ≤ row_limit) (sym (extend-vals X h e d is)) (choose x (below-or-not x (length (vals X h)))
    (omega (arith, there, ap (λ (g : List Decl). length g) (graph-extended X h e d is), length-push (graph X h) d, vals-length X h legal))))
    (λ q. subst (λ (cs : List ℕ). count_at cs q ≤ count_limit) (sym (extend-counts X h e d is)) (count-few X h legal q)) where
      new : Content
      new = least_of X.nodes d.kind

      choose : (x : ℕ) → (x < length (vals X h)) ⊎ (length (vals X h) ≤ x) → x < length (vals X h) + 1 → size_of (content_at (vals X h ++ least_of X.nodes d.kind ∷ []) x) ≤ row_limit
      choose x (inl low) there = subst (λ (s : Content). size_of s ≤ row_limit) (sym (at-append (vals X h) (new ∷ []) x least low)) (val-small X h legal x)
      choose x (inr past) there =
          let last : length (vals X h) ≡ x = omega (arith, past, there) in
          subst (λ (s : Content). size_of s ≤ row_limit) (sym (sym (ap (λ (i : ℕ). content_at (vals X h ++ new ∷ []) i) last) ∙ at-last (vals X h) new least)) (valid-least_of X.nodes d.kind 1).few

pub ruleset legal = (legal-start, legal-update, legal-deliver, legal-bind, legal-bind-now, legal-extend)
